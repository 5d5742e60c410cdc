-- A code by which proofs tell what is held apart.
use Rattle.std.specs.Prelude.{ℕ, List, refl}
use Rattle.std.specs.Coded.{Coded, code_by, coded×, coded_ℕ, coded_list}
use Rattle.pg_pages.specs.Held.{Held, Page}

abbrev pub page_code : Coded Page
page_code =
    code_by (ℕ × (List ℕ × (ℕ × List (List ℕ)))) (coded× coded_ℕ (coded× (coded_list coded_ℕ) (coded× coded_ℕ (coded_list (coded_list coded_ℕ)))))
    (λ p. (p.number, (p.token, (p.size, p.rows)))) (λ p. record { number = p.0; token = p.1.0; size = p.1.1.0; rows = p.1.1.1 }) (λ _. refl)

abbrev pub held_code : Coded Held
held_code = code_by (List Page × ℕ) (coded× (coded_list page_code) coded_ℕ) (λ h. (h.pages, h.next)) (λ p. record { pages = p.0; next = p.1 }) (λ _. refl)

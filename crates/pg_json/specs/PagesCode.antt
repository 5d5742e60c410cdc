-- A code by which proofs tell replies apart.
use Rattle.std.specs.Prelude.{ℕ, List, refl}
use Rattle.std.specs.Coded.{Coded, code_by, coded×, coded_ℕ, coded_list}
use Rattle.pg_json.specs.Pages.{QueryText}

abbrev pub query_text_code : Coded QueryText
query_text_code =
    code_by (List ℕ × (ℕ × List ℕ)) (coded× (coded_list coded_ℕ) (coded× coded_ℕ (coded_list coded_ℕ))) (λ q. (q.text, (q.columns_end, q.row_ends)))
    (λ p. record { text = p.0; columns_end = p.1.0; row_ends = p.1.1 }) (λ _. refl)

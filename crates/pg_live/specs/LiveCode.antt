-- A code by which proofs tell live graphs apart.
use Rattle.std.specs.Prelude.{ℕ, List, Option, refl}
use Rattle.std.specs.Coded.{Coded, code_by, coded×, coded_ℕ, coded_list, coded_option}
use Rattle.pg_meaning.specs.Graph.{Graph}
use Rattle.pg_live.specs.Live.{Aside, Begun, Live}
use Rattle.pg_store.specs.GraphCode.{graph_code}

abbrev pub begun_code : Coded Begun
begun_code = code_by (ℕ × Graph) (coded× coded_ℕ graph_code) (λ b. (b.holder, b.graph)) (λ p. record { holder = p.0; graph = p.1 }) (λ _. refl)

abbrev pub aside_code : Coded Aside
aside_code =
    code_by (ℕ × (Graph × (List Graph × (List (List ℕ) × (List (Option Begun) × List (List (ℕ × ℕ)))))))
    (coded× coded_ℕ (coded× graph_code (coded× (coded_list graph_code) (coded× (coded_list (coded_list coded_ℕ))
    (coded× (coded_list (coded_option begun_code)) (coded_list (coded_list (coded× coded_ℕ coded_ℕ))))))))
    (λ a. (a.place, (a.begun, (a.others, (a.names, (a.begins, a.pairs))))))
    (λ p. record { place = p.0; begun = p.1.0; others = p.1.1.0; names = p.1.1.1.0; begins = p.1.1.1.1.0; pairs = p.1.1.1.1.1 }) (λ _. refl)

abbrev pub live_code : {X : Type 0} → Coded X → Coded (Live X)
live_code {X} tables_code =
    code_by (Graph × (List (List ℕ) × (X × Aside))) (coded× graph_code (coded× (coded_list (coded_list coded_ℕ)) (coded× tables_code aside_code)))
    (λ l. (l.graph, (l.names, (l.tables, l.aside)))) (λ p. record { graph = p.0; names = p.1.0; tables = p.1.1.0; aside = p.1.1.1 }) (λ _. refl)

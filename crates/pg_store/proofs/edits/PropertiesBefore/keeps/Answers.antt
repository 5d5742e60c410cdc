use Rattle.std.proofs.Common.{◌≡◌, ◌≢◌, ◌==◌, ℕ, true, not, sym, ap, ◌∙◌}
use Rattle.std.specs.FinMap as map
use Rattle.pg_store.proofs.Edited.{given_back_elsewhere}
use Rattle.pg_store.proofs.NoteLemmas.{equal_number}
use Rattle.pg_store.proofs.edits.PropertiesBefore.keeps.Goals as goal
use Rattle.pg_store.specs.Edits.{properties_before}

apart : (m n : ℕ) → not (m == n) ≡ true → m ≢ n
apart m n h = λ same. let equal = equal_number m n same in absurd (cc (h, equal))

pub returns-in-Key : goal.returns-in-Key
returns-in-Key c = λ other ps.
    ap (λ b. map.get (properties_before b ps) c.args.key) c.in-Key.is
    ∙ given_back_elsewhere ps c.args.key c.in-Key.changed c.in-Key.field-1 (λ same. apart c.as_u64.result c.as_u64-in-Key.result other (c.as_u64.ensures ∙ sym same ∙ sym c.as_u64-in-Key.ensures))

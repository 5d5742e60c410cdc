use Rattle.std.proofs.Common.{◌≡◌, ℕ, ◌≤◌, length}
use Rattle.json.specs.Json.{members, value}
use Rattle.serde_json.specs.Read.{of_members, converted}
use Rattle.pg_json.specs.Fields.{members_with, FieldsAreGiven}
use Rattle.pg_json.proofs.fields.take_fields.Given as goal

abbrev pub invariant-members : goal.invariant-members
invariant-members l =
    (n : ℕ) × (length l.reader ≤ n)
    × (converted (λ ms. of_members ms (members_with l.initial.found)) (members (value 126) (length l.initial.reader) l.initial.reader) ≡ converted (λ ms. of_members ms (members_with l.found)) (members (value 126) n l.reader))
    × (FieldsAreGiven l.initial.found → FieldsAreGiven l.found)

abbrev pub decreases-members : goal.decreases-members
decreases-members l = length l.reader

-- The entries of a map spelt out one after the other.
use Rattle.std.proofs.Common.{◌≡◌, ◌≢◌, ℕ, ◌+◌, ◌-◌, arith, length, List, [], ◌∷◌, ◌++◌, Ok, Vec, String, Global, string_bytes, refl, sym, ap, ◌∙◌}
use Rattle.serde_json.specs.Data.{Members, no_members, member}
use Rattle.pg_json.specs.Replies.{data_of, named_outs}
use Rattle.pg_json.specs.Room.{least, members_least}
use Rattle.pg_meaning.specs.Answer.{◌>>◌}
use Rattle.pg_meaning.specs.Graph.{Graph}
use Rattle.pg_meaning.specs.Queries.{test_output, test_entries}
use Rattle.pg_meaning.specs.Value.{Entries, no_entries, entry}
use Rattle.pg_meaning.specs.Value as meaning
use Rattle.pg_run.specs.Printed.{printed, printed_members, stored_data, stored_members}
use Rattle.pg_run.specs.Spelt.{MapSpelt}
use Rattle.pg_value_core.specs.declared.out.Out.{Out}
use Rattle.pg_value_core.specs.declared.value.Value.{Value}

abbrev pub Pair : Type 0
Pair = String Global × Value

abbrev pub Named : Type 0
Named = String Global × Out

-- these, and what follows them
abbrev pub named_before : List Named → Members → Members
named_before [] ms = ms
named_before (o ∷ os) ms = member (string_bytes o.0) (data_of o.1) (named_before os ms)

named_before-nothing : (os : List Named) → named_before os no_members ≡ named_outs os
named_before-nothing [] = refl
named_before-nothing (o ∷ os) = ap (member (string_bytes o.0) (data_of o.1)) (named_before-nothing os)

named_before-push : (os : List Named) (o : Named) (ms : Members) → named_before (os ++ o ∷ []) ms ≡ named_before os (member (string_bytes o.0) (data_of o.1) ms)
named_before-push [] o ms = refl
named_before-push (x ∷ os) o ms = ap (member (string_bytes x.0) (data_of x.1)) (named_before-push os o ms)

-- what is left of the entries of a stored value, after those that are spelt out
abbrev pub MembersStored : (all rest : Entries) → List Named → Type 0
MembersStored all rest found = stored_members all ≡ named_before found (stored_members rest)

pub one_member_stored : (all rest more : Entries) (found : List Named) (k : List ℕ) (v : meaning.Value) (name : String Global) (out : Out)
    → MembersStored all rest found → rest ≡ entry k v more → string_bytes name ≡ k → data_of out ≡ stored_data v → MembersStored all more (found ++ (name, out) ∷ [])
one_member_stored all rest more found k v name out so_far is named same =
    so_far ∙ ap (λ es. named_before found (stored_members es)) is
    ∙ ap (λ d. named_before found (member k d (stored_members more))) (sym same)
    ∙ ap (λ n. named_before found (member n (data_of out) (stored_members more))) (sym named)
    ∙ sym (named_before-push found (name, out) (stored_members more))

pub all_members_stored : (all rest : Entries) (found : List Named) → MembersStored all rest found → rest ≡ no_entries → named_outs found ≡ stored_members all
all_members_stored all rest found so_far none = sym (so_far ∙ ap (λ es. named_before found (stored_members es)) none ∙ named_before-nothing found)

-- ---- while there is room

room_then : (room next key n more : ℕ) → next ≡ room - 4 - key - n → room - (key + 4 + n + more) ≡ next - more
room_then room next key n more h = omega (arith, h)

room_before : (room next key n : ℕ) → next ≡ room - 4 - key - n → next ≢ 0 → room ≢ 0
room_before room next key n h some = λ none. some (omega (arith, h, none))

-- the same of those that are spelt out while there is room
pub record MembersWithin (graph : Graph) (start room : ℕ) (all rest : Entries) (found : List Named) : Type 0 where
  pub tests : test_entries graph all ≡ test_entries graph rest
  pub counted : start - members_least (printed_members graph all) ≡ room - members_least (printed_members graph rest)
  pub shown : room ≢ 0 → printed_members graph all ≡ named_before found (printed_members graph rest)

module _ (graph : Graph) (start : ℕ) where
  pub no_member_within : (all : Entries) → MembersWithin graph start start all all []
  no_member_within all = record { tests = refl; counted = refl; shown = λ some. refl }

  pub one_member_within : (room next : ℕ) (all rest more : Entries) (found : List Named) (k : List ℕ) (v : meaning.Value) (name : String Global) (out : Out)
      → MembersWithin graph start room all rest found → rest ≡ entry k v more → string_bytes name ≡ k
      → test_output graph v ≡ Ok tt → next ≡ room - 4 - length k - least (printed graph v)
      → (next ≢ 0 → data_of out ≡ printed graph v) → MembersWithin graph start next all more (found ++ (name, out) ∷ [])
  one_member_within room next all rest more found k v name out so_far is named live left same =
      let others = printed_members graph more in
      record {
        tests = so_far.tests ∙ ap (test_entries graph) is ∙ ap (λ r. r >> test_entries graph more) live;
        counted = so_far.counted ∙ ap (λ es. room - members_least (printed_members graph es)) is
            ∙ room_then room next (length k) (least (printed graph v)) (members_least others) left;
        shown = λ some. so_far.shown (room_before room next (length k) (least (printed graph v)) left some)
            ∙ ap (λ es. named_before found (printed_members graph es)) is
            ∙ ap (λ d. named_before found (member k d others)) (sym (same some))
            ∙ ap (λ n. named_before found (member n (data_of out) others)) (sym named)
            ∙ sym (named_before-push found (name, out) others);
      }

  pub all_members_within : (room : ℕ) (all rest : Entries) (found : Vec Named Global) → MembersWithin graph start room all rest found.items → rest ≡ no_entries → MapSpelt graph all (Ok found) start room
  all_members_within room all rest found so_far none = record {
    live = so_far.tests ∙ ap (test_entries graph) none;
    room = omega (arith, so_far.counted, ap (λ es. members_least (printed_members graph es)) none);
    shown = λ some. sym (so_far.shown some ∙ ap (λ es. named_before found.items (printed_members graph es)) none ∙ named_before-nothing found.items);
    err = tt;
  }

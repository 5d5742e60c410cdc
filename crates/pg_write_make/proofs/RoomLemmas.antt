-- Room for one more element, and its making.
use Rattle.std.proofs.Common.{◌≡◌, ◌<◌, ◌≤◌, ◌^◌, ℕ, [], Bool, true, false, Ok, Err, Result, refl, sym, ap, subst, ◌∙◌, arith}
use Rattle.std.specs.Prelude.{nat_lt, OnOk}
use Rattle.std.proofs.lemmas.Bool.{ltb-true}
use Rattle.pg_meaning.specs.Answer.{◌>>=◌, ◌>>◌, unless}
use Rattle.pg_meaning.specs.Graph.{Graph, element_count}
use Rattle.pg_meaning.specs.Meters.{Setting, greatest_id}
use Rattle.pg_meaning.specs.declared.fault.Fault.{Fault}
use Rattle.pg_meaning.specs.Value.{Entries, no_entries}
use Rattle.pg_meaning.specs.declared.fault.Fault.TheVariants.{ElementQuota}
use Rattle.pg_write_make.specs.Outcomes.{Outcome, room_for}

-- the setting of which the quota of elements alone is read
abbrev pub making_up_to : ℕ → Setting
making_up_to max_elements = record { parameters = no_entries; quota = record { max_steps = 0; max_elements = max_elements }; scope = []; anchors = [] }

pub when_ok : {P : Type 0} (r : Result (Unit {0}) Fault) → (r ≡ Ok tt → P) → OnOk r P
when_ok (Ok u) f = f refl
when_ok (Err e) f = tt

room_below : (b : Bool) → unless b ElementQuota ≡ Ok tt → b ≡ true
room_below true h = refl
room_below false h = absurd cc

pub room_left : (graph : Graph) (max_elements : ℕ) → max_elements ≤ 2 ^ 63 → room_for max_elements graph ≡ Ok tt → element_count graph < 2 ^ 63
room_left graph max_elements few room =
    let below = ltb-true (element_count graph) max_elements (room_below (nat_lt (element_count graph) max_elements) room) in
    omega (arith, below, few)

pub few_elements : (seen graph : Graph) → seen ≡ graph → element_count seen < 2 ^ 63 → element_count graph < 2 ^ 63
few_elements seen graph same few = subst (λ g. element_count g < 2 ^ 63) same few

pub id_left : (n next : ℕ) → n ≡ next → n < greatest_id → next < 2 ^ 63
id_left n next same below = omega (arith, same, below)

-- ---- an element from its properties, where there is room and an id for it

abbrev pub made_if : Outcome → (room id : Result (Unit {0}) Fault) → (Entries → Graph) → Result Graph Fault
made_if o room id make = o >>= λ properties. room >> (id >> Ok (make properties))

module _ (o : Outcome) (room id : Result (Unit {0}) Fault) (make : Entries → Graph) where
  pub no_properties : (e : Fault) → o ≡ Err e → made_if o room id make ≡ Err e
  no_properties e given = λ i. made_if (given i) room id make

  module _ (properties : Entries) (given : o ≡ Ok properties) where
    first_both : (room id : Result (Unit {0}) Fault) (r : Result Graph Fault) → (room >> (id >> r)) ≡ ((room >> id) >> r)
    first_both (Ok u) id r = refl
    first_both (Err e) id r = refl

    by_tests : made_if o room id make ≡ ((room >> id) >> Ok (make properties))
    by_tests = (λ i. made_if (given i) room id make) ∙ first_both room id (Ok (make properties))

    pub none_new : (e : Fault) → (room >> id) ≡ Err e → made_if o room id make ≡ Err e
    none_new e refused = by_tests ∙ ap (λ tests. tests >> Ok (make properties)) refused

    pub all_there : (after : Graph) → (room >> id) ≡ Ok tt → after ≡ make properties → made_if o room id make ≡ Ok after
    all_there after passed made = by_tests ∙ ap (λ tests. tests >> Ok (make properties)) passed ∙ ap Ok (sym made)

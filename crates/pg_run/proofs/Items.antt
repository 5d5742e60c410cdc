-- The items of a list spelt out one after the other.
use Rattle.std.proofs.Common.{◌≡◌, ◌≢◌, ℕ, ◌+◌, ◌-◌, length, arith, List, [], ◌∷◌, ◌++◌, Ok, Vec, Global, refl, sym, ap, ◌∙◌}
use Rattle.serde_json.specs.Data.{Items, no_items, item}
use Rattle.pg_json.specs.Replies.{data_of, outs}
use Rattle.pg_json.specs.Room.{least, items_least}
use Rattle.pg_meaning.specs.Answer.{◌>>◌}
use Rattle.pg_meaning.specs.Graph.{Graph}
use Rattle.pg_meaning.specs.Queries.{test_output, test_items}
use Rattle.pg_run.specs.Printed.{printed, printed_items, stored_data, stored_items}
use Rattle.pg_run.specs.Spelt.{ListSpelt}
use Rattle.pg_value_core.specs.View.{view, values_view}
use Rattle.pg_value_core.specs.declared.out.Out.{Out}
use Rattle.pg_value_core.specs.declared.value.Value.{Value}

-- these, and what follows them
abbrev pub outs_before : List Out → Items → Items
outs_before [] ds = ds
outs_before (o ∷ os) ds = item (data_of o) (outs_before os ds)

pub outs_before-nothing : (os : List Out) → outs_before os no_items ≡ outs os
outs_before-nothing [] = refl
outs_before-nothing (o ∷ os) = ap (item (data_of o)) (outs_before-nothing os)

pub outs_before-push : (os : List Out) (o : Out) (ds : Items) → outs_before (os ++ o ∷ []) ds ≡ outs_before os (item (data_of o) ds)
outs_before-push [] o ds = refl
outs_before-push (x ∷ os) o ds = ap (item (data_of x)) (outs_before-push os o ds)

-- what is left of a list that is stored, after those that are spelt out
abbrev pub ItemsStored : (all rest : List Value) → List Out → Type 0
ItemsStored all rest found = stored_items (values_view all) ≡ outs_before found (stored_items (values_view rest))

pub one_item_stored : (all rest more : List Value) (found : List Out) (v : Value) (out : Out) → ItemsStored all rest found → rest ≡ v ∷ more
    → data_of out ≡ stored_data (view v) → ItemsStored all more (found ++ out ∷ [])
one_item_stored all rest more found v out so_far is same =
    so_far ∙ ap (λ vs. outs_before found (stored_items (values_view vs))) is
    ∙ ap (λ d. outs_before found (item d (stored_items (values_view more)))) (sym same) ∙ sym (outs_before-push found out (stored_items (values_view more)))

pub all_items_stored : (all rest : List Value) (found : List Out) → ItemsStored all rest found → length rest ≡ 0 → outs found ≡ stored_items (values_view all)
all_items_stored all [] found so_far is = sym (so_far ∙ outs_before-nothing found)
all_items_stored all (v ∷ rest) found so_far is = absurd (omega (arith, is))

-- ---- while there is room

-- what is left of the room behind one thing and what follows it
pub room_then : (room next n more : ℕ) → next ≡ room - 1 - n → room - (n + 1 + more) ≡ next - more
room_then room next n more h = omega (arith, h)

pub room_before : (room next n : ℕ) → next ≡ room - 1 - n → next ≢ 0 → room ≢ 0
room_before room next n h some = λ none. some (omega (arith, h, none))

-- the same of those that are spelt out while there is room
pub record ItemsWithin (graph : Graph) (start room : ℕ) (all rest : List Value) (found : List Out) : Type 0 where
  pub tests : test_items graph (values_view all) ≡ test_items graph (values_view rest)
  pub counted : start - items_least (printed_items graph (values_view all)) ≡ room - items_least (printed_items graph (values_view rest))
  pub shown : room ≢ 0 → printed_items graph (values_view all) ≡ outs_before found (printed_items graph (values_view rest))

module _ (graph : Graph) (start : ℕ) where
  pub one_item_within : (room next : ℕ) (all rest more : List Value) (found : List Out) (v : Value) (out : Out) → ItemsWithin graph start room all rest found → rest ≡ v ∷ more
      → test_output graph (view v) ≡ Ok tt → next ≡ room - 1 - least (printed graph (view v)) → (next ≢ 0 → data_of out ≡ printed graph (view v)) → ItemsWithin graph start next all more (found ++ out ∷ [])
  one_item_within room next all rest more found v out so_far is live left same = record {
    tests = so_far.tests ∙ ap (λ vs. test_items graph (values_view vs)) is ∙ ap (λ r. r >> test_items graph (values_view more)) live;
    counted = so_far.counted ∙ ap (λ vs. room - items_least (printed_items graph (values_view vs))) is
        ∙ room_then room next (least (printed graph (view v))) (items_least (printed_items graph (values_view more))) left;
    shown = λ some. so_far.shown (room_before room next (least (printed graph (view v))) left some)
        ∙ ap (λ vs. outs_before found (printed_items graph (values_view vs))) is
        ∙ ap (λ d. outs_before found (item d (printed_items graph (values_view more)))) (sym (same some)) ∙ sym (outs_before-push found out (printed_items graph (values_view more)));
  }

  pub all_items_within : (room : ℕ) (all rest : List Value) (found : Vec Out Global) → ItemsWithin graph start room all rest found.items → length rest ≡ 0 → ListSpelt graph (values_view all) (Ok found) start room
  all_items_within room all [] found so_far is = record {
    live = so_far.tests;
    room = omega (arith, so_far.counted);
    shown = λ some. sym (so_far.shown some ∙ outs_before-nothing found.items);
    err = tt;
  }
  all_items_within room all (v ∷ rest) found so_far is = absurd (omega (arith, is))

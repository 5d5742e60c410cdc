-- A value spelt out while there is room, from its parts.
use Rattle.std.specs.declared.rc.Rc.{Rc}
use Rattle.std.proofs.Common.{◌≡◌, ◌≢◌, ℕ, ◌+◌, ◌-◌, Bool, ℤ, Vec, BTreeMap, String, Global, Result, Ok, Err, IfOk, IfErr, ap, sym, subst, ◌∙◌, arith}
use Rattle.serde_json.specs.Data.{Data}
use Rattle.serde_json.specs.Data as json
use Rattle.pg_json.specs.Replies.{data_of}
use Rattle.pg_json.proofs.Elements.{data_list, data_map}
use Rattle.pg_json.specs.Room.{least, items_least, members_least}
use Rattle.pg_meaning.specs.Graph.{Graph}
use Rattle.pg_meaning.specs.Queries.{test_entries, test_items, test_output}
use Rattle.pg_meaning.specs.Value.{Values, Entries}
use Rattle.pg_meaning.specs.Value as seen
use Rattle.pg_meaning.specs.declared.fault.Fault.{Fault}
use Rattle.pg_meaning.specs.declared.fault.Fault.TheVariants.{OutOfMemory}
use Rattle.pg_run.proofs.ValueLemmas.{null_seen, bool_seen, int_seen, list_seen, map_seen, null_shown, bool_shown, int_shown}
use Rattle.pg_run.specs.Printed.{printed_items, printed_members}
use Rattle.pg_run.specs.Spelt.{Spelt, DataSpelt, ValueSpelt, ListSpelt, MapSpelt}
use Rattle.pg_value_core.specs.View.{entries_view, values_view, view}
use Rattle.pg_value_core.specs.declared.out.Out.{Out}
use Rattle.pg_value_core.specs.declared.out.Out as out
use Rattle.pg_value_core.specs.declared.value.Value.{Value}
use Rattle.pg_value_core.specs.declared.value.Value as value

pub refused : {X : Type 0} {test : Result (Unit {0}) Fault} {taken : ℕ} {IsRight : X → Type 0} {old new : ℕ} {e : Fault} → (e ≢ OutOfMemory → test ≡ Err e) → Spelt test taken IsRight (Err e) old new
refused h = record { live = tt; room = tt; shown = tt; err = h }

-- where no room was left before
pub not_shown : (test : Result (Unit {0}) Fault) (d : Data) (old : ℕ) (result : Result Out Fault) → old ≡ 0 → IfOk result (λ out. test ≡ Ok tt) → IfErr result (λ e. test ≡ Err e) → DataSpelt test d result old old
not_shown test d old (Ok out) none live fault = record { live = live; room = omega (arith, none); shown = λ some. absurd (some none); err = tt }
not_shown test d old (Err e) none live fault = record { live = tt; room = tt; shown = tt; err = λ other. fault }

-- this, or what stands for it where no room is left behind it
pub shown_within : (test : Result (Unit {0}) Fault) (d : Data) (old new : ℕ) (one given : Out) → test ≡ Ok tt → data_of one ≡ d → new ≡ old - least (data_of one) → (new ≢ 0 → given ≡ one) → DataSpelt test d (Ok given) old new
shown_within test d old new one given live same left is = record { live = live; room = left ∙ ap (λ e. old - least e) same; shown = λ some. ap data_of (is some) ∙ same; err = tt }

module _ (graph : Graph) (v : Value) (old new : ℕ) where
  module _ (given : Out) where
    pub null_spelt : v ≡ value.Null → new ≡ old - least (data_of out.Null) → (new ≢ 0 → given ≡ out.Null) → ValueSpelt graph (view v) (Ok given) old new
    null_spelt e left is = shown_within _ _ old new out.Null given (ap (test_output graph) (null_seen v e)) (null_shown graph v e) left is

    pub bool_spelt : (b : Bool) → v ≡ value.Bool b → new ≡ old - least (data_of (out.Bool b)) → (new ≢ 0 → given ≡ out.Bool b) → ValueSpelt graph (view v) (Ok given) old new
    bool_spelt b e left is = shown_within _ _ old new (out.Bool b) given (ap (test_output graph) (bool_seen v b e)) (bool_shown graph v b e) left is

    pub int_spelt : (i j : ℤ) → v ≡ value.Int i → j ≡ i → new ≡ old - least (data_of (out.Int j)) → (new ≢ 0 → given ≡ out.Int j) → ValueSpelt graph (view v) (Ok given) old new
    int_spelt i j e same left is = shown_within _ _ old new (out.Int j) given (ap (test_output graph) (int_seen v i e)) (ap (λ k. data_of (out.Int k)) same ∙ int_shown graph v i e) left is

  -- by what a list and a map hold
  pub items_spelt : (list : Rc (Vec Value Global) Global) (items : Vec Value Global) (result : Result Out Fault) → v ≡ value.List list → items ≡ list.value → DataSpelt (test_items graph (values_view items.items)) (json.array (printed_items graph (values_view items.items))) result old new → ValueSpelt graph (view v) result old new
  items_spelt list items result e same h = subst (λ w. ValueSpelt graph w result old new) (ap (λ vs. seen.list (values_view vs.items)) same ∙ sym (list_seen v list e)) h

  pub entries_spelt : (mapping : Rc (BTreeMap (String Global) Value) Global) (entries : BTreeMap (String Global) Value) (result : Result Out Fault) → v ≡ value.Map mapping → entries ≡ mapping.value → DataSpelt (test_entries graph (entries_view entries.entries)) (json.object (printed_members graph (entries_view entries.entries))) result old new → ValueSpelt graph (view v) result old new
  entries_spelt mapping entries result e same h = subst (λ w. ValueSpelt graph w result old new) (ap (λ es. seen.mapping (entries_view es.entries)) same ∙ sym (map_seen v mapping e)) h

-- a list and a map, within the room
room_inside : (room less next n : ℕ) → less ≡ room - 1 → next ≡ less - n → next ≡ room - (n + 1)
room_inside room less next n first left = omega (arith, first, left)

module _ (graph : Graph) (old less new : ℕ) (first : less ≡ old - 1) where
  pub list_spelt : (vs : Values) (found : Vec Out Global) → ListSpelt graph vs (Ok found) less new → DataSpelt (test_items graph vs) (json.array (printed_items graph vs)) (Ok (out.List found)) old new
  list_spelt vs found h = record {
    live = h.live;
    room = room_inside old less new (items_least (printed_items graph vs)) first h.room;
    shown = λ some. data_list found ∙ ap json.array (h.shown some);
    err = tt;
  }

  pub map_spelt : (es : Entries) (found : Vec (String Global × Out) Global) → MapSpelt graph es (Ok found) less new → DataSpelt (test_entries graph es) (json.object (printed_members graph es)) (Ok (out.Map found)) old new
  map_spelt es found h = record {
    live = h.live;
    room = room_inside old less new (members_least (printed_members graph es)) first h.room;
    shown = λ some. data_map found ∙ ap json.object (h.shown some);
    err = tt;
  }

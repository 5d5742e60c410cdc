-- What stands for a value of a query, spelt out while there is room for its text.
use Rattle.std.specs.Prelude.{◌≡◌, ◌≢◌, ℕ, ◌-◌, Vec, String, Result, Ok, Err, IfOk, IfErr}
use Rattle.std.specs.declared.alloc.Global.{Global}
use Rattle.serde_json.specs.Data.{Data}
use Rattle.pg_json.specs.Replies.{data_of, outs, named_outs}
use Rattle.pg_json.specs.Room.{least, items_least, members_least}
use Rattle.pg_meaning.specs.Graph.{Graph}
use Rattle.pg_meaning.specs.Queries.{test_output, test_items, test_entries}
use Rattle.pg_meaning.specs.Value.{Value, Values, Entries}
use Rattle.pg_meaning.specs.declared.fault.Fault.{Fault}
use Rattle.pg_meaning.specs.declared.fault.Fault.TheVariants.{OutOfMemory}
use Rattle.pg_run.specs.Printed.{printed, printed_items, printed_members}
use Rattle.pg_value_core.specs.declared.out.Out.{Out}

-- the test's fault comes first; else the room is less by what the text takes at least, and while some is left the result is what it is to be
pub record Spelt {X : Type 0} (test : Result (Unit {0}) Fault) (taken : ℕ) (IsRight : X → Type 0) (result : Result X Fault) (old new : ℕ) : Type 0 where
  pub live : IfOk result (λ x. test ≡ Ok tt)
  pub room : IfOk result (λ x. new ≡ old - taken)
  pub shown : IfOk result (λ x. new ≢ 0 → IsRight x)
  pub err : IfErr result (λ e. e ≢ OutOfMemory → test ≡ Err e)

abbrev pub DataSpelt : (test : Result (Unit {0}) Fault) → Data → Result Out Fault → (old new : ℕ) → Type 0
DataSpelt test d = Spelt test (least d) (λ out. data_of out ≡ d)

module _ (graph : Graph) where
  abbrev pub ValueSpelt : Value → Result Out Fault → (old new : ℕ) → Type 0
  ValueSpelt v = DataSpelt (test_output graph v) (printed graph v)

  abbrev pub ListSpelt : Values → Result (Vec Out Global) Fault → (old new : ℕ) → Type 0
  ListSpelt vs = Spelt (test_items graph vs) (items_least (printed_items graph vs)) (λ found. outs found.items ≡ printed_items graph vs)

  abbrev pub MapSpelt : Entries → Result (Vec (String Global × Out) Global) Fault → (old new : ℕ) → Type 0
  MapSpelt es = Spelt (test_entries graph es) (members_least (printed_members graph es)) (λ found. named_outs found.items ≡ printed_members graph es)

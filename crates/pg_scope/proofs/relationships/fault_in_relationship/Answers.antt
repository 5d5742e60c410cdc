use Rattle.std.proofs.Common.{option_map, IfOk}
use Rattle.pg_meaning.specs.StaticFaults.{detail_faults}
use Rattle.pg_scope.proofs.FirstLemmas.{in_turn, then_in_turn, no_more}
use Rattle.pg_scope.specs.First.{IsFirst}
use Rattle.pg_scope.specs.Modes.{mode_view}
use Rattle.pg_scope.specs.Names.{names_in}
use Rattle.pg_syntax_tree.specs.View.{detail_view}
use Rattle.pg_scope.proofs.relationships.fault_in_relationship.Goals as goal

pub returns-in-Some : goal.returns-in-Some
returns-in-Some c =
    let r = c.args.relationship.now in
    let detail : IfOk c.fault_in_properties.result (λ found. IsFirst c.noted-first-2.result (detail_faults (mode_view c.args.mode) (names_in c.args.outer.now) r.place (option_map detail_view r.detail)) found) =
    rw c.in-Some.is (then_in_turn _ _ (rw c.is_free.ensures at c.noted-first-in-Some.ensures) c.fault_in_properties.ensures) in
    then_in_turn _ _ (in_turn (rw c.is_unfixed-unfixed.ensures at c.noted-first.ensures) (rw c.is_undirected-undirected.ensures at c.noted-first-2.ensures)) detail

pub returns-in-None : goal.returns-in-None
returns-in-None c =
    let r = c.args.relationship.now in
    let detail : IsFirst c.noted-first-2.result (detail_faults (mode_view c.args.mode) (names_in c.args.outer.now) r.place (option_map detail_view r.detail)) c.noted-first-2.result = rw c.in-None.is (no_more _) in
    in_turn (in_turn (rw c.is_unfixed-unfixed.ensures at c.noted-first.ensures) (rw c.is_undirected-undirected.ensures at c.noted-first-2.ensures)) detail

use Rattle.std.proofs.Common.{map, subst}
use Rattle.pg_meaning.specs.StaticFaults.{faults_if_any}
use Rattle.pg_scope.proofs.FirstLemmas.{in_turn}
use Rattle.pg_scope.specs.First.{IsFirst}
use Rattle.pg_syntax_tree.specs.View.{projection_view}
use Rattle.pg_scope.proofs.projections.fault_in_tail.Goals as goal

pub returns : goal.returns
returns c =
    let p = projection_view c.args.projection.now in
    let none = c.new-nothing.ensures.empty in
    let skip = subst (λ ks. IsFirst c.in_ok-first.first (faults_if_any (map (λ k. k.now) ks) p.skip) c.fault_if_any-first.result) none c.fault_if_any-first.ensures in
    let limit = subst (λ ks. IsFirst c.fault_if_any-first.result (faults_if_any (map (λ k. k.now) ks) p.limit) c.fault_if_any-first-2.result) none c.fault_if_any-first-2.ensures in
    record { is = λ first front h. in_turn (in_turn (in_turn (in_turn h c.in_ok-first.ensures) skip) limit) c.fault_if_seen.ensures }

-- What no query means, and what clauses that read don't leave.
use Rattle.std.proofs.Common.{◌≡◌, Result, Ok, Err, List, [], ◌∷◌, ◌++◌, map, length, codes, refl, sym, ap, subst, ◌∙◌, arith}
use Rattle.std.specs.Prelude.{flat_map}
use Rattle.std.specs.List.{AllByRecursion}
use Rattle.pg_meaning.specs.AnswerLaws.{same_ok}
use Rattle.pg_meaning.specs.ExampleTrees.{named}
use Rattle.pg_meaning.specs.ExamplesOfSteps.{within, one, one_item, row_a, return_one, instances_of_queries}
use Rattle.pg_meaning.specs.Graph.{empty_graph}
use Rattle.pg_meaning.specs.GraphLaws.{empty_is_graph}
use Rattle.pg_meaning.specs.Meaning.{UnwindRow, Means, MayFault}
use Rattle.pg_meaning.specs.Queries.{test_output}
use Rattle.pg_meaning.specs.Rows.{Row}
use Rattle.pg_meaning.specs.StaticFaults.{static_faults}
use Rattle.pg_meaning.specs.Value.{node, no_entries}
use Rattle.pg_meaning.specs.declared.fault.Fault.{Fault}
use Rattle.pg_meaning.specs.declared.fault.Fault.TheVariants.{DeletedEntity}
use Rattle.pg_relations.proofs.ClosedQueries.{closed_query_means_one, closed_query_is_one}
use Rattle.pg_relations.proofs.RefusedProjections.{emptied}
use Rattle.pg_relations.specs.Closed.{LeaveNothingOpen}
use Rattle.pg_relations.specs.RefusedQueries.{return_given, gone_given, RefusedQueries}

one_more : (first others : List Row) → UnwindRow (within []) empty_graph one_item (named "a") [] first → others ≡ [] → row_a one ∷ row_a one ∷ [] ≡ first ++ others → ⊥
one_more first others u none e =
    let alone = subst (λ vs. first ≡ map (λ v. row_a v) vs) (sym (same_ok (one ∷ []) u.0 u.1)) u.2 in
    absurd (omega (arith, ap length (e ∙ ap (λ rows. first ++ rows) none ∙ ap (λ rows. rows ++ []) alone)))

nothing_open : LeaveNothingOpen [] return_one.clauses
nothing_open = ((refl, refl, refl), tt)

more_rows : Means return_one no_entries 10 empty_graph (codes "a" ∷ []) ((one ∷ []) ∷ (one ∷ []) ∷ []) empty_graph → ⊥
more_rows m =
    let same = closed_query_means_one return_one no_entries 10 empty_graph (codes "a" ∷ []) (codes "a" ∷ []) ((one ∷ []) ∷ []) ((one ∷ []) ∷ (one ∷ []) ∷ []) empty_graph empty_graph nothing_open empty_is_graph instances_of_queries.0 m in
    absurd (omega (arith, ap length same.1))

deleted : Means return_given gone_given 10 empty_graph (codes "$p" ∷ []) ((node 7 ∷ []) ∷ []) empty_graph → ⊥
deleted m = absent (subst (λ rows. AllByRecursion (λ v. test_output empty_graph v ≡ Ok tt) (flat_map (λ r. r) rows)) (sym m.shown) m.live).0
  where
    absent : ◌≡◌ {A = Result (Unit {0}) Fault} (Err DeletedEntity) (Ok tt) → ⊥
    absent e = cc

no_fault : MayFault return_one no_entries 10 empty_graph DeletedEntity → ⊥
unfolding static_faults
no_fault = closed_query_is_one return_one no_entries 10 empty_graph (codes "a" ∷ []) ((one ∷ []) ∷ []) empty_graph DeletedEntity nothing_open refl empty_is_graph instances_of_queries.0

pub refused_queries : RefusedQueries
refused_queries = ((λ results s. emptied s.0), (λ results s. emptied s.0), (λ s. one_more s.1.0 s.1.1 s.1.2 s.1.3 s.1.4), (λ f h. absurd h.1), more_rows, deleted, no_fault)

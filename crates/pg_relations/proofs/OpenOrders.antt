-- A WITH that tests what it cut of an open order may have a result and a fault.
use Rattle.std.proofs.Common.{◌<◌, true, inl, inr, List, [], ◌∷◌, Some, None, codes, pos, refl}
use Rattle.std.proofs.lemmas.List.Sorted.{IsPermutation-refl, IsPermutation-append_comm}
use Rattle.pg_meaning.specs.ExamplesOfSteps.{within, one, row_a}
use Rattle.pg_meaning.specs.Graph.{empty_graph}
use Rattle.pg_meaning.specs.GraphLaws.{found_among}
use Rattle.pg_meaning.specs.Meaning.{Arranged, Projects}
use Rattle.pg_meaning.specs.Projections.{Projected}
use Rattle.pg_meaning.specs.Scopes.{Column, with_columns}
use Rattle.pg_meaning.specs.Value.{Value, integer}
use Rattle.pg_relations.specs.OpenOrders.{none, first_of_any, is_one, WithMayHaveBoth, IdsAreBelow}

abbrev shown : Value → Projected
shown v = record { columns = row_a v; earlier = row_a v }

abbrev columns : List Column
columns = with_columns (codes "a" ∷ []) first_of_any

abbrev of_one : List Value
of_one = integer (pos 1) ∷ []

as_they_are : Arranged (within (codes "a" ∷ [])) empty_graph columns first_of_any.order (shown none ∷ shown one ∷ []) (shown none ∷ shown one ∷ [])
as_they_are = record { same = IsPermutation-refl (shown none ∷ shown one ∷ []); keys = of_one ∷ of_one ∷ []; evaluated = refl; rising = (((λ e. cc), tt), (tt, tt)) }

turned : Arranged (within (codes "a" ∷ [])) empty_graph columns first_of_any.order (shown none ∷ shown one ∷ []) (shown one ∷ shown none ∷ [])
turned = record { same = IsPermutation-append_comm (shown none ∷ []) (shown one ∷ []); keys = of_one ∷ of_one ∷ []; evaluated = refl; rising = (((λ e. cc), tt), (tt, tt)) }

ends_well : Projects (within (codes "a" ∷ [])) empty_graph columns first_of_any (Some is_one) (row_a none ∷ row_a one ∷ []) (row_a one ∷ [])
ends_well = record {
  skip = None;
  skip_given = refl;
  limit = Some 1;
  limit_given = refl;
  made = shown none ∷ shown one ∷ [];
  items = (refl, (refl, tt));
  kept = shown none ∷ shown one ∷ [];
  distinct = refl;
  sorted = shown one ∷ shown none ∷ [];
  order = turned;
  passing = shown one ∷ [];
  condition = (true, [], refl, refl, refl);
  shown = refl;
}

pub with_may_have_both : WithMayHaveBoth
with_may_have_both = (
  (refl, ends_well),
  inr (inr (inr (inr (inr (None, Some 1, shown none ∷ shown one ∷ [], shown none ∷ shown one ∷ [], shown none ∷ shown one ∷ [], shown none, refl, refl, (refl, (refl, tt)), refl, as_they_are, inl refl, refl))))),
)

pub ids_are_below : IdsAreBelow
ids_are_below graph is = (
  (λ n e there. found_among (λ x. x.0 < graph.next_node) n e graph.nodes is.nodes_below there),
  (λ r e there. found_among (λ x. x.0 < graph.next_relationship) r e graph.relationships is.relationships_below there),
)

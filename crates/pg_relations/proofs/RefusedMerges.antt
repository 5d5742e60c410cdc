-- What no MERGE makes or leaves.
use Rattle.std.proofs.Common.{◌≡◌, ℕ, suc, ◌+◌, length, false, inl, inr, List, [], ◌∷◌, map, Result, Ok, Err, refl, sym, ap, subst, ◌∙◌, arith}
use Rattle.pg_meaning.specs.ExamplesOfFits.{bare_node, one_node, pair_graph, at_zero, alone_fits}
use Rattle.pg_meaning.specs.ExamplesOfSteps.{within, unnamed, with_null}
use Rattle.pg_meaning.specs.Graph.{Graph, empty_graph}
use Rattle.pg_meaning.specs.Meaning.{given_of, CreateRow, MergeFaults, new_places, all_placed}
use Rattle.pg_meaning.specs.Lists.{IsIn}
use Rattle.pg_meaning.specs.Changes.{Sets}
use Rattle.pg_meaning.specs.Patterns.{Assignment, Fits, node_name, bind_match}
use Rattle.pg_meaning.specs.Rows.{Row}
use Rattle.pg_meaning.specs.Value.{Value, null, no_entries}
use Rattle.pg_meaning.specs.Walks.{bound_value}
use Rattle.pg_meaning.specs.Expressions.{evaluate}
use Rattle.pg_meaning.specs.Reading.{test_bound}
use Rattle.pg_meaning.specs.declared.fault.Fault.{Fault}
use Rattle.pg_meaning.specs.declared.fault.Fault.TheVariants.{DeletedEntity, ElementQuota, MergeNull}
use Rattle.pg_relations.proofs.RefusedCreations.{some_node}
use Rattle.pg_relations.proofs.RefusedProjections.{emptied}
use Rattle.pg_relations.specs.RefusedSteps.{anything, RefusedMerges}

abbrev at_one : Assignment
at_one = record { nodes = 1 ∷ []; bonds = [] } ∷ []

zero_is_any : Fits (anything ∷ []) no_entries pair_graph [] at_zero
zero_is_any = record { each = ((0, [], refl, record { node = one_node; present = refl; labelled = tt; alike = tt }, tt), tt); bound = (inl refl, tt); repeated = (tt, tt); once = tt }

one_is_any : Fits (anything ∷ []) no_entries pair_graph [] at_one
one_is_any = record { each = ((1, [], refl, record { node = bare_node; present = refl; labelled = tt; alike = tt }, tt), tt); bound = (inl refl, tt); repeated = (tt, tt); once = tt }

first_node : Assignment → ℕ
first_node [] = 0
first_node (t ∷ ts) = elim t.nodes [ [] ↦ 0 | n ∷ ns ↦ n ]

-- two matches are no one row
two_rows : (found : List Assignment) (row : Row) → IsIn at_zero found → IsIn at_one found → row ∷ [] ≡ map (λ a. bind_match pair_graph (anything ∷ []) a []) found → ⊥
unfolding first_node
two_rows [] row i j e = absurd i
two_rows (a ∷ []) row (inl e) (inl f) h = apart (ap first_node (e ∙ sym f))
  where
    apart : ◌≡◌ {A = ℕ} 0 1 → ⊥
    apart e = omega arith
two_rows (a ∷ []) row (inl e) (inr j) h = absurd j
two_rows (a ∷ []) row (inr i) j h = absurd i
two_rows (a ∷ b ∷ as_) row i j h = one_is_two (ap (λ (rows : List Row). length rows) h)
  where
    one_is_two : 1 ≡ length (map (λ a. bind_match pair_graph (anything ∷ []) a []) (a ∷ b ∷ as_)) → ⊥
    one_is_two e = more (length (map (λ a. bind_match pair_graph (anything ∷ []) a []) as_)) e
      where
        more : (n : ℕ) → 1 ≡ suc (suc n) → ⊥
        more n e = omega (arith, e)

-- without items nothing changes
nothing_set : (graph after : Graph) (rows : List Row) → Sets (within []) [] graph rows after → after ≡ graph
nothing_set graph after [] s = s
nothing_set graph after (row ∷ rows) s = nothing_set s.0 after rows s.2 ∙ s.1

-- what is made is left
not_made : (made : Graph) (results : List Row) → CreateRow (within []) (unnamed ∷ []) empty_graph [] made results → empty_graph ≡ made → ⊥
not_made made results c e =
    one_more made.next_node (length (new_places [] (all_placed (unnamed ∷ []) c.assignment))) c.next_node (some_node empty_graph made c.assignment (within []) c.shape c.nodes).0 (ap (λ (g : Graph). g.next_node) e)
  where
    one_more : (next new : ℕ) → next ≡ 0 + new → new ≡ 1 → 0 ≡ next → ⊥
    one_more next new e f h = omega (arith, e, f, h)

-- a null property is told before what is made
null_first : MergeFaults (given_of no_entries 0 []) with_null [] empty_graph [] ElementQuota → ⊥
null_first (inl (n, inl e, h)) = fine (subst (λ m. test_bound false empty_graph (bound_value (node_name m) []) ≡ Err ElementQuota) e h)
  where
    fine : ◌≡◌ {A = Result (Unit {0}) Fault} (Ok tt) (Err ElementQuota) → ⊥
    fine e = cc
null_first (inl (n, inr i, h)) = absurd i
null_first (inr (inl (p, inl e, h))) = fine (subst (λ q. evaluate [] no_entries empty_graph q.1 ≡ Err ElementQuota) e h)
  where
    fine : ◌≡◌ {A = Result Value Fault} (Ok null) (Err ElementQuota) → ⊥
    fine e = cc
null_first (inr (inl (p, inr i, h))) = absurd i
null_first (inr (inr (inl h))) = other h.0
  where
    other : ElementQuota ≡ MergeNull → ⊥
    other e = cc
null_first (inr (inr (inr (inl h)))) = h.0.not_null.0 refl
null_first (inr (inr (inr (inr h)))) = h.0.not_null.0 refl

pub refused_merges : RefusedMerges
refused_merges = (
  (λ after results m. m.none at_zero alone_fits),
  (λ after row m. two_rows m.found row (m.matches.every at_zero zero_is_any) (m.matches.every at_one one_is_any) m.rows),
  (λ results m. emptied (nothing_set pair_graph _ results m.items_run)),
  (λ results m. not_made m.made results m.creation (nothing_set m.made empty_graph results m.items_run)),
  (λ after results m. (m.tested).not_null.0 refl),
  null_first,
  (λ after results m. no_test (m.tested).live.0),
)
  where
    no_test : ◌≡◌ {A = Result (Unit {0}) Fault} (Err DeletedEntity) (Ok tt) → ⊥
    no_test e = cc

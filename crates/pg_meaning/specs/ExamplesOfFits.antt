-- Small instances of what is a graph, a plan, a fitting assignment, a match and a listing: of each one that holds and one that doesn't.
use Rattle.std.proofs.Common.{◌≡◌, ℕ, ◌<◌, Bool, true, false, inl, List, [], ◌∷◌, Option, Some, None, Result, Ok, codes, pos, bytes_eq, refl, sym, ap, subst, ◌∙◌, arith}
use Rattle.std.specs.List.{AllByRecursion}
use Rattle.std.specs.List.Sorted.{IsStrictlySortedBy}
use Rattle.pg_meaning.specs.AnswerLaws.{same_ok}
use Rattle.pg_meaning.specs.ExampleTrees.{named, var, number, dot, node_place, hop, path_of, column, project, query_of}
use Rattle.pg_meaning.specs.Graph.{Graph, Node, IsGraph}
use Rattle.pg_meaning.specs.GraphLaws.{found_among}
use Rattle.pg_meaning.specs.Listings.{IsListing}
use Rattle.pg_meaning.specs.Lists.{IsIn}
use Rattle.pg_meaning.specs.Names.{is_among}
use Rattle.pg_meaning.specs.Order.{text_order}
use Rattle.pg_meaning.specs.Patterns.{Trail, Bond, single, Assignment, NodeFits, HopsFit, Fits, Matches}
use Rattle.pg_meaning.specs.Plans.{Plan, Anchor, fixed_keys, IsPlanOf}
use Rattle.pg_meaning.specs.Tree.{Expression, chain, operand, no_operands, NodePattern, PathPattern, no_properties, match_paths, return_rows, Query}
use Rattle.pg_meaning.specs.Value.{integer, no_entries, entry}
use Rattle.pg_meaning.specs.declared.fault.Fault.{Fault}
use Rattle.pg_meaning.specs.declared.operators.Operator.TheVariants.{Equal}

pub not_true : false ≡ true → ⊥
not_true e = cc

-- ---- IsGraph

abbrev pub one_node : Node
one_node = record { labels = codes "L" ∷ []; properties = entry (codes "k") (integer (pos 1)) no_entries }

abbrev pub bare_node : Node
bare_node = record { labels = []; properties = no_entries }

-- (0:L {k: 1})-[0:K]->(1)
abbrev pub pair_graph : Graph
pair_graph = record {
  nodes = (0, one_node) ∷ (1, bare_node) ∷ [];
  relationships = (0, record { type = codes "K"; source = 0; target = 1; properties = no_entries }) ∷ [];
  next_node = 2;
  next_relationship = 1;
}

-- the node at the end of the relationship is gone; the counter stands at an id that was handed out
abbrev pub InstancesOfGraphs : Type 0
InstancesOfGraphs = IsGraph pair_graph × (IsGraph (record pair_graph { nodes = (0, one_node) ∷ [] }) → ⊥) × (IsGraph (record pair_graph { next_node = 1 }) → ⊥)

pair_labels : AllByRecursion (λ e. IsStrictlySortedBy text_order e.1.labels) pair_graph.nodes
unfolding IsStrictlySortedBy
pair_labels = ((tt, tt), (tt, tt))

pub instances_of_graphs : InstancesOfGraphs
instances_of_graphs = (
  record {
    node_ids_rise = refl;
    relationship_ids_rise = refl;
    nodes_below = (omega arith, (omega arith, tt));
    relationships_below = (omega arith, tt);
    sources = (refl, tt);
    targets = (refl, tt);
    labels_rise = pair_labels;
    node_keys_rise = (refl, (refl, tt));
    relationship_keys_rise = (refl, tt);
  },
  (λ g. not_true g.targets.0),
  (λ g. itself 1 g.nodes_below.1.0),
)
  where
    itself : (n : ℕ) → n < n → ⊥
    itself n h = omega arith

-- ---- IsPlanOf

abbrev pub first_place : NodePattern
first_place = node_place (Some (named "a")) (codes "L" ∷ []) no_properties

abbrev pub second_place : NodePattern
second_place = node_place (Some (named "b")) [] no_properties

-- (a:L)-->(b)
abbrev pub arrow : PathPattern
arrow = path_of None first_place ((hop false None true, second_place) ∷ [])

-- MATCH (a:L)-->(b) RETURN a
abbrev pub arrow_query : Query
arrow_query = query_of (match_paths false (arrow ∷ []) None ∷ return_rows (project false None (column (codes "a") (var "a") None ∷ []) [] None None) ∷ [])

abbrev pub begun_at : Anchor → Plan
begun_at anchor = (anchor ∷ []) ∷ [] ∷ []

-- any node of the path is an anchor, and an index only where the text fixes its key
abbrev pub InstancesOfPlans : Type 0
InstancesOfPlans =
    IsPlanOf (begun_at (record { place = 1; index = None })) arrow_query
    × (IsPlanOf (begun_at (record { place = 2; index = None })) arrow_query → ⊥)
    × (IsPlanOf (begun_at (record { place = 0; index = Some (codes "L", codes "k") })) arrow_query → ⊥)

abbrev keys_fixed : Option NodePattern → List (List ℕ)
keys_fixed None = []
keys_fixed (Some n) = fixed_keys [] n

pub instances_of_plans : InstancesOfPlans
instances_of_plans = (
  (((second_place, refl, tt), tt), (refl, tt)),
  (λ h. no_node h.0.0.0 h.0.0.1),
  (λ h. not_true (subst (λ o. is_among (keys_fixed o) (codes "k") ≡ true) (sym h.0.0.1) h.0.0.2.1)),
)
  where
    no_node : (n : NodePattern) → ◌≡◌ {A = Option NodePattern} None (Some n) → ⊥
    no_node n e = cc

-- ---- Fits, Matches and IsListing

abbrev pub arrow_trail : Trail
arrow_trail = record { nodes = 0 ∷ 1 ∷ []; bonds = single 0 ∷ [] }

-- (a)--(b)--(c), there and back over one relationship
abbrev pub there_and_back : PathPattern
there_and_back = path_of None (node_place None [] no_properties) ((hop false None false, node_place None [] no_properties) ∷ (hop false None false, node_place None [] no_properties) ∷ [])

abbrev pub back_trail : Trail
back_trail = record { nodes = 0 ∷ 1 ∷ 0 ∷ []; bonds = single 0 ∷ single 0 ∷ [] }

-- (a:L)
abbrev pub alone : PathPattern
alone = path_of None first_place []

abbrev pub at_zero : Assignment
at_zero = record { nodes = 0 ∷ []; bonds = [] } ∷ []

abbrev pub k_is : ℕ → Expression
k_is n = chain (dot (var "a") "k") (operand Equal (number n) no_operands)

abbrev pub first_anchor : Anchor
first_anchor = record { place = 0; index = None }

abbrev pub InstancesOfPatterns : Type 0
InstancesOfPatterns =
    Fits (arrow ∷ []) no_entries pair_graph [] (arrow_trail ∷ [])
    × (Fits (there_and_back ∷ []) no_entries pair_graph [] (back_trail ∷ []) → ⊥)
    × Matches (alone ∷ []) (Some (k_is 1)) no_entries pair_graph [] at_zero
    × (Matches (alone ∷ []) (Some (k_is 2)) no_entries pair_graph [] at_zero → ⊥)
    × IsListing (first_anchor ∷ []) [] (alone ∷ []) no_entries pair_graph [] (at_zero ∷ [])
    × (IsListing (first_anchor ∷ []) [] (alone ∷ []) no_entries pair_graph [] [] → ⊥)

pub zero_fits : NodeFits no_entries pair_graph [] first_place 0
zero_fits = record { node = one_node; present = refl; labelled = (refl, tt); alike = tt }

pub alone_fits : Fits (alone ∷ []) no_entries pair_graph [] at_zero
alone_fits = record { each = ((0, [], refl, zero_fits, tt), tt); bound = (inl refl, tt); repeated = (tt, tt); once = tt }

-- only node 0 has the label
zero_alone : (n : ℕ) → NodeFits no_entries pair_graph [] first_place n → n ≡ 0
zero_alone n fits =
    found_among (λ e. is_among e.1.labels (codes "L") ≡ true → e.0 ≡ 0) n fits.node pair_graph.nodes ((λ h. refl), ((λ h. absurd (not_true h)), tt)) fits.present fits.labelled.0

one_place : (nodes : List ℕ) (bonds : List Bond) (first : ℕ) (others : List ℕ) → nodes ≡ first ∷ others → NodeFits no_entries pair_graph [] first_place first → HopsFit no_entries pair_graph [] [] first bonds others
    → (nodes ≡ 0 ∷ []) × (bonds ≡ [])
one_place nodes [] first [] e fits h = (e ∙ ap (λ n. n ∷ []) (zero_alone first fits), refl)
one_place nodes [] first (n ∷ ns) e fits h = absurd h
one_place nodes (b ∷ bs) first [] e fits h = absurd h
one_place nodes (b ∷ bs) first (n ∷ ns) e fits h = absurd h

pub only_zero : (a : Assignment) → Fits (alone ∷ []) no_entries pair_graph [] a → IsIn a (at_zero ∷ [])
only_zero [] fits = absurd fits.each
only_zero (t ∷ []) fits =
    let path = fits.each.0 in
    let same = one_place t.nodes t.bonds path.0 path.1 path.2 path.3 path.4 in
    inl (λ i. record { nodes = same.0 i; bonds = same.1 i } ∷ [])
only_zero (t ∷ u ∷ ts) fits = absurd fits.each.1

pub instances_of_patterns : InstancesOfPatterns
instances_of_patterns = (
  record {
    each = (
      (
        0,
        1 ∷ [],
        refl,
        zero_fits,
        (
          (refl, record { relationship = record { type = codes "K"; source = 0; target = 1; properties = no_entries }; present = refl; typed = tt; joining = (refl, refl); alike = tt }),
          record { node = bare_node; present = refl; labelled = tt; alike = tt },
          tt,
        ),
      ),
      tt,
    );
    bound = (inl refl, (inl refl, tt));
    repeated = ((differ, tt), (tt, tt));
    once = (tt, tt);
  },
  (λ f. f.once.0.0 refl),
  record { fits = alone_fits; passes = refl },
  (λ m. not_kept m.passes),
  record {
    all = record { each = ((alone_fits, ((λ n e b. tt), tt)), tt); every = λ a h. only_zero a h.0; once = (tt, tt) };
    rising = (tt, tt);
  },
  (λ l. l.all.every at_zero (alone_fits, ((λ n e b. tt), tt))),
)
  where
    differ : codes "a" ≡ codes "b" → ◌≡◌ {A = ℕ} 0 1
    differ e = absurd (not_true (sym (ap (λ t. bytes_eq t (codes "a")) e)))

    not_kept : ◌≡◌ {A = Result Bool Fault} (Ok false) (Ok true) → ⊥
    not_kept e = not_true (same_ok false true e)

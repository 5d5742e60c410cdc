-- What the loops over nodes and hops need at their start, at a turn and at their end.
use Rattle.std.proofs.Common.{◌≡◌, ◌≢◌, ◌<◌, ◌≤◌, ◌+◌, ℕ, false, List, [], ◌∷◌, drop, get_or, length, append-nil, Result, Ok, Err, IfOk, IfErr, refl, sym, ap, subst, ◌∙◌}
use Rattle.std.proofs.lemmas.List.{drop_all}
use Rattle.std.proofs.lemmas.Option.{slice_get_read}
use Rattle.std.specs.Borrow.{Bor}
use Rattle.std.specs.Global.{Vec}
use Rattle.pg_meaning.specs.Answer.{◌>>=◌}
use Rattle.pg_meaning.specs.Graph.{Graph}
use Rattle.pg_meaning.specs.Patterns.{node_name, nodes_of}
use Rattle.pg_meaning.specs.Reading.{test_bound, test_nodes}
use Rattle.pg_meaning.specs.Rows.{Row}
use Rattle.pg_meaning.specs.Tree as tree
use Rattle.pg_meaning.specs.Updates.{Making}
use Rattle.pg_meaning.specs.Walks.{bound_value}
use Rattle.pg_meaning.specs.declared.fault.Fault.{Fault}
use Rattle.pg_meaning.specs.declared.fault.Fault.TheVariants.{OutOfMemory}
use Rattle.pg_syntax_tree.specs.View.{node_view, path_view}
use Rattle.pg_syntax_tree.specs.declared.patterns.NodePattern.{NodePattern}
use Rattle.pg_syntax_tree.specs.declared.patterns.PathPattern.{PathPattern}
use Rattle.pg_syntax_tree.specs.declared.patterns.RelationshipPattern.{RelationshipPattern}
use Rattle.pg_value_core.specs.declared.ids.NodeId.{NodeId}
use Rattle.pg_value_core.specs.declared.ids.RelId.{RelId}
use Rattle.pg_value_core.specs.declared.value.Value.{Value}
use Rattle.pg_write_make.proofs.CreatedRowLemmas.{behind_none}
use Rattle.pg_write_make.proofs.GrowthLemmas.{both_passed, tests_grow}
use Rattle.pg_write_make.proofs.StepLemmas.{behind}
use Rattle.pg_write_make.specs.Makings.{making_of, named_ids, node_ids, others_view, outcomes_view, relationship_ids, relationships_view, AllThere, AreThere, Grows}
use Rattle.pg_write_make.proofs.RowLemmas.{drop_at}
use Rattle.pg_write_make.specs.Outcomes.{Outcome, Outcomes, hops_made, node_of, nodes_made}

pub at_same : {X : Type 0} (xs ys : List X) (i : ℕ) (x : X) → xs ≡ ys → x ≡ get_or xs i x → x ≡ get_or ys i x
at_same {X} xs ys i x e h = h ∙ ap (λ (zs : List X). get_or zs i x) e

pub within_same : {X : Type 0} (xs ys : List X) (i : ℕ) → xs ≡ ys → i < length xs → i < length ys
within_same {X} xs ys i e h = subst (λ (zs : List X). i < length zs) e h

pub past_same : {X : Type 0} (xs ys : List X) (i : ℕ) → xs ≡ ys → length xs ≤ i → length ys ≤ i
past_same {X} xs ys i e h = subst (λ (zs : List X). length zs ≤ i) e h

pub node_is_tested : (hs : List (RelationshipPattern × NodePattern)) (i : ℕ) (h : RelationshipPattern × NodePattern) → h ≡ get_or hs i h → i < length hs → (graph : Graph) (row : Row)
    → test_nodes false graph row (others_view (drop i hs)) ≡ Ok tt → test_bound false graph (bound_value (node_name (node_view h.1)) row) ≡ Ok tt
node_is_tested hs i h at within graph row tested =
    let all = sym (ap (λ xs. test_nodes false graph row (others_view xs)) (drop_at hs i h (slice_get_read hs (length hs) i h refl within at))) ∙ tested in
    (both_passed (test_bound false graph (bound_value (node_name (node_view h.1)) row)) (test_nodes false graph row (others_view (drop (i + 1) hs))) all).0

none_made : (max : ℕ) (ns : List tree.NodePattern) (m : Making) → nodes_made max [] ns m ≡ Ok m
none_made max [] m = refl
none_made max (n ∷ ns) m = refl

-- no outcome is left
pub nodes_over : (max : ℕ) (os : List (Result (Vec (Bor (List ℕ) × Value)) Fault)) (ns : List tree.NodePattern) (m : Making) (whole : Result Making Fault) → whole ≡ nodes_made max (outcomes_view os) ns m → os ≡ [] → whole ≡ Ok m
nodes_over max os ns m whole rest none = rest ∙ ap (λ xs. nodes_made max (outcomes_view xs) ns m) none ∙ none_made max ns m

-- no hop is left
pub nodes_past : (max : ℕ) (os : List Outcome) (hs : List (RelationshipPattern × NodePattern)) (i : ℕ) (m : Making) (whole : Result Making Fault) → whole ≡ nodes_made max os (others_view (drop i hs)) m → length hs ≤ i → whole ≡ Ok m
nodes_past max os hs i m whole rest past = rest ∙ ap (λ xs. nodes_made max os (others_view xs) m) (drop_all i hs past)

-- ---- all nodes of a path

pub first_is_tested : (graph : Graph) (row : Row) (p : PathPattern) → test_nodes false graph row (nodes_of (path_view p)) ≡ Ok tt → test_bound false graph (bound_value (node_name (node_view p.first)) row) ≡ Ok tt
first_is_tested graph row p h = (both_passed (test_bound false graph (bound_value (node_name (node_view p.first)) row)) (test_nodes false graph row (others_view p.hops.items)) h).0

pub others_tested : (before after : Graph) (row : Row) (p : PathPattern) → Grows before after → test_nodes false before row (nodes_of (path_view p)) ≡ Ok tt → test_nodes false after row (others_view p.hops.items) ≡ Ok tt
others_tested before after row p grows h =
    tests_grow before after row (others_view p.hops.items) grows (both_passed (test_bound false before (bound_value (node_name (node_view p.first)) row)) (test_nodes false before row (others_view p.hops.items)) h).1

pub none_yet : (graph : Graph) (named : List (Bor (List ℕ) × NodeId)) (ids : List NodeId) → ids ≡ [] → AreThere graph (named_ids named) → AllThere graph named ids
none_yet graph named ids none there = record { bound = there; made = subst (λ (xs : List NodeId). AreThere graph (node_ids xs)) (sym none) tt }

module _ (max : ℕ) (o : Outcome) (os : List Outcome) (p : PathPattern) (graph : Graph) (row : Row) (named : List (Bor (List ℕ) × NodeId)) (ids : List NodeId) (none : ids ≡ []) where
  abbrev then_others : Result Making Fault → Result Making Fault
  then_others r = r >>= nodes_made max os (others_view p.hops.items)

  from_none : nodes_made max (o ∷ os) (nodes_of (path_view p)) (making_of graph row named []) ≡ then_others (node_of max o (node_view p.first) (making_of graph row named ids))
  from_none = ap (λ (xs : List NodeId). then_others (node_of max o (node_view p.first) (making_of graph row named xs))) (sym none)

  pub all_made : (after : Making) (last : Result Making Fault) → node_of max o (node_view p.first) (making_of graph row named ids) ≡ Ok after → nodes_made max os (others_view p.hops.items) after ≡ last
      → nodes_made max (o ∷ os) (nodes_of (path_view p)) (making_of graph row named []) ≡ last
  all_made after last made rest = from_none ∙ ap then_others made ∙ rest

  pub first_refused : (e : Fault) → node_of max o (node_view p.first) (making_of graph row named ids) ≡ Err e → nodes_made max (o ∷ os) (nodes_of (path_view p)) (making_of graph row named []) ≡ Err e
  first_refused e made = from_none ∙ ap then_others made

-- ---- hops

pub hops_begun : (max : ℕ) (given os : List (Result (Vec (Bor (List ℕ) × Value)) Fault)) (rs : List tree.RelationshipPattern) (left : ℕ) (ns : List ℕ) (graph : Graph) (made : List RelId) → os ≡ given → made ≡ []
    → hops_made max (outcomes_view given) rs left ns graph ≡ behind (relationship_ids made) (hops_made max (outcomes_view os) rs left ns graph)
hops_begun max given os rs left ns graph made same none =
    behind_none (hops_made max (outcomes_view given) rs left ns graph)
    ∙ (λ i. behind (relationship_ids (sym none i)) (hops_made max (outcomes_view (sym same i)) rs left ns graph))

-- no hop is left
pub hops_done : (max : ℕ) (os : List Outcome) (hs : List (RelationshipPattern × NodePattern)) (i left : ℕ) (ns : List ℕ) (graph : Graph) (ids : List ℕ) (whole : Result (Graph × List ℕ) Fault)
    → whole ≡ behind ids (hops_made max os (relationships_view (drop i hs)) left ns graph) → length hs ≤ i → whole ≡ Ok (graph, ids)
hops_done max os hs i left ns graph ids whole rest past =
    rest ∙ ap (λ xs. behind ids (hops_made max os (relationships_view xs) left ns graph)) (drop_all i hs past) ∙ ap (λ (xs : List ℕ). Ok (graph, xs)) (append-nil ids)

pub next_there : (graph : Graph) (ns : List NodeId) (right : NodeId) (more : List NodeId) → ns ≡ right ∷ more → AreThere graph (node_ids ns) → AreThere graph (node_ids (right ∷ more))
next_there graph ns right more e there = subst (λ (xs : List NodeId). AreThere graph (node_ids xs)) e there

-- ---- what a call gives is given on

pub ok_onto : {X A : Type 0} (r : Result X Fault) (gives : X → Result A Fault) (whole last : Result A Fault) → whole ≡ last → IfOk r (λ x. last ≡ gives x) → IfOk r (λ x. whole ≡ gives x)
ok_onto (Ok x) gives whole last same h = same ∙ h
ok_onto (Err e) gives whole last same h = tt

pub err_onto : {X A : Type 0} (r : Result X Fault) (whole last : Result A Fault) → whole ≡ last → IfErr r (λ e. e ≢ OutOfMemory → last ≡ Err e) → IfErr r (λ e. e ≢ OutOfMemory → whole ≡ Err e)
err_onto (Ok x) whole last same h = tt
err_onto (Err e) whole last same h = λ other. same ∙ h other

pub parts_kept : (first given : Outcome) (nodes nodes_given bonds bonds_given : List Outcome) → given ≡ first → nodes ≡ nodes_given → bonds ≡ bonds_given → ◌≡◌ {A = Outcomes} (first ∷ nodes, bonds) (given ∷ nodes_given, bonds_given)
parts_kept first given nodes nodes_given bonds bonds_given one all others =
    ap (λ (o : Outcome). (o ∷ nodes, bonds)) (sym one) ∙ ap (λ (os : List Outcome). (given ∷ os, bonds)) all ∙ ap (λ (os : List Outcome). (given ∷ nodes_given, os)) others

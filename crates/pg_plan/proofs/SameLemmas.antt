-- The same names in scope give the same plan.
use Rattle.std.proofs.Common.{◌≡◌, ℕ, ◌+◌, Bool, false, cond, not, List, [], ◌∷◌, ◌++◌, Option, Some, None, refl, sym, ap, ◌∙◌, append_assoc}
use Rattle.std.specs.Prelude.{◌&&◌, flat_map, position}
use Rattle.std.specs.List.{position_from}
use Rattle.std.proofs.lemmas.Iterator.Adapters.{position_from-zero}
use Rattle.pg_meaning.specs.Conditions.{conjuncts_of}
use Rattle.pg_meaning.specs.Names.{Names, is_among}
use Rattle.pg_meaning.specs.Patterns.{nodes_of, node_name, add_path_names}
use Rattle.pg_meaning.specs.Plans as plans
use Rattle.pg_meaning.specs.Scopes.{scope_after}
use Rattle.pg_meaning.specs.Tree.{Expression, NodePattern, PathPattern, Clause}
use Rattle.pg_meaning.specs.Tree as tree
use Rattle.pg_scope.proofs.ScopeLemmas.{paths_same, same_in_turn}
use Rattle.pg_scope.proofs.StepLemmas.{after_same}
use Rattle.pg_scope.specs.Names.{HasSame}
use Rattle.pg_plan.proofs.LeadLemmas.{new_among}
use Rattle.pg_plan.specs.Places.{at_bound, at_index, serves}

from_same : {X : Type 0} (p q : X → Bool) → ((x : X) → p x ≡ q x) → (i : ℕ) (xs : List X) → position_from p i xs ≡ position_from q i xs
from_same p q e i [] = refl
from_same p q e i (x ∷ xs) = ap (λ b. cond b (Some i) (position_from p (i + 1) xs)) (e x) ∙ ap (λ r. cond (q x) (Some i) r) (from_same p q e (i + 1) xs)

pub position_is : {X : Type 0} (p : X → Bool) (xs : List X) → position p xs ≡ position_from p 0 xs
position_is p xs = position_from-zero p xs

position_same : {X : Type 0} (p q : X → Bool) → ((x : X) → p x ≡ q x) → (xs : List X) → position p xs ≡ position q xs
position_same p q e xs = position_is p xs ∙ from_same p q e 0 xs ∙ sym (position_is q xs)

bound_same : (ns ms : Names) → HasSame ns ms → (n : NodePattern) → plans.is_bound_by ns n ≡ plans.is_bound_by ms n
bound_same ns ms s n = by_name (node_name n)
  where
    by_name : (name : Option (List ℕ)) → ◌≡◌ {A = Bool} (elim name [ None ↦ false | Some x ↦ is_among ns x ]) (elim name [ None ↦ false | Some x ↦ is_among ms x ])
    by_name None = refl
    by_name (Some x) = s.is x

-- ---- the anchor of a path, by the place of its first bound node

pub anchor_is : (p : PathPattern) (leads : List plans.Fixed) (bound : Names) (catalogue : plans.Catalogue)
    → plans.anchor_of p leads bound catalogue ≡ at_bound (at_index catalogue leads (nodes_of p) (position (serves catalogue leads) (nodes_of p))) (position (plans.is_bound_by bound) (nodes_of p))
anchor_is p leads bound catalogue = refl

pub anchor_same : (p : PathPattern) (leads : List plans.Fixed) (catalogue : plans.Catalogue) (ns ms : Names) → HasSame ns ms → plans.anchor_of p leads ns catalogue ≡ plans.anchor_of p leads ms catalogue
anchor_same p leads catalogue ns ms s =
    anchor_is p leads ns catalogue
    ∙ ap (at_bound (at_index catalogue leads (nodes_of p) (position (serves catalogue leads) (nodes_of p)))) (position_same (plans.is_bound_by ns) (plans.is_bound_by ms) (bound_same ns ms s) (nodes_of p))
    ∙ sym (anchor_is p leads ms catalogue)

pub anchors_same : (leads : List plans.Fixed) (catalogue : plans.Catalogue) (ns ms : Names) → HasSame ns ms → (ps : List PathPattern) → plans.anchors_of leads catalogue ns ps ≡ plans.anchors_of leads catalogue ms ps
anchors_same leads catalogue ns ms s [] = refl
anchors_same leads catalogue ns ms s (p ∷ ps) =
    ap (λ a. a ∷ plans.anchors_of leads catalogue (add_path_names (p ∷ []) ns) ps) (anchor_same p leads catalogue ns ms s)
    ∙ ap (λ xs. plans.anchor_of p leads ms catalogue ∷ xs) (anchors_same leads catalogue (add_path_names (p ∷ []) ns) (add_path_names (p ∷ []) ms) (paths_same (p ∷ []) s) ps)

-- ---- clauses

leading_same : (ns ms : Names) → HasSame ns ms → (es : List Expression) → plans.leading ns es ≡ plans.leading ms es
leading_same ns ms s [] = refl
leading_same ns ms s (e ∷ es) = by_fixed (plans.fixed_by e) (leading_same ns ms s es)
  where
    by_fixed : (found : Option plans.Fixed) → plans.leading ns es ≡ plans.leading ms es
        → ◌≡◌ {A = List plans.Fixed} (elim found [ None ↦ [] | Some f ↦ cond (is_among ns f.name) (f ∷ plans.leading ns es) [] ]) (elim found [ None ↦ [] | Some f ↦ cond (is_among ms f.name) (f ∷ plans.leading ms es) [] ])
    by_fixed None more = refl
    by_fixed (Some f) more = ap (λ b. cond b (f ∷ plans.leading ns es) []) (s.is f.name) ∙ ap (λ fs. cond (is_among ms f.name) (f ∷ fs) []) more

unbound_same : (ns ms : Names) → HasSame ns ms → (ps : List PathPattern) → HasSame (plans.unbound_names ns ps) (plans.unbound_names ms ps)
unbound_same ns ms s ps = record {
  is = λ n. new_among ns (plans.node_names (flat_map nodes_of ps)) n ∙ ap (λ b. is_among (plans.node_names (flat_map nodes_of ps)) n && not b) (s.is n) ∙ sym (new_among ms (plans.node_names (flat_map nodes_of ps)) n);
}

clause_same : (catalogue : plans.Catalogue) (ns ms : Names) → HasSame ns ms → (c : Clause) → plans.clause_plan catalogue ns c ≡ plans.clause_plan catalogue ms c
clause_same catalogue ns ms s (tree.match_paths is_optional ps condition) =
    ap (λ leads. plans.anchors_of leads catalogue ns ps) (leading_same (plans.unbound_names ns ps) (plans.unbound_names ms ps) (unbound_same ns ms s ps) (conjuncts_of condition))
    ∙ anchors_same (plans.leading_of ms ps condition) catalogue ns ms s ps
clause_same catalogue ns ms s (tree.merge p items) = anchors_same [] catalogue ns ms s (p ∷ [])
clause_same catalogue ns ms s (tree.unwind e n) = refl
clause_same catalogue ns ms s (tree.create ps) = refl
clause_same catalogue ns ms s (tree.set_items xs) = refl
clause_same catalogue ns ms s (tree.remove_items xs) = refl
clause_same catalogue ns ms s (tree.delete is_detach xs) = refl
clause_same catalogue ns ms s (tree.with_rows p condition) = refl
clause_same catalogue ns ms s (tree.return_rows p) = refl

pub plan_same : (catalogue : plans.Catalogue) (ns ms : Names) → HasSame ns ms → (cs : List Clause) → plans.plan_from catalogue ns cs ≡ plans.plan_from catalogue ms cs
plan_same catalogue ns ms s [] = refl
plan_same catalogue ns ms s (c ∷ cs) =
    ap (λ xs. xs ∷ plans.plan_from catalogue (scope_after ns c) cs) (clause_same catalogue ns ms s c)
    ∙ ap (λ plan. plans.clause_plan catalogue ms c ∷ plan) (plan_same catalogue (scope_after ns c) (scope_after ms c) (after_same ns ms s c) cs)

-- ---- the loops

pub anchors_step : (leads : List plans.Fixed) (catalogue : plans.Catalogue) (ns ms : Names) (done : List plans.Anchor) {a : plans.Anchor} {all : List plans.Anchor} (p : PathPattern) (ps : List PathPattern)
    → done ++ plans.anchors_of leads catalogue ns (p ∷ ps) ≡ all → a ≡ plans.anchor_of p leads ns catalogue → HasSame ms (add_path_names (p ∷ []) ns) → (done ++ a ∷ []) ++ plans.anchors_of leads catalogue ms ps ≡ all
anchors_step leads catalogue ns ms done {a} {all} p ps rest is s =
    append_assoc done (a ∷ []) (plans.anchors_of leads catalogue ms ps)
    ∙ ap (λ b. done ++ b ∷ plans.anchors_of leads catalogue ms ps) is
    ∙ ap (λ xs. done ++ plans.anchor_of p leads ns catalogue ∷ xs) (anchors_same leads catalogue ms (add_path_names (p ∷ []) ns) s ps)
    ∙ rest

pub names_step : (ns ms all : Names) (p : PathPattern) (ps : List PathPattern) → HasSame (add_path_names (p ∷ ps) ns) all → HasSame ms (add_path_names (p ∷ []) ns) → HasSame (add_path_names ps ms) all
names_step ns ms all p ps rest s = same_in_turn (paths_same ps s) rest

pub plan_step : (catalogue : plans.Catalogue) (ns ms : Names) (done : plans.Plan) {xs : List plans.Anchor} {all : plans.Plan} (c : Clause) (cs : List Clause)
    → done ++ plans.plan_from catalogue ns (c ∷ cs) ≡ all → xs ≡ plans.clause_plan catalogue ns c → HasSame ms (scope_after ns c) → (done ++ xs ∷ []) ++ plans.plan_from catalogue ms cs ≡ all
plan_step catalogue ns ms done {xs} {all} c cs rest is s =
    append_assoc done (xs ∷ []) (plans.plan_from catalogue ms cs)
    ∙ ap (λ bs. done ++ bs ∷ plans.plan_from catalogue ms cs) is
    ∙ ap (λ plan. done ++ plans.clause_plan catalogue ns c ∷ plan) (plan_same catalogue ms (scope_after ns c) s cs)
    ∙ rest

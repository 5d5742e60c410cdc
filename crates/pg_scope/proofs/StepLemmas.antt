-- Past a clause.
use Rattle.std.proofs.Common.{◌≡◌, map, option_map, ℕ, List, [], ◌∷◌, ◌++◌, Option, Some, None, refl, sym, ap, subst, ◌∙◌}
use Rattle.std.specs.Prelude.{flat_map, bytes_eq, ◌||◌}
use Rattle.pg_meaning.specs.Names.{Names, is_among}
use Rattle.pg_meaning.specs.Patterns.{add_path_names}
use Rattle.pg_meaning.specs.StaticFaults.{PlacedFault, faults_if_any, set_faults, faults_of, target_faults, found_if}
use Rattle.pg_meaning.specs.Tree.{Expression, SetItem, RemoveItem, Name, PathPattern, Clause}
use Rattle.pg_meaning.specs.Tree as tree
use Rattle.pg_meaning.specs.declared.fault.Fault.TheVariants.{UndefinedVariable, VariableAlreadyBound}
use Rattle.std.specs.Prelude.{Bool, not}
use Rattle.pg_meaning.specs.StaticFaults.{elsewhere, Mode, matching, creating, merging, path_parts, paths_faults, remove_faults, star_faults, clause_faults}
use Rattle.pg_meaning.specs.Scopes.{scope_after}
use Rattle.std.proofs.lemmas.Bool.{false≢true}
use Rattle.std.proofs.lemmas.Slice.Eq.{bytes_eq-Decides}
use Rattle.pg_scope.proofs.FirstLemmas.{in_turn, least_of_none}
use Rattle.pg_scope.proofs.ProjectionLemmas.{names_same, projection_same}
use Rattle.pg_scope.specs.Steps.{Steps, faults_before, faults_behind}
use Rattle.pg_scope.specs.Used.{nothing_used}
use Rattle.pg_scope.specs.declared.columns.Naming.TheVariants.{Variable, Source}
use Rattle.pg_scope.proofs.SameLemmas.{expression_same, if_any_same, parts_same}
use Rattle.pg_scope.proofs.ScopeLemmas.{among_added, paths_same, same_in_turn}
use Rattle.pg_syntax_tree.specs.View.{clause_view, expression_view, on_view}
use Rattle.pg_syntax_tree.specs.declared.clauses.Clause.{Clause as ProgramClause}
use Rattle.pg_syntax_tree.specs.declared.clauses.Clause.TheVariants as clause
use Rattle.pg_syntax_tree.specs.declared.clauses.Projection.{Projection as ProgramProjection}
use Rattle.pg_syntax_tree.specs.declared.expression.Expression.{Expression as ProgramExpression}
use Rattle.pg_scope.specs.First.{IsFirst}
use Rattle.pg_scope.specs.Names.{HasSame}

-- an expression that sees other sets of the same names
pub if_any_seen : {ns ms : Names} (x : Option Expression) {first next : Option PlacedFault} → HasSame ns ms → IsFirst first (faults_if_any ns x) next → IsFirst first (faults_if_any ms x) next
if_any_seen {ns} {ms} x {first} {next} s h = subst (λ fs. IsFirst first fs next) (if_any_same ns ms s x) h

set_same : (ns ms : Names) → HasSame ns ms → (x : SetItem) → set_faults ns x ≡ set_faults ms x
set_same ns ms s (tree.set_property n m x) = ap (λ b. found_if (not b) n.place UndefinedVariable ++ faults_of ns x) (s.is n.text) ∙ ap (λ fs. target_faults ms n ++ fs) (expression_same ns ms s elsewhere x)
set_same ns ms s (tree.set_all n x) = ap (λ b. found_if (not b) n.place UndefinedVariable ++ faults_of ns x) (s.is n.text) ∙ ap (λ fs. target_faults ms n ++ fs) (expression_same ns ms s elsewhere x)
set_same ns ms s (tree.set_more n x) = ap (λ b. found_if (not b) n.place UndefinedVariable ++ faults_of ns x) (s.is n.text) ∙ ap (λ fs. target_faults ms n ++ fs) (expression_same ns ms s elsewhere x)
set_same ns ms s (tree.set_labels n ls) = ap (λ b. found_if (not b) n.place UndefinedVariable) (s.is n.text)

each_same : {X : Type 0} (f g : X → List PlacedFault) → ((x : X) → f x ≡ g x) → (xs : List X) → flat_map f xs ≡ flat_map g xs
each_same f g e [] = refl
each_same f g e (x ∷ xs) = ap (λ fs. fs ++ flat_map f xs) (e x) ∙ ap (λ fs. g x ++ fs) (each_same f g e xs)

pub ons_seen : {ns ms : Names} (os : List (Bool × List SetItem)) {first next : Option PlacedFault} → HasSame ns ms → IsFirst first (flat_map (λ o. flat_map (set_faults ns) o.1) os) next
    → IsFirst first (flat_map (λ o. flat_map (set_faults ms) o.1) os) next
ons_seen {ns} {ms} os {first} {next} s h =
    subst (λ fs. IsFirst first fs next) (each_same (λ (o : Bool × List SetItem). flat_map (set_faults ns) o.1) (λ (o : Bool × List SetItem). flat_map (set_faults ms) o.1) (λ o. each_same (set_faults ns) (set_faults ms) (set_same ns ms s) o.1) os) h

nothing_behind : {first next last : Option PlacedFault} {fs : List PlacedFault} → IsFirst first fs next → IsFirst next [] last → IsFirst first fs last
nothing_behind {first} {next} {last} {fs} e h = subst (IsFirst first fs) (sym (h.is ∙ least_of_none next)) e

-- a clause that is neither WITH nor RETURN, from its two parts
pub stepped : {ns ms : Names} {first next last : Option PlacedFault} (x : ProgramClause)
    → ((p : ProgramProjection) (condition : Option ProgramExpression) → x ≡ clause.With p condition → ⊥) → ((p : ProgramProjection) → x ≡ clause.Return p → ⊥)
    → IsFirst first (faults_before ns (clause_view x)) next → HasSame ms (scope_after ns (clause_view x)) → IsFirst next (faults_behind ms (clause_view x)) last → Steps ns (clause_view x) first last ms
stepped (clause.Match is_optional ps condition) w r e s h = record { faults = in_turn e (if_any_seen (option_map expression_view condition) s h); names_behind = s }
stepped (clause.Unwind x n) w r e s h = record { faults = nothing_behind e h; names_behind = s }
stepped (clause.Create ps) w r e s h = record { faults = nothing_behind e h; names_behind = s }
stepped (clause.Merge p os) w r e s h = record { faults = in_turn e (ons_seen (map on_view os.items) s h); names_behind = s }
stepped (clause.Set xs) w r e s h = record { faults = nothing_behind e h; names_behind = s }
stepped (clause.Remove xs) w r e s h = record { faults = nothing_behind e h; names_behind = s }
stepped (clause.Delete is_detach xs) w r e s h = record { faults = nothing_behind e h; names_behind = s }
stepped (clause.With p condition) w r e s h = absurd (w p condition refl)
stepped (clause.Return p) w r e s h = absurd (r p refl)

-- ---- the same names bring the same faults, and stay so

remove_same : (ns ms : Names) → HasSame ns ms → (x : RemoveItem) → remove_faults ns x ≡ remove_faults ms x
remove_same ns ms s (tree.remove_property n m) = ap (λ b. found_if (not b) n.place UndefinedVariable) (s.is n.text)
remove_same ns ms s (tree.remove_labels n ls) = ap (λ b. found_if (not b) n.place UndefinedVariable) (s.is n.text)

paths_faults_same : (mode : Mode) (ns ms : Names) → HasSame ns ms → (ps : List PathPattern) → paths_faults mode ns ps ≡ paths_faults mode ms ps
paths_faults_same mode ns ms s ps = parts_same ns ms s mode nothing_used (flat_map path_parts ps)

star_same : (ns ms : Names) → HasSame ns ms → (star : Option ℕ) → star_faults ns star ≡ star_faults ms star
star_same [] [] s star = refl
star_same [] (m ∷ ms) s star = absurd (false≢true (s.is m ∙ ap (λ b. b || is_among ms m) ((bytes_eq-Decides m m).1 refl)))
star_same (n ∷ ns) [] s star = absurd (false≢true (sym (s.is n) ∙ ap (λ b. b || is_among ns n) ((bytes_eq-Decides n n).1 refl)))
star_same (n ∷ ns) (m ∷ ms) s None = refl
star_same (n ∷ ns) (m ∷ ms) s (Some at) = refl

both : {a b c d : List PlacedFault} → a ≡ b → c ≡ d → a ++ c ≡ b ++ d
both {a} {b} {c} {d} e h = ap (λ x. x ++ c) e ∙ ap (λ x. b ++ x) h

clause_same : (ns ms : Names) → HasSame ns ms → (c : Clause) → clause_faults ns c ≡ clause_faults ms c
clause_same ns ms s (tree.match_paths is_optional ps condition) = both (paths_faults_same matching ns ms s ps) (if_any_same (add_path_names ps ns) (add_path_names ps ms) (paths_same ps s) condition)
clause_same ns ms s (tree.unwind x n) = both (expression_same ns ms s elsewhere x) (ap (λ b. found_if b n.place VariableAlreadyBound) (s.is n.text))
clause_same ns ms s (tree.create ps) = paths_faults_same creating ns ms s ps
clause_same ns ms s (tree.merge p os) =
    let after : Names → Names = λ ls. add_path_names (p ∷ []) ls in
    both (paths_faults_same merging ns ms s (p ∷ []))
    (each_same (λ (o : Bool × List SetItem). flat_map (set_faults (after ns)) o.1) (λ (o : Bool × List SetItem). flat_map (set_faults (after ms)) o.1)
    (λ o. each_same (set_faults (after ns)) (set_faults (after ms)) (set_same (after ns) (after ms) (paths_same (p ∷ []) s)) o.1) os)
clause_same ns ms s (tree.set_items xs) = each_same (set_faults ns) (set_faults ms) (set_same ns ms s) xs
clause_same ns ms s (tree.remove_items xs) = each_same (remove_faults ns) (remove_faults ms) (remove_same ns ms s) xs
clause_same ns ms s (tree.delete is_detach xs) = each_same (faults_of ns) (faults_of ms) (expression_same ns ms s elsewhere) xs
clause_same ns ms s (tree.with_rows p condition) = projection_same Variable ns ms s p condition
clause_same ns ms s (tree.return_rows p) = both (star_same ns ms s p.star) (projection_same Source ns ms s p None)

pub after_same : (ns ms : Names) → HasSame ns ms → (c : Clause) → HasSame (scope_after ns c) (scope_after ms c)
after_same ns ms s (tree.match_paths is_optional ps condition) = paths_same ps s
after_same ns ms s (tree.unwind x n) = record { is = λ m. among_added ns n.text m ∙ ap (λ b. bytes_eq m n.text || b) (s.is m) ∙ sym (among_added ms n.text m) }
after_same ns ms s (tree.create ps) = paths_same ps s
after_same ns ms s (tree.merge p os) = paths_same (p ∷ []) s
after_same ns ms s (tree.set_items xs) = s
after_same ns ms s (tree.remove_items xs) = s
after_same ns ms s (tree.delete is_detach xs) = s
after_same ns ms s (tree.with_rows p condition) = names_same Variable ns ms s p
after_same ns ms s (tree.return_rows p) = names_same Source ns ms s p

-- one clause more
pub steps_more : {names ns behind : Names} {c : Clause} {before first : Option PlacedFault} → HasSame names ns → Steps names c before first behind → IsFirst before (clause_faults ns c) first × HasSame behind (scope_after ns c)
steps_more {names} {ns} {behind} {c} {before} {first} s h = (subst (λ fs. IsFirst before fs first) (clause_same names ns s c) h.faults, same_in_turn h.names_behind (after_same names ns s c))

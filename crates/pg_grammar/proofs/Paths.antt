-- Paths.
use Rattle.std.proofs.Common.{◌≡◌, ℕ, Bool, true, false, List, [], ◌∷◌, ◌++◌, map, Option, Some, None, refl, sym, append_assoc}
use Rattle.std.proofs.lemmas.List.{append-nil}
use Rattle.std.specs.List.{AllByRecursion}
use Rattle.pg_meaning.specs.declared.lexemes.Symbol.TheVariants as s
use Rattle.pg_meaning.specs.Tokens.{Lexeme, Token}
use Rattle.pg_meaning.specs.Tree.{Name, Expression, NodePattern, RelationshipPattern, PathPattern}
use Rattle.pg_meaning.specs.Grammar.{Mark, sign, begun, flag, concatenated, optional_marks, node_marks, relationship_marks, hop_marks, path_variable_marks, path_marks, variable_name, IsHop, IsSpelled, Fit, Each as EachOf}
use Rattle.pg_meaning.specs.Parse as parse
use Rattle.pg_meaning.specs.Parse.{Parser, ◌>>=◌, ◌>>◌, pure, many, maybe, is_symbol, sees_symbol, begins_var, begins_relationship, hop, node, path, path_variable}
use Rattle.pg_grammar.specs.Patterns.{opens_path, PathOpened, PathsOpen}
use Rattle.pg_grammar.specs.Rules.{Exactly, Exact, Anything, PathSpelled, NoHop, PathsAreExact}
use Rattle.pg_grammar.proofs.Nodes.{HasProperties, node_exact}
use Rattle.pg_grammar.proofs.Properties.{var_begins}
use Rattle.pg_grammar.proofs.Relationships.{HasDetail, relationship_exact}
use Rattle.pg_grammar.proofs.Combinators.{Fitting, Free, After, fitting, restated, step, behind, made, maybe_exact, rows_exact, symbol_exact, var_exact, ending}
use Rattle.pg_grammar.proofs.FirstTokens.{shown}

-- ---- the path's variable

path_variable_exact : (limit : ℕ) → Exactly limit path_variable (Fitting (λ n. Free n × Free n) path_variable_marks) Anything
path_variable_exact limit = step (λ (n : Name). n) Free (var_exact limit) (λ n. behind (symbol_exact s.Equal) (made n (λ (m : Name). (m ≡ n) × Free m) (refl, tt) (λ m h. sym h.0))) (λ n y more well fits ends. tt)

path_variable_or_none : (limit : ℕ) → Exactly limit (maybe begins_var path_variable) (Fitting (EachOf (λ n. Free n × Free n)) (optional_marks path_variable_marks)) (After begins_var Anything)
path_variable_or_none limit = maybe_exact begins_var (path_variable_exact limit) (λ n front more h. var_begins n (sign s.Equal ∷ []) front more h.fits)

each_free : (o : Option Name) → EachOf (λ n. Free n × Free n) o
each_free None = tt
each_free (Some n) = (tt, tt)

-- ---- hops

abbrev Hop : Type 0
Hop = RelationshipPattern × NodePattern

abbrev made_hop : RelationshipPattern → NodePattern → Hop
made_hop r n = (r, n)

abbrev from_node : Hop → List Mark
from_node h = node_marks h.1 ++ []

abbrev from_relationship : Hop → List Mark
from_relationship h = relationship_marks h.0 ++ from_node h

abbrev HopWell : Hop → Type 0
HopWell h = HasDetail h.0 × (HasProperties h.1 × Free h)

no_head : (n : NodePattern) (ms : List Mark) (y more : List Token) → Fit y (node_marks n ++ ms) → sees_symbol s.Greater (y ++ more) ≡ false
unfolding parse.same_symbol
no_head n ms y more fits = shown (is_symbol s.Greater) (node_marks n ++ ms) y more (λ l h. rw h refl) fits

no_var : (n : NodePattern) (ms : List Mark) (y more : List Token) → Fit y (node_marks n ++ ms) → begins_var (y ++ more) ≡ false
no_var n ms y more fits = shown _ (node_marks n ++ ms) y more (λ l h. rw h refl) fits

hop_exact : (limit : ℕ) (whole : Parser Expression) → Exact limit 1 whole → Exactly limit (hop whole) (Fitting HopWell from_relationship) Anything
hop_exact limit whole exact =
    step (λ (h : Hop). h.0) Free (relationship_exact limit whole exact)
    (λ r. step (λ (h : Hop). h.1) (λ (h : Hop). (h.0 ≡ r) × Free h) (node_exact limit whole exact)
    (λ n. made (made_hop r n) (λ (h : Hop). (h.1 ≡ n) × ((h.0 ≡ r) × Free h)) (refl, (refl, tt)) (λ h e. rw (← e.0, ← e.1.0) refl))
    (λ h y more well fits ends. tt))
    (λ h y more well fits ends. no_head h.1 [] y more fits)

same_hops : (hs : List Hop) → concatenated (map from_relationship hs) ≡ hop_marks hs
same_hops [] = refl
same_hops (h ∷ hs) = rw (same_hops hs) (simp (append_assoc, append-nil))

well_hops : (hs : List Hop) → AllByRecursion HopWell hs → AllByRecursion IsHop hs
well_hops [] well = tt
well_hops (h ∷ hs) well = ((well.0.0, well.0.1.0), well_hops hs well.1)

hops_well : (hs : List Hop) → AllByRecursion IsHop hs → AllByRecursion HopWell hs
hops_well [] well = tt
hops_well (h ∷ hs) well = ((well.0.0, (well.0.1, tt)), hops_well hs well.1)

relationship_begins : (r : RelationshipPattern) (ms : List Mark) (y more : List Token) → Fit y (relationship_marks r ++ ms) → begins_relationship (y ++ more) ≡ true
unfolding parse.same_symbol
relationship_begins r ms y more fits = by r.left_head _ y fits
  where
    by : (b : Bool) (ns : List Mark) (l : List Token) → Fit l (begun r.place (flag b (sign s.Less) ++ sign s.Minus ∷ ns) ++ ms) → begins_relationship (l ++ more) ≡ true
    by true ns [] fits = absurd fits
    by false ns [] fits = absurd fits
    by true ns (t ∷ l) fits = rw fits.0.spelled refl
    by false ns (t ∷ l) fits = rw fits.0.spelled refl

hops_exact : (limit : ℕ) (whole : Parser Expression) → Exact limit 1 whole → Exactly limit (many begins_relationship (hop whole) []) (Fitting (AllByRecursion IsHop) hop_marks) NoHop
hops_exact limit whole exact =
    restated
    (rows_exact begins_relationship refl (hop_exact limit whole exact) (λ h front more f. relationship_begins h.0 (from_node h) front more f.fits) (λ more h. (h, tt)) (λ more h. tt))
    out into (λ more h. h)
  where
    out : (hs : List Hop) (front : List Token) → Fitting (AllByRecursion HopWell) (λ hs. concatenated (map from_relationship hs)) hs front → Fitting (AllByRecursion IsHop) hop_marks hs front
    out hs front h = fitting (well_hops hs h.well) (rw (← same_hops hs) h.fits)

    into : (hs : List Hop) (front : List Token) → Fitting (AllByRecursion IsHop) hop_marks hs front → Fitting (AllByRecursion HopWell) (λ hs. concatenated (map from_relationship hs)) hs front
    into hs front h = fitting (hops_well hs h.well) (rw (same_hops hs) h.fits)

-- ---- a path

abbrev made_path : Option Name → NodePattern → List Hop → PathPattern
made_path n x hs = record { variable = n; first = x; hops = hs }

abbrev from_hops : PathPattern → List Mark
from_hops p = hop_marks p.hops ++ []

abbrev from_first : PathPattern → List Mark
from_first p = node_marks p.first ++ from_hops p

abbrev from_variable : PathPattern → List Mark
from_variable p = optional_marks path_variable_marks p.variable ++ from_first p

abbrev Inner : PathPattern → Type 0
Inner p = EachOf (λ n. Free n × Free n) p.variable × (HasProperties p.first × (AllByRecursion IsHop p.hops × Free p))

same_path : (p : PathPattern) → path_marks p ≡ from_variable p
same_path p = simp (append_assoc, append-nil)

path_exact : (limit : ℕ) (whole : Parser Expression) → Exact limit 1 whole → Exactly limit (path whole) PathSpelled NoHop
unfolding path
path_exact limit whole exact =
    restated
    (step (λ (p : PathPattern). p.variable) Free (path_variable_or_none limit)
    (λ n. step (λ (p : PathPattern). p.first) (λ (p : PathPattern). (p.variable ≡ n) × Free p) (node_exact limit whole exact)
    (λ x. step (λ (p : PathPattern). p.hops) (λ (p : PathPattern). (p.first ≡ x) × ((p.variable ≡ n) × Free p)) (hops_exact limit whole exact)
    (λ hs. made (made_path n x hs) (λ (p : PathPattern). (p.hops ≡ hs) × ((p.first ≡ x) × ((p.variable ≡ n) × Free p))) (refl, (refl, (refl, tt))) (λ p h. rw (← h.0, ← h.1.0, ← h.1.1.0) refl))
    (λ p y more well fits ends. ending NoHop y more fits ends))
    (λ p y more well fits ends. tt))
    (λ p y more well fits ends. (no_var p.first (from_hops p) y more fits, tt)))
    out into (λ more h. h)
  where
    out : (p : PathPattern) (front : List Token) → Fitting Inner from_variable p front → PathSpelled p front
    out p front h = let w = h.well in record { well = (w.1.0, w.1.1.0); fits = rw (same_path p) h.fits }

    into : (p : PathPattern) (front : List Token) → PathSpelled p front → Fitting Inner from_variable p front
    into p front h = let w = h.well in fitting (each_free p.variable, (w.0, (w.1, tt))) (rw (← same_path p) h.fits)

pub paths_exact : ((n : ℕ) → Exact n 1 (parse.expr n)) → PathsAreExact
paths_exact exact n = path_exact n (parse.expr n) (exact n)

-- ---- what a path begins with

variable_opens : (q : Bool) (w : List ℕ) (l : Lexeme) → IsSpelled (variable_name q w) l → opens_path l ≡ true
variable_opens true w l h = rw h refl
variable_opens false w l h = rw h refl

pub path_opens : PathsOpen
path_opens p front fits = by p.variable _ front (rw (same_path p) at fits)
  where
    by : (v : Option Name) (ms : List Mark) (l : List Token) → Fit l (optional_marks path_variable_marks v ++ (node_marks p.first ++ ms)) → PathOpened l
    by None ms [] fits = absurd fits
    by None ms (t ∷ l) fits = record { token = t; others = l; whole = refl; first = rw fits.0.spelled refl }
    by (Some n) ms [] fits = absurd fits
    by (Some n) ms (t ∷ l) fits = record { token = t; others = l; whole = refl; first = variable_opens n.quoted n.text t.lexeme fits.0.spelled }

-- What the known conjuncts of a condition tell of all its conjuncts.
use Rattle.std.proofs.Common.{◌≡◌, ◌<◌, ◌≤◌, ◌+◌, ◌++◌, ℕ, Bool, true, false, cond, List, [], ◌∷◌, map, drop, get_or, length, Option, Some, None, Result, Ok, Err, refl, sym, ap, subst, ◌∙◌}
use Rattle.std.proofs.lemmas.List.{at_drop_all, at_drop_more, drop-map}
use Rattle.std.proofs.lemmas.Option.{get_or_from_slice_get, slice_get_within}
use Rattle.std.specs.Prelude.{is_some, slice_get}
use Rattle.pg_expr.proofs.ChainLemmas.{conjuncts_from}
use Rattle.pg_expr.proofs.Conjuncts.{by_answer}
use Rattle.pg_expr.specs.Conditions.{is_true_at}
use Rattle.pg_expr.specs.KnownConjuncts.{IsConjunctOf, StandFor, conjunct_given, given_then, left_behind}
use Rattle.pg_expr.specs.declared.known_conjuncts.KnownConjunct.{KnownConjunct}
use Rattle.pg_meaning.specs.Answer.{◌>>=◌}
use Rattle.pg_meaning.specs.Conditions.{all_true}
use Rattle.pg_meaning.specs.Expressions.{evaluate}
use Rattle.pg_meaning.specs.Graph.{Graph}
use Rattle.pg_meaning.specs.Rows.{Row}
use Rattle.pg_meaning.specs.Tree as tree
use Rattle.pg_meaning.specs.Value.{Value as Datum, Entries}
use Rattle.pg_meaning.specs.declared.fault.Fault.{Fault}
use Rattle.pg_meaning.specs.declared.operators.Operator.{Operator}
use Rattle.pg_rows.specs.Named.{row_of}
use Rattle.pg_syntax_tree.specs.View.{expression_view}
use Rattle.pg_syntax_tree.specs.declared.expression.Expression.{Expression}

-- ---- known conjuncts at a row

by_truth : (q a b : Result Bool Fault) → (a ≡ Ok false → b ≡ Ok false) → (q >>= λ t. cond t a (Ok false)) ≡ Ok false → (q >>= λ t. cond t b (Ok false)) ≡ Ok false
by_truth (Ok true) a b f h = f h
by_truth (Ok false) a b f h = refl
by_truth (Err e) a b f h = h

on_truth : (q a b rest : Result Bool Fault) → (a ≡ Ok true → b ≡ rest) → (q >>= λ t. cond t a (Ok false)) ≡ Ok true → (q >>= λ t. cond t b (Ok false)) ≡ rest
on_truth (Ok true) a b rest f h = f h
on_truth (Ok false) a b rest f h = absurd (let no : ◌≡◌ {A = Result Bool Fault} (Ok false) (Ok true) = h in cc)
on_truth (Err e) a b rest f h = absurd (let no : ◌≡◌ {A = Result Bool Fault} (Err e) (Ok true) = h in cc)

module _ (values : List Datum) (g : Graph) where
  appended : (ks : List KnownConjunct) (k : KnownConjunct) (rest : Result Bool Fault)
      → given_then (ks ++ k ∷ []) values g rest ≡ given_then ks values g (conjunct_given k values g >>= λ b. cond b rest (Ok false))
  appended [] k rest = refl
  appended (x ∷ ks) k rest = ap (λ r. conjunct_given x values g >>= λ b. cond b r (Ok false)) (appended ks k rest)

  -- one that is not true decides
  pub false_anyway : (ks : List KnownConjunct) (rest : Result Bool Fault) → given_then ks values g (Ok true) ≡ Ok false → given_then ks values g rest ≡ Ok false
  false_anyway [] rest h = absurd (let no : ◌≡◌ {A = Result Bool Fault} (Ok true) (Ok false) = h in cc)
  false_anyway (k ∷ ks) rest h = by_truth (conjunct_given k values g) (given_then ks values g (Ok true)) (given_then ks values g rest) (false_anyway ks rest) h

  -- where all are true, what is behind them decides
  pub true_then : (ks : List KnownConjunct) (rest : Result Bool Fault) → given_then ks values g (Ok true) ≡ Ok true → given_then ks values g rest ≡ rest
  true_then [] rest h = refl
  true_then (k ∷ ks) rest h = on_truth (conjunct_given k values g) (given_then ks values g (Ok true)) (given_then ks values g rest) rest (true_then ks rest) h

  pub first_given : (k : KnownConjunct) (ks : List KnownConjunct) (rest : Result Bool Fault) (b : Bool) → conjunct_given k values g ≡ Ok b
      → given_then (k ∷ ks) values g rest ≡ cond b (given_then ks values g rest) (Ok false)
  first_given k ks rest b h = ap (λ r. r >>= λ t. cond t (given_then ks values g rest) (Ok false)) h

  -- one after the other
  module _ (ks : List KnownConjunct) (i : ℕ) (so_far : given_then ks values g (Ok true) ≡ given_then (drop i ks) values g (Ok true)) where
    pub at_place : (k : KnownConjunct) (b : Bool) → slice_get ks i ≡ Some k → conjunct_given k values g ≡ Ok b
        → given_then ks values g (Ok true) ≡ cond b (given_then (drop (i + 1) ks) values g (Ok true)) (Ok false)
    at_place k b there h =
        so_far
        ∙ at_drop_more (λ (cs : List KnownConjunct). given_then cs values g (Ok true)) ks i k (slice_get_within ks i k there)
        ∙ ap (λ c. given_then (c ∷ drop (i + 1) ks) values g (Ok true)) (get_or_from_slice_get ks i k k there)
        ∙ first_given k (drop (i + 1) ks) (Ok true) b h

    pub at_end : length ks ≤ i → given_then ks values g (Ok true) ≡ Ok true
    at_end past = so_far ∙ at_drop_all (λ (cs : List KnownConjunct). given_then cs values g (Ok true)) ks i past

-- ---- what known conjuncts stand for

in_front : (row : Row) (parameters : Entries) (g : Graph) (e : tree.Expression) (es : List tree.Expression)
    → all_true row parameters g (e ∷ es) ≡ ((evaluate row parameters g e >>= is_true_at) >>= λ b. cond b (all_true row parameters g es) (Ok false))
in_front row parameters g e es = by_answer (evaluate row parameters g e) (all_true row parameters g es)

module _ (names : List (List ℕ)) (parameters : Entries) where
  pub none_known : (es : List tree.Expression) → StandFor names parameters [] es es
  none_known es = λ values g. refl

  pub one_known : (k : KnownConjunct) (e : tree.Expression) (es : List tree.Expression) → IsConjunctOf names parameters k e → StandFor names parameters (k ∷ []) (e ∷ es) es
  one_known k e es h = λ values g.
      in_front (row_of names values) parameters g e es
      ∙ ap (λ r. r >>= λ b. cond b (all_true (row_of names values) parameters g es) (Ok false)) (h values g)

  more_known : (ks : List KnownConjunct) (k : KnownConjunct) (all : List tree.Expression) (e : tree.Expression) (left : List tree.Expression) → StandFor names parameters ks all (e ∷ left)
      → IsConjunctOf names parameters k e → StandFor names parameters (ks ++ k ∷ []) all left
  more_known ks k all e left so_far h = λ values g.
      so_far values g
      ∙ ap (given_then ks values g) (one_known k e left h values g)
      ∙ sym (appended values g ks k (all_true (row_of names values) parameters g left))

  -- the operands of a chain, one after the other
  module _ (ks : List KnownConjunct) (all : List tree.Expression) (xs os : List (Operator × Expression)) (same : xs ≡ os) (i : ℕ) (so_far : StandFor names parameters ks all (conjuncts_from (drop i os))) where
    pub next_known : (o : Operator × Expression) (k : KnownConjunct) → i < length xs → o ≡ get_or xs i o → IsConjunctOf names parameters k (expression_view o.1)
        → StandFor names parameters (ks ++ k ∷ []) all (conjuncts_from (drop (i + 1) os))
    next_known o k within is h =
        let left = λ (ps : List (Operator × Expression)). conjuncts_from ps in
        let here = at_drop_more left os i o (subst (λ ps. i < length ps) same within) ∙ ap (λ p. left (p ∷ drop (i + 1) os)) (sym (subst (λ ps. o ≡ get_or ps i o) same is)) in
        more_known ks k all (expression_view o.1) (conjuncts_from (drop (i + 1) os)) (subst (StandFor names parameters ks all) here so_far) h

-- ---- what is left behind them

from_map : (os : List (Operator × Expression)) → conjuncts_from os ≡ map (λ o. expression_view o.1) os
from_map [] = refl
from_map (o ∷ os) = ap (λ es. expression_view o.1 ∷ es) (from_map os)

pub from_drop : (n : ℕ) (os : List (Operator × Expression)) → drop n (conjuncts_from os) ≡ conjuncts_from (drop n os)
from_drop n os = ap (drop n) (from_map os) ∙ drop-map (λ (o : Operator × Expression). expression_view o.1) n os ∙ sym (from_map (drop n os))

pub left_in_chain : (first : Option KnownConjunct) (ks : List KnownConjunct) (es : List tree.Expression) (e : tree.Expression) (os : List (Operator × Expression)) → is_some first ≡ true
    → es ≡ e ∷ conjuncts_from os → left_behind first ks es ≡ conjuncts_from (drop (length ks) os)
left_in_chain None ks es e os h is = absurd (let no : false ≡ true = h in cc)
left_in_chain (Some k) ks es e os h is = ap (left_behind (Some k) ks) is ∙ from_drop (length ks) os

pub none_left : (xs os : List (Operator × Expression)) → xs ≡ os → (i : ℕ) → length xs ≤ i → conjuncts_from (drop i os) ≡ []
none_left xs os same i past = at_drop_all conjuncts_from os i (subst (λ ps. length ps ≤ i) same past)

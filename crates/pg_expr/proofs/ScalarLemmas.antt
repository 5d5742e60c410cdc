-- What is told of a whole, by what is told of its parts.
use Rattle.std.proofs.Common.{◌≡◌, ℕ, Bool, true, false, List, [], ◌∷◌, Option, Some, None, Ok, refl, sym, ap, subst, ◌∙◌}
use Rattle.std.specs.Prelude.{IfSome, is_none, is_some, option_map}
use Rattle.pg_expr.proofs.Turns as turn
use Rattle.pg_expr.proofs.Walks.{chain_of, met_when, next_unmet, result_of, true_of}
use Rattle.pg_expr.specs.Conditions.{is_true_at}
use Rattle.pg_expr.specs.Contexts.{given}
use Rattle.pg_expr.specs.Operators.{all_negated, truth_compared}
use Rattle.pg_expr.specs.Scalars.{Chooses, Tells, ThenTells, BothTell, TruthIn}
use Rattle.pg_expr.specs.declared.row_context.RowContext.{RowContext}
use Rattle.pg_meaning.specs.Answer.{Answer, ◌>>=◌}
use Rattle.pg_meaning.specs.Expressions.{by_truth, combined, compared}
use Rattle.pg_meaning.specs.Graph.{Graph}
use Rattle.pg_meaning.specs.Logic.{and3, negated, truth_of, value_of_truth}
use Rattle.pg_meaning.specs.Value.{Value as Datum, boolean}
use Rattle.pg_meaning.specs.declared.logic.Tri.{Tri}
use Rattle.pg_meaning.specs.declared.logic.Tri.TheVariants.{True, False, Null}
use Rattle.pg_meaning.specs.declared.operators.Operator.{Operator}
use Rattle.pg_syntax_tree.specs.View.{expression_view}
use Rattle.pg_syntax_tree.specs.declared.expression.Expression.{Expression}

pub tells_by : {a b : Answer} (told : Option Datum) → a ≡ b → Tells told b → Tells told a
tells_by told same h = subst (λ q. Tells told q) (sym same) h

pub untold : (a : Answer) {told : Option Datum} → told ≡ None → Tells told a
untold a h = subst (λ q. Tells q a) (sym h) tt

pub then_told : (o told : Option Datum) (a : Answer) (next : Datum → Answer) → Tells o a → ThenTells o told next → Tells told (a >>= next)
then_told None told a next h k = untold _ k
then_told (Some v) told a next h k = subst (λ q. Tells told (q >>= next)) (sym h) k

pub then_told_by : (o told : Option Datum) (a : Answer) (next other : Datum → Answer) → ((v : Datum) → other v ≡ next v) → Tells o a → ThenTells o told next → Tells told (a >>= other)
then_told_by None told a next other same h k = untold _ k
then_told_by (Some v) told a next other same h k = subst (λ q. Tells told (q >>= other)) (sym h) (tells_by told (same v) k)

-- both operands, one behind the other
pub both_told_by : (o p told : Option Datum) (a b : Answer) (next : Datum → Datum → Answer) (other : Datum → Answer) → ((v : Datum) → other v ≡ (b >>= next v)) → Tells o a → Tells p b → BothTell o p told next
    → Tells told (a >>= other)
both_told_by None p told a b next other same h k both = untold _ both
both_told_by (Some v) p told a b next other same h k both = subst (λ q. Tells told (q >>= other)) (sym h) (tells_by told (same v) (then_told p told b (next v) k both))

pub told_is : {told : Option Datum} {a : Answer} (v : Datum) → told ≡ Some v → a ≡ Ok v → Tells told a
told_is {a = a} v h same = subst (λ q. Tells q a) (sym h) same

-- the truth of a boolean is itself
pub true_boolean : (b : Bool) → is_true_at (boolean b) ≡ Ok b
true_boolean true = refl
true_boolean false = refl

pub nothing_then : (o : Option Datum) (next : Datum → Answer) → ThenTells o None next
nothing_then None next = refl
nothing_then (Some v) next = tt

pub nothing_of_both : (o p : Option Datum) (next : Datum → Datum → Answer) → BothTell o p None next
nothing_of_both None p next = refl
nothing_of_both (Some v) p next = nothing_then p (next v)

-- what truth values tell
pub by_truths : (f : Tri → Tri → Tri) (v w : Datum) (x y : Tri) → truth_of v ≡ Ok x → truth_of w ≡ Ok y → by_truth f v w ≡ Ok (value_of_truth (f x y))
by_truths f v w x y h k = ap (λ r. r >>= λ s. truth_of w >>= λ t. Ok (value_of_truth (f s t))) h ∙ ap (λ r. r >>= λ t. Ok (value_of_truth (f x t))) k

pub negated_told : (o : Option Datum) (t : Tri) (n : ℕ) (told : Option Datum) → TruthIn o (Some t) → told ≡ Some (value_of_truth (negated n t)) → ThenTells o told (all_negated n)
negated_told None t n told h k = absurd h
negated_told (Some v) t n told h k = told_is (value_of_truth (negated n t)) k (ap (λ r. r >>= λ u. Ok (value_of_truth (negated n u))) h)

pub logic_told : (o p : Option Datum) (t : Tri) (told : Option Datum) (next : Datum → Datum → Answer) → TruthIn o (Some t) → ((v : Datum) → truth_of v ≡ Ok t → ThenTells p told (next v)) → BothTell o p told next
logic_told None p t told next h k = absurd h
logic_told (Some v) p t told next h k = k v h

pub second_told : (p : Option Datum) (t : Tri) (u : Option Tri) (told : Option Datum) (next : Datum → Answer) → TruthIn p (Some t) → told ≡ option_map value_of_truth u
    → IfSome u (λ x. (w : Datum) → truth_of w ≡ Ok t → next w ≡ Ok (value_of_truth x)) → ThenTells p told next
second_told None t u told next h k m = absurd h
second_told (Some w) t None told next h k m = untold _ k
second_told (Some w) t (Some x) told next h k m = told_is (value_of_truth x) k (m w h)

pub at_each : (o : Operator) (x y : Tri) (u : Option Tri) (v : Datum) → truth_of v ≡ Ok x → IfSome u (λ z. (v w : Datum) → truth_of v ≡ Ok x → truth_of w ≡ Ok y → combined o v w ≡ Ok (value_of_truth z))
    → IfSome u (λ z. (w : Datum) → truth_of w ≡ Ok y → combined o v w ≡ Ok (value_of_truth z))
at_each o x y None v h k = tt
at_each o x y (Some z) v h k = λ w m. k v w h m

-- what a comparison tells
and_true : (t : Tri) → and3 t True ≡ t
and_true True = refl
and_true False = refl
and_true Null = refl

pub compared_told : (o : Operator) (v w : Datum) (t : Option Tri) (told : Option Datum) → told ≡ option_map value_of_truth t → IfSome t (λ u. compared o v w ≡ Ok u) → Tells told (truth_compared v ((o, w) ∷ []))
compared_told o v w None told h k = untold (truth_compared v ((o, w) ∷ [])) h
compared_told o v w (Some u) told h k =
    told_is (value_of_truth u) h (ap (λ r. (r >>= λ t. (Ok True) >>= λ x. Ok (and3 t x)) >>= λ t. Ok (value_of_truth t)) k ∙ ap (λ x. Ok (value_of_truth x)) (and_true u))

pub nothing_follows : (o : Option Datum) (next : Datum → Answer) → is_none o ≡ true → ThenTells o None next
nothing_follows None next h = refl
nothing_follows (Some v) next h = tt

pub at_end : (o : Option Datum) → ThenTells o o (λ v. Ok v)
at_end None = refl
at_end (Some v) = refl

module _ (s : RowContext) (g : Graph) (p : Operator × Expression) (rest : List (Operator × Expression)) where
  -- what an operand tells of the chain from there on, by what its successor does
  pub next_told : (o right next : Option Datum) → Tells right (given s g (expression_view p.1)) → BothTell o right next (combined p.0)
      → (told : Option Datum) → ThenTells next told (λ u. chain_of s g u rest) → ThenTells o told (λ v. chain_of s g v (p ∷ rest))
  next_told None right next h both told k = subst (λ q. ThenTells q told (λ u. chain_of s g u rest)) both k
  next_told (Some v) None next h both told k = untold _ (subst (λ q. ThenTells q told (λ u. chain_of s g u rest)) both k)
  next_told (Some v) (Some w) None h both told k = untold _ k
  next_told (Some v) (Some w) (Some u) h both told k = tells_by told (turn.next_combined s g v p rest w u h both) k

-- what a condition of CASE tells of the conditions from there on
module _ (s : RowContext) (g : Graph) (w : Expression × Expression) (rest : List (Expression × Expression)) where
  pub unmet_told : (o : Option Datum) → Tells o (given s g (expression_view w.0)) → Chooses o (Some false) → true_of s g None (w ∷ rest) ≡ true_of s g None rest
  unmet_told None h k = absurd k
  unmet_told (Some v) h k = next_unmet s g None w rest v h k

  pub met_told : (o : Option Datum) → Tells o (given s g (expression_view w.0)) → Chooses o (Some true) → true_of s g None (w ∷ rest) ≡ result_of s g w.1
  met_told None h k = absurd k
  met_told (Some v) h k = met_when s g None w rest v h k

pub none_there : {X : Type 0} (o : Option X) → is_some o ≡ false → o ≡ None
none_there None h = refl
none_there (Some x) h = absurd (let no : ⊥ = cc in no)

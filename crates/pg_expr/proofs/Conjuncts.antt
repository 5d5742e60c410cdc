-- One conjunct after the other.
use Rattle.std.proofs.Common.{◌≡◌, Bool, true, false, cond, List, [], ◌∷◌, Result, Ok, Err, refl, ap, ◌∙◌}
use Rattle.pg_expr.specs.Conditions.{is_met_by, all_met_by}
use Rattle.pg_expr.specs.Contexts.{given}
use Rattle.pg_expr.specs.declared.row_context.RowContext.{RowContext}
use Rattle.pg_meaning.specs.Answer.{Answer, ◌>>=◌}
use Rattle.pg_meaning.specs.Graph.{Graph}
use Rattle.pg_meaning.specs.Logic.{truth_of, is_true}
use Rattle.pg_meaning.specs.Tree as tree
use Rattle.pg_meaning.specs.declared.fault.Fault.{Fault}
use Rattle.pg_meaning.specs.declared.logic.Tri.{Tri}
use Rattle.pg_meaning.specs.declared.logic.Tri.TheVariants.{True, False, Null}

by_truth : (q : Result Tri Fault) (rest : Result Bool Fault) → (q >>= λ t. elim (is_true t) [ true ↦ rest | false ↦ Ok false ]) ≡ ((q >>= λ t. Ok (is_true t)) >>= λ b. cond b rest (Ok false))
by_truth (Ok True) rest = refl
by_truth (Ok False) rest = refl
by_truth (Ok Null) rest = refl
by_truth (Err e) rest = refl

pub by_answer : (r : Answer) (rest : Result Bool Fault) → (r >>= λ v. truth_of v >>= λ t. elim (is_true t) [ true ↦ rest | false ↦ Ok false ]) ≡ ((r >>= λ v. truth_of v >>= λ t. Ok (is_true t)) >>= λ b. cond b rest (Ok false))
by_answer (Ok v) rest = by_truth (truth_of v) rest
by_answer (Err e) rest = refl

alone_of : (b : Bool) → ◌≡◌ {A = Result Bool Fault} (cond b (Ok true) (Ok false)) (Ok b)
alone_of true = refl
alone_of false = refl

pub whole : (r : Result Bool Fault) → (r >>= λ b. cond b (Ok true) (Ok false)) ≡ r
whole (Ok b) = alone_of b
whole (Err e) = refl

module _ (s : RowContext) (g : Graph) where
  one_more : (e : tree.Expression) (es : List tree.Expression) → all_met_by s g (e ∷ es) ≡ (is_met_by s g e >>= λ b. cond b (all_met_by s g es) (Ok false))
  one_more e es = by_answer (given s g e) (all_met_by s g es)

  pub next_met : (e : tree.Expression) (es : List tree.Expression) (b : Bool) → is_met_by s g e ≡ Ok b → b ≡ true → all_met_by s g (e ∷ es) ≡ all_met_by s g es
  next_met e es b h k = one_more e es ∙ ap (λ r. r >>= λ c. cond c (all_met_by s g es) (Ok false)) h ∙ ap (λ c. cond c (all_met_by s g es) (Ok false)) k

  pub next_unmet : (e : tree.Expression) (es : List tree.Expression) (b : Bool) → is_met_by s g e ≡ Ok b → b ≡ false → all_met_by s g (e ∷ es) ≡ Ok false
  next_unmet e es b h k = one_more e es ∙ ap (λ r. r >>= λ c. cond c (all_met_by s g es) (Ok false)) h ∙ ap (λ c. cond c (all_met_by s g es) (Ok false)) k

  pub next_fault : (e : tree.Expression) (es : List tree.Expression) (f : Fault) → is_met_by s g e ≡ Err f → all_met_by s g (e ∷ es) ≡ Err f
  next_fault e es f h = one_more e es ∙ ap (λ r. r >>= λ c. cond c (all_met_by s g es) (Ok false)) h

  pub alone : (e : tree.Expression) → all_met_by s g (e ∷ []) ≡ is_met_by s g e
  alone e = one_more e [] ∙ whole (is_met_by s g e)

-- Comparisons of neighbours one after the other, and signs.
use Rattle.std.proofs.Common.{◌≡◌, Bool, List, [], ◌∷◌, ◌++◌, Result, Ok, Err, refl, sym, ap, ◌∙◌}
use Rattle.pg_meaning.specs.Answer.{Answer, ◌>>=◌}
use Rattle.pg_meaning.specs.Arithmetic.{signed}
use Rattle.pg_meaning.specs.Expressions.{all_compared, all_signed, compared}
use Rattle.pg_meaning.specs.Logic.{and3}
use Rattle.pg_meaning.specs.Value.{Value}
use Rattle.pg_meaning.specs.declared.fault.Fault.{Fault}
use Rattle.pg_meaning.specs.declared.logic.Tri.{Tri}
use Rattle.pg_meaning.specs.declared.logic.Tri.TheVariants.{True, False, Null}
use Rattle.pg_meaning.specs.declared.operators.Operator.{Operator}
use Rattle.pg_value.proofs.Tables.{and_associative}

abbrev pub together : Tri → Result Tri Fault → Result Tri Fault
together all rest = rest >>= λ u. Ok (and3 all u)

of_true : (u : Tri) → and3 True u ≡ u
of_true True = refl
of_true False = refl
of_true Null = refl

pub at_first : (r : Result Tri Fault) → r ≡ together True r
at_first (Ok u) = ap Ok (sym (of_true u))
at_first (Err e) = refl

grouped : (all t : Tri) (r : Result Tri Fault) → together all (r >>= λ u. Ok (and3 t u)) ≡ together (and3 all t) r
grouped all t (Ok u) = ap Ok (sym (and_associative all t u))
grouped all t (Err e) = refl

pub next_compared : (all t : Tri) (o : Operator) (v w : Value) (ps : List (Operator × Value)) → compared o v w ≡ Ok t → together all (all_compared v ((o, w) ∷ ps)) ≡ together (and3 all t) (all_compared w ps)
next_compared all t o v w ps h = ap (λ r. together all (r >>= λ s. all_compared w ps >>= λ u. Ok (and3 s u))) h ∙ grouped all t (all_compared w ps)

pub next_fault : (all : Tri) (o : Operator) (v w : Value) (ps : List (Operator × Value)) (e : Fault) → compared o v w ≡ Err e → together all (all_compared v ((o, w) ∷ ps)) ≡ Err e
next_fault all o v w ps e h = ap (λ r. together all (r >>= λ s. all_compared w ps >>= λ u. Ok (and3 s u))) h

and_true : (all : Tri) → and3 all True ≡ all
and_true True = refl
and_true False = refl
and_true Null = refl

pub at_last : (all : Tri) → together all (Ok True) ≡ Ok all
at_last all = ap Ok (and_true all)

in_turn : (a : Answer) (f h : Value → Answer) → (a >>= f >>= h) ≡ (a >>= λ v. f v >>= h)
in_turn (Ok v) f h = refl
in_turn (Err e) f h = refl

as_is : (a : Answer) → a ≡ (a >>= λ v. Ok v)
as_is (Ok v) = refl
as_is (Err e) = refl

-- the last sign goes first
pub last_sign : (ss : List Bool) (s : Bool) (v : Value) → all_signed (ss ++ s ∷ []) v ≡ (signed s v >>= all_signed ss)
last_sign [] s v = as_is (signed s v)
last_sign (t ∷ ss) s v = ap (λ a. a >>= signed t) (last_sign ss s v) ∙ in_turn (signed s v) (all_signed ss) (signed t)

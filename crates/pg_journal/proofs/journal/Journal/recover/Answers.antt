use Rattle.std.proofs.Common.{⊎_elim, inl, inr, rules}
use Rattle.pg_journal.proofs.journal.Journal.recover.Goals as goal

pub returns-in_err-slot-clause-refused : goal.returns-in_err-slot-clause-refused
returns-in_err-slot-clause-refused g c = λ honest is ks recovers.
    c.in_err-slot.ensures.refused honest (⊎_elim (λ d. inl (search rules)) (λ f. inr (search rules)) is) ks recovers

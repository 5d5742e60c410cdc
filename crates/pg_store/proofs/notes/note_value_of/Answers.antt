use Rattle.std.proofs.Common.{sym, ◌∙◌}
use Rattle.std.proofs.lemmas.Result.{on_ok_weaker}
use Rattle.pg_index.proofs.PropertyLemmas.{equal_at}
use Rattle.pg_store.proofs.notes.note_value_of.Goals as goal

pub returns-in-Some-clause-ok : goal.returns-in-Some-clause-ok
returns-in-Some-clause-ok c = on_ok_weaker c.note_value.result (λ noted v found. noted v (equal_at c.in-Some.value.now v (sym (c.in-Some.ensures.is v) ∙ found))) c.note_value.ensures.ok

pub returns-in-None-clause-ok : goal.returns-in-None-clause-ok
returns-in-None-clause-ok c = λ v found. let none = c.in-None.ensures.is v in absurd (cc (found, none))

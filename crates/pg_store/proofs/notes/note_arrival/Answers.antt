use Rattle.std.proofs.Common.{sym, ◌∙◌}
use Rattle.std.proofs.lemmas.Result.{on_ok_weaker}
use Rattle.pg_index.proofs.PropertyLemmas.{equal_at, one_found}
use Rattle.pg_index.specs.Properties.{finds}
use Rattle.pg_store.proofs.NoteLemmas.{or_left, or_right}
use Rattle.pg_store.proofs.notes.note_arrival.Goals as goal
use Rattle.pg_store.specs.Covers.{with_value}
use Rattle.pg_store.specs.Noted.{is_noted}

pub returns-in_default-clause-ok : goal.returns-in_default-clause-ok
returns-in_default-clause-ok c = λ v found. let none = c.in_default.ensures.is v in absurd (cc (found, none))

pub returns-then-has-clause-ok : goal.returns-then-has-clause-ok
returns-then-has-clause-ok c = λ v found.
    let index = c.args.index.now in
    or_left (finds index v c.args.id) (is_noted c.args.stale_ids.now.items (with_value index.label index.key v) c.args.id)
    (one_found index c.in-Some.value.now v c.args.id (equal_at c.in-Some.value.now v (sym (c.in-Some.ensures.is v) ∙ found)) ∙ sym c.has.ensures ∙ c.if-has.true)

pub returns-clause-ok : goal.returns-clause-ok
returns-clause-ok c =
    let index = c.args.index.now in
    on_ok_weaker c.note_value.result (λ noted v found.
    or_right (finds index v c.args.id) (is_noted c.note_value.new.stale_ids.items (with_value index.label index.key v) c.args.id)
    (noted v (equal_at c.in-Some.value.now v (sym (c.in-Some.ensures.is v) ∙ found)))) c.note_value.ensures.ok

use Rattle.std.proofs.Common.{sym, ap, ◌∙◌}
use Rattle.std.proofs.lemmas.Result.{on_ok_weaker}
use Rattle.pg_index.proofs.PropertyLemmas.{equal_at}
use Rattle.pg_index.specs.Properties.{is_equal, is_found_by}
use Rattle.pg_meaning.specs.Value as meaning
use Rattle.pg_store.proofs.NoteLemmas.{found_now, found_when, or_left, or_right, some_same}
use Rattle.pg_store.proofs.notes.note_label_value_left.Goals as goal
use Rattle.pg_store.specs.Covers.{with_value}
use Rattle.pg_store.specs.Noted.{is_noted}

pub returns-then-contains-clause-ok : goal.returns-then-contains-clause-ok
returns-then-contains-clause-ok c = λ v found.
    let index = c.args.index.now in
    let n = c.args.node.now in
    let was = found_when index.label index.key v (record n { labels = c.args.before.now }) found in
    or_left (is_found_by index.label index.key v n) (is_noted c.args.stale_ids.now.items (with_value index.label index.key v) c.args.id)
    (found_now index.label index.key v n was.1.0 (sym c.contains.ensures ∙ c.if-contains.true) was.1.1 was.1.2)

pub returns-then-not-contains-clause-ok : goal.returns-then-not-contains-clause-ok
returns-then-not-contains-clause-ok c = λ v found.
    let index = c.args.index.now in
    let n = c.args.node.now in
    let was = found_when index.label index.key v (record n { labels = c.args.before.now }) found in
    let labelled = was.0 in
    let is = c.contains-2.ensures in
    let test = c.if-not-contains.true in
    absurd (cc (labelled, is, test))

pub returns-in-Some-clause-ok : goal.returns-in-Some-clause-ok
returns-in-Some-clause-ok c =
    let index = c.args.index.now in
    let n = c.args.node.now in
    let w = c.in-Some.value.now in
    on_ok_weaker c.note_value.result (λ noted v found.
    let was = found_when index.label index.key v (record n { labels = c.args.before.now }) found in
    or_right (is_found_by index.label index.key v n) (is_noted c.note_value.new.stale_ids.items (with_value index.label index.key v) c.args.id)
    (noted v (equal_at w v (ap (λ (x : meaning.Value). is_equal x v) (some_same (c.in-Some.ensures ∙ was.1.1)) ∙ was.1.2)))) c.note_value.ensures.ok

pub returns-in-None-clause-ok : goal.returns-in-None-clause-ok
returns-in-None-clause-ok c = λ v found.
    let index = c.args.index.now in
    let n = c.args.node.now in
    let was = found_when index.label index.key v (record n { labels = c.args.before.now }) found in
    let at = was.1.1 in
    let none = c.in-None.ensures in
    absurd (cc (at, none))

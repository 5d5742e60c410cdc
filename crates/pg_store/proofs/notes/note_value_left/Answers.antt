use Rattle.std.proofs.Common.{◌≡◌, true, sym, ap, ◌∙◌}
use Rattle.std.proofs.lemmas.Result.{on_ok_weaker}
use Rattle.pg_index.proofs.PropertyLemmas.{equal_at, same_value}
use Rattle.pg_index.specs.Properties.{is_equal, is_found_by}
use Rattle.pg_meaning.specs.Value as meaning
use Rattle.pg_store.proofs.NoteLemmas.{found_alike, found_now, found_when, or_left, or_right, some_same}
use Rattle.pg_store.proofs.notes.note_value_left.Goals as goal
use Rattle.pg_store.specs.Covers.{with_value}
use Rattle.pg_store.specs.Edits.{properties_before}
use Rattle.pg_store.specs.Noted.{is_noted}
use Rattle.pg_value_core.specs.View.{view}

pub returns-in_default-clause-ok : goal.returns-in_default-clause-ok
returns-in_default-clause-ok c = λ v found.
    let index = c.args.index.now in
    let n = c.args.node.now in
    let was = found_when index.label index.key v (record n { properties = properties_before c.args.before.now n.properties }) found in
    or_left (is_found_by index.label index.key v n) (is_noted c.args.stale_ids.now.items (with_value index.label index.key v) c.args.id)
    (found_now index.label index.key v n was.1.0 was.0 (c.in_default.ensures.none n.properties was.1.0 was.1.1) was.1.2)

pub returns-then-not-contains-clause-ok : goal.returns-then-not-contains-clause-ok
returns-then-not-contains-clause-ok c = λ v found.
    let index = c.args.index.now in
    let n = c.args.node.now in
    let was = found_when index.label index.key v (record n { properties = properties_before c.args.before.now n.properties }) found in
    let labelled = was.0 in
    let is = c.contains.ensures in
    let test = c.if-not-contains.true in
    absurd (cc (labelled, is, test))

pub returns-then-is_sought-clause-ok : goal.returns-then-is_sought-clause-ok
returns-then-is_sought-clause-ok c = λ v found.
    let index = c.args.index.now in
    let n = c.args.node.now in
    let w = c.in-Some.value.now in
    let was = found_when index.label index.key v (record n { properties = properties_before c.args.before.now n.properties }) found in
    let equal : is_equal (view w) v ≡ true = ap (λ (x : meaning.Value). is_equal x v) (some_same (sym (c.in-Some.ensures.some n.properties) ∙ was.1.1)) ∙ was.1.2 in
    or_left (is_found_by index.label index.key v n) (is_noted c.args.stale_ids.now.items (with_value index.label index.key v) c.args.id)
    (found_alike index.label index.key v w n (sym (same_value w v (equal_at w v equal))) ∙ sym c.is_sought.ensures ∙ c.if-is_sought.true)

pub returns-clause-ok : goal.returns-clause-ok
returns-clause-ok c =
    let index = c.args.index.now in
    let n = c.args.node.now in
    let w = c.in-Some.value.now in
    on_ok_weaker c.note_value.result (λ noted v found.
    let was = found_when index.label index.key v (record n { properties = properties_before c.args.before.now n.properties }) found in
    or_right (is_found_by index.label index.key v n) (is_noted c.note_value.new.stale_ids.items (with_value index.label index.key v) c.args.id)
    (noted v (equal_at w v (ap (λ (x : meaning.Value). is_equal x v) (some_same (sym (c.in-Some.ensures.some n.properties) ∙ was.1.1)) ∙ was.1.2)))) c.note_value.ensures.ok

use Rattle.std.proofs.Common.{◌++◌, ap, ◌∙◌}
use Rattle.std.proofs.lemmas.Result.{on_ok_weaker, IfOk-from_err}
use Rattle.json.specs.Tree.{json_tokens}
use Rattle.serde_json.specs.Written.{outline}
use Rattle.pg_json.specs.Replies.{index_items, status_data}
use Rattle.pg_json.proofs.Writing.{two_parts}
use Rattle.pg_json.proofs.status.write_body.Goals as goal

pub returns-clause-ok : goal.returns-clause-ok
returns-clause-ok c =
    let a = c.args.to.now.tokens in
    let s = c.args.status.now in
    let begun = c.begin_object.new.self.tokens in
    let coded = c.write_natural.new.to.tokens in
    let counted = c.write_natural-2.new.to.tokens in
    let listed = c.write_indexes.new.to.tokens in
    let limited = c.write_pair.new.to.tokens in
    let numbered = c.write_pair-2.new.to.tokens in
    let b = c.end_object.new.self.tokens in
    on_ok_weaker c.end_object.result
    (λ last.
    two_parts a begun b _ _ c.in_ok-begin_object.ensures.ok (two_parts begun coded b _ _ c.in_ok-write_natural.ensures.ok (two_parts coded counted b _ _ c.in_ok-write_natural-2.ensures.ok
    (two_parts counted listed b _ _ c.in_ok-write_indexes.ensures.ok (two_parts listed limited b _ _ c.in_ok-write_pair.ensures.ok (two_parts limited numbered b _ _ c.in_ok-write_pair-2.ensures.ok last)))))
    ∙ ap (λ is. a ++ json_tokens (outline (status_data s.elements (index_items is) s.max_elements s.max_steps s.next_node s.next_rel))) c.deref.ensures.value)
    c.end_object.ensures.ok

pub returns-in_err-begin_object-clause-ok : goal.returns-in_err-begin_object-clause-ok
returns-in_err-begin_object-clause-ok c = IfOk-from_err c.from_residual.result _ c.from_residual.ensures.0

pub returns-in_err-begin_object-clause-before : goal.returns-in_err-begin_object-clause-before
returns-in_err-begin_object-clause-before c = c.begin_object.ensures.room.0

pub returns-in_err-write_natural-clause-ok : goal.returns-in_err-write_natural-clause-ok
returns-in_err-write_natural-clause-ok c = IfOk-from_err c.from_residual-in_err-write_natural.result _ c.from_residual-in_err-write_natural.ensures.0

pub returns-in_err-write_natural-clause-before : goal.returns-in_err-write_natural-clause-before
returns-in_err-write_natural-clause-before c = c.write_natural.ensures.before ∙ c.begin_object.ensures.room.0

pub returns-in_err-write_natural-2-clause-ok : goal.returns-in_err-write_natural-2-clause-ok
returns-in_err-write_natural-2-clause-ok c = IfOk-from_err c.from_residual-in_err-write_natural-2.result _ c.from_residual-in_err-write_natural-2.ensures.0

pub returns-in_err-write_natural-2-clause-before : goal.returns-in_err-write_natural-2-clause-before
returns-in_err-write_natural-2-clause-before c = c.write_natural-2.ensures.before ∙ c.write_natural.ensures.before ∙ c.begin_object.ensures.room.0

pub returns-in_err-write_indexes-clause-ok : goal.returns-in_err-write_indexes-clause-ok
returns-in_err-write_indexes-clause-ok c = IfOk-from_err c.from_residual-in_err-write_indexes.result _ c.from_residual-in_err-write_indexes.ensures.0

pub returns-in_err-write_indexes-clause-before : goal.returns-in_err-write_indexes-clause-before
returns-in_err-write_indexes-clause-before c = c.write_indexes.ensures.before ∙ c.write_natural-2.ensures.before ∙ c.write_natural.ensures.before ∙ c.begin_object.ensures.room.0

pub returns-in_err-write_pair-clause-ok : goal.returns-in_err-write_pair-clause-ok
returns-in_err-write_pair-clause-ok c = IfOk-from_err c.from_residual-in_err-write_pair.result _ c.from_residual-in_err-write_pair.ensures.0

pub returns-in_err-write_pair-clause-before : goal.returns-in_err-write_pair-clause-before
returns-in_err-write_pair-clause-before c = c.write_pair.ensures.before ∙ c.write_indexes.ensures.before ∙ c.write_natural-2.ensures.before ∙ c.write_natural.ensures.before ∙ c.begin_object.ensures.room.0

pub returns-in_err-write_pair-2-clause-ok : goal.returns-in_err-write_pair-2-clause-ok
returns-in_err-write_pair-2-clause-ok c = IfOk-from_err c.from_residual-in_err-write_pair-2.result _ c.from_residual-in_err-write_pair-2.ensures.0

pub returns-in_err-write_pair-2-clause-before : goal.returns-in_err-write_pair-2-clause-before
returns-in_err-write_pair-2-clause-before c = c.write_pair-2.ensures.before ∙ c.write_pair.ensures.before ∙ c.write_indexes.ensures.before ∙ c.write_natural-2.ensures.before ∙ c.write_natural.ensures.before ∙ c.begin_object.ensures.room.0

pub returns-clause-before : goal.returns-clause-before
returns-clause-before c = c.end_object.ensures.room.0 ∙ c.write_pair-2.ensures.before ∙ c.write_pair.ensures.before ∙ c.write_indexes.ensures.before ∙ c.write_natural-2.ensures.before ∙ c.write_natural.ensures.before ∙ c.begin_object.ensures.room.0

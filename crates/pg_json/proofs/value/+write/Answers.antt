use Rattle.std.proofs.Common.{List, [], ◌∷◌, ◌++◌, ◌∙◌, ap, sym, rules, codes, String, Global}
use Rattle.std.proofs.lemmas.Result.{on_ok_weaker, IfOk-from_err}
use Rattle.json.specs.Token.{Token, begin_object, begin_array, end_object, key}
use Rattle.json.specs.Tree.{json_tokens}
use Rattle.serde_json.specs.Data.{array, object}
use Rattle.serde_json.specs.Written.{outline}
use Rattle.pg_value_core.specs.declared.out.Out.{Out}
use Rattle.pg_json.specs.Elements.{rel_begun, rel_ended}
use Rattle.pg_json.specs.Replies.{data_of, outs, named_outs}
use Rattle.pg_json.proofs.Elements.{around, data_null, data_bool, data_text, data_path, data_rel, node_written}
use Rattle.pg_json.proofs.Written.{list_written, map_written, written_list, written_members, item_written, items_written, member_written, members_written}
use Rattle.pg_json.proofs.Writing.{two_steps}
use Rattle.pg_json.proofs.value.+write.Goals as goal

pub write-returns-in_ok-write_members-in-Node-clause-ok : goal.write-returns-in_ok-write_members-in-Node-clause-ok
write-returns-in_ok-write_members-in-Node-clause-ok t c =
    let n = c.in-Node in
    let a = c.args.to.now.tokens in
    let first = c.in_ok-begin_node-in-Node.ensures.ok in
    rw n.is
    (on_ok_weaker c.end_object.result
    (λ last. node_written a c.begin_node.new.to.tokens c.write_members-in-Node.new.to.tokens c.end_object.new.self.tokens n.id n.labels n.properties (search (rules, first)) (c.in_ok-write_members-in-Node.ensures.ok ∙ ap (λ ms. c.begin_node.new.to.tokens ++ json_tokens (outline (object (named_outs ms)))) c.deref-in-Node-2.ensures.value) last)
    c.end_object.ensures.ok)

pub write-returns-in_ok-write_members-in-Rel-clause-ok : goal.write-returns-in_ok-write_members-in-Rel-clause-ok
write-returns-in_ok-write_members-in-Rel-clause-ok t c =
    let r = c.in-Rel in
    let a = c.args.to.now.tokens in
    let shown : List (String Global × Out) → List Token = λ ms. json_tokens (outline (object (named_outs ms))) in
    let inside = shown r.properties.items in
    rw r.is
    (on_ok_weaker c.end_rel.result
    (λ last. around a c.begin_rel.new.to.tokens c.write_members-in-Rel.new.to.tokens c.end_rel.new.to.tokens (rel_begun r.id.0 r.end.0) inside (rel_ended r.start.0 c.deref-in-Rel-2.result.now) c.in_ok-begin_rel-in-Rel.ensures.ok (c.in_ok-write_members-in-Rel.ensures.ok ∙ ap (λ ms. c.begin_rel.new.to.tokens ++ shown ms) c.deref-in-Rel.ensures.value) last
    ∙ ap (λ kind. a ++ (rel_begun r.id.0 r.end.0 ++ (inside ++ rel_ended r.start.0 kind))) c.deref-in-Rel-2.ensures
    ∙ ap (λ d. a ++ json_tokens (outline d)) (sym (data_rel r.id r.kind r.start r.end r.properties)))
    c.end_rel.ensures.ok)

pub write-returns-in_ok-write_items-in-Path-clause-ok : goal.write-returns-in_ok-write_items-in-Path-clause-ok
write-returns-in_ok-write_items-in-Path-clause-ok t c =
    let p = c.in-Path in
    let a = c.args.to.now.tokens in
    let inside : List Out → List Token = λ es. json_tokens (outline (array (outs es))) in
    let before : List Token = begin_object ∷ key (codes "$path") ∷ [] in
    rw p.is
    (on_ok_weaker c.end_object-in-Path.result
    (λ last. around a c.begin_path.new.to.tokens c.write_items-in-Path.new.to.tokens c.end_object-in-Path.new.self.tokens before (inside c.deref-in-Path.result.now) (end_object ∷ []) c.in_ok-begin_path-in-Path.ensures.ok c.in_ok-write_items-in-Path.ensures.ok last
    ∙ ap (λ es. a ++ (before ++ (inside es ++ end_object ∷ []))) c.deref-in-Path.ensures.value
    ∙ ap (λ d. a ++ json_tokens (outline d)) (sym (data_path p.elements)))
    c.end_object-in-Path.ensures.ok)

pub write-returns-in_err-begin_node-in-Node-clause-ok : goal.write-returns-in_err-begin_node-in-Node-clause-ok
write-returns-in_err-begin_node-in-Node-clause-ok t c = IfOk-from_err c.from_residual.result _ c.from_residual.ensures.0

pub write-returns-in_err-begin_node-in-Node-clause-before : goal.write-returns-in_err-begin_node-in-Node-clause-before
write-returns-in_err-begin_node-in-Node-clause-before t c = c.begin_node.ensures.before

pub write-returns-in_err-write_members-in-Node-clause-ok : goal.write-returns-in_err-write_members-in-Node-clause-ok
write-returns-in_err-write_members-in-Node-clause-ok t c = IfOk-from_err c.from_residual-in_err-write_members-in-Node.result _ c.from_residual-in_err-write_members-in-Node.ensures.0

pub write-returns-in_err-write_members-in-Node-clause-before : goal.write-returns-in_err-write_members-in-Node-clause-before
write-returns-in_err-write_members-in-Node-clause-before t c = c.write_members-in-Node.ensures.before ∙ c.begin_node.ensures.before

pub write-returns-in_err-begin_rel-in-Rel-clause-ok : goal.write-returns-in_err-begin_rel-in-Rel-clause-ok
write-returns-in_err-begin_rel-in-Rel-clause-ok t c = IfOk-from_err c.from_residual-in_err-begin_rel-in-Rel.result _ c.from_residual-in_err-begin_rel-in-Rel.ensures.0

pub write-returns-in_err-begin_rel-in-Rel-clause-before : goal.write-returns-in_err-begin_rel-in-Rel-clause-before
write-returns-in_err-begin_rel-in-Rel-clause-before t c = c.begin_rel.ensures.before

pub write-returns-in_err-write_members-in-Rel-clause-ok : goal.write-returns-in_err-write_members-in-Rel-clause-ok
write-returns-in_err-write_members-in-Rel-clause-ok t c = IfOk-from_err c.from_residual-in_err-write_members-in-Rel.result _ c.from_residual-in_err-write_members-in-Rel.ensures.0

pub write-returns-in_err-write_members-in-Rel-clause-before : goal.write-returns-in_err-write_members-in-Rel-clause-before
write-returns-in_err-write_members-in-Rel-clause-before t c = c.write_members-in-Rel.ensures.before ∙ c.begin_rel.ensures.before

pub write-returns-in_err-begin_path-in-Path-clause-ok : goal.write-returns-in_err-begin_path-in-Path-clause-ok
write-returns-in_err-begin_path-in-Path-clause-ok t c = IfOk-from_err c.from_residual-in_err-begin_path-in-Path.result _ c.from_residual-in_err-begin_path-in-Path.ensures.0

pub write-returns-in_err-begin_path-in-Path-clause-before : goal.write-returns-in_err-begin_path-in-Path-clause-before
write-returns-in_err-begin_path-in-Path-clause-before t c = c.begin_path.ensures.before

pub write-returns-in_err-write_items-in-Path-clause-ok : goal.write-returns-in_err-write_items-in-Path-clause-ok
write-returns-in_err-write_items-in-Path-clause-ok t c = IfOk-from_err c.from_residual-in_err-write_items-in-Path.result _ c.from_residual-in_err-write_items-in-Path.ensures.0

pub write-returns-in_err-write_items-in-Path-clause-before : goal.write-returns-in_err-write_items-in-Path-clause-before
write-returns-in_err-write_items-in-Path-clause-before t c = c.write_items-in-Path.ensures.before ∙ c.begin_path.ensures.before

pub write-returns-in-Null-clause-before : goal.write-returns-in-Null-clause-before
write-returns-in-Null-clause-before t c = c.null.ensures.room.0

pub write-returns-in-Bool-clause-before : goal.write-returns-in-Bool-clause-before
write-returns-in-Bool-clause-before t c = c.boolean.ensures.room.0

pub write-returns-in-Int-clause-before : goal.write-returns-in-Int-clause-before
write-returns-in-Int-clause-before t c = c.write_integer.ensures.before

pub write-returns-in-Text-clause-before : goal.write-returns-in-Text-clause-before
write-returns-in-Text-clause-before t c = c.string.ensures.room.0

pub write-returns-in-List-clause-before : goal.write-returns-in-List-clause-before
write-returns-in-List-clause-before t c = c.write_items.ensures.before

pub write-returns-in-Map-clause-before : goal.write-returns-in-Map-clause-before
write-returns-in-Map-clause-before t c = c.write_members.ensures.before

pub write-returns-in_ok-write_members-in-Node-clause-before : goal.write-returns-in_ok-write_members-in-Node-clause-before
write-returns-in_ok-write_members-in-Node-clause-before t c = c.end_object.ensures.room.0 ∙ c.write_members-in-Node.ensures.before ∙ c.begin_node.ensures.before

pub write-returns-in_ok-write_members-in-Rel-clause-before : goal.write-returns-in_ok-write_members-in-Rel-clause-before
write-returns-in_ok-write_members-in-Rel-clause-before t c = c.end_rel.ensures.before ∙ c.write_members-in-Rel.ensures.before ∙ c.begin_rel.ensures.before

pub write-returns-in_ok-write_items-in-Path-clause-before : goal.write-returns-in_ok-write_items-in-Path-clause-before
write-returns-in_ok-write_items-in-Path-clause-before t c = c.end_object-in-Path.ensures.room.0 ∙ c.write_items-in-Path.ensures.before ∙ c.begin_path.ensures.before

pub write-returns-in-List-clause-ok : goal.write-returns-in-List-clause-ok
write-returns-in-List-clause-ok t c =
    rw c.in-List.is
    (on_ok_weaker c.write_items.result
    (list_written c.args.to.now.tokens c.write_items.new.to.tokens c.in-List.items c.deref-in-List.result.now c.deref-in-List.ensures.value)
    c.write_items.ensures.ok)

pub write-returns-in-Map-clause-ok : goal.write-returns-in-Map-clause-ok
write-returns-in-Map-clause-ok t c =
    rw c.in-Map.is
    (on_ok_weaker c.write_members.result
    (map_written c.args.to.now.tokens c.write_members.new.to.tokens c.in-Map.members c.deref-in-Map.result.now c.deref-in-Map.ensures.value)
    c.write_members.ensures.ok)

pub write_items-loop-item-preserved : goal.write_items-loop-item-preserved
write_items-loop-item-preserved t c =
    let l = c.loop-item in
    record {
      left = item_written data_of l.to.tokens c.write.new.to.tokens c.args.items.now l.item-index c.item-item.result c.loop-item-test.true c.item-item.is c.in_ok-write.ensures.ok ∙ l.invariant.left;
      before = c.write.ensures.before ∙ l.invariant.before;
    }

pub write_items-returns-in_err-begin_array-clause-ok : goal.write_items-returns-in_err-begin_array-clause-ok
write_items-returns-in_err-begin_array-clause-ok t c = IfOk-from_err c.from_residual.result _ c.from_residual.ensures.0

pub write_items-returns-in_err-begin_array-clause-before : goal.write_items-returns-in_err-begin_array-clause-before
write_items-returns-in_err-begin_array-clause-before t c = c.begin_array.ensures.room.0

pub write_items-returns-in_err-write-clause-ok : goal.write_items-returns-in_err-write-clause-ok
write_items-returns-in_err-write-clause-ok t c = IfOk-from_err c.from_residual-in_err-write.result _ c.from_residual-in_err-write.ensures.0

pub write_items-returns-in_err-write-clause-before : goal.write_items-returns-in_err-write-clause-before
write_items-returns-in_err-write-clause-before t c = c.write.ensures.before ∙ c.loop-item.invariant.before ∙ c.begin_array.ensures.room.0

pub write_items-returns-clause-ok : goal.write_items-returns-clause-ok
write_items-returns-clause-ok t c =
    let l = c.loop-item in
    let items = c.args.items.now in
    on_ok_weaker c.end_array.result
    (λ last. two_steps c.args.to.now.tokens c.begin_array.new.self.tokens c.end_array.new.self.tokens begin_array (written_list data_of items) c.in_ok-begin_array.ensures.ok
    (items_written data_of l.to.tokens c.end_array.new.self.tokens items l.item-index c.loop-item-test.false last ∙ l.invariant.left))
    c.end_array.ensures.ok

pub write_items-returns-clause-before : goal.write_items-returns-clause-before
write_items-returns-clause-before t c = c.end_array.ensures.room.0 ∙ c.loop-item.invariant.before ∙ c.begin_array.ensures.room.0

pub write_members-loop-key-preserved : goal.write_members-loop-key-preserved
write_members-loop-key-preserved t c =
    let l = c.loop-key in
    let written = member_written l.to.tokens c.key.new.self.tokens c.write.new.to.tokens c.args.members.now l.key-index c.loop-key-item.result c.deref.result.now c.loop-key-test.true c.loop-key-item.is c.deref.ensures c.in_ok-key.ensures.ok c.in_ok-write.ensures.ok in
    record {
      left = written ∙ l.invariant.left;
      before = c.write.ensures.before ∙ c.key.ensures.room.0 ∙ l.invariant.before;
    }

pub write_members-returns-in_err-begin_object-clause-ok : goal.write_members-returns-in_err-begin_object-clause-ok
write_members-returns-in_err-begin_object-clause-ok t c = IfOk-from_err c.from_residual.result _ c.from_residual.ensures.0

pub write_members-returns-in_err-begin_object-clause-before : goal.write_members-returns-in_err-begin_object-clause-before
write_members-returns-in_err-begin_object-clause-before t c = c.begin_object.ensures.room.0

pub write_members-returns-in_err-key-clause-ok : goal.write_members-returns-in_err-key-clause-ok
write_members-returns-in_err-key-clause-ok t c = IfOk-from_err c.from_residual-in_err-key.result _ c.from_residual-in_err-key.ensures.0

pub write_members-returns-in_err-key-clause-before : goal.write_members-returns-in_err-key-clause-before
write_members-returns-in_err-key-clause-before t c = c.key.ensures.room.0 ∙ c.loop-key.invariant.before ∙ c.begin_object.ensures.room.0

pub write_members-returns-in_err-write-clause-ok : goal.write_members-returns-in_err-write-clause-ok
write_members-returns-in_err-write-clause-ok t c = IfOk-from_err c.from_residual-in_err-write.result _ c.from_residual-in_err-write.ensures.0

pub write_members-returns-in_err-write-clause-before : goal.write_members-returns-in_err-write-clause-before
write_members-returns-in_err-write-clause-before t c = c.write.ensures.before ∙ c.key.ensures.room.0 ∙ c.loop-key.invariant.before ∙ c.begin_object.ensures.room.0

pub write_members-returns-clause-ok : goal.write_members-returns-clause-ok
write_members-returns-clause-ok t c =
    let l = c.loop-key in
    let members = c.args.members.now in
    on_ok_weaker c.end_object.result
    (λ last. two_steps c.args.to.now.tokens c.begin_object.new.self.tokens c.end_object.new.self.tokens begin_object (written_members members) c.in_ok-begin_object.ensures.ok
    (members_written l.to.tokens c.end_object.new.self.tokens members l.key-index c.loop-key-test.false last ∙ l.invariant.left))
    c.end_object.ensures.ok

pub write_members-returns-clause-before : goal.write_members-returns-clause-before
write_members-returns-clause-before t c = c.end_object.ensures.room.0 ∙ c.loop-key.invariant.before ∙ c.begin_object.ensures.room.0

pub write-returns-in-Null-clause-ok : goal.write-returns-in-Null-clause-ok
write-returns-in-Null-clause-ok t c =
    rw c.in-Null.is
    (on_ok_weaker c.null.result
    (λ last. last ∙ ap (λ d. c.args.to.now.tokens ++ json_tokens (outline d)) (sym data_null))
    c.null.ensures.ok)

pub write-returns-in-Bool-clause-ok : goal.write-returns-in-Bool-clause-ok
write-returns-in-Bool-clause-ok t c =
    rw c.in-Bool.is
    (on_ok_weaker c.boolean.result
    (λ last. last ∙ ap (λ d. c.args.to.now.tokens ++ json_tokens (outline d)) (sym (data_bool c.in-Bool.b)))
    c.boolean.ensures.ok)

pub write-returns-in-Text-clause-ok : goal.write-returns-in-Text-clause-ok
write-returns-in-Text-clause-ok t c =
    rw c.in-Text.is
    (on_ok_weaker c.string.result
    (λ last. last ∙ ap (λ s. c.args.to.now.tokens ++ Token.string s ∷ []) c.deref.ensures ∙ ap (λ d. c.args.to.now.tokens ++ json_tokens (outline d)) (sym (data_text c.in-Text.text)))
    c.string.ensures.ok)

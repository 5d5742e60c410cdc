use Rattle.std.proofs.Common.{◌++◌, [], ◌∷◌, string_bytes, ap, ◌∙◌}
use Rattle.std.proofs.lemmas.Result.{on_ok_weaker}
use Rattle.json.specs.Token.{Token, begin_array}
use Rattle.serde_json.specs.Data.{string}
use Rattle.pg_json.proofs.Writing.{two_steps}
use Rattle.pg_json.proofs.Written.{written_list, item_written, items_written}
use Rattle.pg_json.proofs.value.write_texts.Goals as goal

pub loop-text-preserved : goal.loop-text-preserved
loop-text-preserved c =
    let l = c.loop-text in
    let written = c.in_ok-string.ensures.ok ∙ ap (λ s. l.to.tokens ++ Token.string s ∷ []) c.deref.ensures in
    record {
      left = item_written (λ t. string (string_bytes t)) l.to.tokens c.string.new.self.tokens c.args.texts.now l.text-index c.text-item.result c.loop-text-test.true c.text-item.is written ∙ l.invariant.left;
      before = c.string.ensures.room.0 ∙ l.invariant.before;
    }

pub returns-clause-ok : goal.returns-clause-ok
returns-clause-ok c =
    let l = c.loop-text in
    let texts = c.args.texts.now in
    on_ok_weaker c.end_array.result
    (λ last. two_steps c.args.to.now.tokens c.begin_array.new.self.tokens c.end_array.new.self.tokens begin_array (written_list (λ t. string (string_bytes t)) texts) c.in_ok-begin_array.ensures.ok
    (items_written (λ t. string (string_bytes t)) l.to.tokens c.end_array.new.self.tokens texts l.text-index c.loop-text-test.false last ∙ l.invariant.left))
    c.end_array.ensures.ok

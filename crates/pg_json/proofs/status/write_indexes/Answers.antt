use Rattle.std.proofs.Common.{◌++◌, ◌∷◌, string_bytes, codes, ap, ◌∙◌}
use Rattle.std.proofs.lemmas.Result.{on_ok_weaker}
use Rattle.json.specs.Token.{begin_array, key}
use Rattle.json.specs.Tree.{json_tokens}
use Rattle.serde_json.specs.Written.{outline}
use Rattle.pg_json.specs.Replies.{index_data}
use Rattle.pg_json.proofs.Writing.{two_steps}
use Rattle.pg_json.proofs.Written.{written_list, item_written, items_written}
use Rattle.pg_json.proofs.status.write_indexes.Goals as goal

pub loop-index-preserved : goal.loop-index-preserved
loop-index-preserved c =
    let l = c.loop-index in
    let i = c.index-item.result in
    let written = c.in_ok-write_index.ensures.ok
    ∙ ap (λ label. l.to.tokens ++ json_tokens (outline (index_data label c.deref-in-loop-index.result.now))) c.deref.ensures
    ∙ ap (λ name. l.to.tokens ++ json_tokens (outline (index_data (string_bytes i.0) name))) c.deref-in-loop-index.ensures in
    record {
      left = item_written (λ x. index_data (string_bytes x.0) (string_bytes x.1)) l.to.tokens c.write_index.new.to.tokens c.args.indexes.now l.index-index i c.loop-index-test.true c.index-item.is written ∙ l.invariant.left;
      before = c.write_index.ensures.before ∙ l.invariant.before;
    }

pub returns-clause-ok : goal.returns-clause-ok
returns-clause-ok c =
    let l = c.loop-index in
    let a = c.args.to.now.tokens in
    let b = c.begin_array.new.self.tokens in
    let last = c.end_array.new.self.tokens in
    let indexes = written_list (λ x. index_data (string_bytes x.0) (string_bytes x.1)) c.args.indexes.now in
    on_ok_weaker c.end_array.result
    (λ ended. two_steps a c.key.new.self.tokens last (key (codes "indexes")) (begin_array ∷ indexes) c.in_ok-key.ensures.ok
    (two_steps c.key.new.self.tokens b last begin_array indexes c.in_ok-begin_array.ensures.ok
    (items_written (λ x. index_data (string_bytes x.0) (string_bytes x.1)) l.to.tokens last c.args.indexes.now l.index-index c.loop-index-test.false ended ∙ l.invariant.left)))
    c.end_array.ensures.ok

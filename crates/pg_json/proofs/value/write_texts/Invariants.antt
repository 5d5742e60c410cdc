use Rattle.std.proofs.Common.{◌≡◌, ◌++◌, drop}
use Rattle.json.specs.Tree.{items_tokens}
use Rattle.serde_json.specs.Written.{items_outline}
use Rattle.pg_json.specs.Replies.{text_items}
use Rattle.pg_json.proofs.value.write_texts.Given as goal

abbrev pub invariant-loop-text : goal.invariant-loop-text
invariant-loop-text l = record {
  left : l.to.tokens ++ items_tokens (items_outline (text_items (drop l.text-index l.texts))) ≡ l.initial.to.tokens ++ items_tokens (items_outline (text_items l.texts));
  before : l.to.before ≡ l.initial.to.before;
}

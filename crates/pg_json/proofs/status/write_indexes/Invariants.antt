use Rattle.std.proofs.Common.{◌≡◌, ◌++◌, drop}
use Rattle.json.specs.Tree.{items_tokens}
use Rattle.serde_json.specs.Written.{items_outline}
use Rattle.pg_json.specs.Replies.{index_items}
use Rattle.pg_json.proofs.status.write_indexes.Given as goal

abbrev pub invariant-loop-index : goal.invariant-loop-index
invariant-loop-index l = record {
  left : l.to.tokens ++ items_tokens (items_outline (index_items (drop l.index-index l.indexes))) ≡ l.initial.to.tokens ++ items_tokens (items_outline (index_items l.indexes));
  before : l.to.before ≡ l.initial.to.before;
}

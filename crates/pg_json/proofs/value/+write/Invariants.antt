use Rattle.std.proofs.Common.{◌≡◌, ◌++◌, drop}
use Rattle.json.specs.Tree.{items_tokens, members_tokens}
use Rattle.serde_json.specs.Written.{items_outline, members_outline}
use Rattle.pg_json.specs.Replies.{outs, named_outs}
use Rattle.pg_json.proofs.value.+write.Given as goal

-- what is written and what is left are the whole
abbrev pub invariant-write_items-loop-item : goal.invariant-write_items-loop-item
invariant-write_items-loop-item l = record {
  left : l.to.tokens ++ items_tokens (items_outline (outs (drop l.item-index l.items))) ≡ l.initial.to.tokens ++ items_tokens (items_outline (outs l.items));
  before : l.to.before ≡ l.initial.to.before;
}

abbrev pub invariant-write_members-loop-key : goal.invariant-write_members-loop-key
invariant-write_members-loop-key l = record {
  left : l.to.tokens ++ members_tokens (members_outline (named_outs (drop l.key-index l.members))) ≡ l.initial.to.tokens ++ members_tokens (members_outline (named_outs l.members));
  before : l.to.before ≡ l.initial.to.before;
}

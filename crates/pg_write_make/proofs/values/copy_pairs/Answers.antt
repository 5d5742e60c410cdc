use Rattle.pg_meaning.specs.Value.{entries_of}
use Rattle.pg_value_core.specs.View.{entries_view}
use Rattle.pg_write_make.proofs.TurnLemmas.{entry_copied}
use Rattle.pg_write_make.proofs.values.copy_pairs.Goals as goal

pub loop-key-preserved : goal.loop-key-preserved
loop-key-preserved c =
    entry_copied c.loop-key.pairs.items c.push.new.self.items (entries_of (entries_view c.args.entries.now.entries)) c.loop-key.key-iterator c.next.new.self c.in-Some.key.now c.in-Some.value.now c.in_ok-copy.field-0 c.as_str.result
    c.in-Some.ensures.steps c.as_str.ensures.value c.in_ok-copy.ensures c.in_ok-push.ensures.items c.loop-key.invariant

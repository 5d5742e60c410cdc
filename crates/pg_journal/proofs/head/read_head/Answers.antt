use Rattle.pg_journal.proofs.head.read_head.Goals as goal

pub returns-in-Some : goal.returns-in-Some
returns-in-Some c = c.counts.ensures c.args.size

use Rattle.std.proofs.Common.{take, ap, ◌∙◌}
use Rattle.pg_names.proofs.names.Names.truncate.Goals as goal

pub returns-clause-kept : goal.returns-clause-kept
returns-clause-kept g c = c.keep.ensures.kept ∙ ap (take c.args.len) c.self.view_is

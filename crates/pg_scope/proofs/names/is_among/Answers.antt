use Rattle.std.proofs.Common.{◌∙◌}
use Rattle.pg_scope.proofs.NameLemmas.{among_keys}
use Rattle.pg_scope.proofs.names.is_among.Goals as goal

pub returns : goal.returns
returns c = c.contains.ensures ∙ among_keys c.args.name.now c.args.names.now.keys

use Rattle.std.proofs.Common.{ap, ◌∙◌}
use Rattle.pg_value_core.proofs.Keyed.{seen, same_found, read_seen}
use Rattle.pg_value_core.proofs.parameters.Parameters.get.Goals as goal

pub returns : goal.returns
returns c = read_seen c.get.result ∙ ap seen c.get.ensures.value ∙ same_found c.args.name.now c.args.self.now.values.entries

use Rattle.std.proofs.Common.{not, ap, ◌∙◌}
use Rattle.pg_scope.proofs.NameLemmas.{among_keys, one_more}
use Rattle.pg_scope.proofs.names.add.Goals as goal

pub returns-clause-added : goal.returns-clause-added
returns-clause-added c = c.in_ok-insert.ensures.added ∙ ap not (among_keys c.args.name.now c.args.names.now.keys)

pub returns-clause-names : goal.returns-clause-names
returns-clause-names c = one_more _ _ c.args.name c.in_ok-insert.ensures.updates

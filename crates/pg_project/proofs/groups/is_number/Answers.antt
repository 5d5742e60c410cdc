use Rattle.std.proofs.Common.{sym, ap, ◌∙◌}
use Rattle.std.specs.Option.{option_copied}
use Rattle.pg_project.proofs.Numbers.{is_number}
use Rattle.pg_project.proofs.groups.is_number.Goals as goal

pub returns-in-Some : goal.returns-in-Some
returns-in-Some c = λ h.
    is_number c.args.key.now c.in-Some.held.now c.args.keys.now.keys c.args.number c.len-count.ensures.unique
    (sym c.get_index.ensures.key ∙ ap option_copied c.in-Some.is)
    (sym c.eq.ensures ∙ h)

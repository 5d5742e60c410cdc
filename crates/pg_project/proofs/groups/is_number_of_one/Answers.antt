use Rattle.std.proofs.Common.{◌≡◌, ◌∷◌, [], true, sym, ap, ◌∙◌}
use Rattle.std.specs.Option.{option_copied}
use Rattle.pg_project.proofs.Numbers.{has_number}
use Rattle.pg_project.specs.KeptGroups.{HasNumber}
use Rattle.pg_value_core.specs.View.{view}
use Rattle.pg_project.proofs.groups.is_number_of_one.Goals as goal

pub returns-in-Some : goal.returns-in-Some
returns-in-Some c =
    let has : c.is_one.result ≡ true → HasNumber c.args.keys.now.keys (view c.args.value.now ∷ []) c.args.number =
    λ h. has_number c.in-Some.held.now c.args.keys.now.keys c.args.number (view c.args.value.now ∷ []) c.len-count.ensures.unique
    (sym c.get_index.ensures.key ∙ ap option_copied c.in-Some.is)
    (c.is_one.ensures h) in
    record { has = has; within = λ h. (has h).number.within }

use Rattle.std.proofs.Common.{◌≡◌, option_and_then, ap, ◌∙◌}
use Rattle.serde_json.specs.Find.{as_object}
use Rattle.serde_json.specs.View.{view, members_view}
use Rattle.serde_json.proofs.Views.{view-Object}
use Rattle.pg_meaning.specs.Measure.{greatest_depth}
use Rattle.pg_json.specs.Given.{entries_within}
use Rattle.pg_json.specs.Parameters.{parameters_in}
use Rattle.pg_json.proofs.Given.{parameters_within}
use Rattle.pg_json.proofs.read.parameters_in.Goals as goal

pub returns-in-Object-clause-ok : goal.returns-in-Object-clause-ok
returns-in-Object-clause-ok c =
    let same : option_and_then parameters_in (as_object (view c.args.given.now)) ≡ entries_within greatest_depth (members_view c.in-Object.members.entries) =
    ap (λ v. option_and_then parameters_in (as_object (view v))) c.in-Object.is ∙ ap (λ d. option_and_then parameters_in (as_object d)) (view-Object c.in-Object.members) ∙ parameters_within (members_view c.in-Object.members.entries) in
    rw same c.entries_from.ensures.ok

pub returns-in-Object-clause-refused : goal.returns-in-Object-clause-refused
returns-in-Object-clause-refused c =
    let same : option_and_then parameters_in (as_object (view c.args.given.now)) ≡ entries_within greatest_depth (members_view c.in-Object.members.entries) =
    ap (λ v. option_and_then parameters_in (as_object (view v))) c.in-Object.is ∙ ap (λ d. option_and_then parameters_in (as_object d)) (view-Object c.in-Object.members) ∙ parameters_within (members_view c.in-Object.members.entries) in
    rw same c.entries_from.ensures.refused

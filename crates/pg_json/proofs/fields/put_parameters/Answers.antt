use Rattle.std.proofs.Common.{option_map, sym}
use Rattle.pg_json.specs.Fields.{parameters_of}
use Rattle.pg_json.proofs.Members.{put_parameters}
use Rattle.pg_json.proofs.fields.put_parameters.Goals as goal
use Rattle.pg_value_core.specs.View.{entries_view}

pub returns-clause-members : goal.returns-clause-members
returns-clause-members c =
    let f = c.args.found.now in
    sym (put_parameters (option_map (λ s. s.now) f.op) (entries_view c.args.parameters.entries) f.page (parameters_of f) (option_map (λ s. s.now) f.text) (option_map (λ s. s.now) f.token))

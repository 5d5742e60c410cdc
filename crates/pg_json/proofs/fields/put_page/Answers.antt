use Rattle.std.proofs.Common.{option_map, sym}
use Rattle.pg_json.specs.Fields.{parameters_of}
use Rattle.pg_json.proofs.Members.{put_page}
use Rattle.pg_json.proofs.fields.put_page.Goals as goal

pub returns-clause-members : goal.returns-clause-members
returns-clause-members c =
    let f = c.args.found.now in
    sym (put_page (option_map (λ s. s.now) f.op) c.args.page f.page (parameters_of f) (option_map (λ s. s.now) f.text) (option_map (λ s. s.now) f.token))

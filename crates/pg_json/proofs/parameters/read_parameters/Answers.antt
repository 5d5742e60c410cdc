use Rattle.std.proofs.Common.{◌≡◌, ◌∷◌, length, ap, ◌∙◌, arith}
use Rattle.json.specs.Token.{Token}
use Rattle.json.specs.Json.{parse_map, members, value}
use Rattle.json.proofs.Grammar.{value-begin_object}
use Rattle.serde_json.specs.Data.{object}
use Rattle.serde_json.specs.Read.{of_json, converted}
use Rattle.pg_json.proofs.Reading.{converted-object}
use Rattle.pg_json.proofs.parameters.read_parameters.Goals as goal

pub returns-clause-ok : goal.returns-clause-ok
returns-clause-ok c =
    let rest = c.next.new.self in
    let is : c.args.reader.now ≡ Token.begin_object ∷ rest = grind arith in
    let opened = ap (converted of_json) (ap (value 126) is ∙ value-begin_object 126 rest (omega arith)) ∙ converted-object (members (value 125) (length rest) rest) in
    opened ∙ ap (parse_map object) c.in_ok-members.ensures.ok

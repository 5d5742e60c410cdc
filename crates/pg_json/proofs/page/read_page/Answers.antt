use Rattle.std.proofs.Common.{◌≡◌, ◌∷◌, ap, ◌∙◌, option_map, arith}
use Rattle.json.specs.Token.{Token}
use Rattle.json.specs.Json.{value}
use Rattle.json.proofs.Grammar.{value_is}
use Rattle.serde_json.specs.Data.{Data, number}
use Rattle.serde_json.specs.Read.{of_json, converted}
use Rattle.pg_json.proofs.page.read_page.Goals as goal

pub returns-in-Some-clause-ok : goal.returns-in-Some-clause-ok
returns-in-Some-clause-ok c =
    let first : c.args.reader.now ≡ Token.number c.in-Some-Number.text.now ∷ c.next.new.self = grind arith in
    ap (converted of_json) (ap (value 126) first ∙ value_is 126 _) ∙ ap (λ m. option_map {U = Data × _} (λ b. (b, c.next.new.self)) (option_map number m)) c.in-Some.ensures.read

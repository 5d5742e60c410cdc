use Rattle.std.proofs.Common.{◌≡◌, [], ◌∷◌, length, None, Some, option_and_then, ap, ◌∙◌, arith}
use Rattle.json.specs.Token.{Token}
use Rattle.json.specs.Json as json
use Rattle.json.specs.Json.{parse_map, members, value}
use Rattle.json.specs.Lex.{tokens}
use Rattle.json.specs.Reads.{token_of}
use Rattle.json.proofs.Grammar.{value-begin_object}
use Rattle.serde_json.specs.Data.{object, no_members}
use Rattle.serde_json.specs.Read.{of_json, of_members, converted, read}
use Rattle.pg_json.specs.Fields.{members_with, AsksNothing}
use Rattle.pg_json.specs.Requests.{request_of}
use Rattle.pg_json.proofs.Reading.{converted-object, whole, whole_read, whole_and_more, whole_asks_nothing}
use Rattle.pg_json.proofs.fields.look.Goals as goal

pub returns-in-None : goal.returns-in-None
returns-in-None c =
    let rest = c.next.new.self in
    let all : tokens c.args.text.now ≡ Token.begin_object ∷ rest = grind arith in
    let ended : c.take_fields.new.reader ≡ [] = grind arith in
    let f = c.take_fields.new.found in
    let told : converted (λ ms. of_members ms no_members) (members (value 126) (length rest) rest) ≡ Some (members_with f, c.take_fields.new.reader) = rw c.if-not-branch.false at c.in_ok-take_fields.ensures.members in
    let found : converted (λ ms. of_members ms no_members) (members (value 126) (length rest) rest) ≡ Some (members_with f, []) = told ∙ ap (λ r. Some (members_with f, r)) ended in
    let opened = ap (converted of_json) (ap (value 127) all ∙ value-begin_object 127 rest (omega arith)) ∙ converted-object (members (value 126) (length rest) rest) in
    (whole_read (value 127 (tokens c.args.text.now)) _ (opened ∙ ap (parse_map object) found), c.take_fields.ensures.given (tt, tt))

pub returns : goal.returns
returns c =
    let rest = c.next.new.self in
    let all : tokens c.args.text.now ≡ Token.begin_object ∷ rest = grind arith in
    let t = token_of c.in-Some.field-0 in
    let more : c.take_fields.new.reader ≡ t ∷ c.next-2.new.self = grind arith in
    let f = c.take_fields.new.found in
    let told : converted (λ ms. of_members ms no_members) (members (value 126) (length rest) rest) ≡ Some (members_with f, c.take_fields.new.reader) = rw c.if-not-branch.false at c.in_ok-take_fields.ensures.members in
    let found : converted (λ ms. of_members ms no_members) (members (value 126) (length rest) rest) ≡ Some (members_with f, t ∷ c.next-2.new.self) = told ∙ ap (λ r. Some (members_with f, r)) more in
    let opened = ap (converted of_json) (ap (value 127) all ∙ value-begin_object 127 rest (omega arith)) ∙ converted-object (members (value 126) (length rest) rest) in
    let none : read c.args.text.now ≡ None = whole_and_more (value 127 (tokens c.args.text.now)) (object (members_with f)) t c.next-2.new.self (opened ∙ ap (parse_map object) found) in
    ap (option_and_then request_of) none

pub returns-then-not-branch : goal.returns-then-not-branch
returns-then-not-branch c =
    let rest = c.next.new.self in
    let all : tokens c.args.text.now ≡ Token.begin_object ∷ rest = grind arith in
    let opened : value 127 (tokens c.args.text.now) ≡ parse_map json.object (members (value 126) (length rest) rest) = ap (value 127) all ∙ value-begin_object 127 rest (omega arith) in
    let told : AsksNothing (converted (λ ms. of_members ms no_members) (members (value 126) (length rest) rest)) = rw c.if-not-branch.true at c.in_ok-take_fields.ensures.members in
    ap (λ o. option_and_then request_of (whole o)) opened ∙ whole_asks_nothing (members (value 126) (length rest) rest) told

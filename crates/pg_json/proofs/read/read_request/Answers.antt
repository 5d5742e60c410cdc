use Rattle.std.proofs.Common.{◌≡◌, ◌≢◌, Some, None, option_and_then, sym, ap, ◌∙◌}
use Rattle.std.specs.Prelude.{IfOk, IfErr}
use Rattle.std.specs.Str.{IsUtf8}
use Rattle.serde_json.specs.Data.{object}
use Rattle.serde_json.specs.Read.{read}
use Rattle.pg_json.specs.Bodies.{request_view}
use Rattle.pg_json.specs.Fields.{members_with, asked_with, FieldsAreGiven}
use Rattle.pg_json.specs.Requests.{request_of, meaning}
use Rattle.pg_json.proofs.Meanings.{meaning-utf8, meaning-not_utf8}
use Rattle.pg_json.proofs.Members.{request_asked_with}
use Rattle.pg_meaning.specs.declared.fault.Fault.TheVariants.{OutOfMemory}
use Rattle.pg_json.proofs.read.read_request.Goals as goal

pub returns-in_default-clause-refused : goal.returns-in_default-clause-refused
returns-in_default-clause-refused c bad = meaning-not_utf8 c.args.body.now c.in_default.ensures

pub returns-in-Ok-Fitting-clause-ok : goal.returns-in-Ok-Fitting-clause-ok
returns-in-Ok-Fitting-clause-ok c =
    let text : (c.in-Ok.text.now ≡ c.args.body.now) × IsUtf8 c.args.body.now = c.in-Ok.ensures in
    let f = c.in-Ok-Fitting.found in
    let seen : (read c.in-Ok.text.now ≡ Some (object (members_with f))) × FieldsAreGiven f = rw c.in-Ok-Fitting.field-0-is at c.in-Ok-Fitting.ensures in
    let means : meaning c.args.body.now ≡ asked_with f = meaning-utf8 c.args.body.now text.1 ∙ ap (option_and_then request_of) (ap read (sym text.0) ∙ seen.0) ∙ request_asked_with f seen.1 in
    let said : IfOk c.request_with.result (λ r. asked_with f ≡ Some (request_view r)) = rw c.in-Ok-Fitting.field-0-is at c.request_with.ensures.ok in
    rw means said

pub returns-in-Ok-Fitting-clause-refused : goal.returns-in-Ok-Fitting-clause-refused
returns-in-Ok-Fitting-clause-refused c =
    let text : (c.in-Ok.text.now ≡ c.args.body.now) × IsUtf8 c.args.body.now = c.in-Ok.ensures in
    let f = c.in-Ok-Fitting.found in
    let seen : (read c.in-Ok.text.now ≡ Some (object (members_with f))) × FieldsAreGiven f = rw c.in-Ok-Fitting.field-0-is at c.in-Ok-Fitting.ensures in
    let means : meaning c.args.body.now ≡ asked_with f = meaning-utf8 c.args.body.now text.1 ∙ ap (option_and_then request_of) (ap read (sym text.0) ∙ seen.0) ∙ request_asked_with f seen.1 in
    let said : IfErr c.request_with.result (λ e. e ≢ OutOfMemory → asked_with f ≡ None) = rw c.in-Ok-Fitting.field-0-is at c.request_with.ensures.refused in
    rw means said

pub returns-in-Err-Unclear-clause-ok : goal.returns-in-Err-Unclear-clause-ok
returns-in-Err-Unclear-clause-ok c =
    let text : (c.in-Ok.text.now ≡ c.args.body.now) × IsUtf8 c.args.body.now = c.in-Ok.ensures in
    let means : meaning c.args.body.now ≡ option_and_then request_of (read c.in-Ok.text.now) = meaning-utf8 c.args.body.now text.1 ∙ ap (λ t. option_and_then request_of (read t)) (sym text.0) in
    rw means c.read_slowly.ensures.ok

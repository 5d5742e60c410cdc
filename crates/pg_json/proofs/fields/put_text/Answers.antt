use Rattle.std.proofs.Common.{option_map, sym}
use Rattle.pg_json.specs.Fields.{parameters_of}
use Rattle.pg_json.proofs.Members.{put_op, put_text, put_token}
use Rattle.pg_json.proofs.fields.put_text.Goals as goal

pub returns-in-Op-clause-texts : goal.returns-in-Op-clause-texts
returns-in-Op-clause-texts c =
    let f = c.args.found.now in
    rw c.in-Op.is (sym (put_op c.args.text.now (option_map (λ s. s.now) f.op) f.page (parameters_of f) (option_map (λ s. s.now) f.text) (option_map (λ s. s.now) f.token)))

pub returns-in-Text-clause-texts : goal.returns-in-Text-clause-texts
returns-in-Text-clause-texts c =
    let f = c.args.found.now in
    rw c.in-Text.is (sym (put_text c.args.text.now (option_map (λ s. s.now) f.op) f.page (parameters_of f) (option_map (λ s. s.now) f.text) (option_map (λ s. s.now) f.token)))

pub returns-in-Token-clause-texts : goal.returns-in-Token-clause-texts
returns-in-Token-clause-texts c =
    let f = c.args.found.now in
    rw c.in-Token.is (sym (put_token c.args.text.now (option_map (λ s. s.now) f.op) f.page (parameters_of f) (option_map (λ s. s.now) f.text) (option_map (λ s. s.now) f.token)))

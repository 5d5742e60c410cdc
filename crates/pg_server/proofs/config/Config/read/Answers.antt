use Rattle.std.proofs.Common.{◌≡◌, Some, sym, ap, ◌∙◌}
use Rattle.std.proofs.lemmas.Result.{IfOk-weaker, IfErr-weaker}
use Rattle.std.specs.Str.{IsUtf8}
use Rattle.serde_json.specs.View.{view}
use Rattle.serde_json.specs.Read.{read}
use Rattle.pg_server.proofs.ConfigLemmas.{configuration-json, configuration-not_utf8}
use Rattle.pg_server.proofs.config.Config.read.Goals as goal

pub returns-in_default-clause-fault : goal.returns-in_default-clause-fault
returns-in_default-clause-fault c other = configuration-not_utf8 c.args.bytes.now c.in_default.ensures

pub returns-in-Ok-from_str-clause-ok : goal.returns-in-Ok-from_str-clause-ok
returns-in-Ok-from_str-clause-ok c =
    let text : (c.in-Ok.text.now ≡ c.args.bytes.now) × IsUtf8 c.args.bytes.now = c.in-Ok.ensures in
    let found : read c.args.bytes.now ≡ Some (view c.in-Ok-from_str.value) = ap read (sym text.0) ∙ c.in-Ok-from_str.ensures.ok in
    let means = configuration-json c.args.bytes.now _ text.1 found in
    IfOk-weaker c.config_of.result _ _ (λ r h. means ∙ h) c.config_of.ensures.ok

pub returns-in-Ok-from_str-clause-fault : goal.returns-in-Ok-from_str-clause-fault
returns-in-Ok-from_str-clause-fault c =
    let text : (c.in-Ok.text.now ≡ c.args.bytes.now) × IsUtf8 c.args.bytes.now = c.in-Ok.ensures in
    let found : read c.args.bytes.now ≡ Some (view c.in-Ok-from_str.value) = ap read (sym text.0) ∙ c.in-Ok-from_str.ensures.ok in
    let means = configuration-json c.args.bytes.now _ text.1 found in
    IfErr-weaker c.config_of.result _ _ (λ e h other. means ∙ h other) c.config_of.ensures.fault

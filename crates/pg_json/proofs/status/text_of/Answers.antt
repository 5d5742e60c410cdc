use Rattle.std.proofs.Common.{[], ◌++◌, ap, ◌∙◌}
use Rattle.json.specs.Tree.{json_tokens}
use Rattle.serde_json.specs.Written.{outline}
use Rattle.pg_json.specs.Replies.{tenant_data, tenant_text}
use Rattle.pg_json.proofs.Texts.{text_after}
use Rattle.pg_json.proofs.status.text_of.Goals as goal

pub returns : goal.returns
unfolding tenant_text
returns c =
    let d = tenant_data c.args.status.now in
    let w = c.in_ok-write_body.ensures in
    text_after [] _ _ _ d c.into_inner.ensures.items (w.before ∙ c.new-to.ensures.before ∙ c.in_ok-with_capacity.ensures.items) (w.ok ∙ ap (λ ts. ts ++ json_tokens (outline d)) c.new-to.ensures.tokens)

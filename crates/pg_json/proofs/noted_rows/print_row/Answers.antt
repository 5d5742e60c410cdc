use Rattle.std.proofs.Common.{◌++◌, ap, ◌∙◌}
use Rattle.json.specs.Tree.{json_tokens}
use Rattle.serde_json.specs.Data.{array}
use Rattle.serde_json.specs.Written.{outline}
use Rattle.pg_json.proofs.Texts.{text_after}
use Rattle.pg_json.specs.Replies.{outs}
use Rattle.pg_json.proofs.noted_rows.print_row.Goals as goal

pub returns : goal.returns
returns c =
    let d = array (outs c.args.row.now) in
    let w = c.in_ok-write_items.ensures in
    text_after _ _ _ _ d c.into_inner.ensures.items (w.before ∙ c.new-to.ensures.before ∙ c.in_ok-begin_row.ensures) (w.ok ∙ ap (λ ts. ts ++ json_tokens (outline d)) c.new-to.ensures.tokens)

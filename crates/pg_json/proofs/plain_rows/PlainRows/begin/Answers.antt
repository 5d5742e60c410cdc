use Rattle.std.proofs.Common.{◌++◌, map, ap, ◌∙◌}
use Rattle.serde_json.specs.Data.{string}
use Rattle.pg_json.proofs.Writing.{names_closed, plain_begun}
use Rattle.pg_json.specs.Replies.{items_of}
use Rattle.pg_json.proofs.plain_rows.PlainRows.begin.Goals as goal

pub returns : goal.returns
returns c = λ names h.
    let text = c.into_inner-text.result.items in
    let opened = c.in_ok-extend_from_slice.ensures.items ∙ ap (λ t. text ++ t) c.as_bytes.ensures.value in
    plain_begun _ (items_of (map string names)) (c.new.ensures.before ∙ names_closed c.args.to text _ names c.into_inner-text.ensures.items opened h) c.new.ensures.tokens

use Rattle.std.proofs.Common.{◌≡◌, ◌++◌, length, arith, ap, ◌∙◌}
use Rattle.pg_json.specs.Joined.{comma_after}
use Rattle.pg_json.specs.Pages.{row_text}
use Rattle.pg_json.specs.Replies.{outs}
use Rattle.pg_json.proofs.noted_rows.NotedRows.push.Goals as goal

pub append-requires : goal.append-requires
append-requires c =
    let others : c.len.result ≡ length c.self.inside.row_ends.items = omega arith in
    (row_text (outs c.args.row.now), c.deref.ensures.value ∙ c.in_ok-printed.ensures ∙ ap (λ n. comma_after n ++ row_text (outs c.args.row.now)) others)

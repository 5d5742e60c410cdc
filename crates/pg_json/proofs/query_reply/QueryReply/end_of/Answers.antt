use Rattle.std.proofs.Common.{◌≡◌, ◌+◌, ◌-◌, length, arith, ap, ◌∙◌}
use Rattle.std.proofs.lemmas.List.{get_or_read}
use Rattle.pg_json.proofs.Paged.{place_end}
use Rattle.pg_json.proofs.query_reply.QueryReply.end_of.Goals as goal

pub returns-else-rows-eq0 : goal.returns-else-rows-eq0
returns-else-rows-eq0 c = λ texts e.
    let ends = ap (λ q. q.row_ends) c.self.view_is in
    let count : length c.self.inside.row_ends.items ≡ length c.args.self.now.row_ends = ap length ends in
    place_end c.self.inside.row_ends.items (c.args.self.now.columns_end + 9) c.args.rows c.index.result.now texts (ends ∙ e) c.if-rows-eq0.false (omega (arith, c.requires))
    (get_or_read c.self.inside.row_ends.items (c.args.rows - 1) c.index.result.now (omega (arith, c.requires, c.if-rows-eq0.false)) c.index.ensures 0)

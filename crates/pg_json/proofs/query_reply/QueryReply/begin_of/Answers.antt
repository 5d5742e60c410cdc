use Rattle.std.proofs.Common.{◌≡◌, ◌+◌, ◌-◌, length, arith, ap, ◌∙◌}
use Rattle.std.proofs.lemmas.List.{get_or_read}
use Rattle.pg_json.proofs.Paged.{place_begin, place_end, reply_ends}
use Rattle.pg_json.proofs.query_reply.QueryReply.begin_of.Goals as goal

pub overflow_add-result-else-row-eq0 : goal.overflow_add-result-else-row-eq0
overflow_add-result-else-row-eq0 c =
    let h = c.self.invariant in
    let count : length c.self.inside.row_ends.items ≡ length c.args.self.now.row_ends = ap (λ q. length q.row_ends) c.self.view_is in
    let place = place_end c.self.inside.row_ends.items (c.self.inside.columns_end + 9) c.args.row c.index.result.now h.cut.rows h.cut.ends c.if-row-eq0.false (omega (arith, c.requires))
    (get_or_read c.self.inside.row_ends.items (c.args.row - 1) c.index.result.now (omega (arith, c.requires, c.if-row-eq0.false)) c.index.ensures 0) in
    let within = reply_ends _ _ _ h c.args.row c.index.result.now place in
    omega (arith, within.1, h.within)

pub returns-else-row-eq0 : goal.returns-else-row-eq0
returns-else-row-eq0 c = λ texts e.
    let ends = ap (λ q. q.row_ends) c.self.view_is in
    let count : length c.self.inside.row_ends.items ≡ length c.args.self.now.row_ends = ap length ends in
    place_begin c.self.inside.row_ends.items (c.args.self.now.columns_end + 9) c.args.row c.index.result.now texts (ends ∙ e) c.if-row-eq0.false (omega (arith, c.requires))
    (get_or_read c.self.inside.row_ends.items (c.args.row - 1) c.index.result.now (omega (arith, c.requires, c.if-row-eq0.false)) c.index.ensures 0)

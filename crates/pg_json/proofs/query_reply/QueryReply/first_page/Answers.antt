use Rattle.std.proofs.Common.{◌≡◌, ◌+◌, min, List, ℕ, length, map, take, drop, arith, sym, ap, ◌∙◌, subst}
use Rattle.std.proofs.lemmas.List.{length-map, take_min}
use Rattle.pg_json.proofs.Joined.{ends_length}
use Rattle.pg_json.proofs.Paged.{page_fits, page_of, reply_ends}
use Rattle.pg_json.specs.Joined.{IsReply}
use Rattle.pg_json.specs.Pages.{ends_from, paged_text, row_text}
use Rattle.pg_json.proofs.query_reply.QueryReply.first_page.Goals as goal

pub part-rows-requires-clause-within : goal.part-rows-requires-clause-within
part-rows-requires-clause-within c =
    let h = subst (λ q. IsReply q.text q.columns_end q.row_ends) c.self.view_is c.self.invariant in
    let within = reply_ends _ _ _ h c.min.result c.end_of-rows_end.result (c.end_of-rows_end.ensures h.cut.rows h.cut.ends) in
    let same : length c.deref-2.result.now ≡ length c.args.self.now.text = ap length (c.deref-2.ensures.value ∙ ap (λ q. q.text) c.self.view_is) in
    omega (arith, within.1, same)

pub part-behind-requires-clause-order : goal.part-behind-requires-clause-order
part-behind-requires-clause-order c =
    let h = subst (λ q. IsReply q.text q.columns_end q.row_ends) c.self.view_is c.self.invariant in
    let within = reply_ends _ _ _ h c.len-2.result c.end_of-last_end.result (c.end_of-last_end.ensures h.cut.rows h.cut.ends) in
    let same : length c.self.inside.text.items ≡ length c.args.self.now.text = ap (λ q. length q.text) c.self.view_is in
    omega (arith, within.1, same)

pub paged-requires : goal.paged-requires
paged-requires c =
    let h = subst (λ q. IsReply q.text q.columns_end q.row_ends) c.self.view_is c.self.invariant in
    let text = ap (λ q. q.text) c.self.view_is in
    let count : length c.self.inside.row_ends.items ≡ length c.args.self.now.row_ends = ap (λ q. length q.row_ends) c.self.view_is in
    let same : length c.self.inside.text.items ≡ length c.args.self.now.text = ap length text in
    let all : c.len-3.result ≡ length c.args.self.now.text = omega arith in
    page_fits c.args.self.now.text _ c.args.self.now.columns_end h c.min.result c.end_of-rows_end.result c.end_of-last_end.result c.len-2.result _ _ _ (c.end_of-rows_end.ensures h.cut.rows h.cut.ends) (omega arith)
    (c.end_of-last_end.ensures h.cut.rows h.cut.ends)
    (c.part-columns.ensures ∙ ap (λ n. drop 0 (take n c.deref.result.now)) (ap (λ q. q.columns_end) c.self.view_is) ∙ ap (λ t. drop 0 (take c.args.self.now.columns_end t)) (c.deref.ensures.value ∙ text))
    (c.part-rows.ensures ∙ ap (λ n. drop n (take c.end_of-rows_end.result c.deref-2.result.now)) (ap (λ q. q.columns_end) c.self.view_is)
    ∙ ap (λ t. drop c.args.self.now.columns_end (take c.end_of-rows_end.result t)) (c.deref-2.ensures.value ∙ text))
    (c.part-behind.ensures ∙ ap (λ n. drop c.end_of-last_end.result (take n c.deref-3.result.now)) all ∙ ap (λ t. drop c.end_of-last_end.result (take (length c.args.self.now.text) t)) (c.deref-3.ensures.value ∙ text))

pub returns : goal.returns
returns c = λ columns rows steps e.
    let texts : List (List ℕ) = map row_text rows in
    let text = ap (λ q. q.text) c.self.view_is in
    let count : length c.self.inside.row_ends.items ≡ length c.args.self.now.row_ends = ap (λ q. length q.row_ends) c.self.view_is in
    let same : length c.self.inside.text.items ≡ length c.args.self.now.text = ap length text in
    let every : c.len-3.result ≡ length c.args.self.now.text = omega arith in
    let place = ap (λ q. q.columns_end) e in
    let ends : c.args.self.now.row_ends ≡ ends_from (c.args.self.now.columns_end + 9) texts = ap (λ q. q.row_ends) e ∙ ap (λ n. ends_from (n + 9) texts) (sym place) in
    let all : length c.args.self.now.row_ends ≡ length texts = ap length ends ∙ ends_length _ texts in
    let mapped : length texts ≡ length rows = length-map rows row_text in
    let counted : c.len.result ≡ length texts = omega arith in
    c.made.ensures
    ∙ page_of c.args.self.now.text _ _ _ _ columns rows c.args.page steps c.args.self.now.columns_end c.min.result c.end_of-rows_end.result c.end_of-last_end.result c.len-2.result (ap (λ q. q.text) e) place
    (c.end_of-rows_end.ensures texts ends) (omega arith) (c.end_of-last_end.ensures texts ends)
    (c.part-columns.ensures ∙ ap (λ n. drop 0 (take n c.deref.result.now)) (ap (λ q. q.columns_end) c.self.view_is) ∙ ap (λ t. drop 0 (take c.args.self.now.columns_end t)) (c.deref.ensures.value ∙ text))
    (c.part-rows.ensures ∙ ap (λ n. drop n (take c.end_of-rows_end.result c.deref-2.result.now)) (ap (λ q. q.columns_end) c.self.view_is)
    ∙ ap (λ t. drop c.args.self.now.columns_end (take c.end_of-rows_end.result t)) (c.deref-2.ensures.value ∙ text))
    (c.part-behind.ensures ∙ ap (λ n. drop c.end_of-last_end.result (take n c.deref-3.result.now)) every ∙ ap (λ t. drop c.end_of-last_end.result (take (length c.args.self.now.text) t)) (c.deref-3.ensures.value ∙ text))
    c.in_ok-paged.ensures.text
    ∙ ap (λ rs. paged_text columns c.args.page rs steps) (ap (λ n. take n texts) (c.min.ensures ∙ ap (min c.args.size) counted) ∙ take_min c.args.size texts)

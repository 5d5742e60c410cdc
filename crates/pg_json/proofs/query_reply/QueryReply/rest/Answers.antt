use Rattle.std.proofs.Common.{◌≡◌, ◌+◌, List, ℕ, length, map, take, drop, arith, sym, ap, ◌∙◌, subst}
use Rattle.std.proofs.lemmas.List.{drop_all}
use Rattle.pg_json.proofs.Joined.{ends_length}
use Rattle.pg_json.proofs.Paged.{begun_length, reply_count, reply_ends, reply_parts, rest_ends, rest_fits, rest_last, rest_order, rest_text}
use Rattle.pg_json.specs.Joined.{IsReply}
use Rattle.pg_json.specs.Pages.{ends_from, row_text}
use Rattle.pg_json.specs.Telling.{rows_begun}
use Rattle.pg_json.proofs.query_reply.QueryReply.rest.Goals as goal

pub returns-then-len-size : goal.returns-then-len-size
returns-then-len-size c = λ columns rows steps e.
    let texts : List (List ℕ) = map row_text rows in
    let count : length c.self.inside.row_ends.items ≡ length c.args.self.now.row_ends = ap (λ q. length q.row_ends) c.self.view_is in
    let all : length c.args.self.now.row_ends ≡ length texts = ap (λ q. length q.row_ends) e ∙ ends_length _ texts in
    c.none.ensures ∙ sym (drop_all c.args.size texts (omega arith))

pub part-rows-requires-clause-order : goal.part-rows-requires-clause-order
part-rows-requires-clause-order c =
    let h = subst (λ q. IsReply q.text q.columns_end q.row_ends) c.self.view_is c.self.invariant in
    let count : length c.self.inside.row_ends.items ≡ length c.args.self.now.row_ends = ap (λ q. length q.row_ends) c.self.view_is in
    rest_order _ _ _ h c.args.size c.begin_of-begin.result c.end_of.result c.len-2.result (omega arith) (omega arith) (c.begin_of-begin.ensures h.cut.rows h.cut.ends) (c.end_of.ensures h.cut.rows h.cut.ends)

pub part-rows-requires-clause-within : goal.part-rows-requires-clause-within
part-rows-requires-clause-within c =
    let h = subst (λ q. IsReply q.text q.columns_end q.row_ends) c.self.view_is c.self.invariant in
    let within = reply_ends _ _ _ h c.len-2.result c.end_of.result (c.end_of.ensures h.cut.rows h.cut.ends) in
    let same : length c.deref.result.now ≡ length c.args.self.now.text = ap length (c.deref.ensures.value ∙ ap (λ q. q.text) c.self.view_is) in
    omega (arith, within.1, same)

pub cut-requires-clause-within : goal.cut-requires-clause-within
cut-requires-clause-within c =
    let h = subst (λ q. IsReply q.text q.columns_end q.row_ends) c.self.view_is c.self.invariant in
    let count : length c.self.inside.row_ends.items ≡ length c.args.self.now.row_ends = ap (λ q. length q.row_ends) c.self.view_is in
    let begins = c.begin_of-begin.ensures h.cut.rows h.cut.ends in
    rest_fits _ _ _ h c.begin_of-begin.result c.end_of.result _ (omega (arith, begins)) (rest_last _ _ _ h c.end_of.result c.len-2.result (omega arith) (c.end_of.ensures h.cut.rows h.cut.ends))
    (c.part-rows.ensures ∙ ap (λ t. drop c.begin_of-begin.result (take c.end_of.result t)) (c.deref.ensures.value ∙ ap (λ q. q.text) c.self.view_is))

pub cut-requires-clause-cut : goal.cut-requires-clause-cut
cut-requires-clause-cut c =
    let h = subst (λ q. IsReply q.text q.columns_end q.row_ends) c.self.view_is c.self.invariant in
    let count : length c.self.inside.row_ends.items ≡ length c.args.self.now.row_ends = ap (λ q. length q.row_ends) c.self.view_is in
    let all = reply_count _ _ _ h in
    let begins = c.begin_of-begin.ensures h.cut.rows h.cut.ends in (
      drop c.args.size h.cut.rows,
      rest_text c.args.self.now.text h.cut.before h.behind _ h.cut.rows (c.args.self.now.columns_end + 9) c.args.size c.begin_of-begin.result c.end_of.result c.len-2.result h.cut.parts h.cut.begins (omega (arith, all)) begins
          (c.end_of.ensures h.cut.rows h.cut.ends) (c.part-rows.ensures ∙ ap (λ t. drop c.begin_of-begin.result (take c.end_of.result t)) (c.deref.ensures.value ∙ ap (λ q. q.text) c.self.view_is)),
      rest_ends c.args.self.now.row_ends _ h.cut.rows (c.args.self.now.columns_end + 9) c.args.size c.begin_of-begin.result h.cut.ends begins
          (c.places_behind.ensures ∙ ap (drop c.args.size) (c.deref-2.ensures.value ∙ ap (λ q. q.row_ends) c.self.view_is)),
    )

pub returns : goal.returns
returns c = λ columns rows steps e.
    let texts : List (List ℕ) = map row_text rows in
    let count : length c.self.inside.row_ends.items ≡ length c.args.self.now.row_ends = ap (λ q. length q.row_ends) c.self.view_is in
    let place = ap (λ q. q.columns_end) e in
    let ends : c.args.self.now.row_ends ≡ ends_from (c.args.self.now.columns_end + 9) texts = ap (λ q. q.row_ends) e ∙ ap (λ n. ends_from (n + 9) texts) (sym place) in
    let all : length c.args.self.now.row_ends ≡ length texts = ap length ends ∙ ends_length _ texts in
    let begins = c.begin_of-begin.ensures texts ends in
    c.cut.ensures (drop c.args.size texts)
    (rest_text c.args.self.now.text (rows_begun columns) _ _ texts (c.args.self.now.columns_end + 9) c.args.size c.begin_of-begin.result c.end_of.result c.len-2.result (ap (λ q. q.text) e ∙ reply_parts columns rows steps)
    (begun_length columns ∙ ap (λ k. k + 9) (sym place)) (omega (arith, all)) begins (c.end_of.ensures texts ends)
    (c.part-rows.ensures ∙ ap (λ t. drop c.begin_of-begin.result (take c.end_of.result t)) (c.deref.ensures.value ∙ ap (λ q. q.text) c.self.view_is)))
    (rest_ends c.args.self.now.row_ends _ texts (c.args.self.now.columns_end + 9) c.args.size c.begin_of-begin.result ends begins
    (c.places_behind.ensures ∙ ap (drop c.args.size) (c.deref-2.ensures.value ∙ ap (λ q. q.row_ends) c.self.view_is)))

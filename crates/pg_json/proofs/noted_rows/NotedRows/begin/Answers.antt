use Rattle.std.proofs.Common.{◌≡◌, ◌++◌, [], length, map, arith, sym, ap, subst, ◌∙◌}
use Rattle.serde_json.specs.Data.{string}
use Rattle.pg_json.specs.Pages.{columns_begun}
use Rattle.pg_json.specs.Replies.{items_of}
use Rattle.pg_json.specs.Telling.{HasNoted, rows_begun}
use Rattle.pg_json.proofs.Writing.{names_ended, noted_begun}
use Rattle.pg_json.proofs.noted_rows.NotedRows.begin.Goals as goal

pub returns : goal.returns
returns c = λ names h.
    let columns = items_of (map string names) in
    let named : c.into_inner-text.result.items ≡ columns_begun columns =
    names_ended c.args.to c.end_array.new.self.before _ c.end_array.new.self.tokens names c.into_inner-text.ensures.items c.end_array.ensures.room.0 c.in_ok-end_array.ensures.ok h in
    let text : c.extend_from_slice.new.self.items ≡ rows_begun columns =
    c.in_ok-extend_from_slice.ensures.items ∙ ap (λ t. t ++ c.as_bytes.result.now) named ∙ ap (λ t. columns_begun columns ++ t) c.as_bytes.ensures.value in
    let place : c.len-columns_end.result ≡ length c.into_inner-text.result.items = omega arith in
    subst (λ q. HasNoted q columns []) (sym c.in_ok-new.ensures.ok) (noted_begun _ columns (place ∙ ap length named) text c.new.ensures.items)

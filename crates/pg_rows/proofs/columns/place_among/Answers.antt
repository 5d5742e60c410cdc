use Rattle.std.proofs.Common.{rules, arith, ◌≡◌, ◌+◌, Some, sym, ap, ◌∙◌, string_bytes}
use Rattle.std.proofs.lemmas.Fn.{always_returns_same}
use Rattle.pg_meaning.specs.Order.{text_order}
use Rattle.pg_rows.proofs.NamedRows.{first_named}
use Rattle.pg_rows.proofs.Rising.{absent_among, first_among, order_rises}
use Rattle.pg_rows.proofs.columns.place_among.Goals as goal

pub returns-in-Ok : goal.returns-in-Ok
returns-in-Ok c =
    let name = c.args.name.now in
    let held = c.args.names.now in
    let at = c.in-Ok.ensures.position (λ s. text_order (string_bytes s) name) (always_returns_same _ _ _ (λ a r h called. search rules)) in
    let end : 0 + c.in-Ok.at ≡ c.in-Ok.at = omega arith in
    sym (first_named name held ∙ first_among name held c.in-Ok.at 0 c.requires c.in-Ok.ensures.bound at ∙ ap Some end)

pub returns-in-Err : goal.returns-in-Err
returns-in-Err c =
    let name = c.args.name.now in
    let held = c.args.names.now in
    let parted = c.in-Err.ensures.position (λ s. text_order (string_bytes s) name) (always_returns_same _ _ _ (λ a r h called. search rules)) (order_rises name held c.requires) in
    sym (first_named name held ∙ absent_among name held _ parted 0)

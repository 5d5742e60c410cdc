use Rattle.std.proofs.Common.{◌≡◌, ℕ, ◌+◌, ◌-◌, length-drop, ◌≤◌, List, length, map, Ok, string_bytes, refl, sym, ap, ◌∙◌, arith}
use Rattle.std.proofs.lemmas.Result.{err_from_is_err_and}
use Rattle.pg_json.specs.Pages.{row_text}
use Rattle.pg_pages.specs.Held.{held_rows}
use Rattle.pg_pages.specs.Kept.{number_for}
use Rattle.pg_pages.proofs.Replies.{first_page_whole, held_page, hold_refused, number_free, rows_fit, rows_noted}
use Rattle.pg_pages.proofs.pages.Pages.hold.Goals as goal

pub returns-then-count-size : goal.returns-then-count-size
returns-then-count-size c columns rows steps e =
    first_page_whole c.args.self.now c.args.max_held (string_bytes c.args.token) c.args.size columns (map row_text rows) steps
    (omega (arith, rows_noted c.args.reply columns rows steps e, c.row_count-count.ensures, c.if-count-size.true))
    ∙ ap (λ (bs : List ℕ). Ok (bs, c.args.self.now)) (sym (c.in_ok-first_page.ensures columns rows steps e))

pub returns-in_err-number : goal.returns-in_err-number
returns-in_err-number c columns rows steps e =
    let p = err_from_is_err_and c.from_residual-in_err-number.result c.from_residual-in_err-number.ensures.1 in
    rw (p.1, p.2) (
      refl,
      λ _. hold_refused c.args.self.now c.args.max_held (string_bytes c.args.token) c.args.size columns (map row_text rows) steps c.in_err-number.field-0.0
          (omega (arith, rows_noted c.args.reply columns rows steps e, c.row_count-count.ensures, c.if-count-size.false))
          (ap (λ (k : ℕ). number_for c.args.self.now c.args.max_held (k - c.args.size)) (sym (c.row_count-count.ensures ∙ rows_noted c.args.reply columns rows steps e))
          ∙ sym c.free_number.ensures ∙ c.in_err-number.was),
    )

pub returns : goal.returns
returns c columns rows steps e =
    held_page c.args.self.now c.args.max_held (string_bytes c.args.token) c.args.size columns (map row_text rows) steps c.in_ok-number.number c.in_ok-first.first c.in_ok-rows.rows c.keep.new.self
    (omega (arith, rows_noted c.args.reply columns rows steps e, c.row_count-count.ensures, c.if-count-size.false))
    (ap (λ (k : ℕ). number_for c.args.self.now c.args.max_held (k - c.args.size)) (sym (c.row_count-count.ensures ∙ rows_noted c.args.reply columns rows steps e))
    ∙ sym c.free_number.ensures ∙ c.in_ok-number.was)
    (c.in_ok-first.ensures columns rows steps e) (c.in_ok-rows.ensures columns rows steps e) c.in_ok-keep.ensures.ok

pub keep-requires : goal.keep-requires
keep-requires c = number_free c.args.self.now c.args.max_held (c.row_count-count.result - c.args.size) c.in_ok-number.number (sym c.free_number.ensures ∙ c.in_ok-number.was)

pub returns-in_err-keep : goal.returns-in_err-keep
returns-in_err-keep c columns rows steps e =
    let p = err_from_is_err_and c.from_residual-in_err-keep.result c.from_residual-in_err-keep.ensures.1 in
    let fit : held_rows c.args.self.now.pages + (c.row_count-count.result - c.args.size) ≤ c.args.max_held =
    rows_fit c.args.self.now c.args.max_held (c.row_count-count.result - c.args.size) c.in_ok-number.number (sym c.free_number.ensures ∙ c.in_ok-number.was) in
    let many : length c.in_ok-rows.rows ≡ length (map row_text rows) - c.args.size = ap (λ (rs : List (List ℕ)). length rs) (c.in_ok-rows.ensures columns rows steps e) ∙ length-drop c.args.size (map row_text rows) in
    rw (p.1, p.2)
    (c.in_err-keep.ensures.err, λ other. absurd (omega (arith, fit, many, c.in_err-keep.ensures.kind other, rows_noted c.args.reply columns rows steps e, c.row_count-count.ensures, c.ranges.max_held.fits)))

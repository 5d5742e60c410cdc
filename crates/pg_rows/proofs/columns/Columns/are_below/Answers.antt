use Rattle.std.proofs.Common.{◌≡◌, Some, length, slice_get, ◌-◌, is_lt, sym, ap, ◌∙◌, subst}
use Rattle.std.specs.Bool.{Decides}
use Rattle.pg_rows.proofs.Rising.{last_tells}
use Rattle.pg_rows.specs.Rising.{IsLastBelow}
use Rattle.pg_rows.proofs.columns.Columns.are_below.Goals as goal

pub returns-in-Some : goal.returns-in-Some
returns-in-Some c =
    let held = c.self.inside.names.items in
    let name = c.args.name.now in
    let last : Some c.in-Some.last.now ≡ slice_get held (length held - 1) = subst (λ xs. Some c.in-Some.last.now ≡ slice_get xs (length xs - 1)) c.deref.ensures.value c.in-Some.ensures.value in
    subst (λ b. Decides b (IsLastBelow name c.args.self.now)) (sym (c.is_lt.ensures ∙ ap is_lt c.order_of.ensures)) (last_tells name held c.args.self.now c.in-Some.last.now c.self.view_is last)

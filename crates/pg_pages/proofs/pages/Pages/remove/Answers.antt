use Rattle.std.proofs.Common.{ℕ, ◌-◌, arith, sym, ap, ◌∙◌}
use Rattle.pg_pages.proofs.Entries.{kept_without, rows_within, shows_removed}
use Rattle.pg_pages.proofs.pages.Pages.remove.Goals as goal

pub overflow_sub-self : goal.overflow_sub-self
overflow_sub-self c =
    omega (
      arith,
      c.len.ensures,
      rows_within c.args.number c.in-Some.page c.self.inside.by_number.entries c.self.inside.rows c.self.inside.next c.self.invariant (sym c.remove.ensures.value ∙ c.in-Some.is),
    )

pub invariant_of-self : goal.invariant_of-self
invariant_of-self c =
    kept_without c.args.number c.in-Some.page c.self.inside.by_number.entries c.remove.new.self.entries c.self.inside.rows c.self.inside.next _ c.self.invariant
    (sym c.remove.ensures.value ∙ c.in-Some.is) c.remove.ensures.entries c.remove.ensures.ordered (ap (λ (k : ℕ). c.self.inside.rows - k) c.len.ensures)

pub returns-in-Some : goal.returns-in-Some
returns-in-Some c =
    shows_removed c.args.number c.self.inside.next c.self.inside.by_number.entries c.remove.new.self.entries c.args.self.now c.self.view_is c.self.invariant.ordered c.remove.ensures.entries

pub returns-in_default : goal.returns-in_default
returns-in_default c =
    shows_removed c.args.number c.self.inside.next c.self.inside.by_number.entries c.remove.new.self.entries c.args.self.now c.self.view_is c.self.invariant.ordered c.remove.ensures.entries

use Rattle.std.proofs.Common.{◌≡◌, Err, refl, sym, ap, ◌∙◌, arith, length-drop}
use Rattle.std.specs.Option.{option_copied_mut}
use Rattle.pg_meaning.specs.declared.fault.Fault.TheVariants.{NoSuchPage}
use Rattle.pg_pages.specs.Held.{page_of}
use Rattle.pg_pages.proofs.Entries.{kept_with, left_of, no_page, rows_within, shows_given}
use Rattle.pg_pages.proofs.pages.Pages.skip.Goals as goal

pub overflow_sub-self-in-Some : goal.overflow_sub-self-in-Some
overflow_sub-self-in-Some c =
    omega (
      arith,
      c.len-before.ensures,
      rows_within c.args.number c.in-Some.page.now c.self.inside.by_number.entries c.self.inside.rows c.self.inside.next c.self.invariant
          (sym c.get_mut.ensures.value ∙ ap option_copied_mut c.in-Some.is),
    )

pub invariant_of-self : goal.invariant_of-self
invariant_of-self c =
    let q = left_of c.in-Some.page.now c.skip.new.self in
    kept_with c.args.number c.in-Some.page.now q c.self.inside.by_number.entries (c.get_mut.follows.lender q).entries c.self.inside.rows c.self.inside.next _ c.self.invariant
    (sym c.get_mut.ensures.value ∙ ap option_copied_mut c.in-Some.is) (c.get_mut.follows.holds q).0
    (rw (c.skip.ensures, length-drop c.in-Some.page.now.size c.in-Some.page.now.rows) (omega arith)) (rw (c.len-before.ensures, c.len.ensures) refl)

pub returns-in-Some : goal.returns-in-Some
returns-in-Some c token p there =
    let q = left_of c.in-Some.page.now c.skip.new.self in
    shows_given token c.args.number c.self.inside.next c.in-Some.page.now p c.skip.new.self c.self.inside.by_number.entries (c.get_mut.follows.lender q).entries c.args.self.now c.self.view_is
    c.self.invariant.ordered (sym c.get_mut.ensures.value ∙ ap option_copied_mut c.in-Some.is) there c.skip.ensures (c.get_mut.follows.holds q).0

pub returns-in_default : goal.returns-in_default
returns-in_default c token p there =
    let e : page_of c.args.self.now token c.args.number ≡ Err NoSuchPage =
    no_page token c.args.number c.self.inside.next c.self.inside.by_number.entries c.args.self.now c.self.view_is c.self.invariant.ordered
    (sym c.get_mut.ensures.value ∙ ap option_copied_mut c.in_default.is) in
    absurd (cc)

use Rattle.std.proofs.Common.{sym, ap, ◌∙◌}
use Rattle.std.specs.Option.{option_copied}
use Rattle.std.specs.Str.{bytes_eq}
use Rattle.pg_pages.proofs.Entries.{no_page, page_of_other, page_there}
use Rattle.pg_pages.proofs.pages.Pages.page.Goals.{in_default-via-in-Some+else-eq, in_default-via-in_default}
use Rattle.pg_pages.proofs.pages.Pages.page.Goals as goal

pub returns-in-Some : goal.returns-in-Some
returns-in-Some c =
    page_there c.args.token.now c.args.number c.self.inside.next c.in-Some.page.now c.self.inside.by_number.entries c.args.self.now c.self.view_is c.self.invariant.ordered
    (sym c.get.ensures.value ∙ ap option_copied c.in-Some.is) (ap (λ bs. bytes_eq bs c.args.token.now) (sym c.as_str.ensures.value) ∙ sym c.eq.ensures ∙ c.if-eq.true)

pub returns-in_default : goal.returns-in_default
returns-in_default c = elim c.in_default.branch [
  | in_default-via-in-Some+else-eq w ↦
      page_of_other c.args.token.now c.args.number c.self.inside.next w.in-Some.page.now c.self.inside.by_number.entries c.args.self.now c.self.view_is c.self.invariant.ordered
      (sym c.get.ensures.value ∙ ap option_copied w.in-Some.is) (ap (λ bs. bytes_eq bs c.args.token.now) (sym w.as_str.ensures.value) ∙ sym w.eq.ensures ∙ w.if-eq.false)
  | in_default-via-in_default w ↦
      no_page c.args.token.now c.args.number c.self.inside.next c.self.inside.by_number.entries c.args.self.now c.self.view_is c.self.invariant.ordered
      (sym c.get.ensures.value ∙ ap option_copied w.in_default.is)
]

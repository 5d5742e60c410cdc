use Rattle.std.proofs.Common.{Some, string_bytes, sym, ap, ◌∙◌}
use Rattle.std.specs.Option.{option_copied, option_map}
use Rattle.pg_pages.proofs.Entries.{puller_there}
use Rattle.pg_pages.specs.declared.pages.Page.{Page}
use Rattle.pg_pages.proofs.pages.Pages.puller.Goals as goal

pub returns-in-Some : goal.returns-in-Some
returns-in-Some c token =
    ap Some c.as_str.ensures.value
    ∙ sym (ap (option_map (λ (p : Page). string_bytes p.token)) (sym c.get.ensures.value ∙ ap option_copied c.in-Some.is))
    ∙ puller_there token c.args.number c.self.inside.next c.self.inside.by_number.entries c.args.self.now c.self.view_is c.self.invariant.ordered

pub returns-in-None : goal.returns-in-None
returns-in-None c token =
    sym (ap (option_map (λ (p : Page). string_bytes p.token)) (sym c.get.ensures.value ∙ ap option_copied c.in-None.is))
    ∙ puller_there token c.args.number c.self.inside.next c.self.inside.by_number.entries c.args.self.now c.self.view_is c.self.invariant.ordered

use Rattle.std.proofs.Common.{◌<◌, sym, subst, rules}
use Rattle.pg_meaning.specs.Meters.{greatest_id}
use Rattle.pg_pages.specs.Held.{Held}
use Rattle.pg_pages.proofs.Entries.{kept_more, shows_more}
use Rattle.pg_pages.proofs.pages.Pages.keep.Goals as goal

pub invariant_of-self-2 : goal.invariant_of-self-2
invariant_of-self-2 c =
    kept_more c.self.inside.next c.args.page c.self.inside.by_number.entries c.insert.new.self.entries c.self.inside.rows c.in-Some.rows c.self.invariant
    (subst (λ (h : Held). h.next < greatest_id) (sym c.self.view_is) c.requires) c.in_ok-insert.ensures.entries c.in_ok-insert.ensures.ordered (search rules)

pub returns-clause-ok : goal.returns-clause-ok
returns-clause-ok c =
    shows_more c.self.inside.next c.args.page c.self.inside.by_number.entries c.insert.new.self.entries c.args.self.now c.self.view_is c.self.invariant.below c.in_ok-insert.ensures.entries

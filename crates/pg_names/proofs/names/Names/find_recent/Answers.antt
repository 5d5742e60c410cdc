use Rattle.std.proofs.Common.{◌≡◌, Some, slice_get, sym, ap, subst, ◌∙◌}
use Rattle.pg_names.specs.Names.{AreDistinct}
use Rattle.pg_names.proofs.Interned.{place_of_text, same_bytes}
use Rattle.pg_names.proofs.names.Names.find_recent.Goals as goal

pub returns-then-same_text-clause-found : goal.returns-then-same_text-clause-found
returns-then-same_text-clause-found g c =
    let names = c.args.self.now in
    let number = c.number_at-number.result in
    let same = same_bytes c.args.text.now c.text_at.result.now (sym c.same_text.ensures ∙ c.if-same_text.true) in
    let stands : slice_get names number ≡ Some c.args.text.now =
    ap (λ ns. slice_get ns number) (sym c.self.view_is) ∙ c.text_at.ensures ∙ ap Some (sym same) in
    place_of_text names number c.args.text.now (subst AreDistinct c.self.view_is c.self.invariant) stands

use Rattle.std.proofs.Common.{◌++◌, ◌∷◌, [], Some, cond, sym, ap, subst, ◌∙◌}
use Rattle.std.specs.Str.{bytes_eq}
use Rattle.pg_names.specs.Names.{KeepsNames, with_name}
use Rattle.pg_names.proofs.Interned.{found_any, found_text, with_name_keeps}
use Rattle.pg_names.proofs.names.Names.number_of.Goals as goal

pub returns-in-Some-clause-number : goal.returns-in-Some-clause-number
returns-in-Some-clause-number g c = found_text _ _ _ (sym c.in-Some.ensures.found)

pub returns-in-Some-clause-grown : goal.returns-in-Some-clause-grown
returns-in-Some-clause-grown g c =
    let names = c.args.self.now in
    let text = c.args.text.now in
    sym (ap (λ b. cond b names (names ++ text ∷ [])) (found_any (bytes_eq text) names _ (sym c.in-Some.ensures.found)))

pub returns-clause-number : goal.returns-clause-number
returns-clause-number g c = c.in_ok-place.ensures.place ∙ ap Some c.in_ok-owned.ensures.ok

pub returns-clause-grown : goal.returns-clause-grown
returns-clause-grown g c =
    c.in_ok-place.ensures.ok ∙ ap (with_name (g.K.TextSet.texts c.self.inside.texts)) c.in_ok-owned.ensures.ok ∙ ap (λ n. with_name n c.args.text.now) c.self.view_is

pub returns-clause-keeps : goal.returns-clause-keeps
returns-clause-keeps g c = subst (KeepsNames c.args.self.now) (sym (returns-clause-grown g c)) (with_name_keeps c.args.self.now c.args.text.now)

use Rattle.std.proofs.Common.{◌++◌, ◌∷◌, [], cond, sym, ap}
use Rattle.std.specs.Str.{bytes_eq}
use Rattle.pg_names.proofs.Interned.{found_any, found_text}
use Rattle.pg_names.proofs.names.Names.intern.Goals as goal

pub returns-in-Some-clause-number : goal.returns-in-Some-clause-number
returns-in-Some-clause-number g c = found_text _ _ _ c.in-Some.ensures.found

pub returns-in-Some-clause-grown : goal.returns-in-Some-clause-grown
returns-in-Some-clause-grown g c =
    let names = c.args.self.now in
    let text = c.args.text.now in
    sym (ap (λ b. cond b names (names ++ text ∷ [])) (found_any (bytes_eq text) names _ c.in-Some.ensures.found))

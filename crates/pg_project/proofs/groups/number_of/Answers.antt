use Rattle.std.proofs.Common.{not, sym, ap}
use Rattle.pg_project.proofs.Numbers.{keys_stay}
use Rattle.pg_project.proofs.groups.number_of.Goals as goal

pub returns-then-is_number : goal.returns-then-is_number
returns-then-is_number c =
    let found = c.is_number.ensures c.if-is_number.true in
    let keys = c.args.keys.now.keys in
    record { keys = keys_stay keys c.args.key.now _ found; number = found.here; added = ap not (sym found.there); within = found.within; is = found }

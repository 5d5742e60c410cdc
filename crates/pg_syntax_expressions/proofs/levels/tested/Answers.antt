use Rattle.std.proofs.Common.{◌<◌, length, Some, ap, sym, arith}
use Rattle.std.proofs.lemmas.Bool.Decides.{nat_tests}
use Rattle.pg_syntax_expressions.proofs.Views.{tested_more}
use Rattle.pg_syntax_tree.proofs.Views.{tests_is}
use Rattle.pg_syntax_expressions.proofs.levels.tested.Goals as goal

pub returns : goal.returns
returns c =
    let some : 0 < length c.args.tests.items = grind (arith, nat_tests, c.if-is_empty.ensures) in
    rw (tests_is c.in_ok-new.field-0 c.args.tests, c.in_ok-new.ensures.ok) (ap Some (sym (tested_more _ c.args.tests.items some)))

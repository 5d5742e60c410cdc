use Rattle.std.proofs.Common.{◌<◌, length, Some, ap, sym, arith}
use Rattle.std.proofs.lemmas.Bool.Decides.{nat_tests}
use Rattle.pg_syntax_expressions.proofs.Views.{chained_more}
use Rattle.pg_syntax_tree.proofs.Views.{chain_is}
use Rattle.pg_syntax_expressions.proofs.chains.chained.Goals as goal

pub returns : goal.returns
returns c =
    let some : 0 < length c.args.operands.items = grind (arith, nat_tests, c.if-is_empty.ensures) in
    rw (chain_is c.in_ok-new.field-0 c.args.operands, c.in_ok-new.ensures.ok) (ap Some (sym (chained_more _ c.args.operands.items some)))

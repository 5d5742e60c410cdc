use Rattle.std.proofs.Common.{◌<◌, length, Some, ap, sym, arith}
use Rattle.std.proofs.lemmas.Bool.Decides.{nat_tests}
use Rattle.pg_syntax_expressions.proofs.Views.{suffixed_more, labelled_more}
use Rattle.pg_syntax_tree.proofs.Views.{suffixes_is}
use Rattle.pg_syntax_expressions.proofs.atoms.suffixed.Goals.{else-is_empty-via-then-is_empty+else-is_empty-2, else-is_empty-via-else-is_empty}
use Rattle.pg_syntax_expressions.proofs.atoms.suffixed.Goals as goal

pub returns : goal.returns
returns c =
    rw (suffixes_is c.in_ok-new.field-0 c.args.suffixes c.args.labels, c.in_ok-new.ensures.ok)
    (elim c.else-is_empty.branch [
      | else-is_empty-via-then-is_empty+else-is_empty-2 w ↦ let some : 0 < length c.args.labels.items = grind (arith, nat_tests, w.if-is_empty-2.ensures) in ap Some (sym (labelled_more _ c.args.suffixes.items c.args.labels.items some))
      | else-is_empty-via-else-is_empty w ↦ let some : 0 < length c.args.suffixes.items = grind (arith, nat_tests, w.if-is_empty.ensures) in ap Some (sym (suffixed_more _ c.args.suffixes.items c.args.labels.items some))
    ])

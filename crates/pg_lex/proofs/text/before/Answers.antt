use Rattle.std.proofs.Common.{◌∙◌}
use Rattle.pg_lex.proofs.Texts.{no_longer, cut, before_is}
use Rattle.pg_lex.proofs.text.before.Goals as goal

pub overflow_sub-text : goal.overflow_sub-text
overflow_sub-text c = no_longer _ _ c.utf8.text c.utf8.rest c.requires

pub range-requires-clause-end_boundary : goal.range-requires-clause-end_boundary
range-requires-clause-end_boundary c = cut _ _ c.utf8.text c.utf8.rest c.requires

pub returns : goal.returns
returns c = λ front e. c.range.ensures.value ∙ before_is _ _ front c.utf8.text c.utf8.rest e

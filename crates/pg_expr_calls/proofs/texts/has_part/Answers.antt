use Rattle.std.proofs.lemmas.Bool.Decides.{same_from_decides}
use Rattle.std.proofs.lemmas.Str.Pattern.{contains_text}
use Rattle.pg_meaning.specs.Expressions.{has_part}
use Rattle.pg_expr_calls.proofs.TextTests.{part_decides}
use Rattle.pg_expr_calls.proofs.texts.has_part.Goals as goal

pub returns : goal.returns
returns c =
    same_from_decides _ (has_part c.args.s.now c.args.t.now) (contains_text _ _ _ c.contains.ensures.cases) (part_decides c.args.s.now c.args.t.now)

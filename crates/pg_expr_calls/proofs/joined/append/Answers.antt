use Rattle.std.proofs.Common.{rules, [], ◌∷◌}
use Rattle.pg_expr_calls.proofs.Joins.{view_of_joined}
use Rattle.pg_expr_calls.proofs.joined.append.Goals as goal

pub returns-clause-ok : goal.returns-clause-ok
returns-clause-ok c =
    rw (← c.in_ok-items.ensures) (rw (← view_of_joined c.push.new.self.items c.in_ok-items.items.items (c.args.w ∷ []) c.in_ok-push.ensures.items) c.made_list.ensures.ok)

pub returns-clause-err : goal.returns-clause-err
returns-clause-err c =
    rw (← c.in_ok-items.ensures) (rw (← view_of_joined c.push.new.self.items c.in_ok-items.items.items (c.args.w ∷ []) c.in_ok-push.ensures.items) (search rules))

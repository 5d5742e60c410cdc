use Rattle.std.proofs.Common.{rules}
use Rattle.pg_expr_calls.proofs.Joins.{view_of_joined}
use Rattle.pg_expr_calls.proofs.joined.join_lists.Goals as goal

pub returns-clause-ok : goal.returns-clause-ok
returns-clause-ok c =
    rw (← c.in_ok-items.ensures, ← c.in_ok-behind.ensures)
    (rw (← view_of_joined c.append.new.self.items c.in_ok-items.items.items c.in_ok-behind.behind.items c.in_ok-append.ensures.items) c.made_list.ensures.ok)

pub returns-clause-err : goal.returns-clause-err
returns-clause-err c =
    rw (← c.in_ok-items.ensures, ← c.in_ok-behind.ensures)
    (rw (← view_of_joined c.append.new.self.items c.in_ok-items.items.items c.in_ok-behind.behind.items c.in_ok-append.ensures.items) (search rules))

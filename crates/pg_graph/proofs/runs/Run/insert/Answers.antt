use Rattle.std.proofs.Common.{sym, ap, not, ◌∙◌}
use Rattle.std.specs.List.{insert as insert_at}
use Rattle.pg_graph.proofs.SortedLists.{put_itself, put_missing, any_found, any_missing}
use Rattle.pg_graph.proofs.runs.Run.insert.Goals as goal

pub returns-in-Ok-clause-ok : goal.returns-in-Ok-clause-ok
returns-in-Ok-clause-ok c = sym (put_itself c.args.id c.args.self.now c.in-Ok._there c.requires c.in-Ok.ensures.0 c.in-Ok.ensures.1)

pub returns-in-Ok-clause-told : goal.returns-in-Ok-clause-told
returns-in-Ok-clause-told c = ap not (sym (any_found (λ n. n) c.args.id c.args.self.now c.in-Ok._there c.in-Ok.ensures.0 c.in-Ok.ensures.1))

pub returns-in_ok-insert-in-Err-clause-ok : goal.returns-in_ok-insert-in-Err-clause-ok
returns-in_ok-insert-in-Err-clause-ok c =
    c.in_ok-insert-in-Err.ensures.items ∙ ap (λ xs. insert_at xs c.in-Err.place c.args.id) c.self.view_is
    ∙ sym (put_missing (λ n. n) c.args.id c.args.self.now c.in-Err.place c.in-Err.ensures.0 c.in-Err.ensures.1)

pub returns-in_ok-insert-in-Err-clause-told : goal.returns-in_ok-insert-in-Err-clause-told
returns-in_ok-insert-in-Err-clause-told c = ap not (sym (any_missing (λ n. n) c.args.id c.args.self.now c.in-Err.place c.in-Err.ensures.1))

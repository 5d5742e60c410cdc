use Rattle.std.proofs.Common.{not, rules, sym, ap, subst, ◌∙◌}
use Rattle.std.proofs.lemmas.Result.{on_ok_weaker, on_err_weaker, IfOk-weaker}
use Rattle.pg_graph.specs.IdRuns.{AreRuns}
use Rattle.pg_graph.proofs.NamedChanges.{by_result}
use Rattle.pg_graph.proofs.RunLists.{inside, run_in_rises, run_put, runs_put, run_has, run_kept}
use Rattle.pg_graph.proofs.runs.insert_in.Goals as goal

pub index_mut-requires : goal.index_mut-requires
index_mut-requires c = let h = inside c.args.id c.args.runs.now.items c.args.i c.requires.at in search (rules, h)

pub insert-requires : goal.insert-requires
insert-requires c = run_in_rises c.args.runs.now.items c.args.i c.index_mut.result.now c.requires.runs (inside c.args.id _ _ c.requires.at) c.index_mut.ensures.value

pub returns-clause-ok : goal.returns-clause-ok
returns-clause-ok c =
    on_ok_weaker c.insert.result (run_put c.args.id c.args.runs.now.items c.args.i c.index_mut.result.now c.insert.new.self c.requires.at c.index_mut.ensures.value) c.insert.ensures.ok

pub returns-clause-told : goal.returns-clause-told
returns-clause-told c =
    IfOk-weaker c.insert.result _ _ (λ b e. e ∙ ap not (run_has c.args.id c.args.runs.now.items c.args.i c.index_mut.result.now c.requires.at c.index_mut.ensures.value)) c.insert.ensures.told

pub returns-clause-runs : goal.returns-clause-runs
returns-clause-runs c =
    let rs = c.args.runs.now.items in
    by_result c.insert.result
    (on_ok_weaker c.insert.result (λ e. runs_put c.args.id rs c.args.i c.index_mut.result.now c.insert.new.self c.requires.at c.index_mut.ensures.value e c.requires.runs) c.insert.ensures.ok)
    (on_err_weaker c.insert.result (λ e. subst AreRuns (sym (run_kept rs c.args.i c.index_mut.result.now c.insert.new.self (inside c.args.id _ _ c.requires.at) c.index_mut.ensures.value e)) c.requires.runs) c.insert.ensures.err)

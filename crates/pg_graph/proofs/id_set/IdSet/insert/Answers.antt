use Rattle.std.proofs.Common.{not, sym, ap, ◌∙◌}
use Rattle.std.proofs.lemmas.Result.{on_ok_weaker, IfOk-weaker}
use Rattle.std.specs.FinMap as map
use Rattle.pg_graph.specs.IdRuns.{set_of}
use Rattle.pg_graph.specs.IdSets.{ids_of}
use Rattle.pg_graph.proofs.IdSetLemmas.{contains_is, insert_is}
use Rattle.pg_graph.proofs.id_set.IdSet.insert.Goals as goal

pub returns-clause-ok : goal.returns-clause-ok
returns-clause-ok c =
    on_ok_weaker c.insert.result (λ is. ap set_of is ∙ insert_is c.args.id (ids_of c.self.inside.held) ∙ ap (λ m. map.insert m c.args.id tt) c.self.view_is) c.insert.ensures.ok

pub returns-clause-told : goal.returns-clause-told
returns-clause-told c =
    IfOk-weaker c.insert.result _ _ (λ b is. is ∙ ap not (sym (contains_is (ids_of c.self.inside.held) c.args.id) ∙ ap (λ m. map.contains_key m c.args.id) c.self.view_is)) c.insert.ensures.told

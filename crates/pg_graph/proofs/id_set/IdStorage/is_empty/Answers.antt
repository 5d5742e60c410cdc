use Rattle.std.proofs.Common.{◌≡◌, length, arith, rules, sym, ap, subst, ◌∙◌}
use Rattle.pg_graph.specs.IdSets.{ids_of, IsHeld}
use Rattle.pg_graph.proofs.RunLists.{no_runs}
use Rattle.pg_graph.proofs.id_set.IdStorage.is_empty.Goals as goal

pub returns-in-More-clause-exact : goal.returns-in-More-clause-exact
returns-in-More-clause-exact c = λ none.
    let no : length c.in-More.runs.value.items ≡ 0 = no_runs c.in-More.runs.value.items (subst IsHeld c.in-More.is c.requires) (sym (ap ids_of c.in-More.is) ∙ none) in
    search (rules, no, arith)

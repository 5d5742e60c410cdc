use Rattle.std.proofs.Common.{◌≡◌, length, rules}
use Rattle.pg_project.proofs.UnwoundLemmas.{list_left, only_list}
use Rattle.pg_project.proofs.lists.lone_list.Goals as goal

pub returns-clause-list : goal.returns-clause-list
returns-clause-list c =
    let old = c.args.lists.now.items in
    let one : length old ≡ 1 = search rules in
    only_list old c.pop.new.self.items c.pop.result c.pop.ensures.items one

pub returns-clause-none : goal.returns-clause-none
returns-clause-none c = list_left c.args.lists.now.items c.pop.new.self.items c.pop.result c.pop.ensures.items

use Rattle.pg_pool.proofs.ListPlaces.{list_begun, begun_apart}
use Rattle.pg_pool.proofs.SlabLemmas.{after_reserve, was_vacant}
use Rattle.pg_pool.specs.declared.ids.Ids.TheVariants.{One}
use Rattle.pg_pool.proofs.links.Links.begin.Goals as goal

pub returns-clause-ok : goal.returns-clause-ok
returns-clause-ok c = λ q.
    let old = c.args.self.now in
    list_begun old.places old.lists c.put.new.self c.in_ok-key.key c.args.node c.requires.apart c.requires.absent
    (was_vacant old.lists c.reserve.new.self c.put.new.self c.in_ok-key.key c.in_ok-key.ensures.slots c.in_ok-key.ensures.free) (One c.args.id)
    (after_reserve old.lists c.reserve.new.self c.put.new.self c.in_ok-key.key _ c.in_ok-key.ensures.slots c.put.ensures.updates)
    c.insert.new.self c.in_ok-insert.ensures.ok q

pub returns-clause-apart : goal.returns-clause-apart
returns-clause-apart c =
    let old = c.args.self.now in
    begun_apart old.places old.lists c.put.new.self c.in_ok-key.key c.args.node c.requires.apart c.requires.absent
    (was_vacant old.lists c.reserve.new.self c.put.new.self c.in_ok-key.key c.in_ok-key.ensures.slots c.in_ok-key.ensures.free) (One c.args.id)
    (after_reserve old.lists c.reserve.new.self c.put.new.self c.in_ok-key.key _ c.in_ok-key.ensures.slots c.put.ensures.updates)
    c.insert.new.self c.in_ok-insert.ensures.ok

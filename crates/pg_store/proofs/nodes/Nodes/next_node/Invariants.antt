use Rattle.std.proofs.Common.{◌≡◌, true, length}
use Rattle.pg_store.proofs.nodes.Nodes.next_node.Given as goal
use Rattle.pg_store.specs.Listing.{AreSought, IsListed, listing}

-- those left out are not there
abbrev pub invariant-loop-id : goal.invariant-loop-id
invariant-loop-id g l = record {
  listed : IsListed g.T.Tables.seen l.self-inside.store.now l.self-inside.shared.now l.self-inside.wanted;
  exact : l.self-inside.is_exact ≡ true → AreSought g.T.Tables.seen l.self-inside.store.now l.self-inside.shared.now l.self-inside.wanted l.self-inside.ids;
  rest : listing g.T.Tables.seen l.self-inside.store.now l.self-inside.shared.now l.self-inside.wanted l.self-inside.ids ≡ l.fn.self;
}

abbrev pub decreases-loop-id : goal.decreases-loop-id
decreases-loop-id g l = length l.self-inside.ids

-- A request's work on a live graph, from its begin to its end.
use Rattle.std.specs.Prelude.{◌≡◌, Result, OnErr}
use Rattle.pg_live.specs.Live.{Live}
use Rattle.pg_names.specs.Names.{KeepsNames}

-- work begins here
pub record HasBegun {L : Type 0} (l : Live L) : Type 0 where
  pub graph : l.aside.begun ≡ l.graph
  pub names : l.aside.names ≡ l.names

-- a refused request left the graph and the names; whatever it was, all other graphs stayed, each number its text, each transaction open,
-- and the indexes of all
pub record Settles {L X E : Type 0} (old new : Live L) (result : Result X E) : Type 0 where
  pub same : OnErr result (new.graph ≡ old.graph)
  pub same_names : OnErr result (new.names ≡ old.names)
  pub kept : KeepsNames old.names new.names
  pub others : new.aside.others ≡ old.aside.others
  pub place : new.aside.place ≡ old.aside.place
  pub begins : new.aside.begins ≡ old.aside.begins
  pub pairs : new.aside.pairs ≡ old.aside.pairs

use Rattle.std.proofs.Common.{rules, refl}
use Rattle.pg_live.proofs.HeldLemmas.{fit_of_parts}
use Rattle.pg_live.proofs.OpeningLemmas.{none_open, one_open}
use Rattle.pg_live.proofs.live_graph.empty_stores.Goals as goal

pub loop-owner-init : goal.loop-owner-init
loop-owner-init g c = none_open g.T.Tables.seen _ (search rules)

pub loop-owner-preserved : goal.loop-owner-preserved
loop-owner-preserved g c =
    one_open g.T.Tables.seen c.loop-owner.owner _ c.loop-owner.stores.items _ c.new.result c.loop-owner.invariant
    (record {
      own = c.new.ensures.owner;
      fit = λ shared distinct unused. fit_of_parts g.T.Tables.seen c.new.result (record { names = shared.names; tables = shared.tables }) (c.new.ensures.fit (record { names = shared.names; tables = shared.tables }) distinct unused);
      empty = λ shared unused. c.new.ensures.empty (record { names = shared.names; tables = shared.tables }) unused;
      indexes = c.new.ensures.indexes;
    }) c.in_ok-push.ensures.items refl

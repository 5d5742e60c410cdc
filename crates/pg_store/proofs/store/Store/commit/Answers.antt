use Rattle.std.proofs.Common.{ap, ◌∙◌}
use Rattle.std.specs.Global.{Vec}
use Rattle.pg_graph.proofs.Others.{keeps_trans}
use Rattle.pg_store.proofs.Noting.{none_kept_is_empty}
use Rattle.pg_store.proofs.Settled.{forgotten}
use Rattle.pg_store.proofs.store.Store.commit.Goals as goal
use Rattle.pg_store.specs.Journal.{State}
use Rattle.pg_store.specs.declared.journal.Entry.{Entry}

pub settle_keys-requires : goal.settle_keys-requires
settle_keys-requires g c = forgotten g.T.Tables.seen c.args.self.now c.args.shared.now c.requires.fit _ (ap (λ (v : Vec Entry). v.items) c.replace-entries.ensures.after ∙ c.new.ensures.items)

pub settle_rels-requires : goal.settle_rels-requires
settle_rels-requires g c =
    let keys = c.settle_keys.ensures.settled.settling in
    record { fits = keys.fits; well = keys.well; journal = c.settle_keys.ensures.none; covered = keys.covered; noted = keys.noted }

pub settle_nodes-requires : goal.settle_nodes-requires
settle_nodes-requires g c = record { settling = c.settle_rels.ensures.settled.settling; no_rels = c.settle_rels.ensures.none }

pub sweep-requires : goal.sweep-requires
sweep-requires g c = record { settling = c.settle_nodes.ensures.settled.settling; none_gone = c.settle_nodes.ensures.none_gone }

pub returns-clause-graph : goal.returns-clause-graph
returns-clause-graph g c = c.sweep.ensures.settled.graph ∙ c.settle_nodes.ensures.settled.graph ∙ c.settle_rels.ensures.settled.graph ∙ c.settle_keys.ensures.settled.graph

pub returns-clause-names : goal.returns-clause-names
returns-clause-names g c = c.settle_nodes.ensures.settled.names ∙ c.settle_rels.ensures.settled.names ∙ c.settle_keys.ensures.settled.names

pub returns-clause-no_mark : goal.returns-clause-no_mark
returns-clause-no_mark g c = c.sweep.ensures.settled.settling.journal

pub returns-clause-none_gone : goal.returns-clause-none_gone
returns-clause-none_gone g c = ap (λ (s : State). s.gone_nodes) c.sweep.ensures.state ∙ c.settle_nodes.ensures.none_gone.nodes

pub returns-clause-none_empty : goal.returns-clause-none_empty
returns-clause-none_empty g c = none_kept_is_empty c.sweep.new.self.sets

pub returns-clause-pairs : goal.returns-clause-pairs
returns-clause-pairs g c = c.sweep.ensures.settled.pairs ∙ c.settle_nodes.ensures.settled.pairs ∙ c.settle_rels.ensures.settled.pairs ∙ c.settle_keys.ensures.settled.pairs

pub returns-clause-keeps : goal.returns-clause-keeps
returns-clause-keeps g c =
    let start = c.args.self.now.tables in
    let keys = c.settle_keys.ensures.settled in
    let end = c.settle_nodes.new.shared.tables in
    keeps_trans start c.settle_keys.new.self.tables c.sweep.new.self.tables c.args.shared.now.tables c.settle_keys.new.shared.tables end keys.keeps
    (keeps_trans c.settle_keys.new.self.tables c.settle_nodes.new.self.tables c.sweep.new.self.tables c.settle_keys.new.shared.tables end end
    (keeps_trans c.settle_keys.new.self.tables c.settle_rels.new.self.tables c.settle_nodes.new.self.tables c.settle_keys.new.shared.tables c.settle_rels.new.shared.tables end c.settle_rels.ensures.settled.keeps c.settle_nodes.ensures.settled.keeps)
    c.sweep.ensures.settled.keeps)

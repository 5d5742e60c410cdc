use Rattle.std.proofs.Common.{ap, subst, sym, ◌∙◌}
use Rattle.pg_graph.proofs.Others.{keeps_refl}
use Rattle.pg_graph.specs.Content.{Keeps}
use Rattle.pg_live.proofs.LiveLemmas.{aside_with_pairs, live_anew, none_open, pairs_there}
use Rattle.pg_live.specs.Live.{Live, aside_of, begun_at, open_at, pairs_at, with_pairs}
use Rattle.pg_store.specs.Indexed.{IsOneLess}
use Rattle.pg_store.specs.Stores.{graph_of_store, index_pairs}
use Rattle.pg_live.proofs.live_graph.LiveGraph.drop_index.Goals as goal

pub mark-self-inside-requires : goal.mark-self-inside-requires
mark-self-inside-requires g c = record { fit = c.drop_index.ensures.fit c.self.inside.shared c.self.invariant.fit }

pub invariant_of-self : goal.invariant_of-self
invariant_of-self g c =
    let i = c.self.inside in
    let new = c.drop_index.new.self in
    let m = c.mark-self-inside.ensures in
    let none = none_open g.T.Tables.seen c.self.inside.store c.self.inside.others.items c.self.inside.shared c.self.inside.place c.self.inside.mark c.self.inside.begins.items c.self.invariant (ap (λ (l : Live _). open_at l.aside) c.self.view_is ∙ c.requires.closed) in
    let keeps : Keeps g.T.Tables.seen i.store.tables i.shared.tables new.tables i.shared.tables =
    subst (λ (t : g.row.T.Denot). Keeps g.T.Tables.seen i.store.tables i.shared.tables t i.shared.tables) (sym c.drop_index.ensures.tables) (keeps_refl i.store.tables i.shared.tables c.self.invariant.fit.fits) in
    live_anew g.T.Tables.seen c.self.inside.store c.self.inside.others.items c.self.inside.shared c.self.inside.place c.self.inside.mark c.self.inside.begins.items c.self.invariant new i.shared c.mark-self-inside.result keeps (λ n t h. h) (record { there = m.there; graph = m.graph; names = m.names; journal = m.journal }) (graph_of_store g.T.Tables.seen i.store i.shared) (c.drop_index.ensures.same i.shared) (c.drop_index.ensures.fit i.shared c.self.invariant.fit) (λ b is has. absurd (cc (is, none)))

pub returns-clause-begun : goal.returns-clause-begun
returns-clause-begun g c =
    let i = c.self.inside in
    let new = c.drop_index.new.self in
    let m = c.mark-self-inside.ensures in
    let none = none_open g.T.Tables.seen c.self.inside.store c.self.inside.others.items c.self.inside.shared c.self.inside.place c.self.inside.mark c.self.inside.begins.items c.self.invariant (ap (λ (l : Live _). open_at l.aside) c.self.view_is ∙ c.requires.closed) in
    let keeps : Keeps g.T.Tables.seen i.store.tables i.shared.tables new.tables i.shared.tables =
    subst (λ (t : g.row.T.Denot). Keeps g.T.Tables.seen i.store.tables i.shared.tables t i.shared.tables) (sym c.drop_index.ensures.tables) (keeps_refl i.store.tables i.shared.tables c.self.invariant.fit.fits) in
    aside_with_pairs g.T.Tables.seen c.self.inside.store c.self.inside.others.items c.self.inside.shared c.self.inside.place c.self.inside.mark c.self.inside.begins.items c.self.invariant new i.shared c.mark-self-inside.result keeps (λ n t h. h) (record { there = m.there; graph = m.graph; names = m.names; journal = m.journal }) (graph_of_store g.T.Tables.seen i.store i.shared) (c.drop_index.ensures.same i.shared) (c.drop_index.ensures.fit i.shared c.self.invariant.fit) (λ b is has. absurd (cc (is, none)))
    ∙ ap (λ (l : Live _). with_pairs (pairs_at (aside_of g.T.Tables.seen new i.others.items i.shared i.place c.mark-self-inside.result i.begins.items)) (begun_at l.graph l.names l.aside)) c.self.view_is

pub returns-clause-less : goal.returns-clause-less
returns-clause-less g c =
    let i = c.self.inside in
    let new = c.drop_index.new.self in
    let after = pairs_at (aside_of g.T.Tables.seen new i.others.items i.shared i.place c.mark-self-inside.result i.begins.items) in
    subst (λ (l : Live _). IsOneLess l.names c.args.label.now c.args.key.now (pairs_at l.aside) after) c.self.view_is
    (subst (λ ps. IsOneLess i.shared.names c.args.label.now c.args.key.now ps after) (sym (pairs_there i.others.items i.place i.store c.self.invariant.within))
    (subst (IsOneLess i.shared.names c.args.label.now c.args.key.now (index_pairs i.store)) (sym (pairs_there i.others.items i.place new c.self.invariant.within)) c.drop_index.ensures.less))

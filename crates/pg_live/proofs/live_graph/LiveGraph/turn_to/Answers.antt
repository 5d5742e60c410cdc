use Rattle.std.proofs.Common.{◌<◌, get_or, length, ap, refl, subst, sym, ◌∙◌}
use Rattle.pg_live.proofs.TurnLemmas.{is_place, next_fits, same_begins, same_graphs, same_pairs, turned_live}
use Rattle.pg_live.specs.Live.{Live, graphs_of, live_of, IsLive}
use Rattle.pg_live.proofs.live_graph.LiveGraph.turn_to.Goals as goal

pub exchange-requires : goal.exchange-requires
exchange-requires g c =
    let seen = g.T.Tables.seen in
    let i = c.self.inside in
    let os = i.others.items in
    let below : c.args.place < length os = is_place seen i.store os i.shared i.place i.mark i.begins.items c.args.place c.args.self.now c.self.view_is c.requires in
    record { from = c.self.invariant.within; to = below }

pub mark-self-inside-requires : goal.mark-self-inside-requires
mark-self-inside-requires g c =
    let seen = g.T.Tables.seen in
    let i = c.self.inside in
    let os = i.others.items in
    let below : c.args.place < length os = is_place seen i.store os i.shared i.place i.mark i.begins.items c.args.place c.args.self.now c.self.view_is c.requires in
    record { fit = next_fits seen i.store os i.shared i.place i.mark i.begins.items c.self.invariant (get_or os i.place i.store) c.exchange.new.store refl c.args.place below c.exchange.ensures.store }

pub invariant_of-self : goal.invariant_of-self
invariant_of-self g c =
    let seen = g.T.Tables.seen in
    let i = c.self.inside in
    let os = i.others.items in
    let below : c.args.place < length os = is_place seen i.store os i.shared i.place i.mark i.begins.items c.args.place c.args.self.now c.self.view_is c.requires in
    let m = c.mark-self-inside.ensures in
    subst (λ ss. IsLive seen c.exchange.new.store ss i.shared c.args.place c.mark-self-inside.result i.begins.items) (sym c.exchange.ensures.others)
    (turned_live seen i.store os i.shared i.place i.mark i.begins.items c.self.invariant (get_or os i.place i.store) c.exchange.new.store refl c.args.place below c.exchange.ensures.store c.mark-self-inside.result (record { there = m.there; graph = m.graph; names = m.names; journal = m.journal }))

pub returns-clause-graphs : goal.returns-clause-graphs
returns-clause-graphs g c =
    let seen = g.T.Tables.seen in
    let i = c.self.inside in
    let os = i.others.items in
    let below : c.args.place < length os = is_place seen i.store os i.shared i.place i.mark i.begins.items c.args.place c.args.self.now c.self.view_is c.requires in
    let m = c.mark-self-inside.ensures in
    ap (λ ss. graphs_of (live_of seen c.exchange.new.store ss i.shared c.args.place c.mark-self-inside.result i.begins.items)) c.exchange.ensures.others
    ∙ same_graphs seen i.store os i.shared i.place i.mark i.begins.items c.self.invariant (get_or os i.place i.store) c.exchange.new.store refl c.args.place below c.exchange.ensures.store c.mark-self-inside.result (record { there = m.there; graph = m.graph; names = m.names; journal = m.journal })
    ∙ ap graphs_of c.self.view_is

pub returns-clause-begins : goal.returns-clause-begins
returns-clause-begins g c =
    let seen = g.T.Tables.seen in
    let i = c.self.inside in
    let os = i.others.items in
    let below : c.args.place < length os = is_place seen i.store os i.shared i.place i.mark i.begins.items c.args.place c.args.self.now c.self.view_is c.requires in
    let m = c.mark-self-inside.ensures in
    ap (λ ss. (live_of seen c.exchange.new.store ss i.shared c.args.place c.mark-self-inside.result i.begins.items).aside.begins) c.exchange.ensures.others
    ∙ same_begins seen i.store os i.shared i.place i.mark i.begins.items c.self.invariant (get_or os i.place i.store) c.exchange.new.store refl c.args.place below c.exchange.ensures.store c.mark-self-inside.result (record { there = m.there; graph = m.graph; names = m.names; journal = m.journal })
    ∙ ap (λ (l : Live _). l.aside.begins) c.self.view_is

pub returns-clause-pairs : goal.returns-clause-pairs
returns-clause-pairs g c =
    let seen = g.T.Tables.seen in
    let i = c.self.inside in
    let os = i.others.items in
    let below : c.args.place < length os = is_place seen i.store os i.shared i.place i.mark i.begins.items c.args.place c.args.self.now c.self.view_is c.requires in
    let m = c.mark-self-inside.ensures in
    ap (λ ss. (live_of seen c.exchange.new.store ss i.shared c.args.place c.mark-self-inside.result i.begins.items).aside.pairs) c.exchange.ensures.others
    ∙ same_pairs seen i.store os i.shared i.place i.mark i.begins.items c.self.invariant (get_or os i.place i.store) c.exchange.new.store refl c.args.place below c.exchange.ensures.store c.mark-self-inside.result (record { there = m.there; graph = m.graph; names = m.names; journal = m.journal })
    ∙ ap (λ (l : Live _). l.aside.pairs) c.self.view_is

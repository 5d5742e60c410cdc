use Rattle.std.proofs.Common.{ap, subst, sym, ◌∙◌}
use Rattle.pg_live.proofs.LiveLemmas.{aside_again, aside_anew, first_kept, live_again, live_anew, no_names_lost, own_entry}
use Rattle.pg_live.proofs.OpenLemmas.{is_nothing}
use Rattle.pg_live.specs.Live.{Live, begun_at}
use Rattle.pg_names.specs.Names.{KeepsNames}
use Rattle.pg_store.specs.Stores.{graph_of_store}
use Rattle.pg_live.proofs.live_graph.LiveGraph.commit.Goals as goal

pub invariant_of-self : goal.invariant_of-self
invariant_of-self g c = let m = c.mark-self-inside.ensures in live_again g.T.Tables.seen c.self.inside.store c.self.inside.others.items c.self.inside.shared c.self.inside.place c.self.inside.mark c.self.inside.begins.items c.self.invariant c.mark-self-inside.result (record { there = m.there; graph = m.graph; names = m.names; journal = m.journal })

pub invariant_of-self-2 : goal.invariant_of-self-2
invariant_of-self-2 g c =
    let m = c.mark-self-inside-2.ensures in
    let none = sym (own_entry g.T.Tables.seen c.self.inside.store c.self.inside.others.items c.self.inside.shared c.self.inside.place c.self.inside.mark c.self.inside.begins.items c.self.invariant c.index.result.now c.index.ensures) ∙ is_nothing c.index.result.now (sym c.is_some.ensures ∙ c.if-is_some.false) in
    live_anew g.T.Tables.seen c.self.inside.store c.self.inside.others.items c.self.inside.shared c.self.inside.place c.self.inside.mark c.self.inside.begins.items c.self.invariant c.commit.new.self c.commit.new.shared c.mark-self-inside-2.result c.commit.ensures.keeps (no_names_lost c.self.inside.shared.names c.commit.new.shared.names c.commit.ensures.names) (record { there = m.there; graph = m.graph; names = m.names; journal = m.journal }) (graph_of_store g.T.Tables.seen c.self.inside.store c.self.inside.shared) c.commit.ensures.graph c.commit.ensures.fit (λ b is has. absurd (cc (is, none)))

pub returns-then-is_some-clause-grown : goal.returns-then-is_some-clause-grown
returns-then-is_some-clause-grown g c = subst (λ (l : Live _). KeepsNames l.aside.names l.names) c.self.view_is (first_kept g.T.Tables.seen c.self.inside.store c.self.inside.others.items c.self.inside.shared c.self.inside.place c.self.inside.mark c.self.inside.begins.items c.self.invariant)

pub returns-then-is_some-clause-begun : goal.returns-then-is_some-clause-begun
returns-then-is_some-clause-begun g c =
    let m = c.mark-self-inside.ensures in
    aside_again g.T.Tables.seen c.self.inside.store c.self.inside.others.items c.self.inside.shared c.self.inside.place c.self.inside.mark c.self.inside.begins.items c.self.invariant c.mark-self-inside.result (record { there = m.there; graph = m.graph; names = m.names; journal = m.journal })
    ∙ ap (λ (l : Live _). begun_at l.graph l.names l.aside) c.self.view_is

pub returns-clause-grown : goal.returns-clause-grown
returns-clause-grown g c = subst (λ (l : Live _). KeepsNames l.aside.names l.names) c.self.view_is (first_kept g.T.Tables.seen c.self.inside.store c.self.inside.others.items c.self.inside.shared c.self.inside.place c.self.inside.mark c.self.inside.begins.items c.self.invariant)

pub returns-clause-begun : goal.returns-clause-begun
returns-clause-begun g c =
    let m = c.mark-self-inside-2.ensures in
    let none = sym (own_entry g.T.Tables.seen c.self.inside.store c.self.inside.others.items c.self.inside.shared c.self.inside.place c.self.inside.mark c.self.inside.begins.items c.self.invariant c.index.result.now c.index.ensures) ∙ is_nothing c.index.result.now (sym c.is_some.ensures ∙ c.if-is_some.false) in
    aside_anew g.T.Tables.seen c.self.inside.store c.self.inside.others.items c.self.inside.shared c.self.inside.place c.self.inside.mark c.self.inside.begins.items c.self.invariant c.commit.new.self c.commit.new.shared c.mark-self-inside-2.result c.commit.ensures.keeps (no_names_lost c.self.inside.shared.names c.commit.new.shared.names c.commit.ensures.names) (record { there = m.there; graph = m.graph; names = m.names; journal = m.journal }) (graph_of_store g.T.Tables.seen c.self.inside.store c.self.inside.shared) c.commit.ensures.graph c.commit.ensures.fit (λ b is has. absurd (cc (is, none))) c.commit.ensures.pairs
    ∙ (λ i. begun_at (c.self.view_is i).graph (c.commit.ensures.names i) (c.self.view_is i).aside)
    ∙ ap (λ names. begun_at c.args.self.now.graph names c.args.self.now.aside) (ap (λ (l : Live _). l.names) c.self.view_is)

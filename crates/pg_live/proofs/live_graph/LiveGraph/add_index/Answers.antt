use Rattle.std.proofs.Common.{◌≡◌, ℕ, List, ap, subst, sym, ◌∙◌}
use Rattle.std.specs.List.{list_any}
use Rattle.std.specs.Prelude.{true, OnErr, OnOk}
use Rattle.pg_live.proofs.LiveLemmas.{aside_with_pairs, live_anew, none_open, pairs_there}
use Rattle.pg_live.specs.Live.{Live, aside_of, begun_at, open_at, pairs_at, with_pairs}
use Rattle.pg_names.specs.Names.{KeepsNames}
use Rattle.pg_store.specs.Indexed.{is_named, IsOneMore}
use Rattle.pg_store.specs.Stores.{graph_of_store, index_pairs}
use Rattle.pg_live.proofs.live_graph.LiveGraph.add_index.Goals as goal

pub invariant_of-self : goal.invariant_of-self
invariant_of-self g c =
    let i = c.self.inside in
    let made = c.add_index-result in
    let m = c.mark-self-inside.ensures in
    let none = none_open g.T.Tables.seen c.self.inside.store c.self.inside.others.items c.self.inside.shared c.self.inside.place c.self.inside.mark c.self.inside.begins.items c.self.invariant (ap (λ (l : Live _). open_at l.aside) c.self.view_is ∙ c.requires.closed) in
    live_anew g.T.Tables.seen c.self.inside.store c.self.inside.others.items c.self.inside.shared c.self.inside.place c.self.inside.mark c.self.inside.begins.items c.self.invariant made.new.self made.new.shared c.mark-self-inside.result made.ensures.changes.keeps.tables made.ensures.changes.keeps.names (record { there = m.there; graph = m.graph; names = m.names; journal = m.journal }) (graph_of_store g.T.Tables.seen i.store i.shared) made.ensures.changes.says made.ensures.changes.fit (λ b is has. absurd (cc (is, none)))

pub returns-clause-grown : goal.returns-clause-grown
returns-clause-grown g c = subst (λ (l : Live _). KeepsNames l.names c.add_index-result.new.shared.names) c.self.view_is c.add_index-result.ensures.changes.keeps.names

pub returns-clause-begun : goal.returns-clause-begun
returns-clause-begun g c =
    let i = c.self.inside in
    let made = c.add_index-result in
    let m = c.mark-self-inside.ensures in
    let none = none_open g.T.Tables.seen c.self.inside.store c.self.inside.others.items c.self.inside.shared c.self.inside.place c.self.inside.mark c.self.inside.begins.items c.self.invariant (ap (λ (l : Live _). open_at l.aside) c.self.view_is ∙ c.requires.closed) in
    aside_with_pairs g.T.Tables.seen c.self.inside.store c.self.inside.others.items c.self.inside.shared c.self.inside.place c.self.inside.mark c.self.inside.begins.items c.self.invariant made.new.self made.new.shared c.mark-self-inside.result made.ensures.changes.keeps.tables made.ensures.changes.keeps.names (record { there = m.there; graph = m.graph; names = m.names; journal = m.journal }) (graph_of_store g.T.Tables.seen i.store i.shared) made.ensures.changes.says made.ensures.changes.fit (λ b is has. absurd (cc (is, none)))
    ∙ ap (λ (l : Live _). with_pairs (pairs_at (aside_of g.T.Tables.seen made.new.self i.others.items made.new.shared i.place c.mark-self-inside.result i.begins.items)) (begun_at l.graph made.new.shared.names l.aside)) c.self.view_is

pub returns-clause-there : goal.returns-clause-there
returns-clause-there g c =
    let i = c.self.inside in
    let made = c.add_index-result in
    subst (λ ps. OnOk made.result (list_any (is_named made.new.shared.names c.args.label.now c.args.key.now) ps ≡ true))
    (sym (pairs_there i.others.items i.place made.new.self c.self.invariant.within)) made.ensures.there

pub returns-clause-more : goal.returns-clause-more
returns-clause-more g c =
    let i = c.self.inside in
    let made = c.add_index-result in
    let More : List (ℕ × ℕ) → List (ℕ × ℕ) → Type 0 = λ old new. OnOk made.result (IsOneMore made.new.shared.names c.args.label.now c.args.key.now old new) in
    let before = sym (pairs_there i.others.items i.place i.store c.self.invariant.within) ∙ ap (λ (l : Live _). pairs_at l.aside) c.self.view_is in
    subst (λ ps. More ps (pairs_at (aside_of g.T.Tables.seen made.new.self i.others.items made.new.shared i.place c.mark-self-inside.result i.begins.items))) before
    (subst (More (index_pairs i.store)) (sym (pairs_there i.others.items i.place made.new.self c.self.invariant.within)) made.ensures.more)

pub returns-clause-same : goal.returns-clause-same
returns-clause-same g c =
    let i = c.self.inside in
    let made = c.add_index-result in
    let before = sym (pairs_there i.others.items i.place i.store c.self.invariant.within) ∙ ap (λ (l : Live _). pairs_at l.aside) c.self.view_is in
    subst (λ ps. OnErr made.result (pairs_at (aside_of g.T.Tables.seen made.new.self i.others.items made.new.shared i.place c.mark-self-inside.result i.begins.items) ≡ ps)) before
    (subst (λ ps. OnErr made.result (ps ≡ index_pairs i.store)) (sym (pairs_there i.others.items i.place made.new.self c.self.invariant.within)) made.ensures.same)

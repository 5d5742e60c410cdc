use Rattle.std.proofs.Common.{ap, sym, ◌∙◌}
use Rattle.std.specs.Option.{option_map}
use Rattle.pg_live.proofs.LiveLemmas.{own_closed, own_entry, own_holder}
use Rattle.pg_live.specs.Live.{Live, open_at}
use Rattle.pg_live.proofs.live_graph.LiveGraph.holder.Goals as goal

pub returns-in-Some-clause-is : goal.returns-in-Some-clause-is
returns-in-Some-clause-is g c =
    ap (λ o. option_map (λ b. b.holder) o) (sym c.in-Some.is)
    ∙ own_holder g.T.Tables.seen c.self.inside.store c.self.inside.others.items c.self.inside.shared c.self.inside.place c.self.inside.mark c.self.inside.begins.items c.self.invariant c.index.result.now (own_entry g.T.Tables.seen c.self.inside.store c.self.inside.others.items c.self.inside.shared c.self.inside.place c.self.inside.mark c.self.inside.begins.items c.self.invariant c.index.result.now c.index.ensures)
    ∙ ap (λ (l : Live _). option_map (λ b. b.holder) (open_at l.aside)) c.self.view_is

pub returns-in-None-clause-is : goal.returns-in-None-clause-is
returns-in-None-clause-is g c =
    ap (λ o. option_map (λ b. b.holder) o) (sym c.in-None.is)
    ∙ own_holder g.T.Tables.seen c.self.inside.store c.self.inside.others.items c.self.inside.shared c.self.inside.place c.self.inside.mark c.self.inside.begins.items c.self.invariant c.index.result.now (own_entry g.T.Tables.seen c.self.inside.store c.self.inside.others.items c.self.inside.shared c.self.inside.place c.self.inside.mark c.self.inside.begins.items c.self.invariant c.index.result.now c.index.ensures)
    ∙ ap (λ (l : Live _). option_map (λ b. b.holder) (open_at l.aside)) c.self.view_is

pub returns-in-None-clause-closed : goal.returns-in-None-clause-closed
returns-in-None-clause-closed g c =
    ap (λ (l : Live _). open_at l.aside) (sym c.self.view_is)
    ∙ own_closed g.T.Tables.seen c.self.inside.store c.self.inside.others.items c.self.inside.shared c.self.inside.place c.self.inside.mark c.self.inside.begins.items c.self.invariant (sym c.in-None.is ∙ own_entry g.T.Tables.seen c.self.inside.store c.self.inside.others.items c.self.inside.shared c.self.inside.place c.self.inside.mark c.self.inside.begins.items c.self.invariant c.index.result.now c.index.ensures)

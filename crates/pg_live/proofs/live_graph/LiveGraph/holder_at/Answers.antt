use Rattle.std.proofs.Common.{None, get_or, arith, ap, sym, ◌∙◌}
use Rattle.std.specs.Option.{option_map}
use Rattle.pg_live.proofs.HolderLemmas.{holder_there, none_there}
use Rattle.pg_live.specs.Live.{Live}
use Rattle.pg_live.proofs.live_graph.LiveGraph.holder_at.Goals as goal

pub returns-then-place-len : goal.returns-then-place-len
returns-then-place-len g c =
    none_there g.T.Tables.seen c.self.inside.store c.self.inside.others.items c.self.inside.shared c.self.inside.place c.self.inside.mark c.self.inside.begins.items c.self.invariant c.args.place (omega (arith, c.if-place-len.true, c.len.ensures))
    ∙ ap (λ (l : Live _). option_map (λ b. b.holder) (get_or l.aside.begins c.args.place None)) c.self.view_is

pub returns-in-Some : goal.returns-in-Some
returns-in-Some g c =
    ap (λ o. option_map (λ b. b.holder) o) (sym c.in-Some.is)
    ∙ holder_there g.T.Tables.seen c.self.inside.store c.self.inside.others.items c.self.inside.shared c.self.inside.place c.self.inside.mark c.self.inside.begins.items c.self.invariant c.args.place c.index.result.now (omega (arith, c.if-place-len.false, c.len.ensures)) c.index.ensures
    ∙ ap (λ (l : Live _). option_map (λ b. b.holder) (get_or l.aside.begins c.args.place None)) c.self.view_is

pub returns-in-None : goal.returns-in-None
returns-in-None g c =
    ap (λ o. option_map (λ b. b.holder) o) (sym c.in-None.is)
    ∙ holder_there g.T.Tables.seen c.self.inside.store c.self.inside.others.items c.self.inside.shared c.self.inside.place c.self.inside.mark c.self.inside.begins.items c.self.invariant c.args.place c.index.result.now (omega (arith, c.if-place-len.false, c.len.ensures)) c.index.ensures
    ∙ ap (λ (l : Live _). option_map (λ b. b.holder) (get_or l.aside.begins c.args.place None)) c.self.view_is

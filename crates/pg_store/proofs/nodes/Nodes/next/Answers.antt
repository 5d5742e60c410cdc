use Rattle.std.proofs.Common.{IfSome, sym, subst}
use Rattle.pg_store.proofs.Listings.{is_labelled}
use Rattle.pg_store.proofs.nodes.Nodes.next.Goals as goal
use Rattle.pg_store.proofs.nodes.Nodes.next.Goals.{in-Some, in-None}
use Rattle.pg_store.specs.Listing.{AreSought, IsLabelled, Listing}
use Rattle.pg_store.specs.Stores.{state_of}

pub returns-then-self-clause-is : goal.returns-then-self-clause-is
returns-then-self-clause-is g c =
    let store = c.self.inside.store.now in
    let shared = c.self.inside.shared.now in
    elim c.match-next.branch [
      | in-Some w ↦
          let sought = subst (AreSought g.T.Tables.seen store shared c.self.inside.wanted) w.in-Some.ensures.some (c.self.invariant.1 c.if-self.true) in
          subst (λ o. IfSome o (λ id. IsLabelled c.args.self.now.graph c.args.self.now.label id.0)) (sym w.result-is)
          (subst (λ (l : Listing). IsLabelled l.graph l.label w.in-Some.id) c.self.view_is (is_labelled shared.names (state_of g.T.Tables.seen store shared) c.self.invariant.0.fit.well c.self.inside.wanted c.self.invariant.0.named w.in-Some.id sought.0))
      | in-None w ↦ subst (λ o. IfSome o (λ id. IsLabelled c.args.self.now.graph c.args.self.now.label id.0)) (sym w.result-is) tt
    ]

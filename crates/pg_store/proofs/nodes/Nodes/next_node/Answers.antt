use Rattle.std.proofs.Common.{◌≡◌, true, Some, IfSome, sym, ap, subst, ◌∙◌}
use Rattle.std.specs.Option.{option_map}
use Rattle.pg_graph.proofs.Refined.{node_is_read}
use Rattle.pg_graph.specs.Refinement.{label_texts, node_of}
use Rattle.pg_meaning.specs.Graph.{Node, node_at}
use Rattle.pg_meaning.specs.Names.{is_among}
use Rattle.pg_store.proofs.Listings.{has_sought}
use Rattle.pg_store.proofs.nodes.Nodes.next_node.Goals as goal
use Rattle.pg_store.specs.Journal.{live}
use Rattle.pg_store.specs.Listing.{Listing}
use Rattle.pg_store.specs.Stores.{state_of}

pub of-requires : goal.of-requires
of-requires g c =
    let node = c.loop-id.invariant.listed.fit.well.holds.nodes c.in-Some.id c.in-Some-sought.node.now c.in-Some-sought.ensures.there in
    record { labels = node.labels; keys = node.keys }

pub returns-in-Some-sought-clause-is : goal.returns-in-Some-sought-clause-is
returns-in-Some-sought-clause-is g c =
    let store = c.loop-id.self-inside.store.now in
    let names = c.loop-id.self-inside.shared.now.names in
    let content = live (state_of g.T.Tables.seen store c.loop-id.self-inside.shared.now) in
    ap (λ (l : Listing). node_at l.graph c.in-Some.id) (sym c.loop-id.invariant.rest)
    ∙ node_is_read names content store.next.node store.next.rel c.in-Some.id
    ∙ ap (option_map (node_of names)) c.in-Some-sought.ensures.there
    ∙ ap Some (sym c.of.ensures)

pub returns-in-Some-sought-clause-has : goal.returns-in-Some-sought-clause-has
returns-in-Some-sought-clause-has g c =
    let holds = c.loop-id.invariant.listed.fit.well.holds in
    let names = c.loop-id.self-inside.shared.now.names in
    let node = c.in-Some-sought.node.now in
    let named = (holds.nodes c.in-Some.id node c.in-Some-sought.ensures.there).labels in
    let has = has_sought names holds.distinct node named c.loop-id.self-inside.wanted c.loop-id.invariant.listed.named c.in-Some-sought.ensures.belongs in
    subst (λ (n : Node). IfSome c.args.self.now.label (λ label. is_among n.labels label ≡ true)) (sym c.of.ensures)
    (subst (λ (l : Listing). IfSome l.label (λ label. is_among (label_texts names node.labels) label ≡ true)) c.loop-id.invariant.rest has)

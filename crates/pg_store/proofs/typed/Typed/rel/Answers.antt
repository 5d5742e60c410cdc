use Rattle.std.proofs.Common.{◌≡◌, true, Some, sym, ap, subst, ◌∙◌}
use Rattle.std.specs.Option.{option_map}
use Rattle.pg_graph.proofs.Refined.{relationship_is_read}
use Rattle.pg_graph.specs.Refinement.{relationship_of}
use Rattle.pg_meaning.specs.Graph.{has_node, relationship_at}
use Rattle.pg_store.proofs.Stores.{end_is_there}
use Rattle.pg_store.proofs.Typing.{is_of, is_other, none_has}
use Rattle.pg_store.specs.Journal.{live}
use Rattle.pg_store.specs.Stores.{state_of}
use Rattle.pg_store.specs.Typed.{TypedGraph, of_type}
use Rattle.pg_store.proofs.typed.Typed.rel.Goals as goal

pub returns-in_default-clause-is : goal.returns-in_default-clause-is
returns-in_default-clause-is g c =
    let store = c.self.inside.store.now in
    let names = c.self.inside.shared.now.names in
    let kind = c.self.inside.kind.now in
    let content = live (state_of g.T.Tables.seen store c.self.inside.shared.now) in
    let well = c.self.invariant.fit.well in
    sym (ap (λ (t : TypedGraph). of_type t.type (relationship_at t.graph c.args.id.0)) (sym c.self.view_is)
    ∙ ap (of_type kind) (relationship_is_read names content store.next.node store.next.rel c.args.id.0)
    ∙ none_has names well.holds.distinct kind _ (λ r is. (well.holds.rels c.args.id.0 r is).kind) (c.self.invariant.is ∙ c.in_default.is))

pub returns-in_default-rel-clause-is : goal.returns-in_default-rel-clause-is
returns-in_default-rel-clause-is g c =
    let store = c.self.inside.store.now in
    let names = c.self.inside.shared.now.names in
    let content = live (state_of g.T.Tables.seen store c.self.inside.shared.now) in
    sym (ap (λ (t : TypedGraph). of_type t.type (relationship_at t.graph c.args.id.0)) (sym c.self.view_is)
    ∙ ap (of_type c.self.inside.kind.now)
    (relationship_is_read names content store.next.node store.next.rel c.args.id.0 ∙ ap (option_map (relationship_of names)) (sym c.in_default-rel.ensures)))

pub returns-then-as_u64-clause-is : goal.returns-then-as_u64-clause-is
returns-then-as_u64-clause-is g c =
    let store = c.self.inside.store.now in
    let names = c.self.inside.shared.now.names in
    let kind = c.self.inside.kind.now in
    let content = live (state_of g.T.Tables.seen store c.self.inside.shared.now) in
    let well = c.self.invariant.fit.well in
    let rel = c.in-Some-rel.rel.now in
    ap Some c.of.ensures ∙
    sym (ap (λ (t : TypedGraph). of_type t.type (relationship_at t.graph c.args.id.0)) (sym c.self.view_is)
    ∙ ap (of_type kind) (relationship_is_read names content store.next.node store.next.rel c.args.id.0 ∙ ap (option_map (relationship_of names)) (sym c.in-Some-rel.ensures))
    ∙ is_of names well.holds.distinct kind c.in-Some.number (c.self.invariant.is ∙ c.in-Some.is) rel (well.holds.rels c.args.id.0 rel (sym c.in-Some-rel.ensures)).kind
    (sym c.as_u64.ensures ∙ c.if-as_u64.true ∙ c.as_u64-2.ensures))

pub returns-then-as_u64-clause-source : goal.returns-then-as_u64-clause-source
returns-then-as_u64-clause-source g c =
    let store = c.self.inside.store.now in
    let names = c.self.inside.shared.now.names in
    let content = live (state_of g.T.Tables.seen store c.self.inside.shared.now) in
    let rel = c.in-Some-rel.rel.now in
    subst (λ r. has_node c.args.self.now.graph r.source ≡ true) (sym c.of.ensures)
    (subst (λ (t : TypedGraph). has_node t.graph rel.source.0 ≡ true) c.self.view_is
    (end_is_there names content store.next.node store.next.rel rel.source.0 (c.self.invariant.fit.well.holds.rels c.args.id.0 rel (sym c.in-Some-rel.ensures)).source))

pub returns-then-as_u64-clause-target : goal.returns-then-as_u64-clause-target
returns-then-as_u64-clause-target g c =
    let store = c.self.inside.store.now in
    let names = c.self.inside.shared.now.names in
    let content = live (state_of g.T.Tables.seen store c.self.inside.shared.now) in
    let rel = c.in-Some-rel.rel.now in
    subst (λ r. has_node c.args.self.now.graph r.target ≡ true) (sym c.of.ensures)
    (subst (λ (t : TypedGraph). has_node t.graph rel.target.0 ≡ true) c.self.view_is
    (end_is_there names content store.next.node store.next.rel rel.target.0 (c.self.invariant.fit.well.holds.rels c.args.id.0 rel (sym c.in-Some-rel.ensures)).target))

pub returns-clause-is : goal.returns-clause-is
returns-clause-is g c =
    let store = c.self.inside.store.now in
    let names = c.self.inside.shared.now.names in
    let kind = c.self.inside.kind.now in
    let content = live (state_of g.T.Tables.seen store c.self.inside.shared.now) in
    let well = c.self.invariant.fit.well in
    let rel = c.in-Some-rel.rel.now in
    sym (ap (λ (t : TypedGraph). of_type t.type (relationship_at t.graph c.args.id.0)) (sym c.self.view_is)
    ∙ ap (of_type kind) (relationship_is_read names content store.next.node store.next.rel c.args.id.0 ∙ ap (option_map (relationship_of names)) (sym c.in-Some-rel.ensures))
    ∙ is_other names well.holds.distinct kind c.in-Some.number (c.self.invariant.is ∙ c.in-Some.is) rel (well.holds.rels c.args.id.0 rel (sym c.in-Some-rel.ensures)).kind
    (λ same. c.if-as_u64.false (c.as_u64.ensures ∙ same ∙ sym c.as_u64-2.ensures)))

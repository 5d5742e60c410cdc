use Rattle.std.proofs.Common.{IsSome, refl, sym, ap, subst, ◌∙◌}
use Rattle.std.specs.Option.{option_map_or}
use Rattle.pg_graph.proofs.Others.{keeps_trans}
use Rattle.pg_graph.specs.Content.{Content, with_node}
use Rattle.pg_store.proofs.States.{taken_and_put, node_stays_there, the_same}
use Rattle.pg_store.proofs.store.Store.give_node_back.Goals as goal
use Rattle.pg_store.specs.Edits.{CanGoBack, node_before}
use Rattle.pg_store.specs.Stores.{state_of}

pub change-node-requires-clause-present : goal.change-node-requires-clause-present
change-node-requires-clause-present g c = subst IsSome (sym c.requires.can.1) refl

pub give_node_back-requires : goal.give_node_back-requires
give_node_back-requires g c = subst (CanGoBack c.args.before) (the_same c.requires.can.0 c.change-node.result c.requires.can.1 c.change-node.ensures.before) c.requires.can.2

pub change-requires : goal.change-requires
change-requires g c =
    let s = state_of g.T.Tables.seen c.args.self.now c.args.shared.now in
    record { fits = c.change-node.ensures.keeps.fits; present = node_stays_there s.content _ c.args.id.0 _ c.change-node.ensures.changed }

pub returns-clause-state : goal.returns-clause-state
returns-clause-state g c =
    let s = state_of g.T.Tables.seen c.args.self.now c.args.shared.now in
    let id = c.args.id.0 in
    ap (λ (content : Content). record s { content = content })
    (taken_and_put s.content _ _ id _ c.give_node_back.new.node c.change-node.ensures.changed c.change.ensures.changed
    ∙ ap (with_node s.content id) c.give_node_back.ensures
    ∙ sym (ap (λ o. option_map_or (λ n. with_node s.content id (node_before c.args.before n)) o s.content) c.change-node.ensures.before))

pub returns-clause-keeps : goal.returns-clause-keeps
returns-clause-keeps g c = keeps_trans c.args.self.now.tables _ _ c.args.shared.now.tables _ _ c.change-node.ensures.keeps c.change.ensures.keeps

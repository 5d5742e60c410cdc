use Rattle.std.proofs.Common.{arith, refl, sym, ap, subst, ◌∙◌}
use Rattle.pg_graph.proofs.Others.{keeps_refl}
use Rattle.pg_graph.specs.Content.{Content}
use Rattle.pg_graph.specs.Removed.{Ids}
use Rattle.pg_store.proofs.store.Store.take_back.Goals as goal
use Rattle.pg_store.specs.Journal.{CanUndoOne, undo_one}
use Rattle.pg_store.specs.Stores.{state_of}
use Rattle.pg_store.specs.declared.journal.Entry.{Entry}
use Rattle.pg_store.specs.declared.journal.Entry.TheVariants.{NodeAdded, RelAdded, NodeRemoved, RelRemoved}

pub overflow_sub-self : goal.overflow_sub-self
overflow_sub-self g c = (subst (λ (e : Entry). CanUndoOne e (state_of g.T.Tables.seen c.args.self.now c.args.shared.now)) c.in-NodeAdded.is c.requires.can).0

pub overflow_sub-self-in-NodeAdded : goal.overflow_sub-self-in-NodeAdded
overflow_sub-self-in-NodeAdded g c = (subst (λ (e : Entry). CanUndoOne e (state_of g.T.Tables.seen c.args.self.now c.args.shared.now)) c.in-NodeAdded.is c.requires.can).1

pub drop_node-requires : goal.drop_node-requires
drop_node-requires g c =
    let can = subst (λ (e : Entry). CanUndoOne e (state_of g.T.Tables.seen c.args.self.now c.args.shared.now)) c.in-NodeAdded.is c.requires.can in
    record { fits = c.requires.fits; present = can.2; no_outgoing = can.3; no_incoming = can.4 }

pub returns-in-NodeAdded : goal.returns-in-NodeAdded
returns-in-NodeAdded g c =
    let s = state_of g.T.Tables.seen c.args.self.now c.args.shared.now in
    record {
      state = ap (λ (content : Content). record (undo_one NodeAdded s) { content = content }) c.drop_node.ensures.dropped ∙ ap (λ (e : Entry). undo_one e s) (sym c.in-NodeAdded.is);
      names = refl;
      journal = refl;
      sets = refl;
      keeps = c.drop_node.ensures.keeps;
    }

pub overflow_sub-self-in-RelAdded : goal.overflow_sub-self-in-RelAdded
overflow_sub-self-in-RelAdded g c = (subst (λ (e : Entry). CanUndoOne e (state_of g.T.Tables.seen c.args.self.now c.args.shared.now)) c.in-RelAdded.is c.requires.can).0

pub overflow_sub-self-in-RelAdded-2 : goal.overflow_sub-self-in-RelAdded-2
overflow_sub-self-in-RelAdded-2 g c = (subst (λ (e : Entry). CanUndoOne e (state_of g.T.Tables.seen c.args.self.now c.args.shared.now)) c.in-RelAdded.is c.requires.can).1

pub drop_rel-requires : goal.drop_rel-requires
drop_rel-requires g c =
    let can = subst (λ (e : Entry). CanUndoOne e (state_of g.T.Tables.seen c.args.self.now c.args.shared.now)) c.in-RelAdded.is c.requires.can in
    record { fits = c.requires.fits; present = can.2 }

pub returns-in-RelAdded : goal.returns-in-RelAdded
returns-in-RelAdded g c =
    let s = state_of g.T.Tables.seen c.args.self.now c.args.shared.now in
    record {
      state = ap (λ (content : Content). record (undo_one RelAdded s) { content = content }) c.drop_rel.ensures.dropped ∙ ap (λ (e : Entry). undo_one e s) (sym c.in-RelAdded.is);
      names = refl;
      journal = refl;
      sets = refl;
      keeps = c.drop_rel.ensures.keeps;
    }

pub give_node_back-requires : goal.give_node_back-requires
give_node_back-requires g c =
    record { fits = c.requires.fits; can = subst (λ (e : Entry). CanUndoOne e (state_of g.T.Tables.seen c.args.self.now c.args.shared.now)) c.in-NodeChanged.is c.requires.can }

pub returns-in-NodeChanged : goal.returns-in-NodeChanged
returns-in-NodeChanged g c =
    let back = c.give_node_back.ensures in
    record {
      state = back.state ∙ ap (λ (e : Entry). undo_one e (state_of g.T.Tables.seen c.args.self.now c.args.shared.now)) (sym c.in-NodeChanged.is);
      names = back.names;
      journal = back.journal;
      sets = back.sets;
      keeps = back.keeps;
    }

pub give_rel_back-requires : goal.give_rel_back-requires
give_rel_back-requires g c =
    record { fits = c.requires.fits; can = subst (λ (e : Entry). CanUndoOne e (state_of g.T.Tables.seen c.args.self.now c.args.shared.now)) c.in-RelChanged.is c.requires.can }

pub returns-in-RelChanged : goal.returns-in-RelChanged
returns-in-RelChanged g c =
    let back = c.give_rel_back.ensures in
    record {
      state = back.state ∙ ap (λ (e : Entry). undo_one e (state_of g.T.Tables.seen c.args.self.now c.args.shared.now)) (sym c.in-RelChanged.is);
      names = back.names;
      journal = back.journal;
      sets = back.sets;
      keeps = back.keeps;
    }

pub overflow_add-self : goal.overflow_add-self
overflow_add-self g c =
    let few = (subst (λ (e : Entry). CanUndoOne e (state_of g.T.Tables.seen c.args.self.now c.args.shared.now)) c.in-NodeRemoved.is c.requires.can).1 in
    omega (arith, few)

pub returns-in-NodeRemoved : goal.returns-in-NodeRemoved
returns-in-NodeRemoved g c =
    let s = state_of g.T.Tables.seen c.args.self.now c.args.shared.now in
    record {
      state = ap (λ (gone : Ids). record (undo_one (NodeRemoved c.in-NodeRemoved.id) s) { gone_nodes = gone }) c.remove_id.ensures ∙ ap (λ (e : Entry). undo_one e s) (sym c.in-NodeRemoved.is);
      names = refl;
      journal = refl;
      sets = refl;
      keeps = keeps_refl c.args.self.now.tables c.args.shared.now.tables c.requires.fits;
    }

pub overflow_add-self-in-RelRemoved : goal.overflow_add-self-in-RelRemoved
overflow_add-self-in-RelRemoved g c =
    let few = (subst (λ (e : Entry). CanUndoOne e (state_of g.T.Tables.seen c.args.self.now c.args.shared.now)) c.in-RelRemoved.is c.requires.can).1 in
    omega (arith, few)

pub returns-in-RelRemoved : goal.returns-in-RelRemoved
returns-in-RelRemoved g c =
    let s = state_of g.T.Tables.seen c.args.self.now c.args.shared.now in
    record {
      state = ap (λ (gone : Ids). record (undo_one (RelRemoved c.in-RelRemoved.id) s) { gone_rels = gone }) c.remove_id-in-RelRemoved.ensures ∙ ap (λ (e : Entry). undo_one e s) (sym c.in-RelRemoved.is);
      names = refl;
      journal = refl;
      sets = refl;
      keeps = keeps_refl c.args.self.now.tables c.args.shared.now.tables c.requires.fits;
    }

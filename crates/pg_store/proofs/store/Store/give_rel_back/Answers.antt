use Rattle.std.proofs.Common.{IsSome, refl, sym, ap, subst, ◌∙◌}
use Rattle.std.specs.Option.{option_map, option_map_or}
use Rattle.pg_graph.proofs.Others.{keeps_trans}
use Rattle.pg_graph.specs.Content.{Content, with_rel, with_rel_properties}
use Rattle.pg_graph.specs.declared.records.RelRecord.{RelRecord}
use Rattle.pg_store.proofs.States.{changed_at, properties_taken_and_put, rel_stays_there, the_same}
use Rattle.pg_store.proofs.store.Store.give_rel_back.Goals as goal
use Rattle.pg_store.specs.Edits.{CanGiveBack, properties_before}
use Rattle.pg_store.specs.Stores.{state_of}

pub change_rel-properties-requires-clause-present : goal.change_rel-properties-requires-clause-present
change_rel-properties-requires-clause-present g c = subst IsSome (sym c.requires.can.1) refl

pub give_back-requires : goal.give_back-requires
give_back-requires g c =
    subst (CanGiveBack c.args.before)
    (the_same c.requires.can.0.properties c.change_rel-properties.result (ap (option_map (λ (r : RelRecord). r.properties)) c.requires.can.1) c.change_rel-properties.ensures.before)
    c.requires.can.2

pub change_rel-requires : goal.change_rel-requires
change_rel-requires g c =
    let s = state_of g.T.Tables.seen c.args.self.now c.args.shared.now in
    record { fits = c.change_rel-properties.ensures.keeps.fits; present = rel_stays_there s.content _ c.args.id.0 _ (subst IsSome (sym c.requires.can.1) refl) c.change_rel-properties.ensures.changed }

pub returns-clause-state : goal.returns-clause-state
returns-clause-state g c =
    let s = state_of g.T.Tables.seen c.args.self.now c.args.shared.now in
    let id = c.args.id.0 in
    let r = c.requires.can.0 in
    let same = the_same r.properties c.change_rel-properties.result (ap (option_map (λ (r : RelRecord). r.properties)) c.requires.can.1) c.change_rel-properties.ensures.before in
    ap (λ (content : Content). record s { content = content })
    (properties_taken_and_put s.content _ _ id _ c.give_back.new.properties (subst IsSome (sym c.requires.can.1) refl) c.change_rel-properties.ensures.changed c.change_rel.ensures.changed
    ∙ ap (with_rel_properties s.content id) (c.give_back.ensures ∙ ap (properties_before c.args.before) (sym same))
    ∙ changed_at s.content id (properties_before c.args.before r.properties) r c.requires.can.1
    ∙ sym (ap (λ o. option_map_or (λ (x : RelRecord). with_rel s.content id (record x { properties = properties_before c.args.before x.properties })) o s.content) c.requires.can.1))

pub returns-clause-keeps : goal.returns-clause-keeps
returns-clause-keeps g c = keeps_trans c.args.self.now.tables _ _ c.args.shared.now.tables _ _ c.change_rel-properties.ensures.keeps c.change_rel.ensures.keeps

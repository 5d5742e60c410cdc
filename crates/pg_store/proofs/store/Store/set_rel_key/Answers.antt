use Rattle.std.proofs.Common.{IsSome, option_copied, sym, ap, subst, ◌∙◌}
use Rattle.std.proofs.lemmas.Result.{on_ok_weaker}
use Rattle.std.specs.FinMap as map
use Rattle.pg_graph.proofs.NamedChanges.{named_inserted, nothing_shown, property_put}
use Rattle.pg_graph.specs.Refinement.{property_entries, relationship_of, text_of}
use Rattle.pg_meaning.specs.Entries.{set_key}
use Rattle.pg_store.proofs.ChangeLemmas.{marks_stay}
use Rattle.pg_store.proofs.Changed.{rel_changed_alike, rel_stays}
use Rattle.pg_store.proofs.Kept.{nothing_touched}
use Rattle.pg_store.proofs.Stores.{copied_some, rel_held}
use Rattle.pg_store.proofs.store.Store.set_rel_key.Goals as goal
use Rattle.pg_store.specs.Journal.{live}
use Rattle.pg_store.specs.Stores.{state_of}
use Rattle.pg_value_core.specs.View.{view}

pub unwrap-rel-requires : goal.unwrap-rel-requires
unwrap-rel-requires g c =
    let store = c.args.self.now in
    copied_some c.rel.result (subst IsSome (sym c.rel.ensures) (rel_held c.args.shared.now.names (live (state_of g.T.Tables.seen store c.args.shared.now)) store.next.node store.next.rel c.args.id.0 c.requires.there))

pub returns-then-takes_nothing : goal.returns-then-takes_nothing
returns-then-takes_nothing g c =
    let store = c.args.self.now in
    let names = c.args.shared.now.names in
    let s = state_of g.T.Tables.seen store c.args.shared.now in
    let r = c.unwrap-rel.result.now in
    let is = sym c.rel.ensures ∙ ap option_copied c.unwrap-rel.ensures in
    let well = c.requires.fit.well.holds in
    let held = well.rels c.args.id.0 r is in
    let nothing = c.takes_nothing.ensures c.if-takes_nothing.true in
    record {
      ok = sym (rel_stays names (live s) store.next.node store.next.rel c.args.id.0 r (λ e. record e { properties = set_key (text_of names c.args.key) (view c.args.value) e.properties }) is
          (λ t. record (relationship_of names r) {
            properties = (ap (λ v. set_key (text_of names c.args.key) v (property_entries names r.properties)) nothing.0 ∙ nothing_shown names well.distinct r.properties held.keys c.args.key c.requires.named nothing.1) t;
          }));
      marks = marks_stay g.T.Tables.seen store c.args.shared.now;
      fit = c.requires.fit;
      keeps = nothing_touched store c.args.shared.now c.requires.fit;
    }

pub change_rel-requires : goal.change_rel-requires
change_rel-requires g c =
    let store = c.args.self.now in
    let names = c.args.shared.now.names in
    let s = state_of g.T.Tables.seen store c.args.shared.now in
    let well = c.requires.fit.well.holds in
    record {
      fit = c.requires.fit;
      there = rel_held names (live s) store.next.node store.next.rel c.args.id.0 c.requires.there;
      change = λ r is. tt;
      named = λ r is. named_inserted names well.distinct r.properties (well.rels c.args.id.0 r is).keys c.args.key (view c.args.value) c.requires.named;
    }

pub returns-clause-ok : goal.returns-clause-ok
returns-clause-ok g c =
    let store = c.args.self.now in
    let names = c.args.shared.now.names in
    let s = state_of g.T.Tables.seen store c.args.shared.now in
    let r = c.unwrap-rel.result.now in
    let is = sym c.rel.ensures ∙ ap option_copied c.unwrap-rel.ensures in
    let well = c.requires.fit.well.holds in
    let held = well.rels c.args.id.0 r is in
    on_ok_weaker c.change_rel.result (λ made.
    made r is
    ∙ rel_changed_alike names (live s) store.next.node store.next.rel c.args.id.0 r (λ e. record e { properties = property_entries names (map.insert r.properties c.args.key (view c.args.value)) })
    (λ e. record e { properties = set_key (text_of names c.args.key) (view c.args.value) e.properties }) is
    (λ t. record (relationship_of names r) { properties = property_put names well.distinct r.properties held.keys c.args.key (view c.args.value) c.requires.named t }))
    c.change_rel.ensures.ok

use Rattle.std.proofs.Common.{◌≡◌, ◌==◌, ◌++◌, ◌∷◌, [], ℕ, Some, true, false, not, refl, sym, ap, subst, ◌∙◌}
use Rattle.std.proofs.lemmas.List.{nil_from_length}
use Rattle.std.specs.FinMap as map
use Rattle.std.specs.FinMap.{FinMap}
use Rattle.std.specs.Option.{option_map_or}
use Rattle.std.specs.Ordering.{nat_cmp}
use Rattle.std.specs.Prelude.{◌&&◌}
use Rattle.pg_graph.proofs.Others.{keeps_refl}
use Rattle.pg_graph.specs.Content.{Seen}
use Rattle.pg_graph.specs.declared.records.NodeRecord.{NodeRecord}
use Rattle.pg_index.specs.Properties.{pairs_of}
use Rattle.pg_store.proofs.CoverLemmas.{swept_covers}
use Rattle.pg_store.proofs.Noting.{exact_when, none_gone_there, noted_gone, noted_kept}
use Rattle.pg_store.proofs.Settled.{settled_fit, settles_on}
use Rattle.pg_store.proofs.store.Store.sweep.Goals as goal
use Rattle.pg_store.proofs.store.Store.sweep.Goals.{then-not-is_sought, else-not-is_sought}
use Rattle.pg_store.specs.Covers.{FindAlike, Key, belongs, has_in}
use Rattle.pg_store.specs.Journal.{State, NoneGone}
use Rattle.pg_store.specs.Noted.{AreNoted, is_in, is_there, same_key}
use Rattle.pg_store.specs.Stores.{state_of, Settles}
use Rattle.pg_store.specs.Wanted.{place_key, wanted_key}
use Rattle.pg_store.specs.declared.sets.Sets.{Sets}
use Rattle.pg_store.specs.declared.shared.Shared.{Shared}
use Rattle.pg_store.specs.declared.store.Store.{Store}
use Rattle.pg_store.specs.declared.wanted.Place.{Place}

module _ {T S K : Type 0} (seen : Seen T S) (start now : Store T) (shared : Shared S K) (was : Settles seen start shared now shared) (place : Place) (id : ℕ) where
  abbrev here : State
  here = state_of seen now shared

  -- an id is taken from where it doesn't belong
  swept : (left : Sets) → now.sets.stale_ids.items ≡ left.stale_ids.items ++ (place, id) ∷ []
      → ((k : Key) (i : ℕ) → has_in now.sets k i ≡ true → has_in left k i ≡ false → FindAlike k (place_key place) × (i ≡ id))
      → ((k : Key) (i : ℕ) → is_in left k i ≡ (is_in now.sets k i && not (same_key (place_key place) k && id == i)))
      → pairs_of left.indexes.items ≡ pairs_of now.sets.indexes.items
      → option_map_or (belongs (place_key place)) (map.get here.content.nodes id) false ≡ false
      → Settles seen start shared (record now { sets = left }) shared
  swept left stale_ids lost gone pairs other =
      settles_on seen start now (record now { sets = left }) shared shared shared here was refl was.settling.well
      (swept_covers (has_in now.sets) (has_in left) (place_key place) id here lost other was.settling.covered)
      (noted_gone here now.sets.stale_ids.items left.stale_ids.items place id stale_ids (is_in now.sets) (is_in left) gone was.settling.noted)
      pairs refl refl refl (keeps_refl now.tables shared.tables was.settling.fits)

  -- a note of an id that belongs is dropped
  dropped : (sets : Sets) → now.sets.stale_ids.items ≡ sets.stale_ids.items ++ (place, id) ∷ [] → has_in sets ≡ has_in now.sets → is_in sets ≡ is_in now.sets → pairs_of sets.indexes.items ≡ pairs_of now.sets.indexes.items
      → is_there here (place_key place) id ≡ true → Settles seen start shared (record now { sets = sets }) shared
  dropped sets stale_ids has is pairs there =
      settles_on seen start now (record now { sets = sets }) shared shared shared here was refl was.settling.well
      (subst (λ has. (k : Key) (i : ℕ) (n : NodeRecord) → map.get here.content.nodes i ≡ Some n → belongs k n ≡ true → has k i ≡ true) (sym has) was.settling.covered)
      (subst (λ has. AreNoted has sets.stale_ids.items here) (sym is)
      (noted_kept here now.sets.stale_ids.items sets.stale_ids.items place id stale_ids (is_in now.sets) there was.settling.noted))
      pairs refl refl refl (keeps_refl now.tables shared.tables was.settling.fits)

pub loop-place-preserved : goal.loop-place-preserved
loop-place-preserved g c =
    let seen = g.T.Tables.seen in
    let start = c.args.self.now in
    let shared = c.args.shared.now in
    let old = c.loop-place.self in
    let was = c.loop-place.invariant in
    let s = state_of seen old shared in
    let place = c.in-Some.place in
    let id = c.in-Some.id in
    let test = ap (λ k. option_map_or (belongs k) (map.get s.content.nodes id) false) (sym c.wanted.ensures) ∙ ap (λ o. option_map_or (belongs (wanted_key c.wanted.result)) o false) (sym c.node.ensures) ∙ sym c.is_sought.ensures in
    let none = ap (λ (x : State). x.gone_nodes) was.state ∙ c.requires.none_gone.nodes in
    elim c.if-not-is_sought.branch [
      | then-not-is_sought w ↦ record {
        settles = subst (λ store. Settles seen start shared store shared) (sym w.self-is)
            (swept seen start old shared was.settles place id w.remove_id.new.self
            (c.in-Some.ensures.items ∙ ap (λ ds. ds.items ++ (place, id) ∷ []) (sym w.remove_id.ensures.stale_ids))
            w.remove_id.ensures.lost w.remove_id.ensures.left w.remove_id.ensures.pairs
            (test ∙ w.if-not-is_sought.true));
        state = ap (λ store. state_of seen store shared) w.self-is ∙ was.state;
      }
      | else-not-is_sought w ↦ record {
        settles = subst (λ store. Settles seen start shared store shared) (sym w.self-is)
            (dropped seen start old shared was.settles place id _ c.in-Some.ensures.items refl refl refl
            (ap (λ (m : FinMap nat_cmp NodeRecord). option_map_or (belongs (place_key place)) (map.get m id) false) (none_gone_there s none) ∙ test ∙ w.if-not-is_sought.false));
        state = ap (λ store. state_of seen store shared) w.self-is ∙ was.state;
      }
    ]

-- no note is left
done : {T S K : Type 0} (seen : Seen T S) (start now : Store T) (shared : Shared S K) (sets : Sets) → Settles seen start shared now shared → now.sets.stale_ids.items ≡ [] → sets.stale_ids.items ≡ [] → has_in sets ≡ has_in now.sets → is_in sets ≡ is_in now.sets → pairs_of sets.indexes.items ≡ pairs_of now.sets.indexes.items
    → Settles seen start shared (record now { sets = sets }) shared
done seen start now shared sets was old none has is pairs =
    let s = state_of seen now shared in
    settles_on seen start now (record now { sets = sets }) shared shared shared s was refl was.settling.well
    (subst (λ has. (k : Key) (i : ℕ) (n : NodeRecord) → map.get s.content.nodes i ≡ Some n → belongs k n ≡ true → has k i ≡ true) (sym has) was.settling.covered)
    (subst (λ has. AreNoted has sets.stale_ids.items s) (sym is) (subst (λ ns. AreNoted (is_in now.sets) ns s) (old ∙ sym none) was.settling.noted))
    pairs refl refl refl (keeps_refl now.tables shared.tables was.settling.fits)

pub returns-clause-settled : goal.returns-clause-settled
returns-clause-settled g c =
    let cases = c.in_default.ensures.cases in
    done g.T.Tables.seen c.args.self.now c.loop-place.self c.args.shared.now _ c.loop-place.invariant.settles (nil_from_length c.loop-place.self.sets.stale_ids.items (sym c.loop-place.self.sets.stale_ids.ok.0 ∙ cases.0)) (nil_from_length c.pop.new.self.items (sym c.pop.new.self.ok.0 ∙ cases.1)) refl refl refl

pub returns-clause-fit : goal.returns-clause-fit
returns-clause-fit g c =
    let cases = c.in_default.ensures.cases in
    settled_fit g.T.Tables.seen _ c.args.shared.now
    (done g.T.Tables.seen c.args.self.now c.loop-place.self c.args.shared.now _ c.loop-place.invariant.settles (nil_from_length c.loop-place.self.sets.stale_ids.items (sym c.loop-place.self.sets.stale_ids.ok.0 ∙ cases.0)) (nil_from_length c.pop.new.self.items (sym c.pop.new.self.ok.0 ∙ cases.1)) refl refl refl).settling
    (subst NoneGone (sym c.loop-place.invariant.state) c.requires.none_gone)

pub returns-clause-state : goal.returns-clause-state
returns-clause-state g c = c.loop-place.invariant.state

pub returns-clause-exact : goal.returns-clause-exact
returns-clause-exact g c =
    let seen = g.T.Tables.seen in
    let shared = c.args.shared.now in
    let now = c.loop-place.self in
    let cases = c.in_default.ensures.cases in
    let after = done seen c.args.self.now now shared (record now.sets { stale_ids = c.pop.new.self }) c.loop-place.invariant.settles (nil_from_length c.loop-place.self.sets.stale_ids.items (sym c.loop-place.self.sets.stale_ids.ok.0 ∙ cases.0)) (nil_from_length c.pop.new.self.items (sym c.pop.new.self.ok.0 ∙ cases.1)) refl refl refl in
    exact_when (record now.sets { stale_ids = c.pop.new.self }) (state_of seen now shared) (nil_from_length c.pop.new.self.items (sym c.pop.new.self.ok.0 ∙ cases.1)) after.settling.covered after.settling.noted

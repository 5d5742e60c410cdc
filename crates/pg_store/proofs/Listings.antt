-- What a listed node holds, and that what is sought is a label of the table.
use Rattle.std.proofs.Common.{◌≡◌, ◌==◌, ◌<◌, ◌&&◌, ◌||◌, ℕ, Bool, true, false, List, [], ◌∷◌, filter, length, map as map_list, Option, Some, None, IfSome, is_some, cond, refl, sym, ap, ◌∙◌}
use Rattle.std.proofs.lemmas.Option.{slice_get_within}
use Rattle.std.specs.FinMap as map
use Rattle.std.specs.List.{AllByRecursion, list_any, position}
use Rattle.std.specs.Option.{option_map, option_map_or}
use Rattle.std.specs.Str.{bytes_eq}
use Rattle.pg_graph.proofs.Named.{label_is_read}
use Rattle.pg_graph.proofs.Refined.{text_stays}
use Rattle.pg_graph.specs.Refinement.{text_of, label_texts, AreNamed}
use Rattle.pg_graph.specs.Stored.{has_number}
use Rattle.pg_graph.specs.declared.records.NodeRecord.{NodeRecord}
use Rattle.pg_index.specs.Properties.{is_equal}
use Rattle.pg_meaning.specs.Names.{is_among}
use Rattle.pg_names.proofs.Interned.{found_text, place_of_text}
use Rattle.pg_names.specs.Names.{AreDistinct}
use Rattle.pg_graph.proofs.Refined.{all_entries, node_is_read}
use Rattle.pg_graph.specs.Refinement.{node_of}
use Rattle.pg_graph.specs.Removed.{Ids, has_id}
use Rattle.pg_store.specs.Covers.{Key, belongs, passes}
use Rattle.pg_store.specs.Journal.{IsWell, State, graph_in, live}
use Rattle.pg_store.specs.Noted.{AreNoted, HasNoted, is_noted, is_there}
use Rattle.pg_store.specs.declared.journal.Entry.{Entry}
use Rattle.pg_store.specs.declared.wanted.Place.{Place}
use Rattle.pg_store.specs.Listing.{wanted_label, label_text, IsLabelled, IsNamedLabel}
use Rattle.pg_store.specs.Wanted.{wanted_key}
use Rattle.pg_store.specs.declared.wanted.Wanted.{Wanted}
use Rattle.pg_store.specs.declared.wanted.Wanted.TheVariants as wanted

both_hold : (a b : Bool) → (a && b) ≡ true → a ≡ true
both_hold true b h = refl
both_hold false b h = h

pub found_named : (text : List ℕ) (names : List (List ℕ)) (n : ℕ) → position (bytes_eq text) names ≡ Some n → n < length names
found_named text names n h = slice_get_within names n text (found_text text names n h)

module _ (names : List (List ℕ)) (distinct : AreDistinct names) (n : NodeRecord) (named : AreNamed names n.labels) where
  has_text : (l : ℕ) → l < length names → has_number (Some l) n ≡ true → is_among (label_texts names n.labels) (text_of names l) ≡ true
  has_text l inside h =
      let t = text_stays names l inside in
      let is : text_of names l ≡ t.0 = ap (λ o. option_map_or (λ t. t) o []) t.1 in
      label_is_read names n.labels (text_of names l) distinct named
      ∙ ap (λ o. option_map_or (λ m. list_any (λ k. k == m) n.labels) o false) (place_of_text names l (text_of names l) distinct (t.1 ∙ ap Some (sym is)))
      ∙ h

  pub has_sought : (w : Wanted) → IsNamedLabel names (wanted_label w) → belongs (wanted_key w) n ≡ true → IfSome (label_text names (wanted_label w)) (λ text. is_among (label_texts names n.labels) text ≡ true)
  has_sought wanted.All inside h = tt
  has_sought (wanted.Labelled l) inside h = has_text l inside h
  has_sought (wanted.Valued l k v) inside h = has_text l inside (both_hold (has_number (Some l) n) (option_map_or (λ w. is_equal w v.now) (map.get n.properties k) false) h)

-- ---- ids of which no record need be looked at

passed : {X : Type 0} (p : X → Bool) (o : Option X) → option_map_or p o false ≡ true → (a : X) × (o ≡ Some a) × (p a ≡ true)
passed p None h = absurd (cc)
passed p (Some a) h = (a, refl, h)

pub is_labelled : (names : List (List ℕ)) (s : State) → IsWell names s → (w : Wanted) → IsNamedLabel names (wanted_label w) → (id : ℕ) → passes (belongs (wanted_key w)) (live s).nodes id ≡ true
    → IsLabelled (graph_in names s) (label_text names (wanted_label w)) id
is_labelled names s well w inside id h =
    let found = passed (belongs (wanted_key w)) (map.get (live s).nodes id) h in
    record {
      node = node_of names found.0;
      there = node_is_read names (live s) s.next.node s.next.rel id ∙ ap (option_map (node_of names)) found.1;
      has = has_sought names well.holds.distinct found.0 (well.holds.nodes id found.0 found.1).labels w inside found.2;
    }

pub none_left_out : (p : ℕ → Bool) (id : ℕ) (ids : List ℕ) → p id ≡ true → filter p (id ∷ ids) ≡ id ∷ filter p ids
none_left_out p id ids h = ap (λ b. cond b (id ∷ filter p ids) (filter p ids)) h

noted_now : (has : Key → ℕ → Bool) (stale : List (Place × ℕ)) (es : List Entry) (s : State) → HasNoted has stale es s → AreNoted has stale s
noted_now has stale [] s h = h
noted_now has stale (e ∷ es) s h = noted_now has stale es s h.1

keys_of : {X : Type 0} (P : ℕ → Type 0) (es : List (ℕ × X)) → AllByRecursion (λ e. P e.0) es → AllByRecursion P (map_list (λ e. e.0) es)
keys_of P [] all = tt
keys_of P (e ∷ es) all = (all.0, keys_of P es all.1)

either : (a b : Bool) → b ≡ false → (a || b) ≡ true → a ≡ true
either true b none h = refl
either false b none h = absurd (cc)

-- where nothing is noted, an id that a set has belongs there
pub id_sought : (has : Key → ℕ → Bool) (stale : List (Place × ℕ)) (es : List Entry) (s : State) → stale ≡ [] → HasNoted has stale es s → (key : Key) (id : ℕ) → has key id ≡ true → passes (belongs key) (live s).nodes id ≡ true
id_sought has stale es s none noted key id is = either (is_there s key id) (is_noted stale key id) (ap (λ ns. is_noted ns key id) none) (noted_now has stale es s noted key id is)

pub each_sought : (has : Key → ℕ → Bool) (stale : List (Place × ℕ)) (es : List Entry) (s : State) → stale ≡ [] → HasNoted has stale es s → (key : Key) (ids : Ids) → ((i : ℕ) → has_id ids i ≡ true → has key i ≡ true)
    → AllByRecursion (λ id. passes (belongs key) (live s).nodes id ≡ true) (map.keys ids)
each_sought has stale es s none noted key ids within =
    keys_of (λ id. passes (belongs key) (live s).nodes id ≡ true) (map.entries ids)
    (all_entries (λ id t. passes (belongs key) (live s).nodes id ≡ true) ids
    (λ id t is. id_sought has stale es s none noted key id (within id (ap is_some is))))

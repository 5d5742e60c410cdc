-- Another graph is taken to work, in the place of that before.
use Rattle.std.proofs.Common.{◌≡◌, ◌≢◌, ℕ, ◌<◌, List, Option, Some, None, length, get_or, set, map, Bool, true, false, arith, refl, sym, ap, subst, ◌∙◌}
use Rattle.std.specs.Prelude.{nat_eq}
use Rattle.std.proofs.lemmas.Bool.Decides.{Decides-eqb, not_from_Decides}
use Rattle.std.proofs.lemmas.List.{length-map, get_or-set_same, get_or-set_other, length-set, map-set, set-get_or, set-set}
use Rattle.pg_graph.specs.Content.{Seen}
use Rattle.pg_meaning.specs.Graph.{Graph}
use Rattle.pg_live.proofs.LiveLemmas.{map_same, take_all, IsNewMark}
use Rattle.pg_live.proofs.OpenLemmas.{all_begun_same, not_after, over_all, over_all_same}
use Rattle.pg_live.specs.Live.{Live, all_begun, live_of, graphs_of, shared_then, IsLive}
use Rattle.pg_live.specs.declared.transactions.Begin.{Begin}
use Rattle.pg_store.proofs.Kept.{first_are_there, fit_over, graph_over}
use Rattle.pg_store.specs.Stores.{graph_of_store, index_pairs, names_at, IsFit, HasMark}
use Rattle.pg_store.specs.declared.journal.Mark.{Mark}
use Rattle.pg_store.specs.declared.shared.Shared.{Shared}
use Rattle.pg_store.specs.declared.store.Store.{Store}

-- a place among the graphs is one among the stores
pub is_place : {T S K : Type 0} (seen : Seen T S) (store : Store T) (others : List (Store T)) (shared : Shared S K) (at : ℕ) (mark : Mark) (begins : List (Option Begin)) (place : ℕ) (l : Live S) → live_of seen store others shared at mark begins ≡ l → place < length l.aside.others → place < length others
is_place seen store others shared at mark begins place l is lt = subst (λ n. place < n) (ap (λ (k : Live _). length k.aside.others) (sym is) ∙ length-map others (λ s. graph_of_store seen s (shared_then seen store others shared at mark))) lt

module _ {T S K : Type 0} (seen : Seen T S) (store : Store T) (others : List (Store T)) (shared : Shared S K) (place : ℕ) (mark : Mark) (begins : List (Option Begin)) (live : IsLive seen store others shared place mark begins) where
  -- ---- over the names of now

  abbrev then : Shared S K
  then = shared_then seen store others shared place mark

  pub fits_now : (k : ℕ) (d : Store T) → k < length others → IsFit seen (get_or others k d) shared
  fits_now k d lt =
      let fit = live.fits k d lt in
      fit_over seen (get_or others k d) then shared fit refl (first_are_there mark.names shared.names) live.fit.well.held.distinct fit.fits

  others_now : map (λ s. graph_of_store seen s then) others ≡ map (λ s. graph_of_store seen s shared) others
  others_now = map_same (λ s. graph_of_store seen s shared) (λ s. graph_of_store seen s then) others
      (λ k d lt. sym (graph_over seen (get_or others k d) then shared (live.fits k d lt) refl (first_are_there mark.names shared.names)))

  abbrev stores : List (Store T)
  stores = set others place store

  pub opened_now : (k : ℕ) (d : Store T) (b : Begin) → get_or begins k None ≡ Some b → HasMark seen (get_or stores k d) shared b.mark
  opened_now k d b is = over_all seen (get_or stores k d) shared mark.names b.mark (live.opened k d b is)

  begins_now : all_begun seen shared begins stores ≡ all_begun seen then begins stores
  begins_now =
      all_begun_same seen then shared begins stores stores refl
      (λ k d b is. over_all_same seen (get_or stores k d) shared mark.names b.mark (not_after seen (get_or stores k d) shared mark.names b.mark (live.opened k d b is)))

  -- ---- after the two swaps, where the first took out the spare store and the second the one at the new place

  module _ (spare next : Store T) (spare_is : spare ≡ get_or others place store) (to : ℕ) (below : to < length others) (next_is : next ≡ get_or (set others place store) to next) where
    abbrev back : List (Store T)
    back = set others place store

    abbrev turned : List (Store T)
    turned = set back to spare

    long : length turned ≡ length others
    long = length-set back to spare ∙ length-set others place store

    back_below : to < length back
    back_below = subst (λ n. to < n) (sym (length-set others place store)) below

    -- the store at a place other than the old one
    kept_at : (k : ℕ) (d : Store T) → k ≢ place → get_or back k d ≡ get_or others k d
    kept_at k d ne = get_or-set_other others place k store d ne

    at_place : (d : Store T) → get_or back place d ≡ store
    at_place d = get_or-set_same others place store d live.within

    -- what all but the old place have, and what the old place has
    module _ (P : Store T → ℕ → Type 0) (here : P store place) (there : (k : ℕ) (d : Store T) → k < length others → k ≢ place → P (get_or others k d) k) where
      at_back : (k : ℕ) (d : Store T) → k < length others → (b : Bool) → nat_eq k place ≡ b → P (get_or back k d) k
      at_back k d lt true is =
          let same : k ≡ place = (Decides-eqb k place).0 is in
          subst (λ j. P (get_or back j d) j) (sym same) (subst (λ (s : Store T). P s place) (sym (at_place d)) here)
      at_back k d lt false is =
          let ne : k ≢ place = not_from_Decides (nat_eq k place) (Decides-eqb k place) is in
          subst (λ (s : Store T). P s k) (sym (kept_at k d ne)) (there k d lt ne)

      at_next : P next to
      at_next = subst (λ (s : Store T). P s to) (sym next_is) (at_back to next below (nat_eq to place) refl)

      at_turned : (k : ℕ) (d : Store T) → k < length others → k ≢ to → P (get_or turned k d) k
      at_turned k d lt ne = subst (λ (s : Store T). P s k) (sym (get_or-set_other back to k spare d ne)) (at_back k d lt (nat_eq k place) refl)

    spare_there : (d : Store T) → get_or turned to d ≡ spare
    spare_there d = get_or-set_same back to spare d back_below

    fit_at : (k : ℕ) (d : Store T) → k < length others → (b : Bool) → nat_eq k to ≡ b → IsFit seen (get_or turned k d) shared
    fit_at k d lt true is =
        let same : k ≡ to = (Decides-eqb k to).0 is in
        subst (λ (s : Store T). IsFit seen s shared) (sym (ap (λ j. get_or turned j d) same ∙ spare_there d ∙ spare_is)) (fits_now place store live.within)
    fit_at k d lt false is =
        at_turned (λ s j. IsFit seen s shared) live.fit (λ j e below ne. fits_now j e below) k d lt (not_from_Decides (nat_eq k to) (Decides-eqb k to) is)

    pub next_fits : IsFit seen next shared
    next_fits = at_next (λ s j. IsFit seen s shared) live.fit (λ j e below ne. fits_now j e below)

    same_stores : set turned to next ≡ stores
    same_stores = set-set back to spare next ∙ ap (set back to) next_is ∙ set-get_or back to next

    module _ (mark' : Mark) (is_new : IsNewMark seen next shared mark') where
      pub names_now : names_at seen next shared mark' ≡ shared.names
      names_now = take_all mark'.names shared.names is_new.names

      now_is : shared_then seen next turned shared to mark' ≡ shared
      now_is = ap (λ (ns : List (List ℕ)). let p : Shared S K = record { names = ns; tables = shared.tables } in p) names_now

      pub turned_live : IsLive seen next turned shared to mark' begins
      turned_live = record {
        fit = next_fits;
        marked = is_new.there;
        fits = λ k d lt. subst (λ (p : Shared S K). IsFit seen (get_or turned k d) p) (sym now_is) (fit_at k d (omega (arith, lt, long)) (nat_eq k to) refl);
        within = subst (λ n. to < n) (sym long) below;
        mine = at_next (λ s k. seen.owner s.tables ≡ k) live.mine live.own;
        spare = λ d. ap (λ (s : Store T). seen.owner s.tables) (spare_there d ∙ spare_is) ∙ live.spare store ∙ sym long;
        own = λ k d lt ne. at_turned (λ s j. seen.owner s.tables ≡ j) live.mine live.own k d (omega (arith, lt, long)) ne;
        each = live.each ∙ sym long;
        opened = λ k d b is. subst (λ (p : Shared S K). HasMark seen (get_or (set turned to next) k d) p b.mark) (sym now_is)
            (subst (λ (ss : List (Store T)). HasMark seen (get_or ss k d) shared b.mark) (sym same_stores) (opened_now k d b is));
        earlier = λ b is.
            let has : HasMark seen next shared b.mark = subst (λ (s : Store T). HasMark seen s shared b.mark) (sym next_is) (opened_now to next b is) in
            omega (arith, has.journal, is_new.journal);
      }

      pub same_begins : (live_of seen next turned shared to mark' begins).aside.begins ≡ (live_of seen store others shared place mark begins).aside.begins
      same_begins =
          ap (λ (p : Shared S K). all_begun seen p begins (set turned to next)) now_is
          ∙ ap (λ (ss : List (Store T)). all_begun seen shared begins ss) same_stores
          ∙ begins_now

      pub same_pairs : (live_of seen next turned shared to mark' begins).aside.pairs ≡ (live_of seen store others shared place mark begins).aside.pairs
      same_pairs = ap (map (λ (s : Store T). index_pairs s)) same_stores

      -- all graphs are as they were
      pub same_graphs : graphs_of (live_of seen next turned shared to mark' begins) ≡ graphs_of (live_of seen store others shared place mark begins)
      same_graphs =
          let graph : Store T → Graph = λ s. graph_of_store seen s shared in
          ap (λ (p : Shared S K). set (map (λ s. graph_of_store seen s p) turned) to (graph next)) now_is
          ∙ ap (λ gs. set gs to (graph next)) (map-set graph back to spare)
          ∙ set-set (map graph back) to (graph spare) (graph next)
          ∙ sym (map-set graph back to next)
          ∙ ap (map graph) (ap (set back to) next_is ∙ set-get_or back to next)
          ∙ map-set graph others place store
          ∙ ap (λ gs. set gs place (graph store)) (sym others_now)

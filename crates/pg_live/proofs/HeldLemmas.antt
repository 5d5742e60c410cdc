-- Each graph is held in a store of its place over the names and the part of the tables of now.
use Rattle.std.proofs.Common.{◌≡◌, ◌≢◌, ℕ, ◌<◌, List, [], Option, Some, None, length, get_or, set, take, map, Bool, true, false, arith, refl, sym, ap, subst, inl, inr, ◌∙◌}
use Rattle.std.specs.Prelude.{nat_eq, IfSome}
use Rattle.std.specs.Option.{option_map}
use Rattle.std.proofs.lemmas.Bool.{cases_lt}
use Rattle.std.proofs.lemmas.Bool.Decides.{Decides-eqb, not_from_Decides}
use Rattle.std.proofs.lemmas.List.{get_or-map, get_or-set_same, get_or-set_other, get_or_past, length-map, length-set}
use Rattle.pg_graph.specs.Content.{Seen}
use Rattle.pg_live.proofs.LiveLemmas.{pairs_found, pairs_there}
use Rattle.pg_live.proofs.OpenLemmas.{all_begun_at, not_after, over_all, over_all_same}
use Rattle.pg_live.proofs.TurnLemmas.{fits_now}
use Rattle.pg_live.specs.Held.{GoesBackTo, HoldsGraph, HoldGraphs}
use Rattle.pg_live.specs.Live.{all_begun, begun_in, graphs_of, live_of, shared_then, Begun, IsLive}
use Rattle.pg_live.specs.declared.transactions.Begin.{Begin}
use Rattle.pg_meaning.specs.Graph.{Graph, IsGraph, empty_graph}
use Rattle.pg_meaning.specs.GraphLaws.{empty_is_graph}
use Rattle.pg_store.proofs.Kept.{first_are_there, graph_over}
use Rattle.pg_store.proofs.Stores.{store_is_graph}
use Rattle.pg_store.specs.Stores.{graph_of_store, index_pairs, IsFit, HasMark}
use Rattle.pg_store.specs.declared.journal.Mark.{Mark}
use Rattle.pg_store.specs.declared.shared.Shared.{Shared}
use Rattle.pg_store.specs.declared.store.Store.{Store}

-- whatever set keeps the names, a store fits the same names and part
pub fit_of_parts : {T S J K : Type 0} (seen : Seen T S) (store : Store T) (shared : Shared S J) → IsFit seen store shared → let same : Shared S K = record { names = shared.names; tables = shared.tables } in IsFit seen store same
fit_of_parts seen store shared fit = record { fits = fit.fits; well = fit.well; journal = fit.journal; covered = fit.covered; noted = fit.noted; none_gone = fit.none_gone }

-- and goes back to the same
goes_back : {T S K : Type 0} (seen : Seen T S) (store : Store T) (shared : Shared S K) (names : ℕ) (o : Option Begin)
    → ((b : Begin) → o ≡ Some b → HasMark seen store (let p : Shared S K = record { names = take names shared.names; tables = shared.tables } in p) b.mark)
    → IfSome (option_map (begun_in seen (let p : Shared S K = record { names = take names shared.names; tables = shared.tables } in p) store) o)
    (λ b. GoesBackTo seen store (let p : Shared S (Unit {0}) = record { names = shared.names; tables = shared.tables } in p) b.graph)
goes_back seen store shared names None has = tt
goes_back seen store shared names (Some b) has =
    let there = over_all seen store shared names b.mark (has b refl) in
    record {
      mark = b.mark;
      there = record { journal = there.journal; names = there.names; well = there.well; undo = there.undo };
      same = over_all_same seen store shared names b.mark (not_after seen store shared names b.mark (has b refl));
    }

module _ {T S K : Type 0} (seen : Seen T S) (store : Store T) (others : List (Store T)) (shared : Shared S K) (place : ℕ) (mark : Mark) (begins : List (Option Begin)) (live : IsLive seen store others shared place mark begins) where
  abbrev then : Shared S K
  then = shared_then seen store others shared place mark

  abbrev stores : List (Store T)
  stores = set others place store

  -- the store of a place, and the transaction that is open there
  back_at : (k : ℕ) (s : Store T) → k < length others → get_or stores k store ≡ s → IfSome (get_or (all_begun seen then begins stores) k None) (λ b. GoesBackTo seen s (let p : Shared S (Unit {0}) = record { names = shared.names; tables = shared.tables } in p) b.graph)
  back_at k s lt is =
      let P : Option Begun → Type 0 = λ o. IfSome o (λ b. GoesBackTo seen s (let p : Shared S (Unit {0}) = record { names = shared.names; tables = shared.tables } in p) b.graph) in
      subst P
      (sym (all_begun_at seen then begins stores k store (omega (arith, lt, length-set others place store)) ∙ ap (λ (s : Store T). option_map (begun_in seen then s) (get_or begins k None)) is))
      (goes_back seen s shared mark.names (get_or begins k None) (λ b there. subst (λ (s : Store T). HasMark seen s then b.mark) is (live.opened k store b there)))

  abbrev graphs : List Graph
  graphs = graphs_of (live_of seen store others shared place mark begins)

  long : length graphs ≡ length others
  long = length-set (map (λ s. graph_of_store seen s then) others) place (graph_of_store seen store shared) ∙ length-map others (λ s. graph_of_store seen s then)

  abbrev Held : ℕ → Type 0
  Held k = HoldsGraph seen (let p : Shared S (Unit {0}) = record { names = shared.names; tables = shared.tables } in p) k (get_or graphs k empty_graph) (get_or (all_begun seen then begins stores) k None) (get_or (map index_pairs stores) k [])

  here : Held place
  here = record {
    store = store;
    own = live.mine;
    fit = fit_of_parts seen store shared live.fit;
    graph = sym (get_or-set_same (map (λ s. graph_of_store seen s then) others) place (graph_of_store seen store shared) empty_graph (omega (arith, live.within, length-map others (λ s. graph_of_store seen s then))));
    back = back_at place store live.within (get_or-set_same others place store store live.within);
    indexes = sym (pairs_there others place store live.within);
  }

  there : (k : ℕ) → k < length others → k ≢ place → Held k
  there k lt ne = record {
    store = get_or others k store;
    own = live.own k store lt ne;
    fit = fit_of_parts seen (get_or others k store) shared (fits_now seen store others shared place mark begins live k store lt);
    graph = graph_over seen (get_or others k store) then shared (live.fits k store lt) refl (first_are_there mark.names shared.names)
        ∙ sym (get_or-set_other (map (λ s. graph_of_store seen s then) others) place k (graph_of_store seen store shared) empty_graph ne ∙ get_or-map (λ s. graph_of_store seen s then) others k store empty_graph lt);
    back = back_at k (get_or others k store) lt (get_or-set_other others place k store store ne);
    indexes = sym (pairs_found others place store k lt ∙ ap (λ (s : Store T). index_pairs s) (get_or-set_other others place k store store ne));
  }

  held_at : (k : ℕ) → k < length others → (b : Bool) → nat_eq k place ≡ b → Held k
  held_at k lt true is = subst Held (sym ((Decides-eqb k place).0 is)) here
  held_at k lt false is = there k lt (not_from_Decides (nat_eq k place) (Decides-eqb k place) is)

  pub held : HoldGraphs seen (live_of seen store others shared place mark begins)
  held k lt = held_at k (omega (arith, lt, long)) (nat_eq k place) refl

  pub sound : (k : ℕ) → IsGraph (get_or graphs k empty_graph)
  sound k = elim (cases_lt k (length graphs)) as (λ _. IsGraph (get_or graphs k empty_graph)) [
    | inl lt ↦ let h = held k lt in subst IsGraph h.graph (store_is_graph seen h.store _ h.fit)
    | inr ge ↦ subst IsGraph (sym (get_or_past graphs k empty_graph ge)) empty_is_graph
  ]

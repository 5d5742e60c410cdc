-- A change of the graph at work leaves what stays.
use Rattle.std.proofs.Common.{◌≡◌, ◌≢◌, ℕ, zero, suc, ◌<◌, ◌≤◌, List, [], ◌∷◌, length, get_or, set, map, take, Bool, true, false, Option, Some, None, arith, refl, sym, ap, subst, ◌∙◌}
use Rattle.std.specs.Prelude.{nat_eq, IfSome}
use Rattle.std.specs.Option.{option_map, option_map_or}
use Rattle.std.proofs.lemmas.Bool.Decides.{Decides-eqb, not_from_Decides}
use Rattle.std.proofs.lemmas.List.{get_or-map, get_or-set_same, get_or-set_other, length-set, map-set, set-set}
use Rattle.pg_graph.proofs.Others.{keeps_refl}
use Rattle.pg_graph.specs.Content.{Keeps, Seen}
use Rattle.pg_live.proofs.OpenLemmas.{all_begun_at, all_begun_same, all_begun_set, is_within, not_after, over_all, over_all_same, over_then, same_default, was_none, StaysOpen}
use Rattle.pg_live.specs.Live.{all_begun, aside_of, begun_at, begun_in, open_at, pairs_at, shared_then, with_open, with_pairs, Aside, Begun, IsLive}
use Rattle.pg_live.specs.declared.transactions.Begin.{Begin}
use Rattle.pg_meaning.specs.Graph.{Graph}
use Rattle.pg_names.specs.Names.{KeepsNames}
use Rattle.pg_store.proofs.Kept.{first_are_there, first_names_stay, keeps_both, other_stores_stay}
use Rattle.pg_store.proofs.Marks.{take_fewer}
use Rattle.pg_store.specs.Stores.{graph_of_store, graph_at, index_pairs, names_at, IsFit, HasMark, KeepsMarks, KeepsShared}
use Rattle.pg_store.specs.declared.journal.Mark.{Mark}
use Rattle.pg_store.specs.declared.shared.Shared.{Shared}
use Rattle.pg_store.specs.declared.store.Store.{Store}

module _ {X Y : Type 0} (f g : X → Y) where
  pub map_same : (xs : List X) → ((j : ℕ) (d : X) → j < length xs → g (get_or xs j d) ≡ f (get_or xs j d)) → map g xs ≡ map f xs
  map_same [] h = refl
  map_same (x ∷ xs) h = λ i. h 0 x (omega arith) i ∷ map_same xs (λ j d lt. h (suc j) d (omega arith)) i

pub take_all : {X : Type 0} (n : ℕ) (xs : List X) → n ≡ length xs → take n xs ≡ xs
take_all zero [] h = refl
take_all zero (x ∷ xs) h = absurd (omega (arith, h))
take_all (suc n) [] h = refl
take_all (suc n) (x ∷ xs) h = ap (λ ys. x ∷ ys) (take_all n xs (omega (arith, h)))

pub no_names_lost : (old new : List (List ℕ)) → new ≡ old → KeepsNames old new
no_names_lost old new same = subst (KeepsNames old) (sym same) (λ n t h. h)

-- the indexes of all places, where one store stands for another
module _ {T : Type 0} (others : List (Store T)) (place : ℕ) (store : Store T) where
  abbrev pairs_with : Store T → List (List (ℕ × ℕ))
  pairs_with s = map index_pairs (set others place s)

  pub pairs_found : (k : ℕ) → k < length others → get_or (pairs_with store) k [] ≡ index_pairs (get_or (set others place store) k store)
  pairs_found k lt = get_or-map (λ (s : Store T). index_pairs s) (set others place store) k store [] (omega (arith, lt, length-set others place store))

  pub pairs_there : place < length others → get_or (pairs_with store) place [] ≡ index_pairs store
  pairs_there lt = pairs_found place lt ∙ ap (λ (s : Store T). index_pairs s) (get_or-set_same others place store store lt)

  module _ (store' : Store T) where
    pub pairs_changed : pairs_with store' ≡ set (pairs_with store) place (index_pairs store')
    pairs_changed =
        map-set (λ (s : Store T). index_pairs s) others place store'
        ∙ sym (set-set (map (λ (s : Store T). index_pairs s) others) place (index_pairs store) (index_pairs store'))
        ∙ ap (λ ps. set ps place (index_pairs store')) (sym (map-set (λ (s : Store T). index_pairs s) others place store))

    pub pairs_same : index_pairs store' ≡ index_pairs store → pairs_with store' ≡ pairs_with store
    pairs_same same =
        map-set (λ (s : Store T). index_pairs s) others place store'
        ∙ ap (set (map (λ (s : Store T). index_pairs s) others) place) same
        ∙ sym (map-set (λ (s : Store T). index_pairs s) others place store)

-- what marking gives
pub record IsNewMark {T S K : Type 0} (seen : Seen T S) (store : Store T) (shared : Shared S K) (mark : Mark) : Type 0 where
  pub there : HasMark seen store shared mark
  pub graph : graph_at seen store shared mark ≡ graph_of_store seen store shared
  pub names : mark.names ≡ length shared.names
  pub journal : mark.journal ≡ length store.journal.items

module _ {T S K : Type 0} (seen : Seen T S) (store : Store T) (others : List (Store T)) (shared : Shared S K) (place : ℕ) (mark : Mark) (begins : List (Option Begin)) (live : IsLive seen store others shared place mark begins) where
  abbrev then : Shared S K
  then = shared_then seen store others shared place mark

  abbrev stores : List (Store T)
  stores = set others place store

  -- no other store is of the owner of that at work
  apart : (k : ℕ) (d : Store T) → k < length others → (b : Bool) → nat_eq k place ≡ b → seen.owner (get_or others k d).tables ≢ seen.owner store.tables
  apart k d lt true is e =
      let same : k ≡ place = (Decides-eqb k place).0 is in
      let all : length others ≡ place = sym (live.spare d) ∙ ap (λ j. seen.owner (get_or others j d).tables) (sym same) ∙ e ∙ live.mine in
      omega (arith, all, live.within)
  apart k d lt false is e =
      let ne : k ≢ place = not_from_Decides (nat_eq k place) (Decides-eqb k place) is in
      ne (sym (live.own k d lt ne) ∙ e ∙ live.mine)

  -- a store put at the place of that at work
  put_there : (s : Store T) (k : ℕ) (d : Store T) → k ≡ place → get_or (set others place s) k d ≡ s
  put_there s k d same = ap (λ j. get_or (set others place s) j d) same ∙ get_or-set_same others place s d live.within

  -- the begin of the transaction that is open at the graph at work
  pub own_begin : (b : Begin) → get_or begins place None ≡ Some b → HasMark seen store then b.mark
  own_begin b is = subst (λ (s : Store T). HasMark seen s then b.mark) (put_there store place store refl) (live.opened place store b is)

  -- from the names of one mark to those of another, which has them all
  module _ (store' : Store T) (shared' : Shared S K) (mark' : Mark) (keeps : Keeps seen store.tables shared.tables store'.tables shared'.tables)
      (grown : KeepsNames (names_at seen store shared mark) (names_at seen store' shared' mark')) (fit : IsFit seen store' shared') (marked : HasMark seen store' shared' mark')
      (mine : (b : Begin) → get_or begins place None ≡ Some b → b.mark.journal ≤ mark.journal → b.mark.names ≤ mark.names → HasMark seen store shared b.mark → StaysOpen seen store store' shared shared' mark' b.mark) where
    abbrev then' : Shared S K
    then' = shared_then seen store' others shared' place mark'

    abbrev stores' : List (Store T)
    stores' = set others place store'

    kept : KeepsShared seen store then store' then'
    kept = record { tables = keeps; names = grown; distinct = marked.well.held.distinct }

    module _ (k : ℕ) (d : Store T) (lt : k < length others) where
      abbrev other : Store T
      other = get_or others k d

      stays : IsFit seen other then' × (graph_of_store seen other then' ≡ graph_of_store seen other then)
          × ((m : Mark) → HasMark seen other then m → HasMark seen other then' m × (graph_at seen other then' m ≡ graph_at seen other then m))
      stays = other_stores_stay K seen store store' other then then' kept (apart k d lt (nat_eq k place) refl) (live.fits k d lt)

    mine_stays : (b : Begin) → get_or begins place None ≡ Some b → StaysOpen seen store store' shared shared' mark' b.mark
    mine_stays b is =
        let has = own_begin b is in
        mine b is (live.earlier b is) (not_after seen store shared mark.names b.mark has) (over_all seen store shared mark.names b.mark has)

    -- each begin can still be gone back to, and its graph is the same
    module _ (k : ℕ) (d : Store T) (b : Begin) (is : get_or begins k None ≡ Some b) where
      abbrev Stays : Store T → Store T → Type 0
      Stays s s' = HasMark seen s' then' b.mark × (graph_at seen s' then' b.mark ≡ graph_at seen s then b.mark)

      by_place : (t : Bool) → nat_eq k place ≡ t → Stays (get_or stores k d) (get_or stores' k d)
      by_place true at =
          let same : k ≡ place = (Decides-eqb k place).0 at in
          let here : get_or begins place None ≡ Some b = ap (λ j. get_or begins j None) (sym same) ∙ is in
          let o = mine_stays b here in
          let stay : Stays store store' = (
            over_then seen store' shared' mark'.names b.mark o.names o.there,
            sym (over_all_same seen store' shared' mark'.names b.mark o.names) ∙ o.same ∙ over_all_same seen store shared mark.names b.mark (not_after seen store shared mark.names b.mark (own_begin b here)),
          ) in
          subst (λ (s : Store T). Stays s (get_or stores' k d)) (sym (put_there store k d same)) (subst (λ (s : Store T). Stays store s) (sym (put_there store' k d same)) stay)
      by_place false at =
          let ne : k ≢ place = not_from_Decides (nat_eq k place) (Decides-eqb k place) at in
          let lt : k < length others = omega (arith, live.each, is_within begins k b is) in
          let e : get_or stores k d ≡ get_or others k d = get_or-set_other others place k store d ne in
          let e' : get_or stores' k d ≡ get_or others k d = get_or-set_other others place k store' d ne in
          let stay : Stays (get_or others k d) (get_or others k d) = (stays k d lt).2 b.mark (subst (λ (s : Store T). HasMark seen s then b.mark) e (live.opened k d b is)) in
          subst (λ (s : Store T). Stays s (get_or stores' k d)) (sym e) (subst (λ (s : Store T). Stays (get_or others k d) s) (sym e') stay)

      begin_stays : Stays (get_or stores k d) (get_or stores' k d)
      begin_stays = by_place (nat_eq k place) refl

    pub live_over : IsLive seen store' others shared' place mark' begins
    live_over = record {
      fit = fit;
      marked = marked;
      fits = λ k d lt. (stays k d lt).0;
      within = live.within;
      mine = keeps.owner ∙ live.mine;
      spare = live.spare;
      own = live.own;
      each = live.each;
      opened = λ k d b is. (begin_stays k d b is).0;
      earlier = λ b is. (mine_stays b is).journal;
    }

    pub others_over : map (λ s. graph_of_store seen s then') others ≡ map (λ s. graph_of_store seen s then) others
    others_over = map_same (λ s. graph_of_store seen s then) (λ s. graph_of_store seen s then') others (λ k d lt. (stays k d lt).1)

    pub begins_over : all_begun seen then' begins stores' ≡ all_begun seen then begins stores
    begins_over =
        all_begun_same seen then then' begins stores stores' (length-set others place store ∙ sym (length-set others place store'))
        (λ k d b is. (begin_stays k d b is).1)

  -- ---- one change

  module _ (store' : Store T) (shared' : Shared S K) (keeps : KeepsShared seen store shared store' shared') (marks : KeepsMarks seen store shared store' shared') (fit : IsFit seen store' shared') where
    same_names : names_at seen store' shared' mark ≡ names_at seen store shared mark
    same_names = first_names_stay mark.names shared.names shared'.names keeps.names live.marked.names

    grown : KeepsNames (names_at seen store shared mark) (names_at seen store' shared' mark)
    grown = subst (KeepsNames (names_at seen store shared mark)) (sym same_names) (λ n t h. h)

    change_stays : (b : Begin) → get_or begins place None ≡ Some b → b.mark.journal ≤ mark.journal → b.mark.names ≤ mark.names → HasMark seen store shared b.mark → StaysOpen seen store store' shared shared' mark b.mark
    change_stays b is journal names has = record { there = marks.there b.mark has; same = marks.same b.mark has; journal = journal; names = names }

    pub still_live : IsLive seen store' others shared' place mark begins
    still_live = live_over store' shared' mark keeps.tables grown fit (marks.there mark live.marked) change_stays

    pub same_aside : aside_of seen store' others shared' place mark begins ≡ aside_of seen store others shared place mark begins
    same_aside = λ i. record {
      place = place;
      begun = marks.same mark live.marked i;
      others = others_over store' shared' mark keeps.tables grown fit (marks.there mark live.marked) change_stays i;
      names = same_names i;
      begins = begins_over store' shared' mark keeps.tables grown fit (marks.there mark live.marked) change_stays i;
      pairs = pairs_same others place store store' marks.pairs i;
    }

  -- ---- back at the mark

  module _ (store' : Store T) (shared' : Shared S K) (keeps : Keeps seen store.tables shared.tables store'.tables shared'.tables) (cut : shared'.names ≡ take mark.names shared.names)
      (there : (m : Mark) → m.journal ≤ mark.journal → m.names ≤ mark.names → HasMark seen store shared m → HasMark seen store' shared' m)
      (same : (m : Mark) → m.journal ≤ mark.journal → m.names ≤ mark.names → graph_at seen store' shared' m ≡ graph_at seen store shared m) (fit : IsFit seen store' shared') where
    names_back : names_at seen store' shared' mark ≡ names_at seen store shared mark
    names_back = ap (take mark.names) cut ∙ take_fewer mark.names mark.names shared.names (omega arith)

    none_lost : KeepsNames (names_at seen store shared mark) (names_at seen store' shared' mark)
    none_lost = subst (KeepsNames (names_at seen store shared mark)) (sym names_back) (λ n t h. h)

    marked : HasMark seen store' shared' mark
    marked = there mark (omega arith) (omega arith) live.marked

    back_stays : (b : Begin) → get_or begins place None ≡ Some b → b.mark.journal ≤ mark.journal → b.mark.names ≤ mark.names → HasMark seen store shared b.mark → StaysOpen seen store store' shared shared' mark b.mark
    back_stays b is journal names has = record { there = there b.mark journal names has; same = same b.mark journal names; journal = journal; names = names }

    pub live_back : IsLive seen store' others shared' place mark begins
    live_back = live_over store' shared' mark keeps none_lost fit marked back_stays

    pub aside_back : index_pairs store' ≡ index_pairs store → aside_of seen store' others shared' place mark begins ≡ aside_of seen store others shared place mark begins
    aside_back pairs = λ i. record {
      place = place;
      begun = same mark (omega arith) (omega arith) i;
      others = others_over store' shared' mark keeps none_lost fit marked back_stays i;
      names = names_back i;
      begins = begins_over store' shared' mark keeps none_lost fit marked back_stays i;
      pairs = pairs_same others place store store' pairs i;
    }

  -- ---- a new begin

  pub first_kept : KeepsNames (names_at seen store shared mark) shared.names
  first_kept = first_are_there mark.names shared.names

  module _ (store' : Store T) (shared' : Shared S K) (mark' : Mark) (keeps : Keeps seen store.tables shared.tables store'.tables shared'.tables) (kept : KeepsNames shared.names shared'.names)
      (is_new : IsNewMark seen store' shared' mark') (graph : Graph) (same : graph_of_store seen store' shared' ≡ graph) (fit : IsFit seen store' shared')
      (marks : (b : Begin) → get_or begins place None ≡ Some b → HasMark seen store shared b.mark → HasMark seen store' shared' b.mark × (graph_at seen store' shared' b.mark ≡ graph_at seen store shared b.mark)) where
    names_now : names_at seen store' shared' mark' ≡ shared'.names
    names_now = take_all mark'.names shared'.names is_new.names

    more : KeepsNames (names_at seen store shared mark) (names_at seen store' shared' mark')
    more = subst (KeepsNames (names_at seen store shared mark)) (sym names_now) (keeps_both (names_at seen store shared mark) shared.names shared'.names first_kept kept)

    anew_stays : (b : Begin) → get_or begins place None ≡ Some b → b.mark.journal ≤ mark.journal → b.mark.names ≤ mark.names → HasMark seen store shared b.mark → StaysOpen seen store store' shared shared' mark' b.mark
    anew_stays b is journal names has =
        let m = marks b is has in record { there = m.0; same = m.1; journal = omega (arith, is_new.journal, m.0.journal); names = omega (arith, is_new.names, m.0.names) }

    pub live_anew : IsLive seen store' others shared' place mark' begins
    live_anew = live_over store' shared' mark' keeps more fit is_new.there anew_stays

    module _ (pairs : List (List (ℕ × ℕ))) (are : map index_pairs (set others place store') ≡ pairs) where
      aside_where : aside_of seen store' others shared' place mark' begins ≡ record (begun_at graph shared'.names (aside_of seen store others shared place mark begins)) { pairs = pairs }
      aside_where = λ i. record {
        place = place;
        begun = (is_new.graph ∙ same) i;
        others = others_over store' shared' mark' keeps more fit is_new.there anew_stays i;
        names = names_now i;
        begins = begins_over store' shared' mark' keeps more fit is_new.there anew_stays i;
        pairs = are i;
      }

    pub aside_anew : index_pairs store' ≡ index_pairs store → aside_of seen store' others shared' place mark' begins ≡ begun_at graph shared'.names (aside_of seen store others shared place mark begins)
    aside_anew pairs = aside_where (map index_pairs (set others place store)) (pairs_same others place store store' pairs)

    -- with other indexes
    pub aside_with_pairs : aside_of seen store' others shared' place mark' begins
        ≡ with_pairs (pairs_at (aside_of seen store' others shared' place mark' begins)) (begun_at graph shared'.names (aside_of seen store others shared place mark begins))
    aside_with_pairs =
        aside_where (set (map index_pairs (set others place store)) place (index_pairs store')) (pairs_changed others place store store')
        ∙ ap (λ ps. with_pairs ps (begun_at graph shared'.names (aside_of seen store others shared place mark begins))) (sym (pairs_there others place store' live.within))

  -- ---- a transaction that is opened, or ended

  -- what is open at the graph at work
  pub open_is : open_at (aside_of seen store others shared place mark begins) ≡ option_map (begun_in seen then store) (get_or begins place None)
  open_is =
      all_begun_at seen then begins stores place store (omega (arith, live.within, length-set others place store))
      ∙ ap (λ (s : Store T). option_map (begun_in seen then s) (get_or begins place None)) (put_there store place store refl)

  pub none_open : open_at (aside_of seen store others shared place mark begins) ≡ None → get_or begins place None ≡ None
  none_open none = was_none (begun_in seen then store) (get_or begins place None) (sym open_is ∙ none)

  -- a place among those of the transactions
  pub place_there : place < length begins
  place_there = omega (arith, live.within, live.each)

  module _ (entry : Option Begin) (ok : IfSome entry (λ b. HasMark seen store shared b.mark × (b.mark.journal ≤ mark.journal) × (b.mark.names ≤ mark.names))) where
    module _ (b : Begin) (is : entry ≡ Some b) where
      fine : HasMark seen store shared b.mark × (b.mark.journal ≤ mark.journal) × (b.mark.names ≤ mark.names)
      fine = subst (λ (o : Option Begin). IfSome o (λ b. HasMark seen store shared b.mark × (b.mark.journal ≤ mark.journal) × (b.mark.names ≤ mark.names))) is ok

      fine_then : HasMark seen store then b.mark
      fine_then = over_then seen store shared mark.names b.mark fine.2 fine.0

    entered : get_or (set begins place entry) place None ≡ entry
    entered = get_or-set_same begins place entry None place_there

    opened_at : (k : ℕ) (d : Store T) (b : Begin) → get_or (set begins place entry) k None ≡ Some b → (t : Bool) → nat_eq k place ≡ t → HasMark seen (get_or stores k d) then b.mark
    opened_at k d b is true at =
        let same : k ≡ place = (Decides-eqb k place).0 at in
        subst (λ (s : Store T). HasMark seen s then b.mark) (sym (put_there store k d same))
        (fine_then b (sym (ap (λ j. get_or (set begins place entry) j None) same ∙ entered) ∙ is))
    opened_at k d b is false at =
        live.opened k d b (sym (get_or-set_other begins place k entry None (not_from_Decides (nat_eq k place) (Decides-eqb k place) at)) ∙ is)

    pub entry_live : IsLive seen store others shared place mark (set begins place entry)
    entry_live = record {
      fit = live.fit;
      marked = live.marked;
      fits = live.fits;
      within = live.within;
      mine = live.mine;
      spare = live.spare;
      own = live.own;
      each = length-set begins place entry ∙ live.each;
      opened = λ k d b is. opened_at k d b is (nat_eq k place) refl;
      earlier = λ b is. (fine b (sym (entered) ∙ is)).1;
    }

    pub entry_aside : aside_of seen store others shared place mark (set begins place entry) ≡ with_open (option_map (begun_in seen then store) entry) (aside_of seen store others shared place mark begins)
    entry_aside = λ i. record {
      place = place;
      begun = graph_at seen store shared mark;
      others = map (λ s. graph_of_store seen s then) others;
      names = names_at seen store shared mark;
      begins = entry_put i;
      pairs = map index_pairs (set others place store);
    }
      where
        entry_put : all_begun seen then (set begins place entry) stores ≡ set (all_begun seen then begins stores) place (option_map (begun_in seen then store) entry)
        entry_put =
            all_begun_set seen then begins stores place store entry (omega (arith, live.within, length-set others place store))
            ∙ ap (λ (s : Store T). set (all_begun seen then begins stores) place (option_map (begun_in seen then s) entry)) (put_there store place store refl)

-- ---- the transaction of the graph at work, from its begin to its end

module _ {T S K : Type 0} (seen : Seen T S) (store : Store T) (others : List (Store T)) (shared : Shared S K) (place : ℕ) (mark : Mark) (begins : List (Option Begin)) (live : IsLive seen store others shared place mark begins) where
  abbrev graph_now : Graph
  graph_now = graph_of_store seen store shared

  abbrev was : Aside
  was = aside_of seen store others shared place mark begins

  -- the same store, marked again
  module _ (mark' : Mark) (is_new : IsNewMark seen store shared mark') where
    same_store : Keeps seen store.tables shared.tables store.tables shared.tables
    same_store = keeps_refl store.tables shared.tables live.fit.fits

    pub live_again : IsLive seen store others shared place mark' begins
    live_again = live_anew seen store others shared place mark begins live store shared mark' same_store (λ n t h. h) is_new graph_now refl live.fit (λ b is has. (has, refl))

    pub aside_again : aside_of seen store others shared place mark' begins ≡ begun_at graph_now shared.names was
    aside_again = aside_anew seen store others shared place mark begins live store shared mark' same_store (λ n t h. h) is_new graph_now refl live.fit (λ b is has. (has, refl)) refl

    module _ (holder : ℕ) where
      abbrev begin : Begin
      begin = record { mark = mark'; holder = holder }

      ok : HasMark seen store shared mark' × (mark'.journal ≤ mark'.journal) × (mark'.names ≤ mark'.names)
      ok = (is_new.there, omega arith, omega arith)

      pub begun_live : IsLive seen store others shared place mark' (set begins place (Some begin))
      begun_live = entry_live seen store others shared place mark' begins live_again (Some begin) ok

      graph_then : graph_at seen store (shared_then seen store others shared place mark') mark' ≡ graph_now
      graph_then = sym (over_all_same seen store shared mark'.names mark' (omega arith)) ∙ is_new.graph

      pub begun_aside : aside_of seen store others shared place mark' (set begins place (Some begin)) ≡ with_open (Some (record { holder = holder; graph = graph_now })) (begun_at graph_now shared.names was)
      begun_aside =
          entry_aside seen store others shared place mark' begins live_again (Some begin) ok
          ∙ (λ i. with_open (Some (record { holder = holder; graph = graph_then i })) (aside_again i))

      pub begun_open : open_at (aside_of seen store others shared place mark' (set begins place (Some begin))) ≡ Some (record { holder = holder; graph = graph_now })
      begun_open =
          open_is seen store others shared place mark' (set begins place (Some begin)) begun_live
          ∙ ap (option_map (begun_in seen (shared_then seen store others shared place mark') store)) (get_or-set_same begins place (Some begin) None (place_there seen store others shared place mark begins live))
          ∙ (λ i. Some (record { holder = holder; graph = graph_then i }))

  -- the transaction as it is read
  pub own_entry : (o : Option Begin) → o ≡ get_or begins place o → o ≡ get_or begins place None
  own_entry o is = is ∙ same_default begins place o None (place_there seen store others shared place mark begins live)

  pub own_open : (o : Option Begin) → o ≡ get_or begins place None → IfSome o (λ b. HasMark seen store shared b.mark)
  own_open None is = tt
  own_open (Some b) is = over_all seen store shared mark.names b.mark (own_begin seen store others shared place mark begins live b (sym is))

  holder_same : (o : Option Begin) → option_map (λ b. b.holder) (option_map (begun_in seen (shared_then seen store others shared place mark) store) o) ≡ option_map (λ b. b.holder) o
  holder_same None = refl
  holder_same (Some b) = refl

  pub own_holder : (o : Option Begin) → o ≡ get_or begins place None → option_map (λ b. b.holder) o ≡ option_map (λ b. b.holder) (open_at was)
  own_holder o is =
      sym (holder_same o)
      ∙ ap (λ (o : Option Begin). option_map (λ b. b.holder) (option_map (begun_in seen (shared_then seen store others shared place mark) store) o)) is
      ∙ ap (λ (o : Option Begun). option_map (λ b. b.holder) o) (sym (open_is seen store others shared place mark begins live))

  pub own_closed : None ≡ get_or begins place None → open_at was ≡ None
  own_closed is =
      open_is seen store others shared place mark begins live
      ∙ ap (λ (o : Option Begin). option_map (begun_in seen (shared_then seen store others shared place mark) store) o) (sym is)

  -- the graph that it goes back to
  pub graph_back : (o : Option Begin) → o ≡ get_or begins place None → option_map_or (λ b. graph_at seen store shared b.mark) o graph_now ≡ option_map_or (λ b. b.graph) (open_at was) graph_now
  graph_back o is =
      by_entry o is
      ∙ ap (λ (o : Option Begin). option_map_or (λ b. b.graph) (option_map (begun_in seen (shared_then seen store others shared place mark) store) o) graph_now) is
      ∙ ap (λ (o : Option Begun). option_map_or (λ b. b.graph) o graph_now) (sym (open_is seen store others shared place mark begins live))
    where
      by_entry : (o : Option Begin) → o ≡ get_or begins place None
          → option_map_or (λ b. graph_at seen store shared b.mark) o graph_now ≡ option_map_or (λ b. b.graph) (option_map (begun_in seen (shared_then seen store others shared place mark) store) o) graph_now
      by_entry None is = refl
      by_entry (Some b) is = over_all_same seen store shared mark.names b.mark (not_after seen store shared mark.names b.mark (own_begin seen store others shared place mark begins live b (sym is)))

  -- ended
  abbrev rest : List (Option Begin)
  rest = set begins place None

  rest_live : IsLive seen store others shared place mark rest
  rest_live = entry_live seen store others shared place mark begins live None tt

  none_left : get_or rest place None ≡ None
  none_left = get_or-set_same begins place None None (place_there seen store others shared place mark begins live)

  module _ (store' : Store T) (shared' : Shared S K) (mark' : Mark) (keeps : Keeps seen store.tables shared.tables store'.tables shared'.tables) (same_names : shared'.names ≡ shared.names)
      (is_new : IsNewMark seen store' shared' mark') (fit : IsFit seen store' shared') where
    pub ended_live : IsLive seen store' others shared' place mark' rest
    ended_live =
        live_anew seen store others shared place mark rest rest_live store' shared' mark' keeps (no_names_lost shared.names shared'.names same_names) is_new (graph_of_store seen store' shared') refl fit
        (λ b is has. absurd (cc (is, none_left)))

    pub ended_aside : index_pairs store' ≡ index_pairs store → aside_of seen store' others shared' place mark' rest ≡ with_open None (begun_at (graph_of_store seen store' shared') shared.names was)
    ended_aside pairs =
        aside_anew seen store others shared place mark rest rest_live store' shared' mark' keeps (no_names_lost shared.names shared'.names same_names) is_new (graph_of_store seen store' shared') refl fit
        (λ b is has. absurd (cc (is, none_left))) pairs
        ∙ (λ i. begun_at (graph_of_store seen store' shared') (same_names i) (entry_aside seen store others shared place mark begins live None tt i))

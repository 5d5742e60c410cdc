-- Marks of moments, over a journal and names that grew or were cut back.
use Rattle.std.proofs.Common.{◌≡◌, ◌≤◌, ℕ, zero, suc, List, [], ◌∷◌, ◌++◌, length, take, drop, arith, refl, sym, ap, subst, ◌∙◌}
use Rattle.std.proofs.lemmas.List.{drop-append-le, take-append-drop}
use Rattle.pg_graph.specs.Content.{Seen}
use Rattle.pg_store.specs.Journal.{State, IsWell, CanUndo, graph_in, undo_one, undone}
use Rattle.pg_store.specs.Stores.{state_of, names_at, state_at, graph_of_store, graph_at, IsFit, HasMark, IsBack}
use Rattle.pg_store.specs.declared.journal.Entry.{Entry}
use Rattle.pg_store.specs.declared.journal.Mark.{Mark}
use Rattle.pg_store.specs.declared.shared.Shared.{Shared}
use Rattle.pg_store.specs.declared.store.Store.{Store}

pub take_fewer : {X : Type 0} (k n : ℕ) (xs : List X) → k ≤ n → take k (take n xs) ≡ take k xs
take_fewer zero n xs h = refl
take_fewer (suc k) zero xs h = absurd (omega (arith, h))
take_fewer (suc k) (suc n) [] h = refl
take_fewer (suc k) (suc n) (x ∷ xs) h = ap (λ ys. x ∷ ys) (take_fewer k n xs (omega (arith, h)))

pub fits_in : {X : Type 0} (k n : ℕ) (xs : List X) → k ≤ n → k ≤ length xs → k ≤ length (take n xs)
fits_in zero n xs h long = omega arith
fits_in (suc k) zero xs h long = absurd (omega (arith, h))
fits_in (suc k) (suc n) [] h long = absurd (omega (arith, long))
fits_in (suc k) (suc n) (x ∷ xs) h long = omega (arith, fits_in k n xs (omega (arith, h)) (omega (arith, long)))

undone_both : (es fs : List Entry) (s : State) → undone (es ++ fs) s ≡ undone es (undone fs s)
undone_both [] fs s = refl
undone_both (e ∷ es) fs s = ap (undo_one e) (undone_both es fs s)

-- what was done between two moments, after what came later is undone
pub undone_between : (k n : ℕ) (es : List Entry) (s : State) → k ≤ n → n ≤ length es → undone (drop k (take n es)) (undone (drop n es) s) ≡ undone (drop k es) s
undone_between k n es s h long =
    sym (undone_both (drop k (take n es)) (drop n es) s)
    ∙ ap (λ (fs : List Entry). undone fs s) (sym (drop-append-le k (take n es) (drop n es) (fits_in k n es h (omega (arith, h, long)))))
    ∙ ap (λ (fs : List Entry). undone (drop k fs) s) (take-append-drop n es)

module _ {T S K : Type 0} (seen : Seen T S) (old new : Store T) (before after : Shared S K) (mark : Mark) (names : names_at seen new after mark ≡ names_at seen old before mark) (state : state_at seen new after mark ≡ state_at seen old before mark) where
  pub same_moment : graph_at seen new after mark ≡ graph_at seen old before mark
  same_moment = λ i. graph_in (names i) (state i)

  pub still_marked : take mark.journal new.journal.items ≡ take mark.journal old.journal.items → mark.journal ≤ length new.journal.items → mark.names ≤ length after.names → HasMark seen old before mark → HasMark seen new after mark
  still_marked journal long many was = record {
    journal = long;
    names = many;
    well = subst (λ (ns : List (List ℕ)). IsWell ns (state_at seen new after mark)) (sym names) (subst (IsWell (names_at seen old before mark)) (sym state) was.well);
    undo = subst (λ (ns : List (List ℕ)). CanUndo ns (take mark.journal new.journal.items) (state_at seen new after mark)) (sym names)
        (subst (λ (es : List Entry). CanUndo (names_at seen old before mark) es (state_at seen new after mark)) (sym journal)
        (subst (CanUndo (names_at seen old before mark) (take mark.journal old.journal.items)) (sym state) was.undo));
  }

-- ---- a mark of this moment

take_every : {X : Type 0} (n : ℕ) (xs : List X) → n ≡ length xs → take n xs ≡ xs
take_every zero [] h = refl
take_every zero (x ∷ xs) h = absurd (omega (arith, h))
take_every (suc n) [] h = refl
take_every (suc n) (x ∷ xs) h = ap (λ ys. x ∷ ys) (take_every n xs (omega (arith, h)))

drop_every : {X : Type 0} (n : ℕ) (xs : List X) → n ≡ length xs → drop n xs ≡ []
drop_every zero [] h = refl
drop_every zero (x ∷ xs) h = absurd (omega (arith, h))
drop_every (suc n) [] h = refl
drop_every (suc n) (x ∷ xs) h = drop_every n xs (omega (arith, h))

module _ {T S K : Type 0} (seen : Seen T S) (store : Store T) (shared : Shared S K) (mark : Mark) (journal : mark.journal ≡ length store.journal.items) (names : mark.names ≡ length shared.names) where
  names_now : names_at seen store shared mark ≡ shared.names
  names_now = take_every mark.names shared.names names

  state_now : state_at seen store shared mark ≡ state_of seen store shared
  state_now = ap (λ (es : List Entry). undone es (state_of seen store shared)) (drop_every mark.journal store.journal.items journal)

  pub marks_this : graph_at seen store shared mark ≡ graph_of_store seen store shared
  marks_this = λ i. graph_in (names_now i) (state_now i)

  pub is_marked : IsFit seen store shared → HasMark seen store shared mark
  is_marked fit = record {
    journal = omega (arith, journal);
    names = omega (arith, names);
    well = subst (λ (ns : List (List ℕ)). IsWell ns (state_at seen store shared mark)) (sym names_now) (subst (IsWell shared.names) (sym state_now) fit.well);
    undo = subst (λ (ns : List (List ℕ)). CanUndo ns (take mark.journal store.journal.items) (state_at seen store shared mark)) (sym names_now)
        (subst (λ (es : List Entry). CanUndo shared.names es (state_at seen store shared mark)) (sym (take_every mark.journal store.journal.items journal))
        (subst (CanUndo shared.names store.journal.items) (sym state_now) fit.journal));
  }

-- ---- a store that is back at a mark, with the names of then

module _ {T S K : Type 0} (seen : Seen T S) (mark : Mark) (old new : Store T) (before after : Shared S K) (has : HasMark seen old before mark) (back : IsBack seen mark old before new after) (cut : after.names ≡ take mark.names before.names) where
  pub marked_graph : graph_of_store seen new after ≡ graph_at seen old before mark
  marked_graph = λ i. graph_in (cut i) (back.state i)

  module _ (earlier : Mark) (journal : earlier.journal ≤ mark.journal) (names : earlier.names ≤ mark.names) where
    names_then : names_at seen new after earlier ≡ names_at seen old before earlier
    names_then = ap (take earlier.names) cut ∙ take_fewer earlier.names mark.names before.names names

    state_then : state_at seen new after earlier ≡ state_at seen old before earlier
    state_then =
        (λ i. undone (drop earlier.journal (back.journal i)) (back.state i))
        ∙ undone_between earlier.journal mark.journal old.journal.items (state_of seen old before) journal has.journal

    pub earlier_graph : graph_at seen new after earlier ≡ graph_at seen old before earlier
    earlier_graph = same_moment seen old new before after earlier names_then state_then

    pub earlier_marked : HasMark seen old before earlier → HasMark seen new after earlier
    earlier_marked was =
        still_marked seen old new before after earlier names_then state_then
        (ap (take earlier.journal) back.journal ∙ take_fewer earlier.journal mark.journal old.journal.items journal)
        (subst (λ (es : List Entry). earlier.journal ≤ length es) (sym back.journal) (fits_in earlier.journal mark.journal old.journal.items journal was.journal))
        (subst (λ (ns : List (List ℕ)). earlier.names ≤ length ns) (sym cut) (fits_in earlier.names mark.names before.names names was.names))
        was

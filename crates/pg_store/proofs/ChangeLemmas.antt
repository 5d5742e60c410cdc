-- A store after a change that its journal can undo, and one whose names have grown.
use Rattle.std.proofs.Common.{◌≡◌, ◌≤◌, ℕ, true, List, [], ◌∷◌, ◌++◌, length, take, drop, Result, Ok, Err, OnErr, arith, refl, sym, ap, subst, ◌∙◌}
use Rattle.std.proofs.lemmas.List.{length-append, take-append-le}
use Rattle.std.specs.Prelude.{◌||◌}
use Rattle.pg_graph.proofs.Others.{keeps_refl}
use Rattle.pg_graph.specs.Content.{Seen}
use Rattle.pg_names.specs.Names.{AreDistinct, KeepsNames}
use Rattle.pg_store.proofs.CoverLemmas.{Grows, grown_covered, covered_pushed}
use Rattle.pg_store.proofs.JournalLemmas.{pushed, none_gone_pushed, marked_before, same_graph, still_well, can_still_undo}
use Rattle.pg_store.proofs.Kept.{first_names_stay, no_fewer_names}
use Rattle.pg_store.proofs.Marks.{same_moment, still_marked}
use Rattle.pg_store.proofs.States.{Undoes}
use Rattle.pg_store.proofs.Noting.{all_noted_still, noted_pushed}
use Rattle.pg_store.specs.Covers.{Covers, HasCovered, Key, has_in}
use Rattle.pg_store.specs.Noted.{AreNoted, Gains, HasNoted, StayNoted, is_in, is_noted}
use Rattle.pg_store.specs.Journal.{State, IsWell, CanUndo, NoneGone, undone}
use Rattle.pg_store.specs.Stores.{index_pairs, state_of, state_at, names_at, graph_of_store, IsFit, KeepsMarks, KeepsShared, HasMark}
use Rattle.pg_store.specs.declared.journal.Entry.{Entry}
use Rattle.pg_store.specs.declared.journal.Mark.{Mark}
use Rattle.pg_store.specs.declared.sets.Sets.{Sets}
use Rattle.pg_store.specs.declared.shared.Shared.{Shared}
use Rattle.pg_store.specs.declared.store.Store.{Store}

pub at_err : {V E P : Type 0} (r : Result V E) → P → OnErr r P
at_err (Ok v) p = tt
at_err (Err e) p = p

one_longer : (es : List Entry) (e : Entry) (n : ℕ) → n ≤ length es → n ≤ length (es ++ e ∷ [])
one_longer es e n h = omega (arith, length-append es (e ∷ []))

module _ {T S : Type 0} (seen : Seen T S) where
  pub marks_stay : {K : Type 0} (store : Store T) (shared : Shared S K) → KeepsMarks seen store shared store shared
  marks_stay store shared = record { there = λ mark h. h; same = λ mark h. refl; pairs = refl }

  pub marks_then : {K : Type 0} (a b c : Store T) (r s t : Shared S K) → KeepsMarks seen a r b s → KeepsMarks seen b s c t → KeepsMarks seen a r c t
  marks_then a b c r s t p q = record { there = λ mark h. q.there mark (p.there mark h); same = λ mark h. q.same mark (p.there mark h) ∙ p.same mark h; pairs = q.pairs ∙ p.pairs }

  pub marks_alike : {K : Type 0} (old new : Store T) (before after : Shared S K) → after.names ≡ before.names → new.journal.items ≡ old.journal.items → state_of seen new after ≡ state_of seen old before → index_pairs new ≡ index_pairs old → KeepsMarks seen old before new after
  marks_alike old new before after names journal is pairs = record {
    there = λ mark has.
        still_marked seen old new before after mark (ap (take mark.names) names) (same_state mark) (ap (take mark.journal) journal)
        (subst (λ (es : List Entry). mark.journal ≤ length es) (sym journal) has.journal)
        (subst (λ (ns : List (List ℕ)). mark.names ≤ length ns) (sym names) has.names)
        has;
    same = λ mark has. same_moment seen old new before after mark (ap (take mark.names) names) (same_state mark);
    pairs = pairs;
  }
    where
      same_state : (mark : Mark) → state_at seen new after mark ≡ state_at seen old before mark
      same_state mark = λ i. undone (drop mark.journal (journal i)) (is i)

  -- a change that joined the journal
  module _ {K : Type 0} (old new : Store T) (before after : Shared S K) (fit : IsFit seen old before) (e : Entry) (s : State) (undoes : Undoes before.names e (state_of seen old before) s) (names : after.names ≡ before.names) (is : state_of seen new after ≡ s) (journal : new.journal.items ≡ old.journal.items ++ e ∷ []) (gains : Gains old.sets new.sets) where
    now : Undoes before.names e (state_of seen old before) (state_of seen new after)
    now = subst (Undoes before.names e (state_of seen old before)) (sym is) undoes

    pub changed_fit : Grows (has_in old.sets) (has_in new.sets) → Covers (has_in new.sets) s → AreNoted (is_in new.sets) new.sets.stale_ids.items s → seen.fits new.tables after.tables → IsFit seen new after
    changed_fit grows covers noted fits = record {
      fits = fits;
      well = subst (λ (ns : List (List ℕ)). IsWell ns (state_of seen new after)) (sym names) now.well;
      journal = subst (λ (ns : List (List ℕ)). CanUndo ns new.journal.items (state_of seen new after)) (sym names)
          (pushed before.names old.journal.items new.journal.items e (state_of seen old before) (state_of seen new after) journal now.back now.can fit.well fit.journal);
      covered = covered_pushed (has_in new.sets) old.journal.items new.journal.items e (state_of seen old before) (state_of seen new after) journal now.back
          (grown_covered (has_in old.sets) (has_in new.sets) grows old.journal.items (state_of seen old before) fit.covered) (subst (Covers (has_in new.sets)) (sym is) covers);
      noted = noted_pushed (is_in new.sets) new.sets.stale_ids.items old.journal.items new.journal.items e (state_of seen old before) (state_of seen new after) journal now.back
          (all_noted_still (is_in old.sets) (is_in new.sets) old.sets.stale_ids.items new.sets.stale_ids.items gains.come gains.stay old.journal.items (state_of seen old before) fit.noted)
          (subst (AreNoted (is_in new.sets) new.sets.stale_ids.items) (sym is) noted);
      none_gone = none_gone_pushed old.journal.items new.journal.items e (state_of seen old before) (state_of seen new after) journal now.back fit.none_gone;
    }

    module _ (mark : Mark) (has : HasMark seen old before mark) where
      same_names : names_at seen new after mark ≡ names_at seen old before mark
      same_names = ap (take mark.names) names

      same_state : state_at seen new after mark ≡ state_at seen old before mark
      same_state = marked_before mark.journal old.journal.items new.journal.items e (state_of seen old before) (state_of seen new after) journal now.back has.journal

      still_there : HasMark seen new after mark
      still_there =
          still_marked seen old new before after mark same_names same_state
          (ap (take mark.journal) journal ∙ take-append-le mark.journal old.journal.items (e ∷ []) has.journal)
          (subst (λ (es : List Entry). mark.journal ≤ length es) (sym journal) (one_longer old.journal.items e mark.journal has.journal))
          (subst (λ (ns : List (List ℕ)). mark.names ≤ length ns) (sym names) has.names)
          has

    pub changed_marks : KeepsMarks seen old before new after
    changed_marks = record { there = still_there; same = λ mark has. same_moment seen old new before after mark (same_names mark has) (same_state mark has); pairs = gains.pairs }

  -- a change that was refused: the state stays, and sets may have grown
  pub refused_fit : {K : Type 0} (old new : Store T) (before after : Shared S K) → IsFit seen old before → after.names ≡ before.names → state_of seen new after ≡ state_of seen old before → new.journal.items ≡ old.journal.items
      → Grows (has_in old.sets) (has_in new.sets) → Gains old.sets new.sets → seen.fits new.tables after.tables → IsFit seen new after
  refused_fit old new before after fit names is journal grows gains fits = record {
    fits = fits;
    well = subst (λ (ns : List (List ℕ)). IsWell ns (state_of seen new after)) (sym names) (subst (IsWell before.names) (sym is) fit.well);
    journal = subst (λ (ns : List (List ℕ)). CanUndo ns new.journal.items (state_of seen new after)) (sym names)
        (subst (λ (es : List Entry). CanUndo before.names es (state_of seen new after)) (sym journal) (subst (CanUndo before.names old.journal.items) (sym is) fit.journal));
    covered = subst (λ (es : List Entry). HasCovered (has_in new.sets) es (state_of seen new after)) (sym journal)
        (subst (HasCovered (has_in new.sets) old.journal.items) (sym is) (grown_covered (has_in old.sets) (has_in new.sets) grows old.journal.items (state_of seen old before) fit.covered));
    noted = subst (λ (es : List Entry). HasNoted (is_in new.sets) new.sets.stale_ids.items es (state_of seen new after)) (sym journal)
        (subst (HasNoted (is_in new.sets) new.sets.stale_ids.items old.journal.items) (sym is)
        (all_noted_still (is_in old.sets) (is_in new.sets) old.sets.stale_ids.items new.sets.stale_ids.items gains.come gains.stay old.journal.items (state_of seen old before) fit.noted));
    none_gone = subst (λ (es : List Entry). NoneGone (undone es (state_of seen new after))) (sym journal) (subst (λ (s : State). NoneGone (undone old.journal.items s)) (sym is) fit.none_gone);
  }

  -- sets that grew
  module _ {K : Type 0} (store : Store T) (shared : Shared S K) (sets : Sets) (fit : IsFit seen store shared) where
    abbrev pub with_sets : Store T
    with_sets = record store { sets = sets }

    pub grown_fit : Grows (has_in store.sets) (has_in sets) → ((k : Key) (i : ℕ) → is_in sets k i ≡ true → (is_in store.sets k i || is_noted sets.stale_ids.items k i) ≡ true) → StayNoted store.sets.stale_ids.items sets.stale_ids.items → IsFit seen with_sets shared
    grown_fit grows come stay = record {
      fits = fit.fits;
      well = fit.well;
      journal = fit.journal;
      covered = grown_covered (has_in store.sets) (has_in sets) grows store.journal.items (state_of seen store shared) fit.covered;
      noted = all_noted_still (is_in store.sets) (is_in sets) store.sets.stale_ids.items sets.stale_ids.items come stay store.journal.items (state_of seen store shared) fit.noted;
      none_gone = fit.none_gone;
    }

  -- names that grew
  module _ {K : Type 0} (store : Store T) (shared : Shared S K) (names : List (List ℕ)) (keeps : KeepsNames shared.names names) (fit : IsFit seen store shared) where
    abbrev pub renamed : Shared S K
    renamed = record shared { names = names }

    pub renamed_graph : graph_of_store seen store renamed ≡ graph_of_store seen store shared
    renamed_graph = same_graph shared.names names keeps (state_of seen store shared) fit.well

    names_stay : (mark : Mark) → HasMark seen store shared mark → names_at seen store renamed mark ≡ names_at seen store shared mark
    names_stay mark has = first_names_stay mark.names shared.names names keeps has.names

    pub renamed_marks : KeepsMarks seen store shared store renamed
    renamed_marks = record {
      there = λ mark has. still_marked seen store store shared renamed mark (names_stay mark has) refl refl has.journal (omega (arith, has.names, no_fewer_names shared.names names keeps)) has;
      same = λ mark has. same_moment seen store store shared renamed mark (names_stay mark has) refl;
      pairs = refl;
    }

    pub renamed_fit : AreDistinct names → IsFit seen store renamed
    renamed_fit distinct = record {
      fits = fit.fits;
      well = still_well shared.names names keeps distinct (state_of seen store shared) fit.well;
      journal = can_still_undo shared.names names keeps distinct store.journal.items (state_of seen store shared) fit.journal;
      covered = fit.covered;
      noted = fit.noted;
      none_gone = fit.none_gone;
    }

    pub renamed_keeps : AreDistinct names → KeepsShared seen store shared store renamed
    renamed_keeps distinct = record { tables = keeps_refl store.tables shared.tables fit.fits; names = keeps; distinct = distinct }

-- What calls leave of the shared part to others: the parts of their tables, and the texts of the names.
use Rattle.std.proofs.Common.{◌≡◌, ◌≢◌, ◌≤◌, ℕ, zero, suc, List, [], ◌∷◌, length, take, drop, Result, Ok, Err, OnErr, arith, refl, sym, ap, subst, ◌∙◌}
use Rattle.std.specs.Prelude.{OnOk}
use Rattle.pg_graph.proofs.Others.{keeps_refl, keeps_trans}
use Rattle.pg_graph.specs.Content.{Content, Seen, Keeps}
use Rattle.pg_names.proofs.Interned.{taken_back}
use Rattle.pg_names.specs.Names.{AreDistinct, KeepsNames}
use Rattle.pg_store.proofs.JournalLemmas.{same_graph, still_well, can_still_undo}
use Rattle.pg_store.proofs.Marks.{same_moment, still_marked}
use Rattle.pg_store.specs.Covers.{HasCovered, has_in}
use Rattle.pg_store.specs.Noted.{HasNoted, is_in}
use Rattle.pg_store.specs.Journal.{State, IsWell, CanUndo, NoneGone, graph_in, undone}
use Rattle.pg_store.specs.Stores.{state_of, state_at, names_at, graph_of_store, graph_at, IsFit, HasMark, IsBack, KeepsShared, OtherStoresStay}
use Rattle.pg_store.specs.declared.journal.Mark.{Mark}
use Rattle.pg_store.specs.declared.shared.Shared.{Shared}
use Rattle.pg_store.specs.declared.store.Store.{Store}

-- ---- names that grow

pub keeps_both : (a b c : List (List ℕ)) → KeepsNames a b → KeepsNames b c → KeepsNames a c
keeps_both a b c p q = λ n t h. q n t (p n t h)

pub no_fewer_names : (old new : List (List ℕ)) → KeepsNames old new → length old ≤ length new
no_fewer_names [] new keeps = omega arith
no_fewer_names (x ∷ xs) [] keeps = cc (keeps 0 x refl)
no_fewer_names (x ∷ xs) (y ∷ ys) keeps = omega (arith, no_fewer_names xs ys (λ n t h. keeps (suc n) t h))

pub first_names_stay : (k : ℕ) (old new : List (List ℕ)) → KeepsNames old new → k ≤ length old → take k new ≡ take k old
first_names_stay zero old new keeps h = refl
first_names_stay (suc k) [] new keeps h = absurd (omega (arith, h))
first_names_stay (suc k) (x ∷ xs) [] keeps h = cc (keeps 0 x refl)
first_names_stay (suc k) (x ∷ xs) (y ∷ ys) keeps h =
    let same : y ≡ x = cc (keeps 0 x refl) in
    ap (λ z. z ∷ take k ys) same ∙ ap (λ zs. x ∷ zs) (first_names_stay k xs ys (λ n t is. keeps (suc n) t is) (omega (arith, h)))

pub first_are_there : (n : ℕ) (names : List (List ℕ)) → KeepsNames (take n names) names
first_are_there zero names number text h = cc h
first_are_there (suc n) [] number text h = cc h
first_are_there (suc n) (x ∷ xs) zero text h = h
first_are_there (suc n) (x ∷ xs) (suc number) text h = first_are_there n xs number text h

-- ---- calls in turn

module _ {T S : Type 0} {seen : Seen T S} where
  -- a call that left the names
  pub tables_kept : {K : Type 0} (old new : Store T) (before after : Shared S K) → IsFit seen old before → Keeps seen old.tables before.tables new.tables after.tables → after.names ≡ before.names → KeepsShared seen old before new after
  tables_kept old new before after fit keeps same = record {
    tables = keeps;
    names = subst (KeepsNames before.names) (sym same) (λ n t h. h);
    distinct = subst AreDistinct (sym same) fit.well.held.distinct;
  }

  pub nothing_touched : {K : Type 0} (store : Store T) (shared : Shared S K) → IsFit seen store shared → KeepsShared seen store shared store shared
  nothing_touched store shared fit = tables_kept store store shared shared fit (keeps_refl store.tables shared.tables fit.fits) refl

  pub kept_then : {K : Type 0} (a b c : Store T) (r s t : Shared S K) → KeepsShared seen a r b s → KeepsShared seen b s c t → KeepsShared seen a r c t
  kept_then a b c r s t p q = record {
    tables = keeps_trans a.tables b.tables c.tables r.tables s.tables t.tables p.tables q.tables;
    names = keeps_both r.names s.names t.names p.names q.names;
    distinct = q.distinct;
  }

-- ---- names that stay with what was done, or go with it

module _ {T S K : Type 0} (seen : Seen T S) (old mid new : Store T) (before between after : Shared S K) (kept : KeepsShared seen old before mid between) (keeps : Keeps seen mid.tables between.tables new.tables after.tables) where
  kept_by : (names : List (List ℕ)) → after.names ≡ names → KeepsNames before.names names → AreDistinct names → KeepsShared seen old before new after
  kept_by names same grown distinct = record {
    tables = keeps_trans old.tables mid.tables new.tables before.tables between.tables after.tables kept.tables keeps;
    names = subst (KeepsNames before.names) (sym same) grown;
    distinct = subst AreDistinct (sym same) distinct;
  }

  pub names_stay : after.names ≡ between.names → KeepsShared seen old before new after
  names_stay same = kept_by between.names same kept.names kept.distinct

  pub names_go : (mark : Mark) → AreDistinct before.names → mark.names ≡ length before.names → after.names ≡ take mark.names between.names → KeepsShared seen old before new after
  names_go mark distinct all cut = kept_by before.names (cut ∙ ap (λ n. take n between.names) all ∙ taken_back before.names between.names kept.names) (λ n t h. h) distinct

  pub settled_keeps : {X E : Type 0} (mark : Mark) (result : Result X E) → AreDistinct before.names → mark.names ≡ length before.names → OnOk result (after.names ≡ between.names) → OnErr result (after.names ≡ take mark.names between.names)
      → KeepsShared seen old before new after
  settled_keeps mark (Ok x) distinct all same cut = names_stay same
  settled_keeps mark (Err e) distinct all same cut = names_go mark distinct all cut

-- ---- other stores

module _ {T S K : Type 0} (seen : Seen T S) (store : Store T) (old new : Shared S K) (fit : IsFit seen store old) (content : seen.content store.tables new.tables ≡ seen.content store.tables old.tables) (keeps : KeepsNames old.names new.names) where
  abbrev was : State
  was = state_of seen store old

  same_state : state_of seen store new ≡ was
  same_state = ap (λ (c : Content). record was { content = c }) content

  pub graph_over : graph_of_store seen store new ≡ graph_of_store seen store old
  graph_over = ap (graph_in new.names) same_state ∙ same_graph old.names new.names keeps was fit.well

  pub fit_over : AreDistinct new.names → seen.fits store.tables new.tables → IsFit seen store new
  fit_over distinct fits = record {
    fits = fits;
    well = subst (IsWell new.names) (sym same_state) (still_well old.names new.names keeps distinct was fit.well);
    journal = subst (CanUndo new.names store.journal.items) (sym same_state) (can_still_undo old.names new.names keeps distinct store.journal.items was fit.journal);
    covered = subst (HasCovered (has_in store.sets) store.journal.items) (sym same_state) fit.covered;
    noted = subst (HasNoted (is_in store.sets) store.sets.stale_ids.items store.journal.items) (sym same_state) fit.noted;
    none_gone = subst (λ (s : State). NoneGone (undone store.journal.items s)) (sym same_state) fit.none_gone;
  }

-- a moment to which a store at rest can be taken back stays one, of the same graph, whatever others do with the shared part
module _ {T S K : Type 0} (seen : Seen T S) (old new other : Store T) (before after : Shared S K) (kept : KeepsShared seen old before new after) (apart : seen.owner other.tables ≢ seen.owner old.tables) (fit : IsFit seen other before) (mark : Mark) (has : HasMark seen other before mark) where
  other_names : names_at seen other after mark ≡ names_at seen other before mark
  other_names = first_names_stay mark.names before.names after.names kept.names has.names

  other_state : state_at seen other after mark ≡ state_at seen other before mark
  other_state =
      ap (λ (c : Content). undone (drop mark.journal other.journal.items) (record (state_of seen other before) { content = c }))
      (kept.tables.others.same other.tables apart fit.fits)

  pub other_mark_same : graph_at seen other after mark ≡ graph_at seen other before mark
  other_mark_same = same_moment seen other other before after mark other_names other_state

  pub other_mark_stays : HasMark seen other after mark
  other_mark_stays =
      still_marked seen other other before after mark other_names other_state refl has.journal
      (omega (arith, has.names, no_fewer_names before.names after.names kept.names)) has

pub other_stores_stay : {T S : Type 0} (K : Type 0) (seen : Seen T S) → OtherStoresStay K seen
other_stores_stay K seen old new other before after kept apart fit =
    let same = kept.tables.others.same other.tables apart fit.fits in (
      fit_over seen other before after fit same kept.names kept.distinct (kept.tables.others.fit other.tables apart fit.fits),
      graph_over seen other before after fit same kept.names,
      λ mark has. (other_mark_stays seen old new other before after kept apart fit mark has, other_mark_same seen old new other before after kept apart fit mark has),
    )

-- a store that is back at a mark, with the names that others brought since, has the mark's graph too
pub back_uncut : {T S K : Type 0} (seen : Seen T S) (mark : Mark) (old new : Store T) (before after : Shared S K) → HasMark seen old before mark → IsBack seen mark old before new after → after.names ≡ before.names
    → graph_of_store seen new after ≡ graph_at seen old before mark
back_uncut seen mark old new before after has back names =
    (λ i. graph_in (names i) (back.state i))
    ∙ same_graph (names_at seen old before mark) before.names (first_are_there mark.names before.names) (state_at seen old before mark) has.well

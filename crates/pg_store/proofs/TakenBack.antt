-- A store that goes back to a mark, change by change.
use Rattle.std.proofs.Common.{◌≡◌, ◌≤◌, ◌<◌, ℕ, List, [], ◌∷◌, ◌++◌, length, take, drop, arith, refl, sym, ap, subst, ◌∙◌, append_assoc, append-nil}
use Rattle.std.proofs.lemmas.List.{take_at, drop_at, length-append}
use Rattle.pg_graph.proofs.Others.{keeps_refl, keeps_trans}
use Rattle.pg_graph.specs.Content.{Seen, Keeps}
use Rattle.pg_store.proofs.CoverLemmas.{covered_popped}
use Rattle.pg_store.proofs.JournalLemmas.{popped, none_gone_popped}
use Rattle.pg_store.proofs.Noting.{noted_popped}
use Rattle.pg_store.specs.Covers.{HasCovered, has_in}
use Rattle.pg_store.specs.Noted.{HasNoted, is_in}
use Rattle.pg_store.specs.declared.sets.Sets.{Sets}
use Rattle.pg_store.specs.Journal.{State, IsWell, CanUndo, CanUndoOne, NoneGone, undo_one, undone}
use Rattle.pg_store.specs.Stores.{state_of, IsFit, HasMark, IsBack}
use Rattle.pg_store.specs.declared.journal.Entry.{Entry}
use Rattle.pg_store.specs.declared.journal.Mark.{Mark}
use Rattle.pg_store.specs.declared.shared.Shared.{Shared}
use Rattle.pg_store.specs.declared.store.Store.{Store}

-- the store `now` is `old` with some of what was done since the mark taken back
pub record GoesBack {T S K : Type 0} (seen : Seen T S) (mark : ℕ) (old : Store T) (before : Shared S K) (now : Store T) (shared : Shared S K) : Type 0 where
  pub fit : IsFit seen now shared
  pub names : shared.names ≡ before.names
  pub gone : List Entry
  pub parts : old.journal.items ≡ now.journal.items ++ gone
  pub state : state_of seen now shared ≡ undone gone (state_of seen old before)
  pub there : mark ≤ length now.journal.items
  pub keeps : Keeps seen old.tables before.tables now.tables shared.tables
  pub sets : now.sets ≡ old.sets

module _ {T S : Type 0} (seen : Seen T S) (mark : ℕ) where
  pub at_first : {K : Type 0} (old : Store T) (before : Shared S K) → IsFit seen old before → mark ≤ length old.journal.items → GoesBack seen mark old before old before
  at_first old before fit there = record { fit = fit; names = refl; gone = []; parts = sym (append-nil old.journal.items); state = refl; there = there; keeps = keeps_refl old.tables before.tables fit.fits; sets = refl }

  pub can_go : {K : Type 0} (now : Store T) (shared : Shared S K) (es : List Entry) (e : Entry) → now.journal.items ≡ es ++ e ∷ [] → IsFit seen now shared → CanUndoOne e (state_of seen now shared)
  can_go now shared es e items fit = (popped shared.names es now.journal.items e (state_of seen now shared) items fit.journal).0

  longer : (m : ℕ) (xs es : List Entry) (e : Entry) → xs ≡ es ++ e ∷ [] → m < length xs → m ≤ length es
  longer m xs es e is h = let longer = ap length is ∙ length-append es (e ∷ []) in omega (arith, longer)

  pub goes_on : {K : Type 0} (old now new : Store T) (before shared after : Shared S K) (e : Entry) → GoesBack seen mark old before now shared → mark < length now.journal.items
      → now.journal.items ≡ new.journal.items ++ e ∷ [] → state_of seen new after ≡ undo_one e (state_of seen now shared) → after.names ≡ shared.names → new.sets ≡ now.sets → Keeps seen now.tables shared.tables new.tables after.tables
      → GoesBack seen mark old before new after
  goes_on old now new before shared after e was more items is names sets keeps =
      let es = new.journal.items in
      let s = state_of seen now shared in
      let pop = popped shared.names es now.journal.items e s items was.fit.journal in
      record {
        fit = record {
          fits = keeps.fits;
          well = subst (λ (ns : List (List ℕ)). IsWell ns (state_of seen new after)) (sym names) (subst (IsWell shared.names) (sym is) pop.1);
          journal = subst (λ (ns : List (List ℕ)). CanUndo ns es (state_of seen new after)) (sym names) (subst (CanUndo shared.names es) (sym is) pop.2);
          covered = subst (λ (x : Sets). HasCovered (has_in x) es (state_of seen new after)) (sym sets)
              (subst (HasCovered (has_in now.sets) es) (sym is) (covered_popped (has_in now.sets) es now.journal.items e s items was.fit.covered));
          noted = subst (λ (x : Sets). HasNoted (is_in x) x.stale_ids.items es (state_of seen new after)) (sym sets)
              (subst (HasNoted (is_in now.sets) now.sets.stale_ids.items es) (sym is) (noted_popped (is_in now.sets) now.sets.stale_ids.items es now.journal.items e s items was.fit.noted));
          none_gone = subst (λ (t : State). NoneGone (undone es t)) (sym is) (none_gone_popped es now.journal.items e s items was.fit.none_gone);
        };
        names = names ∙ was.names;
        gone = e ∷ was.gone;
        parts = was.parts ∙ ap (λ (fs : List Entry). fs ++ was.gone) items ∙ append_assoc es (e ∷ []) was.gone;
        state = is ∙ ap (undo_one e) was.state;
        there = longer mark now.journal.items es e items more;
        keeps = keeps_trans old.tables now.tables new.tables before.tables shared.tables after.tables was.keeps keeps;
        sets = sets ∙ was.sets;
      }

-- at the mark
pub is_back : {T S K : Type 0} (seen : Seen T S) (mark : Mark) (old now : Store T) (before shared : Shared S K) → GoesBack seen mark.journal old before now shared → length now.journal.items ≤ mark.journal → IsBack seen mark old before now shared
is_back seen mark old now before shared was h =
    let long : length now.journal.items ≡ mark.journal = omega (arith, h, was.there) in
    record {
      state = was.state ∙ ap (λ (es : List Entry). undone es (state_of seen old before)) (sym (ap (drop mark.journal) was.parts ∙ drop_at now.journal.items was.gone mark.journal long));
      journal = sym (ap (take mark.journal) was.parts ∙ take_at now.journal.items was.gone mark.journal long);
    }

-- with the names of then
pub back_is_fit : {T S K : Type 0} (seen : Seen T S) (mark : Mark) (old now : Store T) (before shared after : Shared S K) → HasMark seen old before mark → IsBack seen mark old before now shared → IsFit seen now shared
    → after.names ≡ take mark.names before.names → after.tables ≡ shared.tables → IsFit seen now after
back_is_fit {S = S} seen mark old now before shared after has back fit cut same =
    let s = state_of seen now shared in
    let is : state_of seen now after ≡ s = ap (λ (x : S). record s { content = seen.content now.tables x }) same in
    record {
      fits = subst (seen.fits now.tables) (sym same) fit.fits;
      well = subst (λ (ns : List (List ℕ)). IsWell ns (state_of seen now after)) (sym cut) (subst (IsWell (take mark.names before.names)) (sym (is ∙ back.state)) has.well);
      journal = subst (λ (ns : List (List ℕ)). CanUndo ns now.journal.items (state_of seen now after)) (sym cut)
          (subst (λ (es : List Entry). CanUndo (take mark.names before.names) es (state_of seen now after)) (sym back.journal)
          (subst (CanUndo (take mark.names before.names) (take mark.journal old.journal.items)) (sym (is ∙ back.state)) has.undo));
      covered = subst (HasCovered (has_in now.sets) now.journal.items) (sym is) fit.covered;
      noted = subst (HasNoted (is_in now.sets) now.sets.stale_ids.items now.journal.items) (sym is) fit.noted;
      none_gone = subst (λ (t : State). NoneGone (undone now.journal.items t)) (sym is) fit.none_gone;
    }

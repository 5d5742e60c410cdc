-- One more change in the journal, and one less; names that grow.
use Rattle.std.proofs.Common.{◌≡◌, ◌≤◌, ℕ, zero, suc, List, [], ◌∷◌, ◌++◌, length, drop, refl, subst, sym, ap, ◌∙◌}
use Rattle.std.proofs.lemmas.List.{drop-append-le}
use Rattle.pg_graph.proofs.Held.{holds_with_more_names}
use Rattle.pg_graph.proofs.Refined.{names_may_grow}
use Rattle.pg_names.specs.Names.{AreDistinct, KeepsNames}
use Rattle.pg_meaning.specs.Graph.{element_count}
use Rattle.pg_store.specs.Journal.{State, IsWell, CanUndoOne, CanUndo, NoneGone, live, graph_in, undo_one, undone}
use Rattle.pg_store.specs.declared.journal.Entry.{Entry}

pub undone_last : (es : List Entry) (e : Entry) (s : State) → undone (es ++ e ∷ []) s ≡ undone es (undo_one e s)
undone_last [] e s = refl
undone_last (x ∷ es) e s = ap (undo_one x) (undone_last es e s)

module _ (names : List (List ℕ)) where
  pub can_undo_last : (es : List Entry) (e : Entry) (s : State) → CanUndo names es (undo_one e s) → CanUndoOne e s → IsWell names (undo_one e s) → CanUndo names (es ++ e ∷ []) s
  can_undo_last [] e s h one well = (one, well, tt)
  can_undo_last (x ∷ es) e s h one well = (
    subst (CanUndoOne x) (sym (undone_last es e s)) h.0,
    subst (λ (t : State). IsWell names (undo_one x t)) (sym (undone_last es e s)) h.1,
    can_undo_last es e s h.2 one well,
  )

  pub can_undo_pop : (es : List Entry) (e : Entry) (s : State) → CanUndo names (es ++ e ∷ []) s → CanUndoOne e s × IsWell names (undo_one e s) × CanUndo names es (undo_one e s)
  can_undo_pop [] e s h = (h.0, h.1, tt)
  can_undo_pop (x ∷ es) e s h =
      let rest = can_undo_pop es e s h.2 in
      (rest.0, rest.1, (subst (CanUndoOne x) (undone_last es e s) h.0, subst (λ (t : State). IsWell names (undo_one x t)) (undone_last es e s) h.1, rest.2))

  pub can_undo_drop : (n : ℕ) (es : List Entry) (s : State) → CanUndo names es s → CanUndo names (drop n es) s
  can_undo_drop zero es s h = h
  can_undo_drop (suc n) [] s h = tt
  can_undo_drop (suc n) (e ∷ es) s h = can_undo_drop n es s h.2

  -- a change that can be undone joins the journal
  pub pushed : (es es' : List Entry) (e : Entry) (s s' : State) → es' ≡ es ++ e ∷ [] → undo_one e s' ≡ s → CanUndoOne e s' → IsWell names s → CanUndo names es s → CanUndo names es' s'
  pushed es es' e s s' is back one well all =
      subst (λ xs. CanUndo names xs s') (sym is)
      (can_undo_last es e s' (subst (CanUndo names es) (sym back) all) one (subst (IsWell names) (sym back) well))

  -- the last change leaves the journal
  pub popped : (es es' : List Entry) (e : Entry) (s : State) → es' ≡ es ++ e ∷ [] → CanUndo names es' s → CanUndoOne e s × IsWell names (undo_one e s) × CanUndo names es (undo_one e s)
  popped es es' e s is all = can_undo_pop es e s (subst (λ xs. CanUndo names xs s) is all)

-- what was removed before the first change does not hang on the last one
pub none_gone_pushed : (es es' : List Entry) (e : Entry) (s s' : State) → es' ≡ es ++ e ∷ [] → undo_one e s' ≡ s → NoneGone (undone es s) → NoneGone (undone es' s')
none_gone_pushed es es' e s s' is back none =
    subst NoneGone (sym (ap (λ xs. undone xs s') is ∙ undone_last es e s' ∙ ap (undone es) back)) none

pub none_gone_popped : (es es' : List Entry) (e : Entry) (s : State) → es' ≡ es ++ e ∷ [] → NoneGone (undone es' s) → NoneGone (undone es (undo_one e s))
none_gone_popped es es' e s is none = subst NoneGone (ap (λ xs. undone xs s) is ∙ undone_last es e s) none

-- earlier marks do not see the last change
pub marked_before : (n : ℕ) (es es' : List Entry) (e : Entry) (s s' : State) → es' ≡ es ++ e ∷ [] → undo_one e s' ≡ s → n ≤ length es → undone (drop n es') s' ≡ undone (drop n es) s
marked_before n es es' e s s' is back h =
    ap (λ xs. undone (drop n xs) s') is ∙ ap (λ xs. undone xs s') (drop-append-le n es (e ∷ []) h) ∙ undone_last (drop n es) e s' ∙ ap (undone (drop n es)) back

-- ---- names that grow

module _ (old new : List (List ℕ)) (keeps : KeepsNames old new) where
  pub same_graph : (s : State) → IsWell old s → graph_in new s ≡ graph_in old s
  same_graph s well = names_may_grow old new (live s) s.next.node s.next.rel well.holds keeps

  pub still_well : AreDistinct new → (s : State) → IsWell old s → IsWell new s
  still_well distinct s well = record {
    held = holds_with_more_names old new s.content s.next.node s.next.rel well.held distinct keeps;
    holds = holds_with_more_names old new (live s) s.next.node s.next.rel well.holds distinct keeps;
    counted = well.counted ∙ sym (ap element_count (same_graph s well));
    nodes_wait = well.nodes_wait;
    rels_wait = well.rels_wait;
    node_ids = well.node_ids;
    rel_ids = well.rel_ids;
    few = well.few;
  }

  pub can_still_undo : AreDistinct new → (es : List Entry) (s : State) → CanUndo old es s → CanUndo new es s
  can_still_undo distinct [] s h = tt
  can_still_undo distinct (e ∷ es) s h = (h.0, still_well distinct (undone (e ∷ es) s) h.1, can_still_undo distinct es s h.2)

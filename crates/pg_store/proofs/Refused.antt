-- A call that was refused on its way, and took back what it had done.
use Rattle.std.proofs.Common.{◌≡◌, ◌≤◌, length, take, Err, arith, ◌∙◌}
use Rattle.pg_graph.specs.Content.{Seen, Keeps}
use Rattle.pg_meaning.specs.Graph.{Graph}
use Rattle.pg_store.proofs.Kept.{names_go}
use Rattle.pg_store.proofs.Marks.{is_marked, marks_this}
use Rattle.pg_store.specs.Changes.{Changes}
use Rattle.pg_store.specs.Stores.{index_pairs, graph_of_store, graph_at, IsFit, HasMark, KeepsMarks, KeepsShared}
use Rattle.pg_store.specs.declared.journal.Mark.{Mark}
use Rattle.pg_store.specs.declared.shared.Shared.{Shared}
use Rattle.pg_store.specs.declared.store.Store.{Store}

-- what undo gives
pub record Undone {T S K : Type 0} (seen : Seen T S) (mark : Mark) (mid : Store T) (between : Shared S K) (new : Store T) (after : Shared S K) : Type 0 where
  pub graph : graph_of_store seen new after ≡ graph_at seen mid between mark
  pub names : after.names ≡ take mark.names between.names
  pub marks : (earlier : Mark) → earlier.journal ≤ mark.journal → earlier.names ≤ mark.names → graph_at seen new after earlier ≡ graph_at seen mid between earlier
  pub there : (earlier : Mark) → earlier.journal ≤ mark.journal → earlier.names ≤ mark.names → HasMark seen mid between earlier → HasMark seen new after earlier
  pub fit : IsFit seen new after
  pub pairs : index_pairs new ≡ index_pairs mid
  pub keeps : Keeps seen mid.tables between.tables new.tables after.tables

module _ {T S K : Type 0} (seen : Seen T S) (mark : Mark) (old mid new : Store T) (before between after : Shared S K) (journal : mark.journal ≡ length old.journal.items) (names : mark.names ≡ length before.names) (fit : IsFit seen old before)
    (marks : KeepsMarks seen old before mid between) (kept : KeepsShared seen old before mid between) where
  pub has_mark : HasMark seen mid between mark
  has_mark = marks.there mark (is_marked seen old before mark journal names fit)

  module _ (undone : Undone seen mark mid between new after) where
    pub graph_again : graph_of_store seen new after ≡ graph_of_store seen old before
    graph_again = undone.graph ∙ marks.same mark (is_marked seen old before mark journal names fit) ∙ marks_this seen old before mark journal names

    pub marks_again : KeepsMarks seen old before new after
    marks_again = record {
      there = λ m has. undone.there m (omega (arith, has.journal, journal)) (omega (arith, has.names, names)) (marks.there m has);
      same = λ m has. undone.marks m (omega (arith, has.journal, journal)) (omega (arith, has.names, names)) ∙ marks.same m has;
      pairs = undone.pairs ∙ marks.pairs;
    }

    pub changes_nothing : {X E : Type 0} (e : E) (Says : Graph → Graph → Type 0) → Says (graph_of_store seen old before) (graph_of_store seen new after) → Changes {X = X} {E = E} seen old before new after (Err e) Says
    changes_nothing e Says says = record {
      says = says;
      same = graph_again;
      fit = undone.fit;
      keeps = names_go seen old mid new before between after kept undone.keeps mark fit.well.held.distinct names undone.names;
    }

use Rattle.std.proofs.Common.{◌≡◌, ◌++◌, ◌∷◌, [], ℕ, List, Result, Ok, Err, OnOk, OnErr, cond, refl, sym, ap, subst, ◌∙◌}
use Rattle.std.specs.Result.{is_ok}
use Rattle.pg_graph.specs.Content.{Seen}
use Rattle.pg_index.specs.Properties.{has_pair, pairs_of}
use Rattle.pg_names.specs.Names.{AreDistinct, KeepsNames}
use Rattle.pg_store.proofs.ChangeLemmas.{at_err, marks_alike, marks_then, renamed_graph, renamed_fit, renamed_keeps, renamed_marks}
use Rattle.pg_store.proofs.Indexed.{kept_fit, last_pair, more_named, same_named, there_named}
use Rattle.pg_store.proofs.Kept.{keeps_both}
use Rattle.pg_store.proofs.store.Store.index_texts.Goals as goal
use Rattle.pg_store.specs.Stores.{IsFit, KeepsMarks}
use Rattle.pg_store.specs.declared.sets.Sets.{Sets}
use Rattle.pg_store.specs.declared.shared.Shared.{Shared}
use Rattle.pg_store.specs.declared.store.Store.{Store}

pushed : {V E X : Type 0} (r : Result V E) (xs more same : List X) → xs ≡ cond (is_ok r) more same → OnOk r (xs ≡ more) × OnErr r (xs ≡ same)
pushed (Ok v) xs more same h = (h, tt)
pushed (Err e) xs more same h = (tt, h)

-- other indexes, beside names that grew
indexed_marks : {T S K : Type 0} (seen : Seen T S) (store : Store T) (shared : Shared S K) (names : List (List ℕ)) (keeps : KeepsNames shared.names names) (fit : IsFit seen store shared) (sets : Sets)
    → pairs_of sets.indexes.items ≡ pairs_of store.sets.indexes.items → KeepsMarks seen store shared (record store { sets = sets }) (record shared { names = names })
indexed_marks seen store shared names keeps fit sets pairs =
    marks_then seen store store (record store { sets = sets }) shared (record shared { names = names }) (record shared { names = names }) (renamed_marks seen store shared names keeps fit)
    (marks_alike seen store (record store { sets = sets }) (record shared { names = names }) (record shared { names = names }) refl refl refl pairs)

pub returns-in_err-label-clause-changes : goal.returns-in_err-label-clause-changes
returns-in_err-label-clause-changes g c =
    let seen = g.T.Tables.seen in
    let graph = renamed_graph seen c.args.self.now c.args.shared.now c.intern.new.self c.intern.ensures.keeps c.requires.fit in
    let distinct = subst AreDistinct (sym c.in_err-label.ensures.err) c.requires.fit.well.held.distinct in
    record {
      says = graph;
      same = at_err c.from_residual.result graph;
      fit = renamed_fit seen c.args.self.now c.args.shared.now c.intern.new.self c.intern.ensures.keeps c.requires.fit distinct;
      keeps = renamed_keeps seen c.args.self.now c.args.shared.now c.intern.new.self c.intern.ensures.keeps c.requires.fit distinct;
    }

pub returns-in_err-label-clause-marks : goal.returns-in_err-label-clause-marks
returns-in_err-label-clause-marks g c = at_err c.from_residual.result (renamed_marks g.T.Tables.seen c.args.self.now c.args.shared.now c.intern.new.self c.intern.ensures.keeps c.requires.fit)

pub returns-in_err-key-clause-changes : goal.returns-in_err-key-clause-changes
returns-in_err-key-clause-changes g c =
    let seen = g.T.Tables.seen in
    let keeps = keeps_both c.args.shared.now.names c.intern.new.self c.intern-2.new.self c.intern.ensures.keeps c.intern-2.ensures.keeps in
    let graph = renamed_graph seen c.args.self.now c.args.shared.now c.intern-2.new.self keeps c.requires.fit in
    let distinct = subst AreDistinct (sym c.in_err-key.ensures.err) c.in_ok-label.ensures.distinct in
    record {
      says = graph;
      same = at_err c.from_residual-in_err-key.result graph;
      fit = renamed_fit seen c.args.self.now c.args.shared.now c.intern-2.new.self keeps c.requires.fit distinct;
      keeps = renamed_keeps seen c.args.self.now c.args.shared.now c.intern-2.new.self keeps c.requires.fit distinct;
    }

pub returns-in_err-key-clause-marks : goal.returns-in_err-key-clause-marks
returns-in_err-key-clause-marks g c =
    at_err c.from_residual-in_err-key.result
    (renamed_marks g.T.Tables.seen c.args.self.now c.args.shared.now c.intern-2.new.self
    (keeps_both c.args.shared.now.names c.intern.new.self c.intern-2.new.self c.intern.ensures.keeps c.intern-2.ensures.keeps) c.requires.fit)

pub filled_index-requires : goal.filled_index-requires
filled_index-requires g c =
    record {
      fit = renamed_fit g.T.Tables.seen c.args.self.now c.args.shared.now c.intern-2.new.self
          (keeps_both c.args.shared.now.names c.intern.new.self c.intern-2.new.self c.intern.ensures.keeps c.intern-2.ensures.keeps) c.requires.fit c.in_ok-key.ensures.distinct;
      none_gone = c.requires.none_gone;
    }

pub returns-then-is_some : goal.returns-then-is_some
returns-then-is_some g c =
    let seen = g.T.Tables.seen in
    let store = c.args.self.now in
    let shared = c.args.shared.now in
    let names = c.intern-2.new.self in
    let keeps = keeps_both shared.names c.intern.new.self names c.intern.ensures.keeps c.intern-2.ensures.keeps in
    record {
      changes = record {
        says = renamed_graph seen store shared names keeps c.requires.fit;
        same = tt;
        fit = renamed_fit seen store shared names keeps c.requires.fit c.in_ok-key.ensures.distinct;
        keeps = renamed_keeps seen store shared names keeps c.requires.fit c.in_ok-key.ensures.distinct;
      };
      marks = tt;
      more = same_named names c.args.label.now c.args.key.now c.in_ok-key.ensures.distinct c.in_ok-label.label c.in_ok-key.key
          (c.intern-2.ensures.keeps c.in_ok-label.label c.args.label.now c.in_ok-label.ensures.number) c.in_ok-key.ensures.number (pairs_of store.sets.indexes.items)
          (ap (λ xs. has_pair (c.in_ok-label.label, c.in_ok-key.key) (pairs_of xs)) (sym c.as_slice.ensures.value) ∙ sym c.index_of.ensures.there ∙ sym c.is_some.ensures ∙ c.if-is_some.true);
      there = there_named names c.args.label.now c.args.key.now c.in_ok-label.label c.in_ok-key.key (pairs_of store.sets.indexes.items)
          (c.intern-2.ensures.keeps c.in_ok-label.label c.args.label.now c.in_ok-label.ensures.number) c.in_ok-key.ensures.number
          (ap (λ xs. has_pair (c.in_ok-label.label, c.in_ok-key.key) (pairs_of xs)) (sym c.as_slice.ensures.value) ∙ sym c.index_of.ensures.there ∙ sym c.is_some.ensures ∙ c.if-is_some.true);
    }

pub returns-in_err-index-clause-changes : goal.returns-in_err-index-clause-changes
returns-in_err-index-clause-changes g c =
    let seen = g.T.Tables.seen in
    let store = c.args.self.now in
    let shared = c.args.shared.now in
    let names = c.intern-2.new.self in
    let keeps = keeps_both shared.names c.intern.new.self names c.intern.ensures.keeps c.intern-2.ensures.keeps in
    let graph = renamed_graph seen store shared names keeps c.requires.fit in
    record {
      says = graph;
      same = at_err c.from_residual-in_err-index.result graph;
      fit = renamed_fit seen store shared names keeps c.requires.fit c.in_ok-key.ensures.distinct;
      keeps = renamed_keeps seen store shared names keeps c.requires.fit c.in_ok-key.ensures.distinct;
    }

pub returns-in_err-index-clause-marks : goal.returns-in_err-index-clause-marks
returns-in_err-index-clause-marks g c =
    at_err c.from_residual-in_err-index.result
    (renamed_marks g.T.Tables.seen c.args.self.now c.args.shared.now c.intern-2.new.self
    (keeps_both c.args.shared.now.names c.intern.new.self c.intern-2.new.self c.intern.ensures.keeps c.intern-2.ensures.keeps) c.requires.fit)

pub returns-in_err-push-clause-changes : goal.returns-in_err-push-clause-changes
returns-in_err-push-clause-changes g c =
    let seen = g.T.Tables.seen in
    let store = c.args.self.now in
    let shared = c.args.shared.now in
    let names = c.intern-2.new.self in
    let keeps = keeps_both shared.names c.intern.new.self names c.intern.ensures.keeps c.intern-2.ensures.keeps in
    let graph = renamed_graph seen store shared names keeps c.requires.fit in
    let made = c.in_ok-index.ensures in
    let fit = renamed_fit seen store shared names keeps c.requires.fit c.in_ok-key.ensures.distinct in
    let touched = renamed_keeps seen store shared names keeps c.requires.fit c.in_ok-key.ensures.distinct in
    let items = pushed c.push.result c.push.new.self.items (store.sets.indexes.items ++ c.in_ok-index.index ∷ []) store.sets.indexes.items c.push.ensures.items in
    record {
      says = graph;
      same = at_err c.from_residual-in_err-push.result graph;
      fit = kept_fit seen store (record shared { names = names }) _ fit c.requires.no_mark c.in_ok-index.index c.in_ok-label.label c.in_ok-key.key refl refl refl made.label made.key made.all made.only c.push.result items.0 items.1;
      keeps = record { tables = touched.tables; names = touched.names; distinct = touched.distinct };
    }

pub returns-in_err-push-clause-marks : goal.returns-in_err-push-clause-marks
returns-in_err-push-clause-marks g c =
    at_err c.from_residual-in_err-push.result
    (indexed_marks g.T.Tables.seen c.args.self.now c.args.shared.now c.intern-2.new.self
    (keeps_both c.args.shared.now.names c.intern.new.self c.intern-2.new.self c.intern.ensures.keeps c.intern-2.ensures.keeps) c.requires.fit _ (ap pairs_of c.in_err-push.ensures.items))

pub returns : goal.returns
returns g c =
    let seen = g.T.Tables.seen in
    let store = c.args.self.now in
    let shared = c.args.shared.now in
    let names = c.intern-2.new.self in
    let keeps = keeps_both shared.names c.intern.new.self names c.intern.ensures.keeps c.intern-2.ensures.keeps in
    let made = c.in_ok-index.ensures in
    let fit = renamed_fit seen store shared names keeps c.requires.fit c.in_ok-key.ensures.distinct in
    let touched = renamed_keeps seen store shared names keeps c.requires.fit c.in_ok-key.ensures.distinct in
    let items = pushed c.push.result c.push.new.self.items (store.sets.indexes.items ++ c.in_ok-index.index ∷ []) store.sets.indexes.items c.push.ensures.items in
    record {
      changes = record {
        says = renamed_graph seen store shared names keeps c.requires.fit;
        same = tt;
        fit = kept_fit seen store (record shared { names = names }) _ fit c.requires.no_mark c.in_ok-index.index c.in_ok-label.label c.in_ok-key.key refl refl refl made.label made.key made.all made.only c.push.result items.0 items.1;
        keeps = record { tables = touched.tables; names = touched.names; distinct = touched.distinct };
      };
      marks = tt;
      more = λ p.
          ap (λ xs. has_pair p (pairs_of xs)) c.in_ok-push.ensures.items
          ∙ more_named names c.args.label.now c.args.key.now c.in_ok-key.ensures.distinct c.in_ok-label.label c.in_ok-key.key
          (c.intern-2.ensures.keeps c.in_ok-label.label c.args.label.now c.in_ok-label.ensures.number) c.in_ok-key.ensures.number store.sets.indexes.items c.in_ok-index.index made.label made.key p;
      there = there_named names c.args.label.now c.args.key.now c.in_ok-label.label c.in_ok-key.key (pairs_of c.push.new.self.items)
          (c.intern-2.ensures.keeps c.in_ok-label.label c.args.label.now c.in_ok-label.ensures.number) c.in_ok-key.ensures.number
          (ap (λ xs. has_pair (c.in_ok-label.label, c.in_ok-key.key) (pairs_of xs)) c.in_ok-push.ensures.items ∙ last_pair store.sets.indexes.items c.in_ok-index.index c.in_ok-label.label c.in_ok-key.key made.label made.key);
    }

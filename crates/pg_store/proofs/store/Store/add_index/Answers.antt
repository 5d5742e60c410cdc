use Rattle.std.proofs.Common.{length, take, ap, ◌∙◌}
use Rattle.pg_names.proofs.Interned.{taken_back}
use Rattle.pg_store.proofs.Kept.{kept_then, names_go, tables_kept}
use Rattle.std.specs.Prelude.{◌||◌}
use Rattle.pg_index.specs.Properties.{has_pair}
use Rattle.pg_store.specs.Indexed.{is_named}
use Rattle.pg_store.proofs.store.Store.add_index.Goals as goal

pub returns-in-Ok-clause-changes : goal.returns-in-Ok-clause-changes
returns-in-Ok-clause-changes g c =
    let done = c.commit.ensures in
    let made = c.index_texts.ensures in
    record {
      says = made.changes.says ∙ done.graph;
      same = tt;
      fit = made.changes.fit;
      keeps = kept_then c.args.self.now c.commit.new.self c.index_texts.new.self c.args.shared.now c.commit.new.shared c.index_texts.new.shared
          (tables_kept c.args.self.now c.commit.new.self c.args.shared.now c.commit.new.shared c.requires.fit done.keeps done.names) made.changes.keeps;
    }

pub returns-in-Err-clause-changes : goal.returns-in-Err-clause-changes
returns-in-Err-clause-changes g c =
    let done = c.commit.ensures in
    let made = c.index_texts.ensures in
    let graph = c.undo.ensures.graph ∙ c.in-Err.ensures.marks.same c.mark-mark.result c.mark-mark.ensures.there ∙ c.mark-mark.ensures.graph ∙ done.graph in
    let kept = kept_then c.args.self.now c.commit.new.self c.index_texts.new.self c.args.shared.now c.commit.new.shared c.index_texts.new.shared
    (tables_kept c.args.self.now c.commit.new.self c.args.shared.now c.commit.new.shared c.requires.fit done.keeps done.names) made.changes.keeps in
    record {
      says = graph;
      same = graph;
      fit = c.undo.ensures.fit;
      keeps = names_go g.T.Tables.seen c.args.self.now c.index_texts.new.self c.undo.new.self c.args.shared.now c.index_texts.new.shared c.undo.new.shared kept c.undo.ensures.keeps
          c.mark-mark.result c.requires.fit.well.held.distinct (c.mark-mark.ensures.names ∙ ap length done.names) c.undo.ensures.names;
    }

pub returns-in-Err-clause-names : goal.returns-in-Err-clause-names
returns-in-Err-clause-names g c =
    let done = c.commit.ensures in
    let made = c.index_texts.ensures in
    let kept = kept_then c.args.self.now c.commit.new.self c.index_texts.new.self c.args.shared.now c.commit.new.shared c.index_texts.new.shared
    (tables_kept c.args.self.now c.commit.new.self c.args.shared.now c.commit.new.shared c.requires.fit done.keeps done.names) made.changes.keeps in
    let between = c.index_texts.new.shared.names in
    c.undo.ensures.names ∙ ap (λ n. take n between) (c.mark-mark.ensures.names ∙ ap length done.names) ∙ taken_back c.args.shared.now.names between kept.names

pub undo-requires : goal.undo-requires
undo-requires g c = record { fit = c.index_texts.ensures.changes.fit; mark = c.in-Err.ensures.marks.there c.mark-mark.result c.mark-mark.ensures.there }

pub returns-in-Ok-clause-more : goal.returns-in-Ok-clause-more
returns-in-Ok-clause-more g c = λ p. c.in-Ok.ensures.more p ∙ ap (λ ps. has_pair p ps || is_named c.index_texts.new.shared.names c.args.label.now c.args.key.now p) c.commit.ensures.pairs

pub returns-in-Err-clause-same : goal.returns-in-Err-clause-same
returns-in-Err-clause-same g c = c.undo.ensures.pairs ∙ c.in-Err.ensures.marks.pairs ∙ c.commit.ensures.pairs

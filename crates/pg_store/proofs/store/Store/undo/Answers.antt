use Rattle.std.proofs.Common.{◌≡◌, length, take, arith, refl, sym, ap, ◌∙◌}
use Rattle.std.proofs.lemmas.List.{nil_from_length}
use Rattle.pg_graph.proofs.Others.{keeps_trans}
use Rattle.pg_store.proofs.Marks.{marked_graph, earlier_graph, earlier_marked}
use Rattle.pg_store.proofs.Settled.{forgotten, none_waits}
use Rattle.pg_store.proofs.TakenBack.{back_is_fit}
use Rattle.pg_store.proofs.store.Store.undo.Goals as goal
use Rattle.pg_index.specs.Properties.{pairs_of}
use Rattle.pg_store.specs.Stores.{IsBack}
use Rattle.pg_store.specs.declared.sets.Sets.{Sets}

pub go_back-requires : goal.go_back-requires
go_back-requires g c = record { fit = c.requires.fit; mark = c.requires.mark.journal }

pub returns-then-len-gt0 : goal.returns-then-len-gt0
returns-then-len-gt0 g c =
    let seen = g.T.Tables.seen in
    let old = c.args.self.now in
    let before = c.args.shared.now in
    let new = c.go_back.new.self in
    let after = record c.go_back.new.shared { names = c.truncate.new.self } in
    let went = c.go_back.ensures in
    let names = c.truncate.ensures.kept ∙ ap (take c.args.mark.names) went.names in
    let back : IsBack seen c.args.mark old before new after = record { state = went.back.state; journal = went.back.journal } in
    record {
      graph = marked_graph seen c.args.mark old new before after c.requires.mark back names;
      names = names;
      marks = earlier_graph seen c.args.mark old new before after c.requires.mark back names;
      there = earlier_marked seen c.args.mark old new before after c.requires.mark back names;
      fit = back_is_fit seen c.args.mark old new before c.go_back.new.shared after c.requires.mark went.back went.fit names refl;
      exact = λ first.
          let done : length new.journal.items ≡ 0 = ap length (went.back.journal ∙ ap (λ n. take n old.journal.items) first) in
          absurd (omega (arith, done, c.len.ensures, c.if-len-gt0.true));
      pairs = ap (λ (x : Sets). pairs_of x.indexes.items) went.sets;
      keeps = went.keeps;
    }

pub sweep-requires : goal.sweep-requires
sweep-requires g c =
    let seen = g.T.Tables.seen in
    let went = c.go_back.ensures in
    let shared = c.go_back.new.shared in
    let now = c.go_back.new.self in
    let after = record shared { names = c.truncate.new.self } in
    let fit = back_is_fit seen c.args.mark c.args.self.now now c.args.shared.now shared after c.requires.mark went.back went.fit (c.truncate.ensures.kept ∙ ap (take c.args.mark.names) went.names) refl in
    let none = nil_from_length now.journal.items (omega (arith, c.if-len-gt0.false, c.len.ensures)) in
    record { settling = forgotten seen now after fit now.journal none; none_gone = none_waits seen now after fit none }

pub returns : goal.returns
returns g c =
    let seen = g.T.Tables.seen in
    let old = c.args.self.now in
    let before = c.args.shared.now in
    let new = c.sweep.new.self in
    let after = record c.go_back.new.shared { names = c.truncate.new.self } in
    let went = c.go_back.ensures in
    let swept = c.sweep.ensures.settled in
    let names = c.truncate.ensures.kept ∙ ap (take c.args.mark.names) went.names in
    let back : IsBack seen c.args.mark old before new after = record {
      state = c.sweep.ensures.state ∙ went.back.state;
      journal = swept.settling.journal ∙ sym (nil_from_length c.go_back.new.self.journal.items (omega (arith, c.if-len-gt0.false, c.len.ensures))) ∙ went.back.journal;
    } in
    record {
      graph = marked_graph seen c.args.mark old new before after c.requires.mark back names;
      names = names;
      marks = earlier_graph seen c.args.mark old new before after c.requires.mark back names;
      there = earlier_marked seen c.args.mark old new before after c.requires.mark back names;
      fit = c.sweep.ensures.fit;
      exact = λ first. c.sweep.ensures.exact;
      pairs = swept.pairs ∙ ap (λ (x : Sets). pairs_of x.indexes.items) went.sets;
      keeps = keeps_trans old.tables c.go_back.new.self.tables new.tables before.tables after.tables after.tables went.keeps swept.keeps;
    }

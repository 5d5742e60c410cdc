use Rattle.std.proofs.Common.{arith}
use Rattle.pg_store.proofs.Refused.{Undone, changes_nothing, has_mark, marks_again}
use Rattle.pg_store.proofs.store.Store.add_labels.Goals as goal
use Rattle.pg_store.specs.declared.journal.Mark.{Mark}

pub undo-requires : goal.undo-requires
undo-requires g c =
    let done = c.add_each_label.ensures in
    record { fit = done.fit; mark = has_mark g.T.Tables.seen _ c.args.self.now c.add_each_label.new.self c.add_each_label.new.self c.args.shared.now c.add_each_label.new.shared c.add_each_label.new.shared (omega (arith, c.len.ensures)) c.len-2.ensures.len c.requires.fit done.marks done.keeps }

pub returns-in-Ok : goal.returns-in-Ok
returns-in-Ok g c =
    let done = c.add_each_label.ensures in
    record { changes = record { says = c.in-Ok.ensures.ok; same = tt; fit = done.fit; keeps = done.keeps }; marks = done.marks }

pub returns-in-Err : goal.returns-in-Err
returns-in-Err g c =
    let done = c.add_each_label.ensures in
    let back = c.undo.ensures in
    let mark : Mark = record { journal = c.len.result; names = c.len-2.result } in
    let undone : Undone g.T.Tables.seen mark c.add_each_label.new.self c.add_each_label.new.shared c.undo.new.self c.undo.new.shared = record { graph = back.graph; names = back.names; marks = back.marks; there = back.there; fit = back.fit; pairs = back.pairs; keeps = back.keeps } in
    record {
      changes = changes_nothing g.T.Tables.seen mark c.args.self.now c.add_each_label.new.self c.undo.new.self c.args.shared.now c.add_each_label.new.shared c.undo.new.shared (omega (arith, c.len.ensures)) c.len-2.ensures.len c.requires.fit done.marks done.keeps undone c.in-Err.refused _ tt;
      marks = marks_again g.T.Tables.seen mark c.args.self.now c.add_each_label.new.self c.undo.new.self c.args.shared.now c.add_each_label.new.shared c.undo.new.shared (omega (arith, c.len.ensures)) c.len-2.ensures.len c.requires.fit done.marks done.keeps undone;
    }

use Rattle.std.proofs.Common.{◌≡◌, true, length, take, arith, rules, ap, ◌∙◌}
use Rattle.std.proofs.lemmas.List.{nil_from_length}
use Rattle.pg_index.specs.Properties.{pairs_of}
use Rattle.pg_store.specs.declared.sets.Sets.{Sets}
use Rattle.pg_store.proofs.Kept.{back_uncut}
use Rattle.pg_store.proofs.Settled.{forgotten, none_waits}
use Rattle.pg_store.proofs.store.Store.back.Goals as goal

pub go_back-requires : goal.go_back-requires
go_back-requires g c = record { fit = c.requires.fit; mark = c.requires.mark.journal }

pub returns-then-not-is_empty-clause-graph : goal.returns-then-not-is_empty-clause-graph
returns-then-not-is_empty-clause-graph g c =
    back_uncut g.T.Tables.seen c.args.mark c.args.self.now c.go_back.new.self c.args.shared.now c.go_back.new.shared c.requires.mark c.go_back.ensures.back c.go_back.ensures.names

pub returns-then-not-is_empty-clause-exact : goal.returns-then-not-is_empty-clause-exact
returns-then-not-is_empty-clause-exact g c = λ first.
    let done : length c.go_back.new.self.journal.items ≡ 0 = ap length (c.go_back.ensures.back.journal ∙ ap (λ n. take n c.args.self.now.journal.items) first) in
    let empty : c.is_empty.result ≡ true = search (rules, done, arith) in
    absurd (cc (empty, c.if-not-is_empty.true))

pub sweep-requires : goal.sweep-requires
sweep-requires g c =
    let seen = g.T.Tables.seen in
    let now = c.go_back.new.self in
    let none : length now.journal.items ≡ 0 = search (rules, c.if-not-is_empty.false, c.is_empty.ensures, arith) in
    let empty = nil_from_length now.journal.items none in
    let fit = c.go_back.ensures.fit in
    record { settling = forgotten seen now c.go_back.new.shared fit now.journal empty; none_gone = none_waits seen now c.go_back.new.shared fit empty }

pub returns-clause-graph : goal.returns-clause-graph
returns-clause-graph g c =
    c.sweep.ensures.settled.graph
    ∙ back_uncut g.T.Tables.seen c.args.mark c.args.self.now c.go_back.new.self c.args.shared.now c.go_back.new.shared c.requires.mark c.go_back.ensures.back c.go_back.ensures.names

pub returns-clause-pairs : goal.returns-clause-pairs
returns-clause-pairs g c = c.sweep.ensures.settled.pairs ∙ ap (λ (x : Sets). pairs_of x.indexes.items) c.go_back.ensures.sets

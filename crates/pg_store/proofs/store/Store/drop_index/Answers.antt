use Rattle.std.proofs.Common.{sym, ap, ◌∙◌}
use Rattle.pg_index.specs.Properties.{pairs_of}
use Rattle.pg_store.proofs.ChangeLemmas.{grown_fit}
use Rattle.pg_store.proofs.NoteLemmas.{or_left}
use Rattle.pg_store.specs.Noted.{is_in, is_noted}
use Rattle.pg_store.proofs.Indexed.{less_named, none_less_key, none_less_label, fewer_grow, gone_named, no_key_named, no_label_named}
use Rattle.pg_store.proofs.store.Store.drop_index.Goals as goal

pub returns-in_default-clause-gone : goal.returns-in_default-clause-gone
returns-in_default-clause-gone g c = no_label_named c.args.shared.now.names c.args.label.now c.args.key.now c.find.ensures.distinct (pairs_of c.args.self.now.sets.indexes.items) (sym c.in_default.ensures.found)

pub returns-in_default-find-clause-gone : goal.returns-in_default-find-clause-gone
returns-in_default-find-clause-gone g c = no_key_named c.args.shared.now.names c.args.label.now c.args.key.now c.find.ensures.distinct (pairs_of c.args.self.now.sets.indexes.items) (sym c.in_default-find.ensures.found)

pub returns-in-Some-find-clause-fit : goal.returns-in-Some-find-clause-fit
returns-in-Some-find-clause-fit g c = λ shared fit.
    let store = c.args.self.now in
    grown_fit g.T.Tables.seen store shared c.give_up.new.self fit (fewer_grow store.sets c.give_up.new.self c.give_up.ensures.all c.give_up.ensures.labels c.give_up.ensures.fewer)
    (λ k i h. or_left (is_in store.sets k i) (is_noted c.give_up.new.self.stale_ids.items k i) (c.give_up.ensures.less k i h))
    (λ k i h. ap (λ ns. is_noted ns.items k i) c.give_up.ensures.stale_ids ∙ h)

pub returns-in-Some-find-clause-gone : goal.returns-in-Some-find-clause-gone
returns-in-Some-find-clause-gone g c =
    gone_named c.args.shared.now.names c.args.label.now c.args.key.now c.find.ensures.distinct c.in-Some.label c.in-Some-find.key (pairs_of c.give_up.new.self.indexes.items)
    (sym c.in-Some.ensures.found) (sym c.in-Some-find.ensures.found) c.give_up.ensures.gone

pub returns-in_default-clause-less : goal.returns-in_default-clause-less
returns-in_default-clause-less g c = none_less_label c.args.shared.now.names c.args.label.now c.args.key.now c.find.ensures.distinct (sym c.in_default.ensures.found) (pairs_of c.args.self.now.sets.indexes.items)

pub returns-in_default-find-clause-less : goal.returns-in_default-find-clause-less
returns-in_default-find-clause-less g c = none_less_key c.args.shared.now.names c.args.label.now c.args.key.now c.find.ensures.distinct (sym c.in_default-find.ensures.found) (pairs_of c.args.self.now.sets.indexes.items)

pub returns-in-Some-find-clause-less : goal.returns-in-Some-find-clause-less
returns-in-Some-find-clause-less g c =
    less_named c.args.shared.now.names c.args.label.now c.args.key.now c.find.ensures.distinct c.in-Some.label c.in-Some-find.key
    (sym c.in-Some.ensures.found) (sym c.in-Some-find.ensures.found) (pairs_of c.args.self.now.sets.indexes.items) (pairs_of c.give_up.new.self.indexes.items) c.give_up.ensures.pairs

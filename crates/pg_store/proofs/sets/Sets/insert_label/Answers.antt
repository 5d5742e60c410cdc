use Rattle.std.proofs.Common.{◌≡◌, true, refl, sym, subst}
use Rattle.std.specs.Result.{is_ok}
use Rattle.std.proofs.lemmas.Result.{on_ok_weaker}
use Rattle.pg_store.proofs.GainLemmas.{gains_none, gains_notes, label_gains}
use Rattle.pg_store.proofs.NoteLemmas.{equal_number, label_noted, pushed_stay}
use Rattle.pg_store.proofs.SetLemmas.{label_grows, label_there}
use Rattle.pg_store.proofs.sets.Sets.insert_label.Goals as goal
use Rattle.pg_store.specs.Covers.{has_in, with_label}

pub returns-clause-grown : goal.returns-clause-grown
returns-clause-grown c = label_grows c.args.self.now (record c.args.self.now { labels = c.insert_id.new.self; stale_ids = c.push.new.self }) c.args.id c.as_u64.result refl refl c.insert_id.result c.insert_id.ensures.ok c.insert_id.ensures.err

pub returns-clause-ok : goal.returns-clause-ok
returns-clause-ok c =
    on_ok_weaker c.insert_id.result (subst (λ k. has_in (record c.args.self.now { labels = c.insert_id.new.self; stale_ids = c.push.new.self }) (with_label k) c.args.id ≡ true) c.as_u64.ensures)
    (label_there c.args.self.now (record c.args.self.now { labels = c.insert_id.new.self; stale_ids = c.push.new.self }) c.args.id c.as_u64.result refl refl c.insert_id.result c.insert_id.ensures.ok)

pub returns-then-contains-clause-gains : goal.returns-then-contains-clause-gains
returns-then-contains-clause-gains c = gains_none c.args.self.now

pub returns-in_err-push-clause-gains : goal.returns-in_err-push-clause-gains
returns-in_err-push-clause-gains c =
    gains_notes c.args.self.now (record c.args.self.now { stale_ids = c.push.new.self }) (refl, refl, refl) (pushed_stay (is_ok c.push.result) c.args.self.now.stale_ids.items c.push.new.self.items _ c.push.ensures.items)

pub returns-clause-gains : goal.returns-clause-gains
returns-clause-gains c =
    let old = c.args.self.now in
    label_gains old (record old { labels = c.insert_id.new.self; stale_ids = c.push.new.self }) c.args.id (pushed_stay (is_ok c.push.result) old.stale_ids.items c.push.new.self.items _ c.push.ensures.items) refl c.as_u64.result refl
    c.insert_id.result c.insert_id.ensures.ok c.insert_id.ensures.err
    (label_noted old.stale_ids.items c.push.new.self.items c.args.label c.as_u64.result c.args.id c.in_ok-push.ensures.items (equal_number c.args.label c.as_u64.result (sym c.as_u64.ensures)))

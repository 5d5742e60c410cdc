use Rattle.std.proofs.Common.{◌≢◌, Result, Ok, Err, OnErr, IsSome, refl, sym, subst}
use Rattle.std.proofs.lemmas.Result.{on_ok_weaker}
use Rattle.indexmap.specs.IndexMap.{values}
use Rattle.std.specs.FinMap as map
use Rattle.pg_index.proofs.KeptLemmas.{inserted_has_some, kept_has_some, put_has_some, with_set}
use Rattle.pg_index.proofs.ValuedIdsLemmas.{one_equiv, same_set, with_new_set}
use Rattle.pg_index.proofs.valued_ids.ValuedIds.insert_id.Goals as goal
use Rattle.pg_index.specs.Kept.{NoneIsEmpty}

at_err : {V E P : Type 0} (r : Result V E) → P → OnErr r P
at_err (Ok v) p = tt
at_err (Err e) p = p

pub returns-in_err-insert-clause-err : goal.returns-in_err-insert-clause-err
returns-in_err-insert-clause-err c =
    let old = c.args.self.now.sets in
    let there = c.in-Some.ensures.value in
    at_err c.from_residual.result
    (same_set one_equiv old.entries (c.get_mut.follows.lender c.insert.new.self).entries c.args.value.now c.in-Some.ids.now c.insert.new.self there c.in_err-insert.ensures.err
    ((c.get_mut.follows.holds c.insert.new.self).3 (subst IsSome there refl)).0)

pub invariant_of-self : goal.invariant_of-self
invariant_of-self c =
    let old = c.args.self.now in
    let ids = c.in-Some.ids.now in
    record {
      none_is_empty = with_set _ old.sets.entries _ c.insert.new.self (c.get_mut.follows.holds c.insert.new.self).0 old.none_is_empty
          (put_has_some c.insert.result ids c.insert.new.self c.args.id c.insert.ensures.ok c.insert.ensures.err (kept_has_some _ ids old.none_is_empty c.in-Some.ensures.member));
    }

pub invariant_of-self-2 : goal.invariant_of-self-2
invariant_of-self-2 c =
    let was = c.get_mut.follows.lender-at-none in
    let put = c.insert-3.ensures in
    let kept = subst (λ m. NoneIsEmpty (values m)) (sym c.get_mut.follows.holds-at-none) c.args.self.now.none_is_empty in
    let some = subst (λ ids. ids ≢ map.empty) (sym c.in_ok-insert-2.ensures.ok) (inserted_has_some c.new-ids.result c.args.id) in
    record {
      none_is_empty = with_new_set one_equiv c.insert-3.result was.entries c.insert-3.new.self.entries c.in_ok-value.value c.insert-2.new.self (on_ok_weaker c.insert-3.result (λ u. u.0) put.updates) put.err put.unique kept some;
    }

use Rattle.std.proofs.Common.{◌≢◌, sym, subst}
use Rattle.std.specs.BTreeMap.{values}
use Rattle.std.specs.FinMap as map
use Rattle.pg_index.proofs.KeptLemmas.{inserted_has_some, kept_has_some, put_has_some, with_new_set, with_set}
use Rattle.pg_index.specs.Kept.{NoneIsEmpty}
use Rattle.pg_index.proofs.index.Index.insert_id.Goals as goal

pub invariant_of-self : goal.invariant_of-self
invariant_of-self g c =
    let old = c.args.self.now in
    let ids = c.in-Some.ids.now in
    record {
      none_is_empty = with_set _ old.sets.entries _ c.insert.new.self (c.get_mut.follows.holds c.insert.new.self).0 old.none_is_empty
          (put_has_some c.insert.result ids c.insert.new.self c.args.id c.insert.ensures.ok c.insert.ensures.err (kept_has_some _ ids old.none_is_empty c.in-Some.ensures.member));
    }

pub invariant_of-self-2 : goal.invariant_of-self-2
invariant_of-self-2 g c =
    let was = c.get_mut.follows.lender-at-none in
    let kept = subst (λ m. NoneIsEmpty (values m)) (sym c.get_mut.follows.holds-at-none) c.args.self.now.none_is_empty in
    let some = subst (λ ids. ids ≢ map.empty) (sym c.in_ok-insert-2.ensures.ok) (inserted_has_some c.new-ids.result c.args.id) in
    record { none_is_empty = with_new_set _ c.args.key c.insert-3.result was.entries c.insert-3.new.self.entries c.insert-2.new.self c.insert-3.ensures.entries c.insert-3.ensures.err kept some }

use Rattle.std.proofs.Common.{◌≡◌, ◌<◌, ◌≤◌, Bool, true, false, length, take, take_all, get_or, add-one, arith, refl, sym, ap, subst, ◌∙◌}
use Rattle.std.proofs.Math.ListN.{set}
use Rattle.pg_index.proofs.PropertyLemmas.{Loses, all_after, is_leaving, leaving_is, none_so_far, set_pairs_of, some_after, some_before, some_left}
use Rattle.pg_index.proofs.properties.remove_valued.Goals as goal
use Rattle.pg_index.specs.Properties.{some_finds}

must_be : {x : Bool} (b : Bool) → (b ≡ false → x ≡ true) → x ≡ false → b ≡ true
must_be true stays gone = refl
must_be false stays gone = let there = stays refl in absurd (cc (there, gone))

pub loop-property-preserved : goal.loop-property-preserved
loop-property-preserved c =
    let y = c.remove_of.new.self in
    let d = c.property-item.result in
    let xs = c.loop-property.indexes in
    let at = c.loop-property.property-index in
    let label = c.args.label in
    let key = c.args.key in
    let value = c.args.value.now in
    let id = c.args.id in
    let was = c.loop-property.invariant in
    let loses : Loses (get_or xs at d) y label key value id = record { label = c.remove_of.ensures.label; key = c.remove_of.ensures.key; left = c.remove_of.ensures.left } in
    let within : at < length xs = omega (arith, c.loop-property-test.true, c.loop-property.auto.indexes) in
    record {
      pairs = set_pairs_of xs at y d loses.label loses.key ∙ was.pairs;
      fewer = λ l k v i h. was.fewer l k v i (some_before label key value id l k v i xs at y d loses h);
      others = λ l k v i other h. some_after label key value id l k v i xs at y d loses other (was.others l k v i other h);
      stay = λ l k v i other h. all_after label key value id l k v i xs at y d loses other (was.stay l k v i other h);
      gone = λ l k v i same.
          subst (λ n. some_finds (take n (set xs at y)) l k v i ≡ false) (sym (add-one at))
          (none_so_far label key value id l k v i xs at y d within loses same (was.gone l k v i same));
    }

pub returns-clause-lost : goal.returns-clause-lost
returns-clause-lost c = λ l k v i was now.
    leaving_is c.args.label c.args.key c.args.value.now c.args.id l k v i
    (must_be (is_leaving c.args.label c.args.key c.args.value.now c.args.id l k v i) (λ is. c.loop-property.invariant.stay l k v i is was) now)

pub returns-clause-left : goal.returns-clause-left
returns-clause-left c = λ l k v i.
    let was = c.loop-property.invariant in
    let xs = c.loop-property.indexes in
    let at = c.loop-property.property-index in
    let end : length xs ≤ at = omega (arith, c.loop-property-test.false, c.loop-property.auto.indexes) in
    some_left c.args.label c.args.key c.args.value.now c.args.id l k v i (some_finds xs l k v i) (some_finds c.args.indexes.now l k v i) (was.fewer l k v i) (was.others l k v i)
    (λ same. ap (λ ys. some_finds ys l k v i) (sym (take_all at xs end)) ∙ was.gone l k v i same)

use Rattle.std.proofs.Common.{◌≡◌, ◌<◌, ◌++◌, ◌∷◌, [], ℕ, Bool, true, not, List, Option, None, Some, is_some, Bor, Vec, Global, refl, sym, ap, subst, ◌∙◌}
use Rattle.std.specs.FinMap as map
use Rattle.std.specs.List.{AllByRecursion}
use Rattle.std.specs.Option.{option_map}
use Rattle.pg_graph.proofs.Merging.{all_at}
use Rattle.pg_graph.specs.Records.{AreKeys}
use Rattle.pg_store.proofs.places.absent_keys.Goals as goal
use Rattle.pg_value_core.specs.View.{view}
use Rattle.pg_value_core.specs.declared.value.Value.{Value}
use Rattle.pg_store.proofs.places.absent_keys.Goals.{then-is_above+then-is_none+in_ok-push, else-is_above}

all_with : (P : ℕ → Type 0) (xs : List ℕ) (x : ℕ) → AllByRecursion P xs → P x → AllByRecursion P (xs ++ x ∷ [])
all_with P [] x all h = (h, tt)
all_with P (y ∷ ys) x all h = (all.0, all_with P ys x all.1 h)

rise_with : (xs : List ℕ) (x : ℕ) → AreKeys xs → AllByRecursion (λ k. k < x) xs → AreKeys (xs ++ x ∷ [])
rise_with [] x rises all = (tt, tt)
rise_with (y ∷ ys) x rises all = (all_with (λ k. y < k) ys x rises.0 all.0, rise_with ys x rises.1 all.1)

no_value : (o : Option (Bor Value)) (b : Bool) → is_some o ≡ not b → b ≡ true → option_map (λ v. view v.now) o ≡ None
no_value None b h t = refl
no_value (Some v) b h t = absurd (cc)

pub loop-key-preserved : goal.loop-key-preserved
loop-key-preserved c =
    let l = c.loop-key in
    let was = l.invariant in
    let key = c.key-item.result in
    let xs = l.absent.items in
    elim c.if-is_above.branch [
      | then-is_above+then-is_none+in_ok-push w ↦
          let items = ap (λ (v : Vec ℕ Global). v.items) w.absent-is ∙ w.in_ok-push.ensures.items in
          let above = subst (AllByRecursion (λ k. k < key)) c.as_slice.ensures.value (c.is_above.ensures w.if-is_above.true) in
          let none = sym w.get.ensures ∙ no_value w.get.result w.is_none.result w.is_none.ensures w.if-is_none.true in
          record {
            rising = subst AreKeys (sym items) (rise_with xs key was.rising above);
            absent = subst (AllByRecursion (λ k. map.get c.args.properties.now k ≡ None)) (sym items) (all_with (λ k. map.get c.args.properties.now k ≡ None) xs key was.absent none);
            bounded = λ bound all. subst (AllByRecursion (λ k. k < bound)) (sym items) (all_with (λ k. k < bound) xs key (was.bounded bound all)
                (subst (λ (k : ℕ). k < bound) (sym c.key-item.is) (all_at (λ k. k) (λ k. k < bound) c.args.keys.now l.key-index key all c.loop-key-test.true)));
          }
      | else-is_above w ↦ record {
        rising = subst (λ (v : Vec ℕ Global). AreKeys v.items) (sym w.absent-is) was.rising;
        absent = subst (λ (v : Vec ℕ Global). AllByRecursion (λ key. map.get c.args.properties.now key ≡ None) v.items) (sym w.absent-is) was.absent;
        bounded = λ bound all. subst (λ (v : Vec ℕ Global). AllByRecursion (λ key. key < bound) v.items) (sym w.absent-is) (was.bounded bound all);
      }
    ]

use Rattle.std.proofs.Common.{◌≡◌, ◌≤◌, ℕ, ◌+◌, List, ◌++◌, ◌∷◌, [], take, drop, replicate, take-append-drop, slice_set, refl, sym, ap, ◌∙◌, arith}
use Rattle.std.proofs.Math.ListN.{length-set}
use Rattle.std.proofs.lemmas.List.{append-nil}
use Rattle.pg_value_core.specs.declared.value.Value.TheVariants.{Null}
use Rattle.pg_rows.proofs.Moved.{got_is, set_is, moved_more}
use Rattle.pg_rows.proofs.moves.move_row.Goals as goal

parted : {X : Type 0} (s : ℕ) (xs : List X) → xs ≡ take s xs ++ drop (s + 0) xs
parted s xs = let e : s ≡ s + 0 = omega arith in sym (take-append-drop s xs) ∙ ap (λ n. take s xs ++ drop n xs) e

level : (a b : ℕ) → a ≤ b → b ≤ a → a ≡ b
level a b h k = omega arith

pub loop-offset-preserved : goal.loop-offset-preserved
loop-offset-preserved c =
    let old = c.args.values.now.items in
    let vs = c.loop-offset.values.items in
    let s : ℕ = c.args.start in
    let o : ℕ = c.loop-offset.offset in
    let d = c.index_mut.result.now in
    let got = got_is old vs s o Null (omega arith) c.loop-offset.invariant.1 d in (
      c.in_ok-push_item.ensures.ok
          ∙ ap (λ ms. ms ++ c.replace-value.result ∷ []) c.loop-offset.invariant.0
          ∙ moved_more old c.args.moved.now.items s o c.replace-value.result d (omega arith) (c.replace-value.ensures.value ∙ c.index_mut.ensures.value ∙ got),
      ap (slice_set vs (s + o)) c.replace-value.ensures.after ∙ set_is old vs s o Null (omega arith) c.loop-offset.invariant.1 d,
      length-set vs (s + o) c.replace-value.new.dest ∙ c.loop-offset.invariant.2,
    )

pub loop-offset-init : goal.loop-offset-init
loop-offset-init c = (sym (append-nil c.args.moved.now.items), parted c.args.start c.args.values.now.items, refl)

pub returns-in_err-push_item-clause-len : goal.returns-in_err-push_item-clause-len
returns-in_err-push_item-clause-len c = length-set c.loop-offset.values.items (c.args.start + c.loop-offset.offset) c.replace-value.new.dest ∙ c.loop-offset.invariant.2

pub returns-clause-moved : goal.returns-clause-moved
returns-clause-moved c =
    let l = c.loop-offset in
    l.invariant.0 ∙ ap (λ n. c.args.moved.now.items ++ take n (drop c.args.start c.args.values.now.items)) (level l.offset c.args.width l.auto.offset-end c.loop-offset-test.false)

pub returns-clause-left : goal.returns-clause-left
returns-clause-left c =
    let l = c.loop-offset in
    let old = c.args.values.now.items in
    l.invariant.1 ∙ ap (λ n. take c.args.start old ++ (replicate n Null ++ drop (c.args.start + n) old)) (level l.offset c.args.width l.auto.offset-end c.loop-offset-test.false)

pub returns-clause-len : goal.returns-clause-len
returns-clause-len c = c.loop-offset.invariant.2

use Rattle.std.proofs.Common.{◌≡◌, ◌+◌, ℕ, List, false, drop, sym, ap, subst, ◌∙◌}
use Rattle.std.proofs.lemmas.List.{at_drop_more, at_drop_all}
use Rattle.std.specs.Prelude.{OnOk}
use Rattle.pg_tree_equality.specs.Codes.{with_flags}
use Rattle.pg_tree_equality.proofs.codes.add_flags.Goals as goal

pub loop-flag-preserved : goal.loop-flag-preserved
loop-flag-preserved c =
    let l = c.loop-flag in
    let xs = c.deref-flag-items.result.now in
    let same = c.deref-flag-items.ensures.value in
    ap (λ ys. with_flags (drop (l.flag-index + 1) ys) c.add_flag.new.code.items) (sym same)
    ∙ ap (with_flags (drop (l.flag-index + 1) xs)) c.in_ok-add_flag.ensures
    ∙ sym (at_drop_more (λ ys. with_flags ys l.code.items) xs l.flag-index false c.loop-flag-test.true)
    ∙ ap (λ ys. with_flags (drop l.flag-index ys) l.code.items) same
    ∙ l.invariant

pub returns : goal.returns
returns c =
    let l = c.loop-flag in
    let last = c.add_byte in
    let done = sym (at_drop_all (λ ys. with_flags ys l.code.items) c.deref-flag-items.result.now l.flag-index c.loop-flag-test.false)
    ∙ ap (λ ys. with_flags (drop l.flag-index ys) l.code.items) c.deref-flag-items.ensures.value ∙ l.invariant in
    subst (λ (code : List ℕ). OnOk last.result (last.new.code.items ≡ code)) done last.ensures

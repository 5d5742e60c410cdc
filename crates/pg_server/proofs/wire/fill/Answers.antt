use Rattle.std.proofs.Common.{◌+◌, ◌-◌, ◌++◌, rules, arith, length, take, sym, ap, ◌∙◌, subst, le_refl}
use Rattle.std.proofs.lemmas.Slice.{take-put_mid_below}
use Rattle.std.specs.Io.KnownBytes.{Consumes}
use Rattle.std.proofs.KnownBytes.{Consumes-trans}
use borrow.Rule.Slice.PartMut.{put_mid}
use Rattle.pg_server.proofs.FillLemmas.{take_split, slice_range-put_mid}
use Rattle.pg_server.proofs.wire.fill.Goals as goal

pub loop-at-preserved : goal.loop-at-preserved
loop-at-preserved g c =
    let from = c.loop-at.at in
    let old = c.loop-at.buf in
    let room = length old - from in
    let kept = c.loop-at.invariant in
    let part = slice_range-put_mid from room c.in-Ok.n old c.read.new.buf kept.within c.in-Ok.ensures.bound.0 in
    let joined = take_split from (from + c.in-Ok.n) old (put_mid from room old c.read.new.buf) (omega arith) (take-put_mid_below _ _ _ _ _ (le_refl _) kept.within) in
    record {
      length_kept = search rules;
      within = search rules;
      read = subst (Consumes _ _) (ap (λ l. take from old ++ l) (sym part) ∙ joined) (Consumes-trans _ _ _ _ _ kept.read c.in-Ok.ensures.bytes.0);
      bytes = λ i. omega (arith, c.type_inv.buf i);
      count_kept = c.in-Ok.ensures.ok ∙ kept.count_kept;
    }

use Rattle.std.proofs.Common.{◌≡◌, ◌+◌, ◌++◌, ◌∷◌, [], drop, ap, ◌∙◌, arith}
use Rattle.pg_rows.specs.Tables.{table, first_places}
use Rattle.pg_rows.proofs.Occurrences.{seen_of, new_row, seen_row, fresh, known, ended}
use Rattle.pg_rows.proofs.firsts.unseen.Goals.{then-is_new+in_ok-push, else-is_new}
use Rattle.pg_rows.proofs.firsts.unseen.Goals as goal

pub loop-at-preserved : goal.loop-at-preserved
loop-at-preserved c = elim c.if-is_new.branch [
  | then-is_new+in_ok-push w ↦
      let rs = table c.args.rows.now in
      let at = c.loop-at.at in
      let p : c.if-is_new.places.items ≡ c.loop-at.places.items ++ at ∷ [] = ap (λ v. v.items) w.places-is ∙ w.in_ok-push.ensures.items in
      (λ i. p i ++ first_places (seen_of (c.in_ok-is_new.ensures.keys i)) (at + 1) (drop (at + 1) rs))
      ∙ new_row rs at c.loop-at.places.items c.row.result c.loop-at.seen.keys c.row.ensures (fresh _ _ c.in_ok-is_new.ensures.added w.if-is_new.true)
      ∙ c.loop-at.invariant
  | else-is_new w ↦
      let rs = table c.args.rows.now in
      let at = c.loop-at.at in
      (λ i. (w.places-is i).items ++ first_places (seen_of (c.in_ok-is_new.ensures.keys i)) (at + 1) (drop (at + 1) rs))
      ∙ seen_row rs at c.loop-at.places.items c.row.result c.loop-at.seen.keys c.row.ensures (known _ _ c.in_ok-is_new.ensures.added w.if-is_new.false)
      ∙ c.loop-at.invariant
]

pub returns : goal.returns
returns c = ended (table c.args.rows.now) c.loop-at.at c.loop-at.places.items (seen_of c.loop-at.seen.keys) (omega (arith, c.len-at-end.ensures, c.loop-at.auto.at-end)) ∙ c.loop-at.invariant

use Rattle.std.proofs.Common.{◌≡◌, [], length, sym, subst, arith}
use Rattle.std.proofs.lemmas.Result.{IfOk-weaker}
use Rattle.std.specs.Result.{IfOk}
use Rattle.pg_rows.specs.Tables.{table, first_places, EachBelow}
use Rattle.pg_rows.proofs.Occurrences.{seen_of}
use Rattle.pg_rows.proofs.Places.{firsts_below}
use Rattle.pg_rows.proofs.firsts.distinct.Goals as goal

pub returns-clause-places : goal.returns-clause-places
returns-clause-places c =
    subst (λ ks. IfOk c.unseen.result (λ places. places.items ≡ first_places (seen_of ks) 0 (table c.args.rows.now))) c.with_hasher-seen.ensures.empty c.unseen.ensures

pub returns-clause-below : goal.returns-clause-below
returns-clause-below c =
    let rs = table c.args.rows.now in
    IfOk-weaker c.unseen.result _ _ (λ places e. subst (EachBelow (length rs)) (sym e) (firsts_below (length rs) [] rs 0 (omega arith))) (returns-clause-places c)

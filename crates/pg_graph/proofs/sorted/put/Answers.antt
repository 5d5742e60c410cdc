use Rattle.std.proofs.Common.{slice_set, length, Result, Ok, Err, OnOk, OnErr, rules, sym, ap, subst, ◌∙◌}
use Rattle.std.proofs.lemmas.List.{length-set}
use Rattle.std.specs.List.{refill}
use Rattle.std.specs.Result.{IsErr}
use Rattle.pg_graph.specs.Sorted.{IsPlace, Rises}
use Rattle.pg_graph.proofs.SortedLists.{refilled, put_found, put_missing, put_rises}
use Rattle.pg_graph.proofs.sorted.put.Goals as goal

always_on_fault : {A E P : Type 0} (r : Result A E) → P → OnErr r P
always_on_fault (Ok a) h = tt
always_on_fault (Err e) h = h

fault_alone : {A E : Type 0} (P : Type 0) (r : Result A E) → IsErr r → OnOk r P
fault_alone P (Ok a) h = absurd cc
fault_alone P (Err e) h = tt

pub returns-in-Ok-clause-ok : goal.returns-in-Ok-clause-ok
returns-in-Ok-clause-ok g c =
    let items = c.args.items.now.items in
    let number = g.T.Numbered.number in
    let at : IsPlace number (number c.args.item) items (Ok c.in-Ok.i) =
    subst (λ k. IsPlace number k items (Ok c.in-Ok.i)) c.number.ensures (subst (λ xs. IsPlace number c.number.result xs (Ok c.in-Ok.i)) c.as_slice.ensures c.in-Ok.ensures) in
    ap (λ xs. refill (length items) items (slice_set xs c.in-Ok.i c.args.item)) c.as_mut_slice.ensures.value
    ∙ refilled items _ (length-set items c.in-Ok.i c.args.item)
    ∙ sym (put_found number c.args.item items c.in-Ok.i c.requires at.0 at.1)

pub returns-in-Ok-clause-rises : goal.returns-in-Ok-clause-rises
returns-in-Ok-clause-rises g c = subst (Rises g.T.Numbered.number) (sym (returns-in-Ok-clause-ok g c)) (put_rises g.T.Numbered.number c.args.item c.args.items.now.items c.requires)

pub returns-in_ok-insert-in-Err-clause-ok : goal.returns-in_ok-insert-in-Err-clause-ok
returns-in_ok-insert-in-Err-clause-ok g c =
    let items = c.args.items.now.items in
    let number = g.T.Numbered.number in
    let at : IsPlace number (number c.args.item) items (Err c.in-Err.i) =
    subst (λ k. IsPlace number k items (Err c.in-Err.i)) c.number.ensures (subst (λ xs. IsPlace number c.number.result xs (Err c.in-Err.i)) c.as_slice.ensures c.in-Err.ensures) in
    c.in_ok-insert-in-Err.ensures.ok ∙ sym (put_missing number c.args.item items c.in-Err.i at.0 at.1)

pub returns-in_ok-insert-in-Err-clause-rises : goal.returns-in_ok-insert-in-Err-clause-rises
returns-in_ok-insert-in-Err-clause-rises g c = subst (Rises g.T.Numbered.number) (sym (returns-in_ok-insert-in-Err-clause-ok g c)) (put_rises g.T.Numbered.number c.args.item c.args.items.now.items c.requires)

pub place-requires : goal.place-requires
place-requires g c = subst (Rises g.T.Numbered.number) (sym c.as_slice.ensures) c.requires

pub returns-in-Ok-clause-err : goal.returns-in-Ok-clause-err
returns-in-Ok-clause-err g c = tt

pub returns-in_ok-insert-in-Err-clause-err : goal.returns-in_ok-insert-in-Err-clause-err
returns-in_ok-insert-in-Err-clause-err g c = tt

pub bounds-as_mut_slice-i : goal.bounds-as_mut_slice-i
bounds-as_mut_slice-i g c = (subst (λ xs. IsPlace g.T.Numbered.number c.number.result xs (Ok c.in-Ok.i)) (c.as_slice.ensures ∙ sym c.as_mut_slice.ensures.value) c.in-Ok.ensures).0

pub returns-in_err-insert-in-Err-clause-ok : goal.returns-in_err-insert-in-Err-clause-ok
returns-in_err-insert-in-Err-clause-ok g c = fault_alone _ c.from_residual.result c.from_residual.ensures.0

pub returns-in_err-insert-in-Err-clause-err : goal.returns-in_err-insert-in-Err-clause-err
returns-in_err-insert-in-Err-clause-err g c = always_on_fault c.from_residual.result (ap (λ v. v.items) c.in_err-insert-in-Err.ensures.err)

pub returns-in_err-insert-in-Err-clause-rises : goal.returns-in_err-insert-in-Err-clause-rises
returns-in_err-insert-in-Err-clause-rises g c = subst (λ v. Rises g.T.Numbered.number v.items) (sym c.in_err-insert-in-Err.ensures.err) c.requires

pub insert-requires : goal.insert-requires
insert-requires g c = (search rules, (subst (λ xs. IsPlace g.T.Numbered.number c.number.result xs (Err c.in-Err.i)) c.as_slice.ensures c.in-Err.ensures).0)

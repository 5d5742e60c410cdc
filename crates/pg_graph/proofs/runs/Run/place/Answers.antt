use Rattle.std.proofs.Common.{◌≡◌, ◌-◌, Some, Err, length, slice_get, sym, ap, subst, ◌∙◌}
use Rattle.pg_graph.specs.Sorted.{IsPlace}
use Rattle.pg_graph.proofs.RunLists.{last_there, past_last}
use Rattle.pg_graph.proofs.runs.Run.place.Goals as goal

pub returns-in-Some : goal.returns-in-Some
returns-in-Some c =
    let xs = c.args.self.now in
    let last = c.in-Some.last.now in
    let is : c.deref.result.now ≡ xs = c.deref.ensures.value ∙ c.self.view_is in
    let there = last_there xs last (subst (λ ys. slice_get ys (length ys - 1) ≡ Some last) is (sym c.in-Some.ensures.value)) in
    subst (λ n. IsPlace (λ n. n) c.args.id xs (Err n)) (sym (c.len.ensures ∙ sym c.deref.ensures.len ∙ ap length is))
    (past_last xs last c.args.id c.requires there.0 there.1 c.if-last-id.true)

use Rattle.std.proofs.Common.{◌≡◌, ◌≢◌, ◌+◌, ◌*◌, ◌-◌, ◌≤◌, ℕ, Err, length, take, drop, rules, arith, sym, ap, subst, ◌∙◌}
use Rattle.std.proofs.lemmas.Result.{IfErr-weaker, on_ok_weaker}
use Rattle.pg_expr.specs.Contexts.{given}
use Rattle.pg_meaning.specs.declared.fault.Fault.TheVariants.{OutOfMemory}
use Rattle.pg_project.proofs.InPart.{in_part, part_refused}
use Rattle.pg_project.specs.Kept.{all_taken_in}
use Rattle.pg_project.specs.KeptGroups.{taken_in_at}
use Rattle.pg_project.specs.ReadyItems.{aggregates_view}
use Rattle.pg_project.specs.Views.{takens_view}
use Rattle.pg_project.proofs.taking.take_in_group.Goals as goal

pub overflow_mul-start : goal.overflow_mul-start
overflow_mul-start g c =
    let fits : c.args.number * c.len-each.result + c.len-each.result ≤ length c.args.taken.now.items = subst (λ n. c.args.number * n + n ≤ length c.args.taken.now.items) (sym (c.len-each.ensures ∙ c.args.aggregates.now.ok.0)) c.requires in
    search rules

pub offset_bounds-deref_mut-start : goal.offset_bounds-deref_mut-start
offset_bounds-deref_mut-start g c =
    let fits : c.args.number * c.len-each.result + c.len-each.result ≤ length c.args.taken.now.items = subst (λ n. c.args.number * n + n ≤ length c.args.taken.now.items) (sym (c.len-each.ensures ∙ c.args.aggregates.now.ok.0)) c.requires in
    search rules

pub slice_bounds-take_in_all-end : goal.slice_bounds-take_in_all-end
slice_bounds-take_in_all-end g c =
    let fits : c.args.number * c.len-each.result + c.len-each.result ≤ length c.args.taken.now.items = subst (λ n. c.args.number * n + n ≤ length c.args.taken.now.items) (sym (c.len-each.ensures ∙ c.args.aggregates.now.ok.0)) c.requires in
    search rules

pub returns : goal.returns
returns g c =
    let at = given c.args.context.now c.args.graph.now in
    let items = c.args.aggregates.now.items in
    let aggregates = aggregates_view c.args.context.now.names.now items in
    let old = c.args.taken.now.items in
    let each = c.len-each.result in
    let long : each ≡ length items = c.len-each.ensures ∙ c.args.aggregates.now.ok.0 in
    let start = c.args.number * each in
    let n : ℕ = start + each - start in
    let wide : n ≡ each = omega arith in
    let mid = take n (drop start c.deref_mut.result.now) in
    let is : mid ≡ take n (drop start old) = ap (λ ts. take n (drop start ts)) c.deref_mut.ensures.value in
    let same = c.deref_mut.ensures.value in
    let counted = c.args.taken.now.ok.0 in
    let held : start + each ≤ length old = subst (λ k. c.args.number * k + k ≤ length old) (sym long) c.requires in
    let fits : start + n ≤ length old = subst (λ k. start + k ≤ length old) (sym wide) held in
    let here : start ≡ c.args.number * length items = ap (λ k. c.args.number * k) long in
    let result = c.take_in_all.result in
    record {
      ok = on_ok_weaker result (λ h. in_part at aggregates (length items) (c.args.number * length items) n start c.args.taken.now.len old c.deref_mut.result.now mid (wide ∙ long) here same is counted fits c.take_in_all.new.taken h) c.take_in_all.ensures.ok;
      err = IfErr-weaker result (λ f. f ≢ OutOfMemory → all_taken_in at aggregates (takens_view mid) ≡ Err f) (λ f. f ≢ OutOfMemory → taken_in_at at aggregates (length items) (c.args.number * length items) (takens_view old) ≡ Err f)
          (λ f h other. part_refused at aggregates (length items) (c.args.number * length items) n start c.args.taken.now.len old c.deref_mut.result.now mid (wide ∙ long) here same is counted fits f (h other)) c.take_in_all.ensures.err;
    }

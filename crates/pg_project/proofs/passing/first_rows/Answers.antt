use Rattle.std.proofs.Common.{◌≡◌, ◌-◌, ◌<◌, ◌≤◌, ◌∷◌, [], ◌++◌, drop, map, take, Ok, Err, true, false, sym, ap, subst, ◌∙◌, arith}
use Rattle.std.proofs.lemmas.List.{take-map}
use Rattle.std.proofs.lemmas.Result.{IfOk-from_err}
use Rattle.pg_expr.specs.Prepared.{condition_of, names_of, parameters_of}
use Rattle.pg_meaning.specs.Conditions.{condition}
use Rattle.pg_meaning.specs.declared.fault.Fault.{Fault}
use Rattle.pg_project.proofs.Conditions.{one_passes, one_stays_out, one_ends, no_more, no_rows}
use Rattle.pg_expr.proofs.ExitLemmas.{fault_passed}
use Rattle.pg_project.proofs.ExitLemmas.{memory_passed}
use Rattle.pg_project.proofs.InTurn.{after, none_before}
use Rattle.pg_project.proofs.WideRows.{some_left}
use Rattle.pg_project.specs.Given.{passing_given}
use Rattle.pg_rows.specs.Left.{first_row, rows_left}
use Rattle.pg_rows.specs.Named.{row_of}
use Rattle.pg_rows.specs.Tables.{table}
use Rattle.pg_value_core.specs.View.{view}
use Rattle.pg_project.proofs.passing.first_rows.Goals as goal

pub returns-in_err-condition-clause-err : goal.returns-in_err-condition-clause-err
returns-in_err-condition-clause-err g c =
    let l = c.loop-more in
    let ps = parameters_of c.args.wanted.now in
    let graph = c.args.graph.now in
    let names = names_of c.args.wanted.now in
    let wanted = condition_of c.args.wanted.now in
    let whole = passing_given ps graph names wanted c.args.width (take c.args.most (rows_left c.args.left)) in
    let row = map view c.in-Some.row.now in
    let next : rows_left l.left ≡ row ∷ drop 1 (rows_left l.left) = c.in-Some.ensures.row in
    let more : 0 < l.more = omega arith in
    let refused : (e : Fault) → condition wanted (row_of names row) ps graph ≡ Err e → whole ≡ Err e =
    λ e h. one_ends ps graph names wanted c.args.width whole (table l.found) l.more (rows_left l.left) (drop 1 (rows_left l.left)) row e more next h l.invariant.0 in
    fault_passed whole c.in_err-condition.field-0.0 c.from_residual.result c.from_residual.ensures.1 (λ other. refused c.in_err-condition.field-0.0 (c.in_err-condition.ensures.err other))

pub next_into-requires : goal.next_into-requires
next_into-requires g c = let left = rows_left c.loop-more.left in some_left left (drop 1 left) (map view c.in-Some.row.now) c.in-Some.ensures.row

pub loop-more-preserved-in-Continue-branch-3 : goal.loop-more-preserved-in-Continue-branch-3
loop-more-preserved-in-Continue-branch-3 g c =
    let l = c.loop-more in
    let ps = parameters_of c.args.wanted.now in
    let graph = c.args.graph.now in
    let names = names_of c.args.wanted.now in
    let wanted = condition_of c.args.wanted.now in
    let width = c.args.width in
    let whole = passing_given ps graph names wanted width (take c.args.most (rows_left c.args.left)) in
    let row = map view c.in-Some.row.now in
    let next : rows_left l.left ≡ row ∷ drop 1 (rows_left l.left) = c.in-Some.ensures.row in
    let more : 0 < l.more = omega arith in
    let passes : condition wanted (row_of names row) ps graph ≡ Ok true = c.in_ok-condition.ensures.ok ∙ ap Ok c.if-branch.true in
    let first : map view c.truncate.new.self.items ≡ take width row =
    ap (map view) c.truncate.ensures.items
    ∙ sym (take-map view width c.next_into.new.values.items)
    ∙ ap (take width) (c.in_ok-next_into.ensures.values ∙ ap (λ vs. map view vs ++ first_row (rows_left l.left)) l.invariant.3 ∙ ap first_row next) in
    let pushed : table c.push_from.new.self ≡ table l.found ++ take width row ∷ [] = c.in_ok-push_from.ensures.rows ∙ ap (λ r. table l.found ++ r ∷ []) first in (
      one_passes ps graph names wanted width whole (table l.found) l.more (rows_left l.left) (drop 1 (rows_left l.left)) row more next passes l.invariant.0
          ∙ ap (λ d. after d (passing_given ps graph names wanted width (take (l.more - 1) (drop 1 (rows_left l.left))))) (sym pushed)
          ∙ ap (λ rs. after (table c.push_from.new.self) (passing_given ps graph names wanted width (take (l.more - 1) rs))) (sym c.in_ok-next_into.ensures.rows),
      c.in_ok-push_from.ensures.width ∙ l.invariant.1,
      subst (λ n. width ≤ n) (sym c.in_ok-next_into.ensures.width) l.invariant.2,
      c.in_ok-push_from.ensures.emptied,
    )

pub loop-more-preserved : goal.loop-more-preserved
loop-more-preserved g c =
    let l = c.loop-more in
    let ps = parameters_of c.args.wanted.now in
    let graph = c.args.graph.now in
    let names = names_of c.args.wanted.now in
    let wanted = condition_of c.args.wanted.now in
    let width = c.args.width in
    let whole = passing_given ps graph names wanted width (take c.args.most (rows_left c.args.left)) in
    let row = map view c.in-Some.row.now in
    let next : rows_left l.left ≡ row ∷ drop 1 (rows_left l.left) = c.in-Some.ensures.row in
    let more : 0 < l.more = omega arith in
    let fails : condition wanted (row_of names row) ps graph ≡ Ok false = c.in_ok-condition.ensures.ok ∙ ap Ok c.if-branch.false in (
      one_stays_out ps graph names wanted width whole (table l.found) l.more (rows_left l.left) (drop 1 (rows_left l.left)) row more next fails l.invariant.0
          ∙ ap (λ rs. after (table l.found) (passing_given ps graph names wanted width (take (l.more - 1) rs))) (sym c.skip.ensures.rows),
      l.invariant.1,
      subst (λ n. width ≤ n) (sym c.skip.ensures.width) l.invariant.2,
      l.invariant.3,
    )

pub returns-clause-ok : goal.returns-clause-ok
returns-clause-ok g c =
    let l = c.loop-more in
    let ps = parameters_of c.args.wanted.now in
    let names = names_of c.args.wanted.now in
    let wanted = condition_of c.args.wanted.now in
    let whole = passing_given ps c.args.graph.now names wanted c.args.width (take c.args.most (rows_left c.args.left)) in
    no_more ps c.args.graph.now names wanted c.args.width whole (table l.found) l.more (rows_left l.left) (omega arith) l.invariant.0

pub returns-in_err-condition-clause-ok : goal.returns-in_err-condition-clause-ok
returns-in_err-condition-clause-ok g c = IfOk-from_err c.from_residual.result _ c.from_residual.ensures.0

pub returns-in_err-condition-clause-width : goal.returns-in_err-condition-clause-width
returns-in_err-condition-clause-width g c = IfOk-from_err c.from_residual.result _ c.from_residual.ensures.0

pub returns-in_err-next_into-clause-ok : goal.returns-in_err-next_into-clause-ok
returns-in_err-next_into-clause-ok g c = IfOk-from_err c.from_residual-in_err-next_into.result _ c.from_residual-in_err-next_into.ensures.0

pub returns-in_err-next_into-clause-width : goal.returns-in_err-next_into-clause-width
returns-in_err-next_into-clause-width g c = IfOk-from_err c.from_residual-in_err-next_into.result _ c.from_residual-in_err-next_into.ensures.0

pub returns-in_err-next_into-clause-err : goal.returns-in_err-next_into-clause-err
returns-in_err-next_into-clause-err g c = memory_passed _ c.from_residual-in_err-next_into.result c.from_residual-in_err-next_into.ensures.1

pub returns-in_err-push_from-clause-ok : goal.returns-in_err-push_from-clause-ok
returns-in_err-push_from-clause-ok g c = IfOk-from_err c.from_residual-in_err-push_from.result _ c.from_residual-in_err-push_from.ensures.0

pub returns-in_err-push_from-clause-width : goal.returns-in_err-push_from-clause-width
returns-in_err-push_from-clause-width g c = IfOk-from_err c.from_residual-in_err-push_from.result _ c.from_residual-in_err-push_from.ensures.0

pub returns-in_err-push_from-clause-err : goal.returns-in_err-push_from-clause-err
returns-in_err-push_from-clause-err g c = memory_passed _ c.from_residual-in_err-push_from.result c.from_residual-in_err-push_from.ensures.1

pub loop-more-init : goal.loop-more-init
loop-more-init g c =
    let names = names_of c.args.wanted.now in
    let given = passing_given (parameters_of c.args.wanted.now) c.args.graph.now names (condition_of c.args.wanted.now) c.args.width in (
      none_before (table c.new-found.result) (given (take c.args.most (rows_left c.args.left))) c.new-found.ensures.rows,
      c.new-found.ensures.width,
      c.requires,
      c.new-values.ensures.items,
    )

pub returns-in_default-clause-ok : goal.returns-in_default-clause-ok
returns-in_default-clause-ok g c =
    let l = c.loop-more in
    let ps = parameters_of c.args.wanted.now in
    let names = names_of c.args.wanted.now in
    let wanted = condition_of c.args.wanted.now in
    let whole = passing_given ps c.args.graph.now names wanted c.args.width (take c.args.most (rows_left c.args.left)) in
    no_rows ps c.args.graph.now names wanted c.args.width whole (table l.found) l.more (rows_left l.left) c.in_default.ensures.none l.invariant.0

pub returns-in_default-clause-width : goal.returns-in_default-clause-width
returns-in_default-clause-width g c = c.loop-more.invariant.1

pub returns-in_default-clause-err : goal.returns-in_default-clause-err
returns-in_default-clause-err g c = tt

pub returns-clause-width : goal.returns-clause-width
returns-clause-width g c = c.loop-more.invariant.1

pub returns-clause-err : goal.returns-clause-err
returns-clause-err g c = tt

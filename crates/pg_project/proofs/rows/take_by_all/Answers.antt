use Rattle.std.proofs.Common.{◌≡◌, ◌≢◌, IfErr, OnOk, Ok, Err, length, map, sym, ap, subst, ◌∙◌}
use Rattle.std.proofs.lemmas.Result.{on_ok_weaker}
use Rattle.pg_project.proofs.KeyColumns.{latest_of}
use Rattle.pg_project.proofs.RowLemmas.{with_key, without_key}
use Rattle.pg_project.specs.Items.{expressions_view, keys_in}
use Rattle.pg_project.specs.Kept.{into_kept}
use Rattle.pg_project.specs.KeptGroups.{groups_view}
use Rattle.pg_expr.specs.Contexts.{given}
use Rattle.pg_meaning.specs.Answer.{each_answer}
use Rattle.pg_meaning.specs.declared.fault.Fault.TheVariants.{OutOfMemory}
use Rattle.pg_value_core.specs.View.{view}
use Rattle.pg_project.proofs.rows.take_by_all.Goals as goal

pub returns-in-Ok : goal.returns-in-Ok
returns-in-Ok g c =
    let at = given c.args.context.now c.args.graph.now in
    let groups = groups_view (length c.args.items.now.aggregates.items) c.args.groups.now in
    let key = map view c.key_at.new.key.items in
    let ready = c.requires.ready in
    let keys = keys_in (expressions_view c.args.expressions.now.items) in
    let keyed : each_answer at keys ≡ Ok key = ap (each_answer at) (sym ready.keys) ∙ c.in-Ok.ensures.ok in
    let is = with_key at (expressions_view c.args.expressions.now.items) groups key keyed ∙ ap (λ aggregates. into_kept at aggregates key groups) (sym ready.aggregates) in
    record {
      ok = subst (λ answer. OnOk c.take_row.result (answer ≡ Ok (groups_view (length c.args.items.now.aggregates.items) c.take_row.new.self))) (sym is) c.take_row.ensures.ok;
      paired = c.take_row.ensures.paired;
      latest = on_ok_weaker c.take_row.result (λ h. latest_of at keys key keyed c.take_row.new.self.keys.keys c.take_row.new.self.latest h) c.take_row.ensures.latest;
      err = subst (λ answer. IfErr c.take_row.result (λ e. e ≢ OutOfMemory → answer ≡ Err e)) (sym is) c.take_row.ensures.err;
    }

pub returns-in-Err : goal.returns-in-Err
returns-in-Err g c =
    let at = given c.args.context.now c.args.graph.now in
    let es = expressions_view c.args.expressions.now.items in
    let fault = c.in-Err.fault in
    record {
      ok = tt;
      paired = tt;
      latest = tt;
      err = λ other.
          without_key at es (groups_view (length c.args.items.now.aggregates.items) c.args.groups.now) fault (ap (each_answer at) (sym c.requires.ready.keys) ∙ c.in-Err.ensures.err (λ memory. other (c.first_fault.ensures.memory memory)))
          ∙ c.first_fault.ensures.fault other;
    }

use Rattle.std.proofs.Common.{◌≡◌, ◌≢◌, ◌<◌, ◌+◌, ◌*◌, Err, refl, sym, ap, subst, ◌∙◌, length, arith}
use Rattle.std.specs.List.{list_any}
use Rattle.std.proofs.lemmas.List.{length-map}
use Rattle.std.proofs.lemmas.Result.{IfOk-from_err, IfErr-weaker, on_ok_weaker}
use Rattle.pg_project.proofs.ExitLemmas.{memory_passed}
use Rattle.pg_project.proofs.Numbered.{Ready, into, paired_known, paired_new, ready_known, ready_new, refused, stays, taken}
use Rattle.pg_project.proofs.Parted.{as_fits, within_parts}
use Rattle.indexmap.specs.IndexSet.{insert_key}
use Rattle.pg_meaning.specs.declared.fault.Fault.TheVariants.{OutOfMemory}
use Rattle.pg_project.specs.KeptGroups.{IsNumber, same_keys, taken_in_at}
use Rattle.pg_project.specs.Views.{taken_view, takens_view}
use Rattle.pg_project.specs.ReadyItems.{aggregate_view, aggregates_view}
use Rattle.pg_expr.specs.Contexts.{given}
use Rattle.pg_project.specs.declared.groups.Groups.{Groups}
use Rattle.pg_rows.proofs.Occurrences.{fresh, known}
use Rattle.pg_project.proofs.groups.Groups.take_row.Goals as goal
use Rattle.pg_project.proofs.groups.Groups.take_row.Goals.{then-is_new+in_ok-begin, else-is_new}

pub returns-in_err-number : goal.returns-in_err-number
returns-in_err-number g c = record {
  ok = IfOk-from_err c.from_residual.result _ c.from_residual.ensures.0;
  paired = IfOk-from_err c.from_residual.result _ c.from_residual.ensures.0;
  latest = IfOk-from_err c.from_residual.result _ c.from_residual.ensures.0;
  err = memory_passed _ c.from_residual.result c.from_residual.ensures.1;
}

pub returns-in_err-begin : goal.returns-in_err-begin
returns-in_err-begin g c = record {
  ok = IfOk-from_err c.from_residual-in_err-begin.result _ c.from_residual-in_err-begin.ensures.0;
  paired = IfOk-from_err c.from_residual-in_err-begin.result _ c.from_residual-in_err-begin.ensures.0;
  latest = IfOk-from_err c.from_residual-in_err-begin.result _ c.from_residual-in_err-begin.ensures.0;
  err = memory_passed _ c.from_residual-in_err-begin.result c.from_residual-in_err-begin.ensures.1;
}

pub take_in_group-requires : goal.take_in_group-requires
take_in_group-requires g c =
    let at = given c.args.context.now c.args.graph.now in
    let names = c.args.context.now.names.now in
    let items = c.args.aggregates.now.items in
    let aggregates = aggregates_view names items in
    let w = length items in
    let each : length aggregates ≡ w = length-map items (aggregate_view names) in
    let key = c.args.key.now in
    let ks = c.args.self.now.keys.keys in
    let us = takens_view c.args.self.now.taken.items in
    let held : length us ≡ length ks * w = length-map c.args.self.now.taken.items taken_view ∙ c.requires in
    let n = c.in_ok-number.number in
    let e = c.in_ok-number.ensures in
    let more = c.if-is_new.self.keys.keys in
    let now = takens_view c.if-is_new.self.taken.items in
    let there = list_any (same_keys key) ks in
    let same_long : length more ≡ length c.number_of.new.keys.keys =
    elim c.if-is_new.branch [
      | then-is_new+in_ok-begin w ↦ ap (λ (v : Groups). length v.keys.keys) w.self-is
      | else-is_new w ↦ ap (λ (v : Groups). length v.keys.keys) w.self-is
    ] in
    let kept_keys : more ≡ insert_key same_keys ks key =
    elim c.if-is_new.branch [
      | then-is_new+in_ok-begin w ↦ ap (λ (v : Groups). v.keys.keys) w.self-is
      | else-is_new w ↦ ap (λ (v : Groups). v.keys.keys) w.self-is
    ] ∙ e.keys in
    let paired : length now ≡ length more * w =
    elim c.if-is_new.branch [
      | then-is_new+in_ok-begin b ↦ paired_new at aggregates w each key ks more us held kept_keys n e.number now (fresh there c.in_ok-number.is_new e.added b.if-is_new.true) (ap (λ (v : Groups). takens_view v.taken.items) b.self-is ∙ b.in_ok-begin.ensures names)
      | else-is_new b ↦ paired_known at aggregates w each key ks more us held kept_keys n e.number now (known there c.in_ok-number.is_new e.added b.if-is_new.false) (ap (λ (v : Groups). takens_view v.taken.items) b.self-is)
    ] in
    let within : n < length more = omega (arith, same_long, e.within) in
    as_fits (n * w + w) (length more * w) (length now) (length c.if-is_new.self.taken.items) (within_parts w (length more) n within) paired (length-map c.if-is_new.self.taken.items taken_view)

pub returns : goal.returns
returns g c =
    let at = given c.args.context.now c.args.graph.now in
    let names = c.args.context.now.names.now in
    let items = c.args.aggregates.now.items in
    let aggregates = aggregates_view names items in
    let w = length items in
    let each : length aggregates ≡ w = length-map items (aggregate_view names) in
    let key = c.args.key.now in
    let ks = c.args.self.now.keys.keys in
    let us = takens_view c.args.self.now.taken.items in
    let held : length us ≡ length ks * w = length-map c.args.self.now.taken.items taken_view ∙ c.requires in
    let n = c.in_ok-number.number in
    let e = c.in_ok-number.ensures in
    let more = c.if-is_new.self.keys.keys in
    let now = takens_view c.if-is_new.self.taken.items in
    let there = list_any (same_keys key) ks in
    let same_long : length more ≡ length c.number_of.new.keys.keys =
    elim c.if-is_new.branch [
      | then-is_new+in_ok-begin w ↦ ap (λ (v : Groups). length v.keys.keys) w.self-is
      | else-is_new w ↦ ap (λ (v : Groups). length v.keys.keys) w.self-is
    ] in
    let same_more : more ≡ c.number_of.new.keys.keys =
    elim c.if-is_new.branch [
      | then-is_new+in_ok-begin w ↦ ap (λ (v : Groups). v.keys.keys) w.self-is
      | else-is_new w ↦ ap (λ (v : Groups). v.keys.keys) w.self-is
    ] in
    let kept_keys : more ≡ insert_key same_keys ks key = same_more ∙ e.keys in
    let ready : Ready at aggregates w each key ks more us held kept_keys n e.number now =
    elim c.if-is_new.branch [
      | then-is_new+in_ok-begin b ↦ ready_new at aggregates w each key ks more us held kept_keys n e.number now (fresh there c.in_ok-number.is_new e.added b.if-is_new.true) (ap (λ (v : Groups). takens_view v.taken.items) b.self-is ∙ b.in_ok-begin.ensures names)
      | else-is_new b ↦ ready_known at aggregates w each key ks more us held kept_keys n e.number now (known there c.in_ok-number.is_new e.added b.if-is_new.false) (ap (λ (v : Groups). takens_view v.taken.items) b.self-is)
    ] in
    let within : n < length more = omega (arith, same_long, e.within) in
    let result = c.take_in_group.result in
    let after = c.take_in_group.new.taken.items in
    let whole = into at aggregates w each key ks more us held kept_keys n e.number in
    record {
      ok = on_ok_weaker result (λ h. taken at aggregates w each key ks more us held kept_keys n e.number now ready within (takens_view after) h) c.take_in_group.ensures.ok;
      paired = on_ok_weaker result (λ h. sym (length-map after taken_view) ∙ stays at aggregates w each key ks more us held kept_keys n e.number now ready within (takens_view after) h) c.take_in_group.ensures.ok;
      latest = on_ok_weaker result (λ h. record { key = key; is = refl; number = subst (λ xs. IsNumber xs key n) (sym same_more) e.is }) c.take_in_group.ensures.ok;
      err = IfErr-weaker result (λ f. f ≢ OutOfMemory → taken_in_at at aggregates w (n * w) now ≡ Err f) (λ f. f ≢ OutOfMemory → whole ≡ Err f)
          (λ f h other. refused at aggregates w each key ks more us held kept_keys n e.number now ready within f (h other)) c.take_in_group.ensures.err;
    }

use Rattle.std.proofs.Common.{◌≡◌, ◌≢◌, ◌+◌, ◌*◌, length, Err, refl, sym, ap, ◌∙◌}
use Rattle.std.proofs.lemmas.List.{length-map}
use Rattle.std.proofs.lemmas.Result.{IfErr-weaker, on_ok_weaker}
use Rattle.pg_expr.specs.Contexts.{given}
use Rattle.pg_meaning.specs.declared.fault.Fault.TheVariants.{OutOfMemory}
use Rattle.pg_project.proofs.Numbered.{ready_known, refused, stays, taken}
use Rattle.pg_project.proofs.Numbers.{keys_stay}
use Rattle.pg_project.proofs.Parted.{as_fits, within_parts}
use Rattle.pg_project.specs.Kept.{into_kept}
use Rattle.pg_project.specs.KeptGroups.{groups_view, taken_in_at}
use Rattle.pg_project.specs.ReadyItems.{aggregate_view, aggregates_view}
use Rattle.pg_project.specs.Views.{taken_view, takens_view}
use Rattle.pg_project.proofs.groups.Groups.take_again.Goals as goal

pub take_in_group-requires : goal.take_in_group-requires
take_in_group-requires g c =
    let w = length c.args.aggregates.now.items in
    let n = c.args.number in
    as_fits (n * w + w) (length c.args.self.now.keys.keys * w) (length c.args.self.now.taken.items) (length c.args.self.now.taken.items) (within_parts w (length c.args.self.now.keys.keys) n c.requires.within) c.requires.paired refl

pub returns-clause-ok : goal.returns-clause-ok
returns-clause-ok g c = λ values found.
    let at = given c.args.context.now c.args.graph.now in
    let names = c.args.context.now.names.now in
    let items = c.args.aggregates.now.items in
    let aggregates = aggregates_view names items in
    let w = length items in
    let each : length aggregates ≡ w = length-map items (aggregate_view names) in
    let ks = c.args.self.now.keys.keys in
    let us = takens_view c.args.self.now.taken.items in
    let held : length us ≡ length ks * w = length-map c.args.self.now.taken.items taken_view ∙ c.requires.paired in
    let key = found.key in
    let n = c.args.number in
    let stay = keys_stay ks key n found.number in
    let ready = ready_known at aggregates w each key ks ks us held stay n found.number.here us found.number.there refl in
    let after = c.take_in_group.new.taken.items in
    let asked = ap (λ k. into_kept at aggregates k (groups_view w c.args.self.now)) (sym found.is) in
    on_ok_weaker c.take_in_group.result (λ h. asked ∙ taken at aggregates w each key ks ks us held stay n found.number.here us ready found.number.within (takens_view after) h) c.take_in_group.ensures.ok

pub returns-clause-paired : goal.returns-clause-paired
returns-clause-paired g c = λ values found.
    let at = given c.args.context.now c.args.graph.now in
    let names = c.args.context.now.names.now in
    let items = c.args.aggregates.now.items in
    let aggregates = aggregates_view names items in
    let w = length items in
    let each : length aggregates ≡ w = length-map items (aggregate_view names) in
    let ks = c.args.self.now.keys.keys in
    let us = takens_view c.args.self.now.taken.items in
    let held : length us ≡ length ks * w = length-map c.args.self.now.taken.items taken_view ∙ c.requires.paired in
    let key = found.key in
    let n = c.args.number in
    let stay = keys_stay ks key n found.number in
    let ready = ready_known at aggregates w each key ks ks us held stay n found.number.here us found.number.there refl in
    let after = c.take_in_group.new.taken.items in
    on_ok_weaker c.take_in_group.result (λ h. sym (length-map after taken_view) ∙ stays at aggregates w each key ks ks us held stay n found.number.here us ready found.number.within (takens_view after) h) c.take_in_group.ensures.ok

pub returns-clause-err : goal.returns-clause-err
returns-clause-err g c = λ values found.
    let at = given c.args.context.now c.args.graph.now in
    let names = c.args.context.now.names.now in
    let items = c.args.aggregates.now.items in
    let aggregates = aggregates_view names items in
    let w = length items in
    let each : length aggregates ≡ w = length-map items (aggregate_view names) in
    let ks = c.args.self.now.keys.keys in
    let us = takens_view c.args.self.now.taken.items in
    let held : length us ≡ length ks * w = length-map c.args.self.now.taken.items taken_view ∙ c.requires.paired in
    let key = found.key in
    let n = c.args.number in
    let stay = keys_stay ks key n found.number in
    let ready = ready_known at aggregates w each key ks ks us held stay n found.number.here us found.number.there refl in
    let asked = ap (λ k. into_kept at aggregates k (groups_view w c.args.self.now)) (sym found.is) in
    IfErr-weaker c.take_in_group.result (λ f. f ≢ OutOfMemory → taken_in_at at aggregates w (n * w) us ≡ Err f) (λ f. f ≢ OutOfMemory → into_kept at aggregates values (groups_view w c.args.self.now) ≡ Err f)
    (λ f h other. asked ∙ refused at aggregates w each key ks ks us held stay n found.number.here us ready found.number.within f (h other)) c.take_in_group.ensures.err

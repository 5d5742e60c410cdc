use Rattle.std.proofs.Common.{get_or, Some, None, IsSome, subst, sym, ap, refl, ◌∙◌}
use Rattle.std.proofs.lemmas.Result.{IfOk-from_err}
use Rattle.std.specs.FinMap as map
use Rattle.pg_pool.proofs.SlabLemmas.{after_reserve, was_vacant}
use Rattle.pg_pool.proofs.ListPlaces.{outgoing_sound, incoming_sound}
use Rattle.pg_graph.proofs.Maps.{get_inserted, removed_inserted}
use Rattle.pg_pool.proofs.Steps.{rel_added, nothing_changed, at_err}
use Rattle.pg_pool.proofs.Values.{inside_none}
use Rattle.pg_pool.proofs.pooled_tables.PooledTablesTables.add_rel.Goals as goal

pub add-requires-clause-outgoing : goal.add-requires-clause-outgoing
add-requires-clause-outgoing g c = outgoing_sound _ _ c.requires.fits.incidence

pub add-requires-clause-incoming : goal.add-requires-clause-incoming
add-requires-clause-incoming g c = incoming_sound _ _ c.requires.fits.incidence

pub remove-requires : goal.remove-requires
remove-requires g c = subst IsSome (sym (ap (λ m. map.get m c.args.id.0) c.in_ok-insert.ensures.ok ∙ get_inserted _ c.args.id.0 _)) refl

pub returns-in-Err : goal.returns-in-Err
returns-in-Err g c =
    let absent = c.requires.absent in
    let step = nothing_changed c.args.self.now c.args.shared.now (record c.args.shared.now { records = c.reserve.new.self }) c.remove.new.self c.add.new.self c.requires.fits
    (λ k. ap (λ xs. get_or xs k None) c.in_ok-key.ensures.slots)
    (c.remove.ensures.removed ∙ ap (λ m. map.remove m c.args.id.0) c.in_ok-insert.ensures.ok ∙ removed_inserted _ c.args.id.0 _ (inside_none _ _ _ absent))
    (c.in-Err.ensures.err _ absent c.requires.fits.incidence) in
    record { ok = tt; err = step.content; keeps = record { fits = step.fits; owner = refl; others = step.others } }

pub returns : goal.returns
returns g c =
    let old = c.args.shared.now.records in
    let key = c.in_ok-key.key in
    let reserved = c.in_ok-key.ensures in
    let put = after_reserve old c.reserve.new.self c.put.new.self key _ reserved.slots c.put.ensures.updates in
    let step = rel_added c.args.self.now c.args.shared.now (record c.args.shared.now { records = c.put.new.self }) key c.requires.fits
    put.others
    c.args.id c.args.rel c.insert.new.self c.add.new.self (inside_none _ _ _ c.requires.absent)
    (was_vacant old c.reserve.new.self c.put.new.self key reserved.slots reserved.free) (put.changed ∙ ap Some c.rel.ensures)
    c.in_ok-insert.ensures.ok
    (c.in_default.ensures.ok _ c.args.rel refl refl c.requires.absent c.requires.fits.incidence) in
    record { ok = step.content; err = tt; keeps = record { fits = step.fits; owner = refl; others = step.others } }

pub returns-in_err-key : goal.returns-in_err-key
returns-in_err-key g c =
    let failed = c.from_residual in
    let old = c.args.self.now in
    let step = nothing_changed old c.args.shared.now (record c.args.shared.now { records = c.reserve.new.self }) old.rels old.incidence c.requires.fits (λ k. ap (λ xs. get_or xs k None) c.reserve.ensures.slots) refl c.requires.fits.incidence in
    record { ok = IfOk-from_err failed.result _ failed.ensures.0; err = at_err failed.result step.content; keeps = record { fits = step.fits; owner = refl; others = step.others } }

pub returns-in_err-insert : goal.returns-in_err-insert
returns-in_err-insert g c =
    let failed = c.from_residual-in_err-insert in
    let old = c.args.self.now in
    let step = nothing_changed old c.args.shared.now (record c.args.shared.now { records = c.reserve.new.self }) c.insert.new.self old.incidence c.requires.fits (λ k. ap (λ xs. get_or xs k None) c.reserve.ensures.slots) c.in_err-insert.ensures.err c.requires.fits.incidence in
    record { ok = IfOk-from_err failed.result _ failed.ensures.0; err = at_err failed.result step.content; keeps = record { fits = step.fits; owner = refl; others = step.others } }

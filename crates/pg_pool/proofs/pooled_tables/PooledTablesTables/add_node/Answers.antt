use Rattle.std.proofs.Common.{get_or, Some, None, ℕ, sym, ap, subst, refl, ◌∙◌}
use Rattle.std.proofs.lemmas.Result.{IfOk-from_err}
use Rattle.std.specs.FinMap.{FinMap}
use Rattle.std.specs.Ordering.{nat_cmp}
use Rattle.pg_pool.proofs.SlabLemmas.{after_reserve, was_vacant}
use Rattle.pg_pool.proofs.Steps.{Step, node_added, nothing_changed, at_err}
use Rattle.pg_pool.proofs.Values.{inside_none}
use Rattle.pg_pool.proofs.pooled_tables.PooledTablesTables.add_node.Goals as goal
use Rattle.pg_pool.specs.Tables.{content_of}

pub returns : goal.returns
returns g c =
    let old = c.args.shared.now.records in
    let key = c.in_ok-key.key in
    let reserved = c.in_ok-key.ensures in
    let put = after_reserve old c.reserve.new.self c.put.new.self key _ reserved.slots c.put.ensures.updates in
    let step = node_added c.args.self.now c.args.shared.now (record c.args.shared.now { records = c.put.new.self }) key c.requires.fits
    put.others
    c.args.id c.args.node c.insert.new.self (inside_none _ _ _ c.requires.absent)
    (was_vacant old c.reserve.new.self c.put.new.self key reserved.slots reserved.free) (put.changed ∙ ap Some c.node.ensures)
    c.in_ok-insert.ensures.ok in
    record { ok = step.content; err = tt; keeps = record { fits = step.fits; owner = refl; others = step.others } }

pub returns-in_err-key : goal.returns-in_err-key
returns-in_err-key g c =
    let failed = c.from_residual in
    let old = c.args.self.now in
    let step = nothing_changed old c.args.shared.now (record c.args.shared.now { records = c.reserve.new.self }) old.rels old.incidence c.requires.fits (λ k. ap (λ xs. get_or xs k None) c.reserve.ensures.slots) refl c.requires.fits.incidence in
    record { ok = IfOk-from_err failed.result _ failed.ensures.0; err = at_err failed.result step.content; keeps = record { fits = step.fits; owner = refl; others = step.others } }

pub returns-in_err-insert : goal.returns-in_err-insert
returns-in_err-insert g c =
    let failed = c.from_residual-in_err-insert in
    let old = c.args.self.now in
    let step = subst (λ (ids : FinMap nat_cmp ℕ). Step old (record old { nodes = ids }) c.args.shared.now (record c.args.shared.now { records = c.reserve.new.self }) (content_of old c.args.shared.now))
    (sym c.in_err-insert.ensures.err)
    (nothing_changed old c.args.shared.now (record c.args.shared.now { records = c.reserve.new.self }) old.rels old.incidence c.requires.fits (λ k. ap (λ xs. get_or xs k None) c.reserve.ensures.slots) refl c.requires.fits.incidence) in
    record { ok = IfOk-from_err failed.result _ failed.ensures.0; err = at_err failed.result step.content; keeps = record { fits = step.fits; owner = refl; others = step.others } }

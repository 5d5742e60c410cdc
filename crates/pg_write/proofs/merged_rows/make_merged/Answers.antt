use Rattle.std.proofs.Common.{Ok, ◌≤◌, false, length, take, refl, sym, subst, ap, ◌∙◌}
use Rattle.std.proofs.lemmas.Result.{err_from_is_err_and}
use Rattle.pg_meaning.specs.Patterns.{add_path_names}
use Rattle.pg_meaning.specs.Reading.{test_paths}
use Rattle.pg_meaning.specs.Updates.{merged_row}
use Rattle.pg_rows.specs.Named.{rows_named}
use Rattle.pg_rows.specs.Tables.{table}
use Rattle.pg_write_make.specs.Scenes.{max_elements_in, parameters_in, row_in}
use Rattle.pg_write.proofs.ExitLemmas.{err_through, ok_through}
use Rattle.pg_write.proofs.MergeLemmas.{made_then, making_fault, making_refused}
use Rattle.pg_write.specs.Mergings.{row_made}
use Rattle.pg_write.specs.Ready.{created_in, names_in, path_in, setting_in, state_in}
use Rattle.pg_write_make.specs.Creations.{row_made as row_creates}
use Rattle.pg_write_make.specs.Lent.{paths_view}
use Rattle.pg_write.proofs.merged_rows.make_merged.Goals as goal

pub returns-in_err-spend-clause-err : goal.returns-in_err-spend-clause-err
returns-in_err-spend-clause-err g c =
    let p = err_from_is_err_and c.from_residual.result c.from_residual.ensures.1 in
    let m = c.args.merging.now in
    let s = setting_in m c.args.meter.now.limit in
    let graph = c.args.live.now.graph in
    rw (p.1, p.2)
    (λ other. making_refused s (path_in m) (created_in m) graph (rows_named (names_in m) (table c.args.merged.now)) c.args.meter.now.used m.count (row_in m.scene c.args.row.items) c.requires.ready.count _ (c.in_err-spend.ensures.spends s refl))

pub returns-in_err-made-clause-err : goal.returns-in_err-made-clause-err
returns-in_err-made-clause-err g c =
    let p = err_from_is_err_and c.from_residual-in_err-made.result c.from_residual-in_err-made.ensures.1 in
    let m = c.args.merging.now in
    let s = setting_in m c.args.meter.now.limit in
    let graph = c.args.live.now.graph in
    let row = row_in m.scene c.args.row.items in
    rw (p.1, p.2)
    (λ other.
    making_fault s (path_in m) (created_in m) graph (rows_named (names_in m) (table c.args.merged.now)) c.args.meter.now.used m.count row c.requires.ready.count _ c.spend.new.self.used (c.in_ok-spend.ensures.spends s refl)
    (ap (λ ps. row_creates (parameters_in m.scene) (max_elements_in m.scene) (paths_view ps) graph row) (sym c.from_ref.ensures.value) ∙ c.in_err-made.ensures.err other))

pub returns-clause-ok : goal.returns-clause-ok
returns-clause-ok g c =
    let m = c.args.merging.now in
    let s = setting_in m c.args.meter.now.limit in
    let graph = c.args.live.now.graph in
    let after = c.make_row.new.live.graph in
    let row = row_in m.scene c.args.row.items in
    let behind = row_in m.scene c.in_ok-made.made.items in
    let made =
    made_then s (path_in m) (created_in m) graph (rows_named (names_in m) (table c.args.merged.now)) c.args.meter.now.used m.count row c.requires.ready.count after behind c.spend.new.self.used (c.in_ok-spend.ensures.spends s refl)
    (ap (λ ps. row_creates (parameters_in m.scene) (max_elements_in m.scene) (paths_view ps) graph row) (sym c.from_ref.ensures.value) ∙ c.in_ok-made.ensures.ok)
    ∙ ap (λ k. merged_row (setting_in m k) (created_in m) (state_in m after c.args.merged.now c.spend.new.self.used) behind) (sym c.in_ok-spend.ensures.limit) in
    ok_through c.merged_row.result
    (row_made s (path_in m) (created_in m) (state_in m graph c.args.merged.now c.args.meter.now.used) row)
    (merged_row (setting_in m c.spend.new.self.limit) (created_in m) (state_in m after c.args.merged.now c.spend.new.self.used) behind)
    (Ok (state_in m c.merged_row.new.live.graph c.merged_row.new.merged c.merged_row.new.meter.used))
    made c.merged_row.ensures.ok

pub returns-clause-err : goal.returns-clause-err
returns-clause-err g c =
    let m = c.args.merging.now in
    let s = setting_in m c.args.meter.now.limit in
    let graph = c.args.live.now.graph in
    let after = c.make_row.new.live.graph in
    let row = row_in m.scene c.args.row.items in
    let behind = row_in m.scene c.in_ok-made.made.items in
    let made =
    made_then s (path_in m) (created_in m) graph (rows_named (names_in m) (table c.args.merged.now)) c.args.meter.now.used m.count row c.requires.ready.count after behind c.spend.new.self.used (c.in_ok-spend.ensures.spends s refl)
    (ap (λ ps. row_creates (parameters_in m.scene) (max_elements_in m.scene) (paths_view ps) graph row) (sym c.from_ref.ensures.value) ∙ c.in_ok-made.ensures.ok)
    ∙ ap (λ k. merged_row (setting_in m k) (created_in m) (state_in m after c.args.merged.now c.spend.new.self.used) behind) (sym c.in_ok-spend.ensures.limit) in
    err_through c.merged_row.result
    (row_made s (path_in m) (created_in m) (state_in m graph c.args.merged.now c.args.meter.now.used) row)
    (merged_row (setting_in m c.spend.new.self.limit) (created_in m) (state_in m after c.args.merged.now c.spend.new.self.used) behind)
    made c.merged_row.ensures.err

pub returns-in_err-spend-clause-width : goal.returns-in_err-spend-clause-width
returns-in_err-spend-clause-width g c = refl

pub returns-in_err-spend-clause-aside : goal.returns-in_err-spend-clause-aside
returns-in_err-spend-clause-aside g c = refl

pub returns-in_err-spend-clause-limit : goal.returns-in_err-spend-clause-limit
returns-in_err-spend-clause-limit g c = c.spend.ensures.limit

pub make_row-requires : goal.make_row-requires
make_row-requires g c =
    let m = c.args.merging.now in
    let graph = c.args.live.now.graph in
    record {
      within = subst (λ n. n ≤ length (names_in m)) (sym c.requires.bound) c.requires.ready.within;
      names = (λ i. add_path_names (paths_view (c.from_ref.ensures.value i)) (take (c.requires.bound i) (names_in m))) ∙ c.requires.ready.names;
      tested = ap (λ ps. test_paths false graph (row_in m.scene c.args.row.items) (paths_view ps)) c.from_ref.ensures.value ∙ c.requires.tested;
    }

pub returns-in_err-made-clause-width : goal.returns-in_err-made-clause-width
returns-in_err-made-clause-width g c = refl

pub returns-in_err-made-clause-aside : goal.returns-in_err-made-clause-aside
returns-in_err-made-clause-aside g c = c.make_row.ensures.aside

pub returns-in_err-made-clause-limit : goal.returns-in_err-made-clause-limit
returns-in_err-made-clause-limit g c = c.spend.ensures.limit

pub merged_row-requires : goal.merged_row-requires
merged_row-requires g c = record { wide = c.in_ok-made.ensures.whole ∙ sym c.requires.wide }

pub returns-clause-width : goal.returns-clause-width
returns-clause-width g c = c.merged_row.ensures.width

pub returns-clause-aside : goal.returns-clause-aside
returns-clause-aside g c =
    c.merged_row.ensures.aside ∙ c.make_row.ensures.aside

pub returns-clause-limit : goal.returns-clause-limit
returns-clause-limit g c = c.merged_row.ensures.limit ∙ c.spend.ensures.limit

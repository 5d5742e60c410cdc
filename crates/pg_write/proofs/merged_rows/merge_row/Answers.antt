use Rattle.std.proofs.Common.{Ok, Err, length, map, refl, sym, ap, ◌∙◌}
use Rattle.std.proofs.lemmas.Result.{err_from_is_err_and}
use Rattle.pg_match_stages.specs.View.{wanted_path}
use Rattle.pg_meaning.specs.Answer.{each_step}
use Rattle.pg_meaning.specs.Updates.{merged_row}
use Rattle.pg_rows.specs.Named.{rows_named}
use Rattle.pg_rows.specs.Tables.{table}
use Rattle.pg_write_make.specs.Scenes.{row_in}
use Rattle.pg_write.proofs.ExitLemmas.{err_through, ok_through}
use Rattle.pg_write.proofs.MergeLemmas.{asked_fault, asked_here, asked_there, found_there, none_found, some_found, spent_fault, spent_then, spent_there, tested_there}
use Rattle.pg_write.specs.Mergings.{row_made, row_merged, rows_merged}
use Rattle.pg_write.specs.Ready.{created_in, matched_in, names_in, path_in, setting_in, state_in}
use Rattle.pg_write.proofs.merged_rows.merge_row.Goals as goal

pub returns-in_err-wanted-clause-err : goal.returns-in_err-wanted-clause-err
returns-in_err-wanted-clause-err g c =
    let m = c.args.merging.now in
    let s = setting_in m c.args.meter.now.limit in
    let graph = c.args.live.now.graph in
    let rows = rows_named (names_in m) (table c.args.merged.now) in
    let row = row_in m.scene c.args.row.items in
    let p = err_from_is_err_and c.from_residual.result c.from_residual.ensures.1 in
    rw (p.1, p.2)
    (λ other. asked_fault s (path_in m) (created_in m) (matched_in m) graph rows c.args.meter.now.used row c.in_err-wanted.field-0.0
    (asked_there s (path_in m) (created_in m) (matched_in m) graph rows c.args.meter.now.used row c.graph.result (row_in m.scene c.deref.result.now) c.graph.ensures.is (ap (row_in m.scene) c.deref.ensures.value) (Err c.in_err-wanted.field-0.0)
    (c.in_err-wanted.ensures.err other)))

pub returns-in_err-wanted-clause-width : goal.returns-in_err-wanted-clause-width
returns-in_err-wanted-clause-width g c = refl

pub returns-in_err-wanted-clause-aside : goal.returns-in_err-wanted-clause-aside
returns-in_err-wanted-clause-aside g c = refl

pub returns-in_err-wanted-clause-limit : goal.returns-in_err-wanted-clause-limit
returns-in_err-wanted-clause-limit g c = refl

pub find_rows-requires-clause-ready : goal.find_rows-requires-clause-ready
find_rows-requires-clause-ready g c = c.requires.ready

pub find_rows-requires-clause-bound : goal.find_rows-requires-clause-bound
find_rows-requires-clause-bound g c = ap length c.deref-2.ensures.value ∙ c.requires.bound

pub find_rows-requires-clause-asked : goal.find_rows-requires-clause-asked
find_rows-requires-clause-asked g c =
    let m = c.args.merging.now in
    let s = setting_in m 0 in
    let graph = c.args.live.now.graph in
    let rows = rows_named (names_in m) (table c.args.merged.now) in
    let row = row_in m.scene c.args.row.items in
    let wanted = map wanted_path c.in_ok-wanted.wanted.items in
    asked_here s (path_in m) (created_in m) (matched_in m) graph rows c.args.meter.now.used row c.graph-2.result (row_in m.scene c.deref-2.result.now) c.graph-2.ensures.is (ap (row_in m.scene) c.deref-2.ensures.value) (Ok wanted)
    (asked_there s (path_in m) (created_in m) (matched_in m) graph rows c.args.meter.now.used row c.graph.result (row_in m.scene c.deref.result.now) c.graph.ensures.is (ap (row_in m.scene) c.deref.ensures.value) (Ok wanted)
    c.in_ok-wanted.ensures.ok)
    ∙ ap (λ ws. Ok (map wanted_path ws)) (sym c.deref-3.ensures.value)

pub returns-in_err-found-clause-err : goal.returns-in_err-found-clause-err
returns-in_err-found-clause-err g c =
    let m = c.args.merging.now in
    let s = setting_in m c.args.meter.now.limit in
    let graph = c.args.live.now.graph in
    let rows = rows_named (names_in m) (table c.args.merged.now) in
    let row = row_in m.scene c.args.row.items in
    let wanted = map wanted_path c.in_ok-wanted.wanted.items in
    let p = err_from_is_err_and c.from_residual-in_err-found.result c.from_residual-in_err-found.ensures.1 in
    rw (p.1, p.2)
    (λ other. spent_fault s (path_in m) (created_in m) (matched_in m) graph rows c.args.meter.now.used row wanted
    (asked_there s (path_in m) (created_in m) (matched_in m) graph rows c.args.meter.now.used row c.graph.result (row_in m.scene c.deref.result.now) c.graph.ensures.is (ap (row_in m.scene) c.deref.ensures.value) (Ok wanted)
    c.in_ok-wanted.ensures.ok)
    c.in_err-found.field-0.0
    (spent_there s (path_in m) (created_in m) (matched_in m) graph rows c.args.meter.now.used row c.graph-2.result (row_in m.scene c.deref-2.result.now) c.graph-2.ensures.is (ap (row_in m.scene) c.deref-2.ensures.value)
    (map wanted_path c.deref-3.result.now) wanted (ap (map wanted_path) c.deref-3.ensures.value) (Err c.in_err-found.field-0.0) (c.in_err-found.ensures.err other)))

pub returns-in_err-found-clause-width : goal.returns-in_err-found-clause-width
returns-in_err-found-clause-width g c = refl

pub returns-in_err-found-clause-aside : goal.returns-in_err-found-clause-aside
returns-in_err-found-clause-aside g c = refl

pub returns-in_err-found-clause-limit : goal.returns-in_err-found-clause-limit
returns-in_err-found-clause-limit g c = c.find_rows.ensures.limit

pub make_merged-requires : goal.make_merged-requires
make_merged-requires g c =
    let m = c.args.merging.now in
    record {
      ready = c.requires.ready;
      bound = c.requires.bound;
      wide = c.requires.wide;
      tested =
          tested_there (setting_in m 0) (path_in m) (created_in m) (matched_in m) c.args.live.now.graph (rows_named (names_in m) (table c.args.merged.now)) c.args.meter.now.used (row_in m.scene c.args.row.items)
          c.graph.result (row_in m.scene c.deref.result.now) c.graph.ensures.is (ap (row_in m.scene) c.deref.ensures.value) (Ok tt) c.in_ok-wanted.ensures.tested;
    }

pub keep_matched-requires : goal.keep_matched-requires
keep_matched-requires g c = record { wide = c.in_ok-found.ensures.width ∙ sym c.requires.wide }

pub returns-then-len-eq0-clause-ok : goal.returns-then-len-eq0-clause-ok
returns-then-len-eq0-clause-ok g c =
    let m = c.args.merging.now in
    let s = setting_in m c.args.meter.now.limit in
    let graph = c.args.live.now.graph in
    let rows = rows_named (names_in m) (table c.args.merged.now) in
    let row = row_in m.scene c.args.row.items in
    let wanted = map wanted_path c.in_ok-wanted.wanted.items in
    let given = map wanted_path c.deref-3.result.now in
    let found = rows_named (names_in m) (table c.in_ok-found.found) in
    let steps = c.find_rows.new.meter.used in
    let own = row_in m.scene c.deref-2.result.now in
    let same = ap (row_in m.scene) c.deref-2.ensures.value in
    let are = ap (map wanted_path) c.deref-3.ensures.value in
    let first =
    spent_then s (path_in m) (created_in m) (matched_in m) graph rows c.args.meter.now.used row wanted
    (asked_there s (path_in m) (created_in m) (matched_in m) graph rows c.args.meter.now.used row c.graph.result (row_in m.scene c.deref.result.now) c.graph.ensures.is (ap (row_in m.scene) c.deref.ensures.value) (Ok wanted)
    c.in_ok-wanted.ensures.ok)
    steps found
    (spent_there s (path_in m) (created_in m) (matched_in m) graph rows c.args.meter.now.used row c.graph-2.result own c.graph-2.ensures.is same given wanted are (Ok steps) c.in_ok-found.ensures.spends)
    (found_there s (path_in m) (created_in m) (matched_in m) graph rows c.args.meter.now.used row c.graph-2.result own c.graph-2.ensures.is same given wanted are found c.in_ok-found.ensures.rows)
    ∙ ap (λ k. rows_merged (setting_in m k) (path_in m) (created_in m) (matched_in m) (state_in m graph c.args.merged.now steps) row found) (sym c.in_ok-found.ensures.limit) in
    let then = setting_in m c.find_rows.new.meter.limit in
    let state = state_in m graph c.args.merged.now steps in
    ok_through c.make_merged.result
    (row_merged s (path_in m) (created_in m) (matched_in m) (state_in m graph c.args.merged.now c.args.meter.now.used) row)
    (row_made then (path_in m) (created_in m) state row)
    (Ok (state_in m c.make_merged.new.live.graph c.make_merged.new.merged c.make_merged.new.meter.used))
    (first ∙ none_found then (path_in m) (created_in m) (matched_in m) state row (names_in m) (table c.in_ok-found.found) (sym c.len.ensures ∙ c.if-len-eq0.true)) c.make_merged.ensures.ok

pub returns-then-len-eq0-clause-err : goal.returns-then-len-eq0-clause-err
returns-then-len-eq0-clause-err g c =
    let m = c.args.merging.now in
    let s = setting_in m c.args.meter.now.limit in
    let graph = c.args.live.now.graph in
    let rows = rows_named (names_in m) (table c.args.merged.now) in
    let row = row_in m.scene c.args.row.items in
    let wanted = map wanted_path c.in_ok-wanted.wanted.items in
    let given = map wanted_path c.deref-3.result.now in
    let found = rows_named (names_in m) (table c.in_ok-found.found) in
    let steps = c.find_rows.new.meter.used in
    let own = row_in m.scene c.deref-2.result.now in
    let same = ap (row_in m.scene) c.deref-2.ensures.value in
    let are = ap (map wanted_path) c.deref-3.ensures.value in
    let first =
    spent_then s (path_in m) (created_in m) (matched_in m) graph rows c.args.meter.now.used row wanted
    (asked_there s (path_in m) (created_in m) (matched_in m) graph rows c.args.meter.now.used row c.graph.result (row_in m.scene c.deref.result.now) c.graph.ensures.is (ap (row_in m.scene) c.deref.ensures.value) (Ok wanted)
    c.in_ok-wanted.ensures.ok)
    steps found
    (spent_there s (path_in m) (created_in m) (matched_in m) graph rows c.args.meter.now.used row c.graph-2.result own c.graph-2.ensures.is same given wanted are (Ok steps) c.in_ok-found.ensures.spends)
    (found_there s (path_in m) (created_in m) (matched_in m) graph rows c.args.meter.now.used row c.graph-2.result own c.graph-2.ensures.is same given wanted are found c.in_ok-found.ensures.rows)
    ∙ ap (λ k. rows_merged (setting_in m k) (path_in m) (created_in m) (matched_in m) (state_in m graph c.args.merged.now steps) row found) (sym c.in_ok-found.ensures.limit) in
    let then = setting_in m c.find_rows.new.meter.limit in
    let state = state_in m graph c.args.merged.now steps in
    err_through c.make_merged.result
    (row_merged s (path_in m) (created_in m) (matched_in m) (state_in m graph c.args.merged.now c.args.meter.now.used) row)
    (row_made then (path_in m) (created_in m) state row)
    (first ∙ none_found then (path_in m) (created_in m) (matched_in m) state row (names_in m) (table c.in_ok-found.found) (sym c.len.ensures ∙ c.if-len-eq0.true)) c.make_merged.ensures.err

pub returns-then-len-eq0-clause-width : goal.returns-then-len-eq0-clause-width
returns-then-len-eq0-clause-width g c = c.make_merged.ensures.width

pub returns-then-len-eq0-clause-aside : goal.returns-then-len-eq0-clause-aside
returns-then-len-eq0-clause-aside g c = c.make_merged.ensures.aside

pub returns-then-len-eq0-clause-limit : goal.returns-then-len-eq0-clause-limit
returns-then-len-eq0-clause-limit g c = c.make_merged.ensures.limit ∙ c.find_rows.ensures.limit

pub returns-clause-ok : goal.returns-clause-ok
returns-clause-ok g c =
    let m = c.args.merging.now in
    let s = setting_in m c.args.meter.now.limit in
    let graph = c.args.live.now.graph in
    let rows = rows_named (names_in m) (table c.args.merged.now) in
    let row = row_in m.scene c.args.row.items in
    let wanted = map wanted_path c.in_ok-wanted.wanted.items in
    let given = map wanted_path c.deref-3.result.now in
    let found = rows_named (names_in m) (table c.in_ok-found.found) in
    let steps = c.find_rows.new.meter.used in
    let own = row_in m.scene c.deref-2.result.now in
    let same = ap (row_in m.scene) c.deref-2.ensures.value in
    let are = ap (map wanted_path) c.deref-3.ensures.value in
    let first =
    spent_then s (path_in m) (created_in m) (matched_in m) graph rows c.args.meter.now.used row wanted
    (asked_there s (path_in m) (created_in m) (matched_in m) graph rows c.args.meter.now.used row c.graph.result (row_in m.scene c.deref.result.now) c.graph.ensures.is (ap (row_in m.scene) c.deref.ensures.value) (Ok wanted)
    c.in_ok-wanted.ensures.ok)
    steps found
    (spent_there s (path_in m) (created_in m) (matched_in m) graph rows c.args.meter.now.used row c.graph-2.result own c.graph-2.ensures.is same given wanted are (Ok steps) c.in_ok-found.ensures.spends)
    (found_there s (path_in m) (created_in m) (matched_in m) graph rows c.args.meter.now.used row c.graph-2.result own c.graph-2.ensures.is same given wanted are found c.in_ok-found.ensures.rows)
    ∙ ap (λ k. rows_merged (setting_in m k) (path_in m) (created_in m) (matched_in m) (state_in m graph c.args.merged.now steps) row found) (sym c.in_ok-found.ensures.limit) in
    let then = setting_in m c.find_rows.new.meter.limit in
    let state = state_in m graph c.args.merged.now steps in
    ok_through c.keep_matched.result
    (row_merged s (path_in m) (created_in m) (matched_in m) (state_in m graph c.args.merged.now c.args.meter.now.used) row)
    (each_step (merged_row then (matched_in m)) state found)
    (Ok (state_in m c.keep_matched.new.live.graph c.keep_matched.new.merged c.keep_matched.new.meter.used))
    (first ∙ some_found then (path_in m) (created_in m) (matched_in m) state row (names_in m) (table c.in_ok-found.found) (λ none. c.if-len-eq0.false (c.len.ensures ∙ none))) c.keep_matched.ensures.ok

pub returns-clause-err : goal.returns-clause-err
returns-clause-err g c =
    let m = c.args.merging.now in
    let s = setting_in m c.args.meter.now.limit in
    let graph = c.args.live.now.graph in
    let rows = rows_named (names_in m) (table c.args.merged.now) in
    let row = row_in m.scene c.args.row.items in
    let wanted = map wanted_path c.in_ok-wanted.wanted.items in
    let given = map wanted_path c.deref-3.result.now in
    let found = rows_named (names_in m) (table c.in_ok-found.found) in
    let steps = c.find_rows.new.meter.used in
    let own = row_in m.scene c.deref-2.result.now in
    let same = ap (row_in m.scene) c.deref-2.ensures.value in
    let are = ap (map wanted_path) c.deref-3.ensures.value in
    let first =
    spent_then s (path_in m) (created_in m) (matched_in m) graph rows c.args.meter.now.used row wanted
    (asked_there s (path_in m) (created_in m) (matched_in m) graph rows c.args.meter.now.used row c.graph.result (row_in m.scene c.deref.result.now) c.graph.ensures.is (ap (row_in m.scene) c.deref.ensures.value) (Ok wanted)
    c.in_ok-wanted.ensures.ok)
    steps found
    (spent_there s (path_in m) (created_in m) (matched_in m) graph rows c.args.meter.now.used row c.graph-2.result own c.graph-2.ensures.is same given wanted are (Ok steps) c.in_ok-found.ensures.spends)
    (found_there s (path_in m) (created_in m) (matched_in m) graph rows c.args.meter.now.used row c.graph-2.result own c.graph-2.ensures.is same given wanted are found c.in_ok-found.ensures.rows)
    ∙ ap (λ k. rows_merged (setting_in m k) (path_in m) (created_in m) (matched_in m) (state_in m graph c.args.merged.now steps) row found) (sym c.in_ok-found.ensures.limit) in
    let then = setting_in m c.find_rows.new.meter.limit in
    let state = state_in m graph c.args.merged.now steps in
    err_through c.keep_matched.result
    (row_merged s (path_in m) (created_in m) (matched_in m) (state_in m graph c.args.merged.now c.args.meter.now.used) row)
    (each_step (merged_row then (matched_in m)) state found)
    (first ∙ some_found then (path_in m) (created_in m) (matched_in m) state row (names_in m) (table c.in_ok-found.found) (λ none. c.if-len-eq0.false (c.len.ensures ∙ none))) c.keep_matched.ensures.err

pub returns-clause-width : goal.returns-clause-width
returns-clause-width g c = c.keep_matched.ensures.width

pub returns-clause-aside : goal.returns-clause-aside
returns-clause-aside g c = c.keep_matched.ensures.aside

pub returns-clause-limit : goal.returns-clause-limit
returns-clause-limit g c = c.keep_matched.ensures.limit ∙ c.find_rows.ensures.limit

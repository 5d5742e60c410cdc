-- What a MERGE that was made ready says is what the clause says.
use Rattle.std.proofs.Common.{◌≡◌, ◌≢◌, ℕ, List, [], take, Result, Ok, Err, sym, ◌∙◌}
use Rattle.std.specs.Prelude.{IfOk, IfErr}
use Rattle.pg_expr.specs.declared.query_context.QueryContext.{QueryContext}
use Rattle.pg_meaning.specs.Answer.{each_step}
use Rattle.pg_meaning.specs.Graph.{Graph}
use Rattle.pg_meaning.specs.Meters.{State}
use Rattle.pg_meaning.specs.Names.{Names}
use Rattle.pg_meaning.specs.Value.{Value}
use Rattle.pg_meaning.specs.declared.fault.Fault.{Fault}
use Rattle.pg_meaning.specs.declared.fault.Fault.TheVariants.{OutOfMemory}
use Rattle.pg_rows.specs.Named.{rows_named}
use Rattle.pg_rows.specs.Tables.{table}
use Rattle.pg_rows.specs.declared.table.Rows.{Rows}
use Rattle.pg_write.specs.Mergings.{row_merged}
use Rattle.pg_write.specs.Ready.{created_in, created_said, matched_in, matched_said, names_in, path_in, path_said, setting_given, setting_in, state_in, IsMergingOf}
use Rattle.pg_write.specs.declared.merging.Merge.{Merge}
use Rattle.pg_write.specs.declared.merging.Merging.{Merging}

module _ (query : QueryContext) (merge : Merge) (names : Names) (bound : ℕ) (m : Merging) (means : IsMergingOf query merge names bound m) (max_steps : ℕ) (graph : Graph) (used : ℕ) (rows : List (List Value)) where
  abbrev start : State
  start = record { graph = graph; rows = []; steps = used }

  abbrev said : Result State Fault
  said = each_step (row_merged (setting_given query merge (take bound names) max_steps) (path_said merge) (created_said merge) (matched_said merge)) start (rows_named names rows)

  abbrev done : Result State Fault
  done = each_step (row_merged (setting_in m max_steps) (path_in m) (created_in m) (matched_in m)) start (rows_named (names_in m) rows)

  same : said ≡ done
  same = λ i. each_step (row_merged (sym (means.setting_is max_steps) i) (sym means.path_is i) (sym means.created_are i) (sym means.matched_are i)) start (rows_named (sym means.names_are i) rows)

  pub said_ok : (after : Graph) (steps : ℕ) (r : Result Rows Fault) → IfOk r (λ merged. done ≡ Ok (state_in m after merged steps)) → IfOk r (λ merged. said ≡ Ok (record { graph = after; rows = rows_named names (table merged); steps = steps }))
  said_ok after steps (Ok merged) h = same ∙ h ∙ (λ i. Ok (record { graph = after; rows = rows_named (means.names_are i) (table merged); steps = steps }))
  said_ok after steps (Err e) h = tt

  pub said_err : (r : Result Rows Fault) → IfErr r (λ e. e ≢ OutOfMemory → done ≡ Err e) → IfErr r (λ e. e ≢ OutOfMemory → said ≡ Err e)
  said_err (Ok merged) h = tt
  said_err (Err e) h = λ other. same ∙ h other

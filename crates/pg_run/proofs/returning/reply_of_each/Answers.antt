use Rattle.std.proofs.Common.{◌≡◌, length, Ok, sym, ap, ◌∙◌}
use Rattle.pg_meaning.specs.Answer.{◌>>=◌, each_answer}
use Rattle.pg_meaning.specs.Meters.{spend}
use Rattle.pg_project.specs.Cuts.{cut_view}
use Rattle.pg_project.specs.Given.{cut_given, cut_of, trees_of, values_given}
use Rattle.pg_run.proofs.Returns.{gives_same}
use Rattle.pg_rows.specs.Tables.{table}
use Rattle.pg_run.specs.Telling.{told}
use Rattle.pg_syntax_tree.specs.View.{projection_view}
use Rattle.pg_value_core.specs.Given.{parameters_view}
use Rattle.pg_write.proofs.ExitLemmas.{gives_fault}
use Rattle.pg_run.proofs.returning.reply_of_each.Goals as goal

pub returns : goal.returns
returns g c = λ notes s columns limit telling.
    let rows = table c.args.rows.now in
    let names = c.args.items.now.names.now in
    let graph = c.args.graph.now in
    let used = c.args.meter.now.used in
    let p = projection_view c.args.projection.now in
    let parameters = parameters_view c.args.items.now.query.now.parameters.now in
    let cut = cut_view c.in_ok-cut.cut in
    let given = each_answer (values_given parameters graph names (trees_of names c.args.items.now.ready.now)) rows in
    let made = c.in_ok-tell_rows.ensures.ok in
    let kept = cut_of cut made.rows in
    let spent : spend s used (length rows) ≡ Ok c.spend.new.self.used = ap (spend s used) (sym c.len.ensures) ∙ c.in_ok-spend.ensures.spends s limit in
    let are : given ≡ Ok made.rows = made.are in
    gives_same c.finish.result _ (told notes graph columns kept c.used.result) (λ reply. reply)
    (ap (λ a. a >>= λ steps. cut_given parameters graph p.skip p.limit >>= λ k. given >>= λ found. told notes graph columns (cut_of k found) steps) spent
    ∙ ap (λ a. a >>= λ k. given >>= λ found. told notes graph columns (cut_of k found) c.spend.new.self.used) c.in_ok-cut.ensures.ok
    ∙ ap (λ a. a >>= λ found. told notes graph columns (cut_of cut found) c.spend.new.self.used) are
    ∙ ap (told notes graph columns kept) (sym c.used.ensures))
    (c.finish.ensures notes graph columns kept (made.telling notes columns telling))

pub returns-in_err-spend : goal.returns-in_err-spend
returns-in_err-spend g c = λ notes s columns limit telling.
    let rows = table c.args.rows.now in
    let names = c.args.items.now.names.now in
    let graph = c.args.graph.now in
    let used = c.args.meter.now.used in
    let p = projection_view c.args.projection.now in
    let parameters = parameters_view c.args.items.now.query.now.parameters.now in
    let given = each_answer (values_given parameters graph names (trees_of names c.args.items.now.ready.now)) rows in
    gives_fault c.from_residual.result _ _ _ c.from_residual.ensures.1
    (λ other. ap (λ a. a >>= λ steps. cut_given parameters graph p.skip p.limit >>= λ k. given >>= λ found. told notes graph columns (cut_of k found) steps)
    (ap (spend s used) (sym c.len.ensures) ∙ c.in_err-spend.ensures.spends s limit))

pub returns-in_err-cut : goal.returns-in_err-cut
returns-in_err-cut g c = λ notes s columns limit telling.
    let rows = table c.args.rows.now in
    let names = c.args.items.now.names.now in
    let graph = c.args.graph.now in
    let used = c.args.meter.now.used in
    let p = projection_view c.args.projection.now in
    let parameters = parameters_view c.args.items.now.query.now.parameters.now in
    let given = each_answer (values_given parameters graph names (trees_of names c.args.items.now.ready.now)) rows in
    gives_fault c.from_residual-in_err-cut.result _ _ _ c.from_residual-in_err-cut.ensures.1
    (λ other. ap (λ a. a >>= λ steps. cut_given parameters graph p.skip p.limit >>= λ k. given >>= λ found. told notes graph columns (cut_of k found) steps)
    (ap (spend s used) (sym c.len.ensures) ∙ c.in_ok-spend.ensures.spends s limit)
    ∙ ap (λ a. a >>= λ k. given >>= λ found. told notes graph columns (cut_of k found) c.spend.new.self.used) (c.in_err-cut.ensures.err other))

pub returns-in_err-tell_rows : goal.returns-in_err-tell_rows
returns-in_err-tell_rows g c = λ notes s columns limit telling.
    let rows = table c.args.rows.now in
    let names = c.args.items.now.names.now in
    let graph = c.args.graph.now in
    let used = c.args.meter.now.used in
    let p = projection_view c.args.projection.now in
    let parameters = parameters_view c.args.items.now.query.now.parameters.now in
    let given = each_answer (values_given parameters graph names (trees_of names c.args.items.now.ready.now)) rows in
    let cut = cut_view c.in_ok-cut.cut in
    gives_fault c.from_residual-in_err-tell_rows.result _ _ _ c.from_residual-in_err-tell_rows.ensures.1
    (λ other. ap (λ a. a >>= λ steps. cut_given parameters graph p.skip p.limit >>= λ k. given >>= λ found. told notes graph columns (cut_of k found) steps)
    (ap (spend s used) (sym c.len.ensures) ∙ c.in_ok-spend.ensures.spends s limit)
    ∙ ap (λ a. a >>= λ k. given >>= λ found. told notes graph columns (cut_of k found) c.spend.new.self.used) c.in_ok-cut.ensures.ok
    ∙ ap (λ a. a >>= λ found. told notes graph columns (cut_of cut found) c.spend.new.self.used) (c.in_err-tell_rows.ensures.err other))

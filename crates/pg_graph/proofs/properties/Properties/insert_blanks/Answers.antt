use Rattle.std.proofs.Common.{sym, ap, subst, ◌∙◌}
use Rattle.std.proofs.lemmas.Result.{on_ok_weaker, on_err_weaker}
use Rattle.pg_graph.proofs.Blanks.{blanks_rise, map_blanks}
use Rattle.pg_graph.proofs.Entries.{map_of}
use Rattle.pg_graph.proofs.NamedChanges.{by_result}
use Rattle.pg_graph.proofs.properties.Properties.insert_blanks.Goals as goal
use Rattle.pg_graph.specs.Records.{AreEntries, Properties, with_blanks}
use Rattle.pg_value_core.specs.View.{view}

pub returns-clause-ok : goal.returns-clause-ok
returns-clause-ok c = on_ok_weaker c.insert_blanks.result (λ e.
    ap (map_of view) e ∙ map_blanks c.self.inside.entries.items c.args.keys.now c.self.invariant
    ∙ ap (λ (ps : Properties). with_blanks ps c.args.keys.now) c.self.view_is)
    c.insert_blanks.ensures.ok

pub invariant_of-self : goal.invariant_of-self
invariant_of-self c =
    by_result c.insert_blanks.result
    (on_ok_weaker c.insert_blanks.result (λ e. subst AreEntries (sym e) (blanks_rise c.self.inside.entries.items c.args.keys.now c.self.invariant)) c.insert_blanks.ensures.ok)
    (on_err_weaker c.insert_blanks.result (λ e. subst AreEntries (sym e) c.self.invariant) c.insert_blanks.ensures.err)

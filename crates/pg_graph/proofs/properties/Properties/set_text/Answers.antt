use Rattle.std.proofs.Common.{sym, ap, subst, ◌∙◌}
use Rattle.std.proofs.lemmas.Result.{on_ok_weaker, on_err_weaker}
use Rattle.std.specs.FinMap as map
use Rattle.pg_graph.proofs.NamedChanges.{by_result, later_named, property_entries_kept, property_given, property_given_named}
use Rattle.pg_graph.proofs.properties.Properties.set_text.Goals as goal
use Rattle.pg_graph.specs.Records.{Properties}
use Rattle.pg_graph.specs.Refinement.{AreNamed, property_entries}
use Rattle.pg_value_core.specs.View.{view}

pub returns-clause-ok : goal.returns-clause-ok
returns-clause-ok g c =
    let new = c.intern.new.self in
    on_ok_weaker c.set.result (λ e.
    ap (property_entries new) e
    ∙ property_given c.args.names.now new c.in_ok-name.ensures.distinct c.intern.ensures.keeps c.args.self.now c.requires c.in_ok-name.name c.args.key.now (view c.args.value) c.in_ok-name.ensures.number)
    c.set.ensures.ok

pub returns-clause-err : goal.returns-clause-err
returns-clause-err g c =
    on_err_weaker c.set.result (λ e. ap (property_entries c.intern.new.self) e ∙ property_entries_kept c.args.names.now c.intern.new.self c.intern.ensures.keeps c.args.self.now c.requires) c.set.ensures.err

pub returns-clause-named : goal.returns-clause-named
returns-clause-named g c =
    let old = c.args.names.now in
    let new = c.intern.new.self in
    let distinct = c.in_ok-name.ensures.distinct in
    let keeps = c.intern.ensures.keeps in
    let named = λ (ps : Properties). AreNamed new (map.keys ps) in
    by_result c.set.result
    (on_ok_weaker c.set.result (λ e. subst named (sym e) (property_given_named old new distinct keeps c.args.self.now c.requires c.in_ok-name.name c.args.key.now (view c.args.value) c.in_ok-name.ensures.number)) c.set.ensures.ok)
    (on_err_weaker c.set.result (λ e. subst named (sym e) (later_named old new distinct keeps c.args.self.now c.requires)) c.set.ensures.err)

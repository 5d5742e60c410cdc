use Rattle.std.proofs.Common.{sym, ap, subst, ◌∙◌}
use Rattle.std.proofs.lemmas.Result.{on_ok_weaker, on_err_weaker}
use Rattle.pg_graph.proofs.Held.{more_named}
use Rattle.pg_graph.proofs.NamedChanges.{by_result, label_added, label_added_named, label_texts_kept}
use Rattle.pg_graph.proofs.labels.Labels.insert_text.Goals as goal
use Rattle.pg_graph.specs.Refinement.{AreNamed, label_texts}

pub returns-clause-ok : goal.returns-clause-ok
returns-clause-ok g c =
    let old = c.args.names.now in
    let new = c.intern.new.self in
    on_ok_weaker c.insert.result (λ e. ap (label_texts new) e ∙ label_added old new c.intern.ensures.keeps c.args.self.now c.in_ok-name.name c.args.text.now c.requires c.in_ok-name.ensures.number) c.insert.ensures.ok

pub returns-clause-err : goal.returns-clause-err
returns-clause-err g c =
    on_err_weaker c.insert.result (λ e. ap (label_texts c.intern.new.self) e ∙ label_texts_kept c.args.names.now c.intern.new.self c.intern.ensures.keeps c.args.self.now c.requires) c.insert.ensures.err

pub returns-clause-named : goal.returns-clause-named
returns-clause-named g c =
    let old = c.args.names.now in
    let new = c.intern.new.self in
    by_result c.insert.result
    (on_ok_weaker c.insert.result (λ e. subst (AreNamed new) (sym e) (label_added_named old new c.intern.ensures.keeps c.args.self.now c.in_ok-name.name c.args.text.now c.requires c.in_ok-name.ensures.number)) c.insert.ensures.ok)
    (on_err_weaker c.insert.result (λ e. subst (AreNamed new) (sym e) (more_named old new c.intern.ensures.keeps c.args.self.now c.requires)) c.insert.ensures.err)

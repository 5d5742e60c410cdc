use Rattle.std.proofs.Common.{◌≡◌, Ok, Err, sym, ap, subst, ◌∙◌}
use Rattle.std.proofs.lemmas.Result.{on_ok_weaker, on_err_weaker}
use Rattle.std.specs.List.{insert as insert_at}
use Rattle.pg_graph.specs.Labels.{names_of}
use Rattle.pg_graph.specs.Records.{AreLabels, with_label}
use Rattle.pg_graph.specs.Sorted.{IsPlace}
use Rattle.pg_graph.proofs.NamedChanges.{by_result}
use Rattle.pg_graph.proofs.SortedLists.{put_itself, put_missing, put_rises}
use Rattle.pg_graph.proofs.labels.Labels.insert.Goals as goal

pub returns-in-Ok-clause-ok : goal.returns-in-Ok-clause-ok
returns-in-Ok-clause-ok c =
    let names = names_of c.self.inside.held in
    let at : IsPlace (λ n. n) c.args.name names (Ok c.in-Ok._there) =
    subst (λ k. IsPlace (λ n. n) k names (Ok c.in-Ok._there)) c.number.ensures (subst (λ xs. IsPlace (λ n. n) c.number.result xs (Ok c.in-Ok._there)) c.as_slice.ensures c.in-Ok.ensures) in
    subst (λ xs. xs ≡ with_label xs c.args.name) c.self.view_is (sym (put_itself c.args.name names c.in-Ok._there c.self.invariant at.0 at.1))

-- what the names would be with the new one at its place
placed : (c : goal.After-insert) → insert_at (names_of c.self.inside.held) c.in-Err.place c.args.name ≡ with_label (names_of c.self.inside.held) c.args.name
placed c =
    let names = names_of c.self.inside.held in
    let at : IsPlace (λ n. n) c.args.name names (Err c.in-Err.place) =
    subst (λ k. IsPlace (λ n. n) k names (Err c.in-Err.place)) c.number.ensures (subst (λ xs. IsPlace (λ n. n) c.number.result xs (Err c.in-Err.place)) c.as_slice.ensures c.in-Err.ensures) in
    sym (put_missing (λ n. n) c.args.name names c.in-Err.place at.0 at.1)

pub invariant_of-self : goal.invariant_of-self
invariant_of-self c =
    by_result c.insert.result
    (on_ok_weaker c.insert.result (λ is. subst AreLabels (sym (is ∙ placed c)) (put_rises (λ n. n) c.args.name (names_of c.self.inside.held) c.self.invariant)) c.insert.ensures.ok)
    (on_err_weaker c.insert.result (λ is. subst AreLabels (sym is) c.self.invariant) c.insert.ensures.err)

pub returns-in-Err-clause-ok : goal.returns-in-Err-clause-ok
returns-in-Err-clause-ok c =
    on_ok_weaker c.insert.result (λ is. is ∙ placed c ∙ ap (λ xs. with_label xs c.args.name) c.self.view_is) c.insert.ensures.ok

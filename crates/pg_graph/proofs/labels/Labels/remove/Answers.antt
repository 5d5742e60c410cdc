use Rattle.std.proofs.Common.{◌≡◌, Ok, Err, sym, ap, subst, ◌∙◌}
use Rattle.pg_graph.specs.Labels.{names_of}
use Rattle.pg_graph.specs.Records.{AreLabels, without_label}
use Rattle.pg_graph.specs.Sorted.{IsPlace}
use Rattle.pg_graph.proofs.SortedLists.{without_found, without_missing, without_rises}
use Rattle.pg_graph.proofs.labels.Labels.remove.Goals as goal

-- what the names are without the one at the place that was found
left : (c : goal.After-remove) → names_of c.remove.new.self ≡ without_label (names_of c.self.inside.held) c.args.name
left c =
    let names = names_of c.self.inside.held in
    let at : IsPlace (λ n. n) c.args.name names (Ok c.in-Ok.place) =
    subst (λ k. IsPlace (λ n. n) k names (Ok c.in-Ok.place)) c.number.ensures (subst (λ xs. IsPlace (λ n. n) c.number.result xs (Ok c.in-Ok.place)) c.as_slice.ensures c.in-Ok.ensures) in
    c.remove.ensures ∙ sym (without_found (λ n. n) c.args.name names c.in-Ok.place c.self.invariant at.0 at.1)

pub invariant_of-self : goal.invariant_of-self
invariant_of-self c = subst AreLabels (sym (left c)) (without_rises (λ n. n) c.args.name (names_of c.self.inside.held) c.self.invariant)

pub returns-in-Ok-clause-removed : goal.returns-in-Ok-clause-removed
returns-in-Ok-clause-removed c = left c ∙ ap (λ xs. without_label xs c.args.name) c.self.view_is

pub returns-in_default-clause-removed : goal.returns-in_default-clause-removed
returns-in_default-clause-removed c =
    let names = names_of c.self.inside.held in
    let at : IsPlace (λ n. n) c.args.name names (Err c.in_default.field-0) =
    subst (λ k. IsPlace (λ n. n) k names (Err c.in_default.field-0)) c.number.ensures (subst (λ xs. IsPlace (λ n. n) c.number.result xs (Err c.in_default.field-0)) c.as_slice.ensures c.in_default.ensures) in
    subst (λ xs. xs ≡ without_label xs c.args.name) c.self.view_is (sym (without_missing (λ n. n) c.args.name names c.in_default.field-0 at.1))

use Rattle.std.proofs.Common.{rules, Ok, Err, sym, subst, ◌∙◌}
use Rattle.pg_graph.specs.Sorted.{IsPlace, Rises}
use Rattle.pg_graph.proofs.SortedLists.{without_found, without_missing, without_rises}
use Rattle.pg_graph.proofs.sorted.remove.Goals as goal

pub returns-in-Ok-clause-removed : goal.returns-in-Ok-clause-removed
returns-in-Ok-clause-removed g c =
    let items = c.args.items.now.items in
    let number = g.T.Numbered.number in
    let at : IsPlace number c.args.number items (Ok c.in-Ok.i) = subst (λ xs. IsPlace number c.args.number xs (Ok c.in-Ok.i)) c.as_slice.ensures c.in-Ok.ensures in
    c.remove.ensures.items ∙ sym (without_found number c.args.number items c.in-Ok.i c.requires at.0 at.1)

pub returns-in-Ok-clause-rises : goal.returns-in-Ok-clause-rises
returns-in-Ok-clause-rises g c = subst (Rises g.T.Numbered.number) (sym (returns-in-Ok-clause-removed g c)) (without_rises g.T.Numbered.number c.args.number c.args.items.now.items c.requires)

pub returns-in_default-clause-removed : goal.returns-in_default-clause-removed
returns-in_default-clause-removed g c =
    let items = c.args.items.now.items in
    let number = g.T.Numbered.number in
    let at : IsPlace number c.args.number items (Err c.in_default.field-0) = subst (λ xs. IsPlace number c.args.number xs (Err c.in_default.field-0)) c.as_slice.ensures c.in_default.ensures in
    sym (without_missing number c.args.number items c.in_default.field-0 at.1)

pub place-requires : goal.place-requires
place-requires g c = subst (Rises g.T.Numbered.number) (sym c.as_slice.ensures) c.requires

pub returns-in_default-clause-rises : goal.returns-in_default-clause-rises
returns-in_default-clause-rises g c = c.requires

pub remove-requires : goal.remove-requires
remove-requires g c = (search rules, (subst (λ xs. IsPlace g.T.Numbered.number c.args.number xs (Ok c.in-Ok.i)) c.as_slice.ensures c.in-Ok.ensures).0)

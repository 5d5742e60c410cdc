use Rattle.std.proofs.Common.{Option, Some, None, IsSome, MutBor, refl, subst, sym, ap, ◌∙◌}
use Rattle.std.specs.Option.{option_copied_mut}
use Rattle.std.specs.FinMap as map
use Rattle.pg_graph.proofs.Maps.{entries_inserted, get_of_entries}
use Rattle.pg_graph.proofs.by_id.ById.replace.Goals as goal

lent_some : {X : Type 0} (r : Option (MutBor X)) → IsSome (option_copied_mut r) → IsSome r
lent_some None h = h
lent_some (Some x) h = refl

pub unwrap-requires : goal.unwrap-requires
unwrap-requires g c =
    lent_some c.get_mut.result (subst IsSome (ap (λ m. map.get m c.args.id) (sym c.self.view_is) ∙ get_of_entries _ _ ∙ sym c.get_mut.ensures.value) c.requires)

pub returns-clause-before : goal.returns-clause-before
returns-clause-before g c =
    ap (λ m. map.get m c.args.id) (sym c.self.view_is) ∙ get_of_entries _ _ ∙ sym c.get_mut.ensures.value
    ∙ ap option_copied_mut c.unwrap.ensures ∙ ap Some (sym c.replace.ensures.value)

pub returns-clause-replaced : goal.returns-clause-replaced
returns-clause-replaced g c =
    let present = subst IsSome (ap (λ m. map.get m c.args.id) (sym c.self.view_is) ∙ get_of_entries _ _) c.requires in
    entries_inserted c.self.inside.kept.entries _ c.args.id c.replace.new.dest ((c.get_mut.follows.holds c.replace.new.dest).3 present).0
    ∙ ap (λ v. map.insert (map.from_entries c.self.inside.kept.entries) c.args.id v) c.replace.ensures.after
    ∙ ap (λ m. map.insert m c.args.id c.args.value) c.self.view_is

use Rattle.std.proofs.Common.{◌==◌, ℕ, Bool, not, sym, ap, subst, ◌∙◌}
use Rattle.std.specs.List.{list_any}
use Rattle.pg_graph.proofs.Blanks.{filter_rises, map_kept}
use Rattle.pg_graph.proofs.Entries.{map_of}
use Rattle.pg_graph.proofs.properties.Properties.remove_keys.Goals as goal
use Rattle.pg_graph.specs.Records.{AreEntries, Properties, without_keys}
use Rattle.pg_value_core.specs.View.{view}

pub invariant_of-self : goal.invariant_of-self
invariant_of-self c = subst AreEntries (sym c.remove_keys.ensures) (filter_rises (λ e. not (list_any (λ k. k == e.0) c.args.keys.now)) (λ e. e.0) c.self.inside.entries.items c.self.invariant)

pub returns : goal.returns
returns c =
    let test : ℕ → Bool = λ key. not (list_any (λ k. k == key) c.args.keys.now) in
    ap (map_of view) c.remove_keys.ensures ∙ map_kept test c.self.inside.entries.items c.self.invariant
    ∙ ap (λ (ps : Properties). without_keys ps c.args.keys.now) c.self.view_is

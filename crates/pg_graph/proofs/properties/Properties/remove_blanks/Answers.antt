use Rattle.std.proofs.Common.{not, sym, ap, subst, ◌∙◌}
use Rattle.std.specs.FinMap as map
use Rattle.pg_graph.proofs.Blanks.{blanks_removed, filter_rises}
use Rattle.pg_graph.specs.Blank.{is_null}
use Rattle.pg_graph.specs.Records.{AreEntries, shown}
use Rattle.pg_value_core.specs.View.{view}
use Rattle.pg_graph.proofs.properties.Properties.remove_blanks.Goals as goal

pub invariant_of-self : goal.invariant_of-self
invariant_of-self c = subst AreEntries (sym c.remove_blank_entries.ensures) (filter_rises (λ e. not (is_null (view e.1))) (λ e. e.0) c.self.inside.entries.items c.self.invariant)

pub returns : goal.returns
returns c = λ key. blanks_removed key c.self.inside.entries.items _ c.self.invariant c.remove_blank_entries.ensures ∙ ap (λ m. shown (map.get m key)) c.self.view_is

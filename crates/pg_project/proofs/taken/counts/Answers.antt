use Rattle.std.proofs.Common.{map, option_map, sym, ap, ◌∙◌}
use Rattle.indexmap.specs.IndexSet.{insert_key}
use Rattle.std.specs.List.{list_any}
use Rattle.pg_project.proofs.Different.{fresh, known, same}
use Rattle.pg_project.specs.Summaries.{taken_with}
use Rattle.pg_value_core.specs.View.{view}
use Rattle.pg_project.proofs.taken.counts.Goals as goal

pub returns-then-contains : goal.returns-then-contains
returns-then-contains c =
    let value = c.args.value.now in
    λ h.
    ap (λ o. taken_with (record { different = option_map (λ s. map view s.value.keys) o; held = h }) (view value)) c.in-Some.is
    ∙ known c.in-Some.different.value.keys value (sym c.is_null.ensures ∙ c.if-is_null.false) (ap (λ s. list_any (same value) s.keys) (sym c.deref.ensures) ∙ sym c.contains.ensures ∙ c.if-contains.true) h

pub returns : goal.returns
returns c =
    let value = c.args.value.now in
    λ h.
    ap (λ o. taken_with (record { different = option_map (λ s. map view s.value.keys) o; held = h }) (view value)) c.in-Some.is
    ∙ fresh c.in-Some.different.value.keys value (sym c.is_null.ensures ∙ c.if-is_null.false) c.in_ok-copy.field-0 c.insert.new.self.keys c.in_ok-copy.ensures (c.in_ok-insert.ensures.keys ∙ ap (λ s. insert_key same s.keys c.in_ok-copy.field-0) c.deref_mut.ensures.value) (ap (λ s. list_any (same value) s.keys) (sym c.deref.ensures) ∙ sym c.contains.ensures ∙ c.if-contains.false) h

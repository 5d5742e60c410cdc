use Rattle.std.proofs.Common.{◌≡◌, ℕ, Option, Some, None, IfSome, option_copied, sym, ap, ◌∙◌}
use Rattle.std.specs.FinMap as map
use Rattle.std.specs.Borrow.{Bor}
use Rattle.std.specs.Prelude.{IfNone}
use Rattle.pg_graph.proofs.Maps.{get_inserted, get_removed}
use Rattle.pg_graph.specs.Records.{Properties, given_back}
use Rattle.pg_meaning.specs.Value as meaning
use Rattle.pg_store.proofs.BlankPlaces.{there_without}
use Rattle.pg_store.proofs.Edited.{given_back_elsewhere}
use Rattle.pg_store.proofs.edits.PropertiesBefore.value.Goals as goal
use Rattle.pg_store.specs.Edits.{properties_before}
use Rattle.pg_store.specs.declared.edits.PropertiesBefore.{PropertiesBefore}
use Rattle.pg_store.specs.declared.edits.PropertiesBefore.TheVariants as before_of
use Rattle.pg_value_core.specs.View.{view}
use Rattle.pg_value_core.specs.declared.value.Value.{Value}

was_some : (found : Option (Bor Value)) (key changed : ℕ) (before : Option Value) (self : PropertiesBefore) → self ≡ before_of.Key changed before → changed ≡ key → option_copied found ≡ before
    → IfSome found (λ v. (ps : Properties) → map.get (properties_before self ps) key ≡ Some (view v.now))
was_some None key changed before self is same at = tt
was_some (Some v) key changed before self is same at = λ ps.
    ap (λ b. map.get (properties_before b ps) key) is ∙ ap (λ o. map.get (given_back ps changed o) key) (sym at) ∙ ap (map.get (map.insert ps changed (view v.now))) (sym same) ∙ get_inserted ps changed (view v.now)

was_none : (found : Option (Bor Value)) (key changed : ℕ) (before : Option Value) (self : PropertiesBefore) → self ≡ before_of.Key changed before → changed ≡ key → option_copied found ≡ before
    → IfNone found ((ps : Properties) (w : meaning.Value) → map.get (properties_before self ps) key ≡ Some w → map.get ps key ≡ Some w)
was_none (Some v) key changed before self is same at = tt
was_none None key changed before self is same at = λ ps w h.
    let gone = ap (λ b. map.get (properties_before b ps) key) is ∙ ap (λ o. map.get (given_back ps changed o) key) (sym at) ∙ ap (map.get (map.remove ps changed)) (sym same) ∙ get_removed ps changed in
    absurd (cc (gone, h))

pub returns-in-Key-clause-some : goal.returns-in-Key-clause-some
returns-in-Key-clause-some c = was_some c.as_ref.result c.args.key c.in-Key.changed c.in-Key.value c.args.self.now c.in-Key.is (sym c.as_u64.ensures ∙ c.if-as_u64.true ∙ c.as_u64-in-Key-1.ensures) c.as_ref.ensures.value

pub returns-in-Key-clause-none : goal.returns-in-Key-clause-none
returns-in-Key-clause-none c = was_none c.as_ref.result c.args.key c.in-Key.changed c.in-Key.value c.args.self.now c.in-Key.is (sym c.as_u64.ensures ∙ c.if-as_u64.true ∙ c.as_u64-in-Key-1.ensures) c.as_ref.ensures.value

pub returns-in-Key-2-clause-none : goal.returns-in-Key-2-clause-none
returns-in-Key-2-clause-none c = λ ps w h. sym (ap (λ b. map.get (properties_before b ps) c.args.key) c.in-Key.is ∙ given_back_elsewhere ps c.args.key c.in-Key.changed c.in-Key.value (λ same. c.if-as_u64.false (c.as_u64.ensures ∙ sym same ∙ sym c.as_u64-in-Key-1.ensures))) ∙ h

pub returns-in-Places-clause-none : goal.returns-in-Places-clause-none
returns-in-Places-clause-none c = λ ps w h. there_without c.in-Places.field-0.items ps c.args.key w (sym (ap (λ b. map.get (properties_before b ps) c.args.key) c.in-Places.is) ∙ h)

use Rattle.std.proofs.Common.{◌≡◌, ℕ, List, length, map as map_list, sym, ap, subst, ◌∙◌}
use Rattle.std.specs.FinMap as map
use Rattle.pg_graph.specs.Records.{Properties, with_blanks}
use Rattle.pg_graph.specs.Refinement.{AreNamed, named_entries, property_entries}
use Rattle.pg_meaning.specs.Value.{Value, no_entries}
use Rattle.pg_store.proofs.BlankPlaces.{blanks_named, blanks_show_nothing}
use Rattle.pg_store.proofs.Stores.{nothing_held}
use Rattle.pg_store.proofs.places.blank_properties.Goals as goal

shows_none : (names : List (List ℕ)) (ps : Properties) → ps ≡ map.empty → property_entries names ps ≡ no_entries
shows_none names ps is = ap (property_entries names) is ∙ ap (named_entries names) (nothing_held Value)

none_named : (names : List (List ℕ)) (ps : Properties) → ps ≡ map.empty → AreNamed names (map.keys ps)
none_named names ps is = subst (λ (qs : Properties). AreNamed names (map.keys qs)) (sym is) (subst (λ (es : List (ℕ × Value)). AreNamed names (map_list (λ e. e.0) es)) (sym (nothing_held Value)) tt)

pub returns-then-len-le-FEW_NEW_KEYS-clause-none : goal.returns-then-len-le-FEW_NEW_KEYS-clause-none
returns-then-len-le-FEW_NEW_KEYS-clause-none g c = shows_none c.args.names.now c.in_ok-properties.properties c.in_ok-properties.ensures

pub returns-then-len-le-FEW_NEW_KEYS-clause-named : goal.returns-then-len-le-FEW_NEW_KEYS-clause-named
returns-then-len-le-FEW_NEW_KEYS-clause-named g c = none_named c.args.names.now c.in_ok-properties.properties c.in_ok-properties.ensures

pub returns-clause-none : goal.returns-clause-none
returns-clause-none g c =
    let names = c.keys_of.new.names in
    let ps = c.in_ok-properties.properties in
    let places = c.in_ok-places.places.items in
    let inside = c.in_ok-places.ensures.bounded (length names) (subst (AreNamed names) (sym c.as_slice.ensures.value) c.in_ok-keys.ensures.named) in
    ap (property_entries names) (c.in_ok-insert_blanks.ensures.ok ∙ ap (with_blanks ps) c.as_slice-2.ensures.value)
    ∙ blanks_show_nothing names c.keys_of.ensures.distinct places ps inside (none_named names ps c.in_ok-properties.ensures) c.in_ok-places.ensures.absent
    ∙ shows_none names ps c.in_ok-properties.ensures

pub returns-clause-named : goal.returns-clause-named
returns-clause-named g c =
    let names = c.keys_of.new.names in
    let ps = c.in_ok-properties.properties in
    let places = c.in_ok-places.places.items in
    let inside = c.in_ok-places.ensures.bounded (length names) (subst (AreNamed names) (sym c.as_slice.ensures.value) c.in_ok-keys.ensures.named) in
    subst (λ (qs : Properties). AreNamed names (map.keys qs)) (sym (c.in_ok-insert_blanks.ensures.ok ∙ ap (with_blanks ps) c.as_slice-2.ensures.value))
    (blanks_named names c.keys_of.ensures.distinct places ps inside (none_named names ps c.in_ok-properties.ensures))

use Rattle.std.proofs.Common.{IsSome, refl, sym, ap, subst, ◌∙◌}
use Rattle.std.specs.FinMap as map
use Rattle.pg_graph.proofs.Maps.{get_inserted}
use Rattle.pg_graph.specs.Records.{Properties, given_back, with_blanks, without_keys}
use Rattle.pg_store.proofs.BlankPlaces.{blanks_taken}
use Rattle.pg_store.proofs.Edited.{given_back_is}
use Rattle.pg_store.proofs.edits.exchange.Goals as goal
use Rattle.pg_store.specs.Edits.{CanChange}
use Rattle.pg_store.specs.declared.edits.PropertyChange.{PropertyChange}
use Rattle.pg_value_core.specs.View.{view}

pub returns-in_ok-before-in-Key-clause-back : goal.returns-in_ok-before-in-Key-clause-back
returns-in_ok-before-in-Key-clause-back c =
    ap (λ (ps : Properties). given_back ps c.in-Key.key c.in_ok-before-in-Key.before) c.in_ok-before-in-Key.ensures.ok
    ∙ given_back_is c.args.properties.now c.in-Key.key (view c.in-Key.value) c.in_ok-before-in-Key.before c.in_ok-before-in-Key.ensures.before

pub returns-in_ok-before-in-Key-clause-can : goal.returns-in_ok-before-in-Key-clause-can
returns-in_ok-before-in-Key-clause-can c =
    subst IsSome (sym (ap (λ (ps : Properties). map.get ps c.in-Key.key) c.in_ok-before-in-Key.ensures.ok ∙ get_inserted c.args.properties.now c.in-Key.key (view c.in-Key.value))) refl

pub returns-in_ok-insert_blanks-in-Places-clause-back : goal.returns-in_ok-insert_blanks-in-Places-clause-back
returns-in_ok-insert_blanks-in-Places-clause-back c =
    let ps = c.args.properties.now in
    let keys = c.in-Places.keys.items in
    ap (λ (qs : Properties). without_keys qs keys) (c.in_ok-insert_blanks-in-Places.ensures.ok ∙ ap (with_blanks ps) c.as_slice.ensures.value)
    ∙ blanks_taken keys ps (subst (λ (change : PropertyChange). CanChange change ps) c.in-Places.is c.requires).1

pub returns-in_ok-insert_blanks-in-Places-clause-can : goal.returns-in_ok-insert_blanks-in-Places-clause-can
returns-in_ok-insert_blanks-in-Places-clause-can c = (subst (λ (change : PropertyChange). CanChange change c.args.properties.now) c.in-Places.is c.requires).0

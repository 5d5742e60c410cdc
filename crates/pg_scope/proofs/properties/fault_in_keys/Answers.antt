use Rattle.std.proofs.Common.{[], ◌∷◌, map, refl, sym, ap, subst, string_bytes, ◌∙◌}
use Rattle.pg_meaning.specs.Parse.{pairs_of}
use Rattle.pg_meaning.specs.StaticFaults.{found_if, key_faults, least}
use Rattle.pg_meaning.specs.declared.fault.Fault.TheVariants.{BadPattern}
use Rattle.pg_scope.proofs.FirstLemmas.{in_turn, items_end, walk_past, walked}
use Rattle.pg_scope.proofs.NameLemmas.{more_names, stood_before}
use Rattle.pg_scope.proofs.ScopeLemmas.{same_self}
use Rattle.pg_scope.specs.First.{IsFirst}
use Rattle.pg_scope.specs.Names.{names_in, HasSame}
use Rattle.pg_syntax_tree.specs.View.{pair_view}
use Rattle.pg_scope.proofs.properties.fault_in_keys.Goals as goal

pub loop-key-preserved : goal.loop-key-preserved
loop-key-preserved c =
    let (done, same, rest) = c.loop-key.invariant in
    let x = c.loop-key-item.result in
    let text = string_bytes x.0.text in
    let outer = names_in c.args.outer.now in
    let noted = subst (λ b. IsFirst c.loop-key.first (found_if b x.0.place BadPattern) c.noted-first.result) (stood_before _ c.in_ok-again.ensures.added c.as_str.ensures.value same) c.noted-first.ensures in (
      text ∷ done,
      more_names c.in_ok-again.ensures.names c.as_str.ensures.value same,
      rest ∙ walk_past (λ ys. key_faults outer done (pairs_of (map pair_view ys))) (λ ys. key_faults outer (text ∷ done) (pairs_of (map pair_view ys))) (λ ys. refl)
          c.loop-key-test.true c.loop-key-item.is c.deref-key-items.ensures.value (in_turn noted c.fault_in_expression-first.ensures),
    )

pub loop-key-init : goal.loop-key-init
loop-key-init c = ([], subst (λ ks. HasSame (map (λ k. k.now) ks) []) (sym c.new-before.ensures.empty) (same_self []), refl)

pub returns : goal.returns
returns c =
    let (done, same, rest) = c.loop-key.invariant in
    let outer = names_in c.args.outer.now in
    let first = c.loop-key.first in
    walked c.args.first first (key_faults outer [] (pairs_of (map pair_view c.args.pairs.now.items)))
    (rest ∙ ap (λ ys. least first (key_faults outer done (pairs_of (map pair_view ys)))) (items_end c.loop-key-test.false c.deref-key-items.ensures.value))

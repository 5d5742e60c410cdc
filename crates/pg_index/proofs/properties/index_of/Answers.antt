use Rattle.std.proofs.Common.{◌≡◌, true, sym, subst, ◌∙◌}
use Rattle.pg_index.proofs.PropertyLemmas.{member_finds}
use Rattle.pg_index.proofs.properties.index_of.Goals as goal
use Rattle.pg_index.specs.Properties.{finds, is_for}

pub returns-then-is_for-clause-some : goal.returns-then-is_for-clause-some
returns-then-is_for-clause-some c = λ v i h.
    let item = c.property-item.result in
    let here = subst (λ x. is_for x c.args.label c.args.key ≡ true) c.property-item.is (sym c.is_for.ensures ∙ c.if-is_for.true) in
    subst (λ x. finds x v i ≡ true) (sym c.property-item.is) (member_finds c.args.indexes.now c.loop-property.property-index item c.args.label c.args.key v i c.loop-property-test.true here h)

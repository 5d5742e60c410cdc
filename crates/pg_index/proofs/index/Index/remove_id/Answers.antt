use Rattle.std.proofs.Common.{sym, ◌∙◌}
use Rattle.std.proofs.lemmas.Cmp.{eq_by_cmp_equiv}
use Rattle.pg_index.proofs.Indexes.{nothing_lent, nothing_there}
use Rattle.pg_index.proofs.KeptLemmas.{with_set, without_set}
use Rattle.pg_index.proofs.index.Index.remove_id.Goals as goal

pub returns-in_default : goal.returns-in_default
returns-in_default g c = nothing_there (eq_by_cmp_equiv g.met.K.Ord.total) c.args.self.now.sets.entries _ c.args.key.now c.args.id (λ i. (c.get_mut.follows.holds-at-none i).entries) (sym c.get_mut.ensures.value ∙ nothing_lent c.get_mut.result c.in_default.not-Some)

pub invariant_of-self-then-is_empty : goal.invariant_of-self-then-is_empty
invariant_of-self-then-is_empty g c =
    let old = c.args.self.now in
    record { none_is_empty = without_set _ old.sets.entries _ c.remove.new.self.entries c.remove_id.new.self (c.get_mut.follows.holds c.remove_id.new.self).0 c.remove.ensures.entries old.none_is_empty }

pub invariant_of-self-else-is_empty : goal.invariant_of-self-else-is_empty
invariant_of-self-else-is_empty g c =
    let old = c.args.self.now in
    record {
      none_is_empty = with_set _ old.sets.entries _ c.remove_id.new.self (c.get_mut.follows.holds c.remove_id.new.self).0 old.none_is_empty
          (λ empty. let is = c.is_empty.ensures.exact empty in absurd (cc (is, c.if-is_empty.false)));
    }

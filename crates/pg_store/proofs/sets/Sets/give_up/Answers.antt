use Rattle.std.proofs.Common.{◌≡◌, ◌<◌, ℕ, true, filter, length, get_or, refl, sym, ap, subst, ◌∙◌}
use Rattle.std.specs.List.{remove}
use Rattle.pg_index.specs.Properties.{all_find, has_pair, is_for, pairs_of, some_finds}
use Rattle.pg_store.proofs.GainLemmas.{all_others, fewer_finds, is_other, other_pairs}
use Rattle.pg_store.proofs.Indexed.{fewer_find}
use Rattle.pg_store.proofs.sets.Sets.give_up.Goals as goal
use Rattle.pg_store.specs.Covers.{Key, every, with_label, with_value}
use Rattle.pg_store.specs.Noted.{is_in}
use Rattle.pg_store.specs.declared.sets.Sets.{Sets}

-- one index fewer
less_in : (old new : Sets) (at : ℕ) → new.all ≡ old.all → new.labels ≡ old.labels → new.indexes.items ≡ remove old.indexes.items at → (k : Key) (i : ℕ) → is_in new k i ≡ true → is_in old k i ≡ true
less_in old new at all labels items every i h = ap (λ ids. is_in (record old { all = ids }) every i) (sym all) ∙ h
less_in old new at all labels items (with_label l) i h = ap (λ ids. is_in (record old { labels = ids }) (with_label l) i) (sym labels) ∙ h
less_in old new at all labels items (with_value l k v) i h = fewer_finds old.indexes.items at l k v i (ap (λ xs. some_finds xs l k v i) (sym items) ∙ h)

pub loop-position-preserved : goal.loop-position-preserved
loop-position-preserved c =
    let was = c.loop-position.invariant in
    let now = c.loop-position.self in
    let at = c.in-Some.position in
    let value = c.as_slice.ensures.value in
    let d = c.remove.result in
    record {
      all = was.all;
      labels = was.labels;
      stale_ids = was.stale_ids;
      fewer = λ label key v i h.
          ap (λ xs. all_find xs label key v i) c.remove.ensures.items
          ∙ fewer_find now.indexes.items at label key v i (was.fewer label key v i h);
      less = λ k i h. was.less k i (less_in now (record now { indexes = c.remove.new.self }) at refl refl c.remove.ensures.items k i h);
      others = ap (λ xs. filter (is_other c.args.label c.args.key) (pairs_of xs)) c.remove.ensures.items
          ∙ other_pairs c.args.label c.args.key now.indexes.items at d
          (subst (λ xs. at < length xs) value c.in-Some.ensures.some)
          (ap (λ xs. is_for (get_or xs at d) c.args.label c.args.key) (sym value) ∙ c.in-Some.ensures.is d)
          ∙ was.others;
    }

pub returns-clause-pairs : goal.returns-clause-pairs
returns-clause-pairs c =
    let was = c.loop-position.invariant in
    all_others c.args.label c.args.key (pairs_of c.loop-position.self.indexes.items) (ap (λ xs. has_pair (c.args.label, c.args.key) (pairs_of xs)) (sym c.as_slice.ensures.value) ∙ sym c.in_default.ensures.there) ∙ was.others

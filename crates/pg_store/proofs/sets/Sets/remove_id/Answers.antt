use Rattle.std.proofs.Common.{◌≡◌, ◌==◌, not, arith, refl, sym, ap, ◌∙◌}
use Rattle.std.specs.Prelude.{◌&&◌}
use Rattle.std.proofs.lemmas.List.{with_items_is}
use Rattle.std.specs.Vec.{with_items}
use Rattle.pg_index.specs.Properties.{all_find, pairs_of, some_finds}
use Rattle.pg_store.proofs.GainLemmas.{all_left, label_left, values_left}
use Rattle.pg_store.proofs.SetLemmas.{label_loses, all_loses, alike_when, values_lose}
use Rattle.pg_store.proofs.sets.Sets.remove_id.Goals as goal
use Rattle.pg_store.specs.Covers.{with_label, with_value, belongs}
use Rattle.pg_store.specs.Noted.{is_in, same_key}
use Rattle.pg_store.specs.Wanted.{place_key}

pub returns-in-All-clause-lost : goal.returns-in-All-clause-lost
returns-in-All-clause-lost c = λ k i was now.
    let lost = all_loses c.args.self.now (record c.args.self.now { all = c.remove_id.new.self }) c.args.id refl refl c.remove_id.ensures k i was now in
    (alike_when k (place_key c.args.place.now) (lost.0 ∙ ap place_key (sym c.in-All.is)), lost.1)

pub returns-in-Labelled-clause-lost : goal.returns-in-Labelled-clause-lost
returns-in-Labelled-clause-lost c = λ k i was now.
    let lost = label_loses c.args.self.now (record c.args.self.now { labels = c.remove_id-in-Labelled.new.self }) c.args.id c.as_u64.result refl refl c.remove_id-in-Labelled.ensures k i was now in
    (alike_when k (place_key c.args.place.now) (lost.0 ∙ ap with_label c.as_u64.ensures ∙ ap place_key (sym c.in-Labelled.is)), lost.1)

pub returns-in-Valued-clause-lost : goal.returns-in-Valued-clause-lost
returns-in-Valued-clause-lost c = λ k i was now.
    let old = c.args.self.now in
    let items : (with_items old.indexes c.remove_valued.new.indexes).items ≡ c.remove_valued.new.indexes = with_items_is old.indexes c.remove_valued.new.indexes (omega (arith, c.remove_valued.auto.indexes, c.as_mut_slice.ensures.len)) in
    let lost = values_lose old (record old { indexes = with_items old.indexes c.remove_valued.new.indexes }) c.in-Valued.label c.in-Valued.key c.in-Valued.value c.args.id refl refl
    (λ l q v j h gone. c.remove_valued.ensures.lost l q v j (ap (λ xs. all_find xs l q v j) c.as_mut_slice.ensures.value ∙ h) (sym (ap (λ xs. all_find xs l q v j) items) ∙ gone)) k i was now in
    ((λ n. lost.0 n ∙ ap (λ p. belongs (place_key p) n) (sym c.in-Valued.is)), lost.1)

pub returns-in-All-clause-left : goal.returns-in-All-clause-left
returns-in-All-clause-left c = λ k i.
    all_left c.args.self.now (record c.args.self.now { all = c.remove_id.new.self }) c.args.id refl c.remove_id.ensures refl k i
    ∙ ap (λ p. is_in c.args.self.now k i && not (same_key (place_key p) k && c.args.id == i)) (sym c.in-All.is)

pub returns-in-Labelled-clause-left : goal.returns-in-Labelled-clause-left
returns-in-Labelled-clause-left c = λ k i.
    label_left c.args.self.now (record c.args.self.now { labels = c.remove_id-in-Labelled.new.self }) c.args.id refl c.as_u64.result refl c.remove_id-in-Labelled.ensures k i
    ∙ ap (λ l. is_in c.args.self.now k i && not (same_key (with_label l) k && c.args.id == i)) c.as_u64.ensures
    ∙ ap (λ p. is_in c.args.self.now k i && not (same_key (place_key p) k && c.args.id == i)) (sym c.in-Labelled.is)

pub returns-in-Valued-clause-left : goal.returns-in-Valued-clause-left
returns-in-Valued-clause-left c = λ k i.
    let old = c.args.self.now in
    let items : (with_items old.indexes c.remove_valued.new.indexes).items ≡ c.remove_valued.new.indexes = with_items_is old.indexes c.remove_valued.new.indexes (omega (arith, c.remove_valued.auto.indexes, c.as_mut_slice.ensures.len)) in
    values_left old (record old { indexes = with_items old.indexes c.remove_valued.new.indexes }) c.in-Valued.label c.in-Valued.key c.in-Valued.value c.args.id refl refl
    (λ l q v j.
    ap (λ xs. some_finds xs l q v j) items ∙ c.remove_valued.ensures.left l q v j
    ∙ ap (λ xs. some_finds xs l q v j && not (same_key (with_value c.in-Valued.label c.in-Valued.key c.in-Valued.value) (with_value l q v) && c.args.id == j)) c.as_mut_slice.ensures.value) k i
    ∙ ap (λ p. is_in old k i && not (same_key (place_key p) k && c.args.id == i)) (sym c.in-Valued.is)

pub returns-in-Valued-clause-pairs : goal.returns-in-Valued-clause-pairs
returns-in-Valued-clause-pairs c =
    let old = c.args.self.now in
    let items : (with_items old.indexes c.remove_valued.new.indexes).items ≡ c.remove_valued.new.indexes = with_items_is old.indexes c.remove_valued.new.indexes (omega (arith, c.remove_valued.auto.indexes, c.as_mut_slice.ensures.len)) in
    ap pairs_of items ∙ c.remove_valued.ensures.pairs ∙ ap pairs_of c.as_mut_slice.ensures.value

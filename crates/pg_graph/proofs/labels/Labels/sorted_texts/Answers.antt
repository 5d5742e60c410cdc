use Rattle.std.proofs.Common.{◌≡◌, ◌+◌, ℕ, List, [], ◌∷◌, Bor, Global, Vec, vec_len, Result, Ok, Err, IfOk, Ordering, Less, Equal, Greater, drop, length, map as map_list, refl, sym, ap, ◌∙◌}
use Rattle.std.proofs.lemmas.List.{at_drop_more, drop_all}
use Rattle.std.specs.BTreeSet.{insert_key}
use Rattle.std.specs.Cmp.Lexicographic.{slice_cmp}
use Rattle.std.specs.Iterator.{DrainsIf, Yields}
use Rattle.std.specs.Option.{MatchOption}
use Rattle.std.specs.Ordering.{nat_cmp, match_ordering}
use Rattle.std.specs.Result.{IsErr}
use Rattle.pg_graph.proofs.NamedChanges.{text_is}
use Rattle.pg_graph.proofs.labels.Labels.sorted_texts.Goals as goal
use Rattle.pg_graph.specs.Refinement.{text_of}
use Rattle.pg_meaning.specs.Names.{put_texts}
use Rattle.pg_meaning.specs.Order.{text_order}

now_inserted : (ks : List (Bor (List ℕ))) (k : Bor (List ℕ)) → map_list (λ t. t.now) (insert_key (λ x y. slice_cmp nat_cmp x.now y.now) ks k) ≡ insert_key text_order (map_list (λ t. t.now) ks) k.now
now_inserted [] k = refl
now_inserted (x ∷ xs) k = by_order (slice_cmp nat_cmp k.now x.now) (now_inserted xs k)
  where
    by_order : (o : Ordering) → map_list (λ t. t.now) (insert_key (λ x y. slice_cmp nat_cmp x.now y.now) xs k) ≡ insert_key text_order (map_list (λ t. t.now) xs) k.now
        → map_list (λ t. t.now) (match_ordering o (k ∷ x ∷ xs) (x ∷ xs) (x ∷ insert_key (λ x y. slice_cmp nat_cmp x.now y.now) xs k))
        ≡ match_ordering o (k.now ∷ x.now ∷ map_list (λ t. t.now) xs) (x.now ∷ map_list (λ t. t.now) xs) (x.now ∷ insert_key text_order (map_list (λ t. t.now) xs) k.now)
    by_order Less rest = refl
    by_order Equal rest = refl
    by_order Greater rest = ap (λ r. x.now ∷ r) rest

fault_alone : {A E : Type 0} (P : A → Type 0) (r : Result A E) → IsErr r → IfOk r P
fault_alone P (Ok a) h = absurd cc
fault_alone P (Err e) h = tt

-- what is given until nothing is left is the list
all_given : {X : Type 0} (from xs rest : List X) → Yields (λ s r t. MatchOption r ((s ≡ []) × (t ≡ [])) (λ x. s ≡ x ∷ t)) from xs rest → rest ≡ [] → from ≡ xs
all_given from [] rest given e = given ∙ e
all_given from (x ∷ xs) rest given e = given.1 ∙ ap (λ ys. x ∷ ys) (all_given given.0 xs rest given.2 e)

gathered : {E : Type 0} {W : Vec (Bor (List ℕ)) Global → Type 0} {all : List (List ℕ)} (r : Result (Vec (Bor (List ℕ)) Global) E) (from : List (Bor (List ℕ))) → ((v : Vec (Bor (List ℕ)) Global) → W v)
    → IfOk r (λ v. (xs : List (Bor (List ℕ))) × DrainsIf (λ s r t. MatchOption r ((s ≡ []) × (t ≡ [])) (λ x. s ≡ x ∷ t)) (W v) from xs × ((v.items ≡ xs) × (vec_len v ≡ length xs)))
    → map_list (λ t. t.now) from ≡ all → IfOk r (λ v. map_list (λ t. t.now) v.items ≡ all)
gathered (Ok v) from always ran e = ap (map_list (λ t. t.now)) (ran.2.0 ∙ sym (all_given from ran.0 ran.1.0 ran.1.1 ((ran.1.2 (always v)).1.0))) ∙ e
gathered (Err e) from always ran h = tt

pub loop-label-preserved : goal.loop-label-preserved
loop-label-preserved g c =
    let names = c.args.names.now in
    let items = c.as_slice-label-items.result.now in
    let i = c.loop-label.label-index in
    let ks = c.loop-label.texts.keys in
    let texts : List (List ℕ) = map_list (λ t. t.now) ks in
    let rest = map_list (text_of names) (drop (i + 1) items) in
    ap (λ (keys : List (Bor (List ℕ))). put_texts rest (map_list (λ t. t.now) keys)) c.in_ok-insert.ensures.keys
    ∙ ap (put_texts rest) (now_inserted ks c.text.result)
    ∙ ap (λ t. put_texts rest (insert_key text_order texts t)) (sym (text_is names c.label-item.result c.text.result.now c.text.ensures))
    ∙ ap (λ n. put_texts (text_of names n ∷ rest) texts) c.label-item.is
    ∙ sym (at_drop_more (λ xs. put_texts (map_list (text_of names) xs) texts) items i c.label-item.result c.loop-label-test.true)
    ∙ c.loop-label.invariant

pub loop-label-init : goal.loop-label-init
loop-label-init g c =
    let names = c.args.names.now in
    ap (λ (keys : List (Bor (List ℕ))). put_texts (map_list (text_of names) c.as_slice-label-items.result.now) (map_list (λ t. t.now) keys)) c.new-texts.ensures.empty
    ∙ ap (λ (items : List ℕ). put_texts (map_list (text_of names) items) []) c.as_slice-label-items.ensures.names

pub collect-requires-clause-can : goal.collect-requires-clause-can
collect-requires-clause-can g c = tt

pub collect-requires-clause-finite : goal.collect-requires-clause-finite
collect-requires-clause-finite g c = tt

pub collect-requires-clause-can_collect : goal.collect-requires-clause-can_collect
collect-requires-clause-can_collect g c = λ xs rest given. tt

pub returns-in_err-insert : goal.returns-in_err-insert
returns-in_err-insert g c = fault_alone _ c.from_residual.result c.from_residual.ensures.0

pub returns : goal.returns
returns g c =
    let names = c.args.names.now in
    let items = c.as_slice-label-items.result.now in
    let keys = c.loop-label.texts.keys in
    let done = ap (λ (ns : List ℕ). put_texts (map_list (text_of names) ns) (map_list (λ t. t.now) keys)) (sym (drop_all c.loop-label.label-index items c.loop-label-test.false)) ∙ c.loop-label.invariant in
    gathered c.collect.result c.into_iter.result (λ v. tt) c.collect.ensures.ran (ap (map_list (λ t. t.now)) c.into_iter.ensures.into_iter_gives.0 ∙ done)

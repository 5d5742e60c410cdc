-- Names put into byte order, one after the other.
use Rattle.std.proofs.Common.{◌≡◌, ℕ, suc, ◌+◌, ◌<◌, ◌≤◌, List, [], ◌∷◌, ◌++◌, Bor, length, take, drop, get_or, Ordering, Less, Equal, Greater, refl, sym, ap, subst, ◌∙◌, arith}
use Rattle.std.proofs.lemmas.Cmp.{lists_total, nat_cmp_total}
use Rattle.std.proofs.lemmas.List.{drop-map, drop_more, map-append, take-append-drop, take_more, take-map}
use Rattle.std.specs.BTreeSet.{insert_key}
use Rattle.std.specs.Cmp.{IsTotalOrder}
use Rattle.std.specs.List.{AllByRecursion, insert}
use Rattle.std.specs.List.Sorted.{IsStrictlySortedBy}
use Rattle.std.specs.Ordering.{match_ordering, ordering_reverse}
use Rattle.pg_meaning.specs.Names.{Names, in_byte_order, put_texts}
use Rattle.pg_meaning.specs.Order.{text_order}
use Rattle.pg_rows.specs.Rising.{IsLastBelow}
use Rattle.pg_project.proofs.InTurn.{drop_none, joined, nothing_behind}
use Rattle.pg_project.specs.Columns.{texts_of}

pub total : IsTotalOrder text_order
total = lists_total nat_cmp_total

-- ---- names that rise stand in byte order

-- what is above all is put behind them
pub put_last : (t : List ℕ) (us : Names) → AllByRecursion (λ u. text_order u t ≡ Less) us → insert_key text_order us t ≡ us ++ t ∷ []
put_last t [] h = refl
put_last t (u ∷ us) h =
    ap (λ o. match_ordering o (t ∷ u ∷ us) (u ∷ us) (u ∷ insert_key text_order us t)) (total.antisymm t u ∙ ap ordering_reverse h.0)
    ∙ ap (λ ns. u ∷ ns) (put_last t us h.1)

first_behind : (P : List ℕ → Type 0) (us : Names) (t : List ℕ) (more : Names) → AllByRecursion P (us ++ t ∷ more) → P t
first_behind P [] t more h = h.0
first_behind P (u ∷ us) t more h = first_behind P us t more h.1

pub below : (done : Names) (t : List ℕ) (more : Names) → IsStrictlySortedBy text_order (done ++ t ∷ more) → AllByRecursion (λ u. text_order u t ≡ Less) done
unfolding IsStrictlySortedBy
below [] t more h = tt
below (u ∷ us) t more h = (first_behind (λ v. text_order u v ≡ Less) us t more h.0, below us t more h.1)

put_rising : (more done : Names) → IsStrictlySortedBy text_order (done ++ more) → put_texts more done ≡ done ++ more
put_rising [] done h = sym (nothing_behind done)
put_rising (t ∷ more) done h =
    ap (put_texts more) (put_last t done (below done t more h))
    ∙ put_rising more (done ++ t ∷ []) (subst (IsStrictlySortedBy text_order) (sym (joined done t more)) h)
    ∙ joined done t more

pub in_order : (names : Names) → IsStrictlySortedBy text_order names → in_byte_order names ≡ names
in_order names h = put_rising names [] h

-- ---- a name is put in

pub none_rise : IsStrictlySortedBy text_order []
unfolding IsStrictlySortedBy
none_rise = tt

-- where the last is below a text, all are
pub all_below : (t : List ℕ) (us : Names) → IsStrictlySortedBy text_order us → IsLastBelow t us → AllByRecursion (λ u. text_order u t ≡ Less) us
unfolding IsStrictlySortedBy
all_below t [] h last = tt
all_below t (u ∷ []) h last = (last 0 u (omega arith), tt)
all_below t (u ∷ v ∷ vs) h last =
    let later : IsLastBelow t (v ∷ vs) = λ k d e. let next : suc k + 1 ≡ length (u ∷ v ∷ vs) = omega arith in last (suc k) d next in
    let rest = all_below t (v ∷ vs) h.1 later in
    (total.trans u v t h.0.0 rest.0, rest)

module _ (items : List (Bor (List ℕ))) (t : List ℕ) (at : ℕ) where
  abbrev done : Names
  done = texts_of (take at items)

  abbrev left : Names
  left = texts_of (drop at items)

  -- what is done, and the text put among what is left
  abbrev pub put_later : Names
  put_later = done ++ insert_key text_order left t

  put_here : done ++ t ∷ left ≡ insert (texts_of items) at t
  put_here = sym (λ i. take-map (λ (x : Bor (List ℕ)). x.now) at items i ++ t ∷ drop-map (λ (x : Bor (List ℕ)). x.now) at items i)

  all_of_it : done ++ left ≡ texts_of items
  all_of_it = sym (map-append (λ (x : Bor (List ℕ)). x.now) (take at items) (drop at items)) ∙ ap texts_of (take-append-drop at items)

  pub put_at_end : length items ≤ at → put_later ≡ insert (texts_of items) at t
  put_at_end past = ap (λ xs. done ++ insert_key text_order (texts_of xs) t) (drop_none items at past) ∙ sym (ap (λ xs. done ++ t ∷ texts_of xs) (drop_none items at past)) ∙ put_here

  module _ (d : Bor (List ℕ)) (within : at < length items) where
    abbrev u : Bor (List ℕ)
    u = get_or items at d

    abbrev rest : Names
    rest = texts_of (drop (at + 1) items)

    here : drop at items ≡ u ∷ drop (at + 1) items
    here = drop_more items at d within

    by : (o : Ordering) → text_order t u.now ≡ o → put_later ≡ done ++ match_ordering o (t ∷ u.now ∷ rest) (u.now ∷ rest) (u.now ∷ insert_key text_order rest t)
    by o e = ap (λ xs. done ++ insert_key text_order (texts_of xs) t) here ∙ ap (λ p. done ++ match_ordering p (t ∷ u.now ∷ rest) (u.now ∷ rest) (u.now ∷ insert_key text_order rest t)) e

    pub put_before : text_order t u.now ≡ Less → put_later ≡ insert (texts_of items) at t
    put_before e = by Less e ∙ sym (ap (λ xs. done ++ t ∷ texts_of xs) here) ∙ put_here

    pub put_already : text_order t u.now ≡ Equal → put_later ≡ texts_of items
    put_already e = by Equal e ∙ sym (ap (λ xs. done ++ texts_of xs) here) ∙ all_of_it

    pub put_behind : text_order t u.now ≡ Greater → put_later ≡ texts_of (take (at + 1) items) ++ insert_key text_order rest t
    put_behind e =
        let taken : texts_of (take (at + 1) items) ≡ done ++ u.now ∷ [] =
        ap texts_of (take_more items at d within) ∙ map-append (λ (x : Bor (List ℕ)). x.now) (take at items) (u ∷ []) in
        by Greater e ∙ sym (joined done u.now (insert_key text_order rest t)) ∙ ap (λ xs. xs ++ insert_key text_order rest t) (sym taken)

-- Texts that are put among texts in byte order stay so.
use Rattle.std.proofs.Common.{◌≡◌, ℕ, List, [], ◌∷◌, Less, Equal, Greater, refl, ap, ◌∙◌}
use Rattle.std.proofs.lemmas.Cmp.{lists_total, nat_cmp_total}
use Rattle.std.specs.BTreeSet.{insert_key}
use Rattle.std.specs.Cmp.{IsTotalOrder}
use Rattle.std.specs.List.{AllByRecursion}
use Rattle.std.specs.List.Sorted.{IsStrictlySortedBy}
use Rattle.std.specs.Ordering.{match_ordering, ordering_reverse}
use Rattle.pg_meaning.specs.Names.{Names, put_texts, in_byte_order}
use Rattle.pg_meaning.specs.Order.{text_order}

total : IsTotalOrder text_order
total = lists_total nat_cmp_total

all_insert : (P : List ℕ → Type 0) (t : List ℕ) (us : Names) → P t → AllByRecursion P us → AllByRecursion P (insert_key text_order us t)
all_insert P t [] p h = (p, tt)
all_insert P t (u ∷ us) p h =
    elim (text_order t u) as (λ r. AllByRecursion P (match_ordering r (t ∷ u ∷ us) (u ∷ us) (u ∷ insert_key text_order us t))) [
      | Less ↦ (p, h)
      | Equal ↦ h
      | Greater ↦ (h.0, all_insert P t us p h.1)
    ]

below : (t u : List ℕ) (us : Names) → text_order t u ≡ Less → AllByRecursion (λ v. text_order u v ≡ Less) us → AllByRecursion (λ v. text_order t v ≡ Less) us
below t u [] e h = tt
below t u (v ∷ us) e h = (total.trans t u v e h.0, below t u us e h.1)

insert_rises : (t : List ℕ) (us : Names) → IsStrictlySortedBy text_order us → IsStrictlySortedBy text_order (insert_key text_order us t)
unfolding IsStrictlySortedBy
insert_rises t [] h = (tt, tt)
insert_rises t (u ∷ us) h =
    elim (text_order t u) as (λ r. text_order t u ≡ r → IsStrictlySortedBy text_order (match_ordering r (t ∷ u ∷ us) (u ∷ us) (u ∷ insert_key text_order us t))) [
      | Less ↦ λ e. ((e, below t u us e h.0), h)
      | Equal ↦ λ e. h
      | Greater ↦ λ e. (all_insert (λ v. text_order u v ≡ Less) t us (total.antisymm u t ∙ ap ordering_reverse e) h.0, insert_rises t us h.1)
    ] refl

abbrev pub PutTextsRise : Type 0
PutTextsRise = (more texts : Names) → IsStrictlySortedBy text_order texts → IsStrictlySortedBy text_order (put_texts more texts)

pub put_texts_rise : PutTextsRise
put_texts_rise [] texts h = h
put_texts_rise (t ∷ more) texts h = put_texts_rise more (insert_key text_order texts t) (insert_rises t texts h)

pub in_byte_order_rises : (names : Names) → IsStrictlySortedBy text_order (in_byte_order names)
unfolding IsStrictlySortedBy
in_byte_order_rises names = put_texts_rise names [] tt

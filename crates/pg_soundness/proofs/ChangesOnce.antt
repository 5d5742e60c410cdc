-- Graphs, properties and labels that read alike are the same.
use Rattle.std.proofs.Common.{◌≡◌, ◌≢◌, ℕ, Bool, true, false, cond, ◌||◌, ◌==◌, List, [], ◌∷◌, map, Some, None, is_lt, Less, Equal, Greater, bytes_eq, refl, sym, ap, ◌∙◌, true≢false}
use Rattle.std.proofs.lemmas.Cmp.{lists_total, nat_cmp_total}
use Rattle.std.proofs.lemmas.Map.Text.{is_eq-slice_cmp}
use Rattle.std.specs.Cmp.{IsTotalOrder}
use Rattle.std.specs.FinMap.{nat_cmp-IsAntisymmetric}
use Rattle.std.specs.FinMap.Entries as by_key
use Rattle.std.specs.List.{AllByRecursion}
use Rattle.std.specs.List.Sorted.{IsStrictlySortedBy}
use Rattle.std.specs.Ordering.{nat_cmp}
use Rattle.pg_meaning.specs.Entries.{is_before_first, are_rising, at_key}
use Rattle.pg_meaning.specs.EntriesLaws.{both, joined}
use Rattle.pg_meaning.specs.EqualityLaws.{nat_same}
use Rattle.pg_meaning.specs.Graph.{Graph, IsGraph, node_at, relationship_at}
use Rattle.pg_meaning.specs.Names.{Names, is_among}
use Rattle.pg_meaning.specs.Order.{text_order}
use Rattle.pg_meaning.specs.Value.{Value, Entries, no_entries, entry, entries_of}
use Rattle.pg_soundness.proofs.ChangesIds.{same_id}
use Rattle.pg_soundness.proofs.ChangesOptions.{holds}
use Rattle.pg_soundness.proofs.ChangesProperties.{tied}

total : IsTotalOrder text_order
total = lists_total nat_cmp_total

less : (o : _) → is_lt o ≡ true → o ≡ Less
less Less e = refl
less Equal e = cc
less Greater e = cc

-- ---- ids

-- one id is the other or isn't
pub by_id : (P : Type 0) (m n : ℕ) → (m ≡ n → P) → (m ≢ n → P) → P
by_id P m n same other = by_test (m == n) refl
  where
    by_test : (b : Bool) → (m == n) ≡ b → P
    by_test true e = same (nat_same m n e)
    by_test false e = other (λ h. true≢false (sym (same_id m) ∙ ap (λ k. m == k) h ∙ e))

-- ---- graphs

pub same_graph : (a b : Graph) → IsGraph a → IsGraph b → ((n : ℕ) → node_at a n ≡ node_at b n) → ((r : ℕ) → relationship_at a r ≡ relationship_at b r) → a.next_node ≡ b.next_node → a.next_relationship ≡ b.next_relationship → a ≡ b
same_graph a b g h nodes relationships next_node next_relationship =
    let ns = by_key.same_entries nat_cmp nat_cmp_total nat_cmp-IsAntisymmetric a.nodes b.nodes (holds _ g.node_ids_rise) (holds _ h.node_ids_rise) nodes in
    let rs = by_key.same_entries nat_cmp nat_cmp_total nat_cmp-IsAntisymmetric a.relationships b.relationships (holds _ g.relationship_ids_rise) (holds _ h.relationship_ids_rise) relationships in
    λ i. record { nodes = ns i; relationships = rs i; next_node = next_node i; next_relationship = next_relationship i }

-- ---- properties

entries_from : List (List ℕ × Value) → Entries
entries_from [] = no_entries
entries_from (p ∷ ps) = entry p.0 p.1 (entries_from ps)

back_again : (es : Entries) → entries_from (entries_of es) ≡ es
unfolding entries_from
back_again no_entries = refl
back_again (entry k v es) = ap (entry k v) (back_again es)

found_at_key : (k : List ℕ) (es : Entries) → by_key.find text_order k (entries_of es) ≡ at_key k es
found_at_key k no_entries = refl
found_at_key k (entry l v es) = ap (λ b. cond b (Some v) (by_key.find text_order k (entries_of es))) (is_eq-slice_cmp k l) ∙ ap (cond (bytes_eq k l) (Some v)) (found_at_key k es)

before_rest : (j l : List ℕ) (es : Entries) → is_lt (text_order j l) ≡ true → is_before_first l es ≡ true → is_before_first j es ≡ true
before_rest j l no_entries p q = refl
before_rest j l (entry m x es) p q = ap is_lt (total.trans j l m (less _ p) (less _ q))

below_entries : (k : List ℕ) (es : Entries) → is_before_first k es ≡ true → are_rising es ≡ true → by_key.below_all text_order k (entries_of es) ≡ true
below_entries k no_entries p h = refl
below_entries k (entry l v es) p h = let b = both (is_before_first l es) (are_rising es) h in joined _ _ p (below_entries k es (before_rest k l es p b.0) b.1)

entries_sorted : (es : Entries) → are_rising es ≡ true → by_key.is_sorted text_order (entries_of es) ≡ true
entries_sorted no_entries h = refl
entries_sorted (entry k v es) h = let b = both (is_before_first k es) (are_rising es) h in joined _ _ (below_entries k es b.0 b.1) (entries_sorted es b.1)

pub same_properties : (a b : Entries) → are_rising a ≡ true → are_rising b ≡ true → ((k : List ℕ) → at_key k a ≡ at_key k b) → a ≡ b
same_properties a b g h alike =
    sym (back_again a)
    ∙ ap entries_from (by_key.same_entries text_order total tied (entries_of a) (entries_of b) (holds _ (entries_sorted a g)) (holds _ (entries_sorted b h)) (λ k. found_at_key k a ∙ alike k ∙ sym (found_at_key k b)))
    ∙ back_again b

-- ---- labels

marked : Names → List (List ℕ × Bool)
marked [] = []
marked (l ∷ ls) = (l, true) ∷ marked ls

unmarked : (ls : Names) → map (λ p. p.0) (marked ls) ≡ ls
unfolding marked
unmarked [] = refl
unmarked (l ∷ ls) = ap (λ ms. l ∷ ms) (unmarked ls)

mark_at : (l : List ℕ) (ls : Names) → by_key.find text_order l (marked ls) ≡ cond (is_among ls l) (Some true) None
unfolding marked
mark_at l [] = refl
mark_at l (m ∷ ls) =
    ap (λ b. cond b (Some true) (by_key.find text_order l (marked ls))) (is_eq-slice_cmp l m)
    ∙ ap (cond (bytes_eq l m) (Some true)) (mark_at l ls)
    ∙ either_way (bytes_eq l m) (is_among ls l)
  where
    either_way : (a b : Bool) → cond a (Some true) (cond b (Some true) None) ≡ cond (a || b) (Some true) None
    either_way true b = refl
    either_way false b = refl

below_marked : (l : List ℕ) (ls : Names) → AllByRecursion (λ m. text_order l m ≡ Less) ls → by_key.below_all text_order l (marked ls) ≡ true
unfolding marked
below_marked l [] h = refl
below_marked l (m ∷ ls) h = joined _ _ (ap is_lt h.0) (below_marked l ls h.1)

marked_sorted : (ls : Names) → IsStrictlySortedBy text_order ls → by_key.is_sorted text_order (marked ls) ≡ true
unfolding marked IsStrictlySortedBy
marked_sorted [] h = refl
marked_sorted (l ∷ ls) h = joined _ _ (below_marked l ls h.0) (marked_sorted ls h.1)

pub same_labels : (a b : Names) → IsStrictlySortedBy text_order a → IsStrictlySortedBy text_order b → ((l : List ℕ) → is_among a l ≡ is_among b l) → a ≡ b
same_labels a b g h alike =
    sym (unmarked a)
    ∙ ap (map (λ p. p.0)) (by_key.same_entries text_order total tied (marked a) (marked b) (holds _ (marked_sorted a g)) (holds _ (marked_sorted b h)) (λ l. mark_at l a ∙ ap (λ c. cond c (Some true) None) (alike l) ∙ sym (mark_at l b)))
    ∙ unmarked b

-- Whose the transaction is that is open at a place.
use Rattle.std.proofs.Common.{◌≡◌, ℕ, zero, suc, ◌<◌, ◌≤◌, List, [], ◌∷◌, length, get_or, set, Option, Some, None, arith, refl, sym, ap, ◌∙◌}
use Rattle.std.proofs.lemmas.List.{get_or_past, length-set}
use Rattle.std.specs.Option.{option_map}
use Rattle.pg_graph.specs.Content.{Seen}
use Rattle.pg_live.proofs.OpenLemmas.{same_default}
use Rattle.pg_live.specs.Live.{all_begun, aside_of, begun_in, shared_then, Begun, IsLive}
use Rattle.pg_live.specs.declared.transactions.Begin.{Begin}
use Rattle.pg_store.specs.declared.journal.Mark.{Mark}
use Rattle.pg_store.specs.declared.shared.Shared.{Shared}
use Rattle.pg_store.specs.declared.store.Store.{Store}

abbrev holder_in : Option Begin → Option ℕ
holder_in o = option_map (λ b. b.holder) o

abbrev holder_of : Option Begun → Option ℕ
holder_of o = option_map (λ b. b.holder) o

module _ {T S K : Type 0} (seen : Seen T S) (shared : Shared S K) where
  one : (store : Store T) (o : Option Begin) → holder_of (option_map (begun_in seen shared store) o) ≡ holder_in o
  one store None = refl
  one store (Some b) = refl

  holders : (begins : List (Option Begin)) (stores : List (Store T)) (k : ℕ) → length begins ≡ length stores → holder_of (get_or (all_begun seen shared begins stores) k None) ≡ holder_in (get_or begins k None)
  holders [] stores k each = refl
  holders (b ∷ bs) [] k each = absurd (omega (arith, each))
  holders (b ∷ bs) (s ∷ ss) zero each = one s b
  holders (b ∷ bs) (s ∷ ss) (suc k) each = holders bs ss k (omega (arith, each))

module _ {T S K : Type 0} (seen : Seen T S) (store : Store T) (others : List (Store T)) (shared : Shared S K) (place : ℕ) (mark : Mark) (begins : List (Option Begin)) (live : IsLive seen store others shared place mark begins) where
  holder_seen : (k : ℕ) → holder_in (get_or begins k None) ≡ holder_of (get_or (aside_of seen store others shared place mark begins).begins k None)
  holder_seen k = sym (holders seen (shared_then seen store others shared place mark) begins (set others place store) k (live.each ∙ sym (length-set others place store)))

  pub holder_there : (k : ℕ) (o : Option Begin) → k < length begins → o ≡ get_or begins k o → holder_in o ≡ holder_of (get_or (aside_of seen store others shared place mark begins).begins k None)
  holder_there k o lt is = ap holder_in (is ∙ same_default begins k o None lt) ∙ holder_seen k

  pub none_there : (k : ℕ) → length begins ≤ k → None ≡ holder_of (get_or (aside_of seen store others shared place mark begins).begins k None)
  none_there k past = ap holder_in (sym (get_or_past begins k None past)) ∙ holder_seen k

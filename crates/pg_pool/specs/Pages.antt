-- What pages of 64 places each say of ids: the id n has the place n % 64 of the page n / 64.
use Rattle.std.specs.Prelude.{◌≡◌, ◌==◌, ℕ, zero, suc, ◌+◌, ◌*◌, List, [], ◌∷◌, length, Option, None, Some, slice_get, slice_index, slice_set}
use Rattle.std.specs.Map.{lookup}
use Rattle.std.specs.FinMap as map
use Rattle.std.specs.FinMap.{FinMap}
use Rattle.std.specs.Ordering.{nat_cmp}

-- the slot in a place, which is no slot or one more than its slot
abbrev pub slot_of : ℕ → Option ℕ
slot_of zero = None
slot_of (suc slot) = Some slot

-- the map in which an id has this slot, or none
abbrev pub with_slot : ℕ → Option ℕ → FinMap nat_cmp ℕ → FinMap nat_cmp ℕ
with_slot id None slots = map.remove slots id
with_slot id (Some slot) slots = map.insert slots id slot

-- the map in which the first ids of a page have the slots of their places
unfoldable pub with_page : ℕ → List ℕ → ℕ → FinMap nat_cmp ℕ → FinMap nat_cmp ℕ
with_page number page zero slots = slots
with_page number page (suc k) slots = with_slot (number * 64 + k) (slot_of (slice_index page k)) (with_page number page k slots)

unfoldable pub with_pages : List (ℕ × List ℕ) → FinMap nat_cmp ℕ
with_pages [] = map.empty
with_pages (e ∷ es) = with_page e.0 e.1 64 (with_pages es)

-- the slots of all ids
unfoldable pub slots_in : FinMap nat_cmp (List ℕ) → FinMap nat_cmp ℕ
slots_in pages = with_pages (map.entries pages)

-- where the page of a number stands among these, which is what is found at the number
abbrev pub StandsAt : List (ℕ × List ℕ) → ℕ → ℕ → Type 0
StandsAt es number i = (page : List ℕ) × (slice_get es i ≡ Some (number, page)) × (lookup (λ k. number == k) es ≡ Some page)

abbrev pub IsNowhere : List (ℕ × List ℕ) → ℕ → Type 0
IsNowhere es number = lookup (λ k. number == k) es ≡ None

-- one place of a page is written
abbrev pub WritesPlace : FinMap nat_cmp (List ℕ) → FinMap nat_cmp (List ℕ) → ℕ → ℕ → ℕ → Type 0
WritesPlace old new number at place = (page : List ℕ) → map.get old number ≡ Some page → new ≡ map.insert old number (slice_set page at place)

abbrev pub HasAllPlaces : FinMap nat_cmp (List ℕ) → ℕ → Type 0
HasAllPlaces pages number = (page : List ℕ) → map.get pages number ≡ Some page → length page ≡ 64

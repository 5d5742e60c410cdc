-- A list in chunks: each chunk but the last has 1,024 items, and the last has no more.
use Rattle.std.specs.Prelude.{◌≡◌, ℕ, ◌-◌, ◌<◌, ◌≤◌, min, List, [], ◌∷◌, ◌++◌, length, refl, vec_capacity}
use Rattle.std.specs.List.{flat_map}
use Rattle.std.specs.Coded.{Coded, code_by, coded×, coded_ℕ, coded_list}
use Rattle.std.specs.Global.{Vec}

-- the items in order, and how many more the last chunk takes with no allocation
pub record Row (T : Type 0) : Type 0 where
  pub items : List T
  pub spare : ℕ

-- a row is stored as the pair of its fields
abbrev pub row_code : {T : Type 0} → Coded T → Coded (Row T)
row_code {T} code =
    code_by (List T × ℕ) (coded× (coded_list code) coded_ℕ) (λ r. (r.items, r.spare))
    (λ p. record { items = p.0; spare = p.1 }) (λ _. refl)

module _ {T : Type 0} where
  -- the items of all chunks, one chunk after another
  abbrev pub items_of : List (Vec T) → List T
  items_of chunks = flat_map (λ (chunk : Vec T). chunk.items) chunks

  -- how many more items the last chunk takes
  unfoldable pub spare_of : List (Vec T) → ℕ
  spare_of [] = 0
  spare_of (chunk ∷ []) = min 1024 (vec_capacity chunk) - length chunk.items
  spare_of (chunk ∷ next ∷ chunks) = spare_of (next ∷ chunks)

  unfoldable pub AreFull : List (Vec T) → Type 0
  AreFull [] = Unit {0}
  AreFull (chunk ∷ []) = length chunk.items ≤ 1024
  AreFull (chunk ∷ next ∷ chunks) = (length chunk.items ≡ 1024) × AreFull (next ∷ chunks)

  pub record AreChunks (chunks : List (Vec T)) : Type 0 where
    pub full : AreFull chunks
    pub few : length chunks ≤ 4194304

  abbrev pub AreAllFull : List (Vec T) → Type 0
  AreAllFull [] = Unit {0}
  AreAllFull (chunk ∷ chunks) = (length chunk.items ≡ 1024) × AreAllFull chunks

  -- there is one chunk more, which has room and no items
  pub record HasSpareChunk (old new : List (Vec T)) : Type 0 where
    pub chunk : Vec T
    pub added : new ≡ old ++ chunk ∷ []
    pub empty : chunk.items ≡ []
    pub room : 0 < vec_capacity chunk
    pub few : length new ≤ 4194304

-- The digest of a catalogue, by which it is hashed.
use Rattle.std.specs.Prelude.{ℕ, Bool, ◌&&◌, List, [], ◌∷◌, ◌++◌, flat_map, String, string_bytes}
use Rattle.std.specs.Cmp.{IsEquivalence, and_equiv, on_equiv}
use Rattle.std.specs.Cmp.Lexicographic.{nat_list_eq_equiv}
use Rattle.std.specs.Hash.{HashWrites}
use Rattle.std.specs.String.{string_eq}
use Rattle.std.specs.declared.alloc.Global.{Global}
use Rattle.pg_meaning.specs.Plans.{Catalogue}
use Rattle.sha2.specs.Sha256.{sha256}

-- a text, and a byte that no text has
abbrev pub marked : List ℕ → List ℕ
marked text = text ++ 255 ∷ []

-- each label and each key, marked, in their order
abbrev pub message : Catalogue → List ℕ
message indexes = flat_map (λ i. marked i.0 ++ marked i.1) indexes

-- SHA-256 of that
abbrev pub digest_of : Catalogue → List ℕ
digest_of indexes = sha256 (message indexes)

-- what is written to the hash of a key for its indexes: the digest, which has always 32 bytes, where there are any
abbrev pub digest_writes : Catalogue → HashWrites
digest_writes [] = []
digest_writes (i ∷ is) = digest_of (i ∷ is) ∷ []

-- two indexes are the same, as the program compares them
abbrev pub index_eq : String Global × String Global → String Global × String Global → Bool
index_eq i j = string_eq i.0 j.0 && string_eq i.1 j.1

pub index_equiv : IsEquivalence index_eq
index_equiv = and_equiv (on_equiv (λ i. string_bytes i.0) nat_list_eq_equiv) (on_equiv (λ i. string_bytes i.1) nat_list_eq_equiv)

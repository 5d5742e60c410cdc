-- A digest of bytes: 64 bits that tell changed bytes, for no proof that something is on the disk.
use Rattle.std.specs.Prelude.{ℕ, ◌+◌, ◌*◌, ◌%◌, ◌^◌, List, [], ◌∷◌}

abbrev pub with_byte : ℕ → ℕ → ℕ
with_byte digest byte = ((digest * 1099511628211) % 2 ^ 64 + byte) % 2 ^ 64

-- the digest of bytes that stand behind those with this one
abbrev pub digest_on : ℕ → List ℕ → ℕ
digest_on digest [] = digest
digest_on digest (byte ∷ bytes) = digest_on (with_byte digest byte) bytes

-- the digest of no bytes
abbrev pub digest_of_none : ℕ
digest_of_none = 14695981039346656037

abbrev pub digest_of : List ℕ → ℕ
digest_of bytes = digest_on digest_of_none bytes

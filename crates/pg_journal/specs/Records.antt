-- What is kept of a request, and how the records of a file are written.
use Rattle.std.specs.Prelude.{ℕ, List, [], ◌∷◌, ◌++◌, length}
use Rattle.std.specs.Int.{w64, to_be_bytes}
use Rattle.pg_journal.specs.Digest.{digest_on, digest_of_none}

-- a request that was answered: its tenant's name, its body, and of the reply the length and the digest
pub record Kept : Type 0 where
  pub tenant : List ℕ
  pub body : List ℕ
  pub reply_length : ℕ
  pub reply_digest : ℕ

-- eight bytes, the highest first
unfoldable pub number : ℕ → List ℕ
number n = to_be_bytes w64 n

abbrev pub lengths : Kept → List ℕ
lengths k = number (length k.tenant) ++ number (length k.body) ++ number k.reply_length ++ number k.reply_digest

abbrev pub content : Kept → List ℕ
content k = lengths k ++ k.tenant ++ k.body

-- the digest of all contents up to this record's, behind those with the digest that is given
abbrev pub digest_after : ℕ → Kept → ℕ
digest_after digest k = digest_on digest (content k)

-- its content, and then that digest
abbrev pub written : ℕ → Kept → List ℕ
written digest k = content k ++ number (digest_after digest k)

abbrev pub digest_after_all : ℕ → List Kept → ℕ
digest_after_all digest [] = digest
digest_after_all digest (k ∷ ks) = digest_after_all (digest_after digest k) ks

abbrev pub all_written : ℕ → List Kept → List ℕ
all_written digest [] = []
all_written digest (k ∷ ks) = written digest k ++ all_written (digest_after digest k) ks

-- the records of a file, from its first
abbrev pub records : List Kept → List ℕ
records ks = all_written digest_of_none ks

abbrev pub last_digest : List Kept → ℕ
last_digest ks = digest_after_all digest_of_none ks

-- A hasher that is fed a message piece by piece.
use Rattle.std.proofs.Common.{◌≡◌, ℕ, List, ◌++◌}
use Rattle.sha2.specs.Hashers.{Holds256}
use Rattle.sha2.specs.declared.Sha256.{Sha256}

-- what it was fed, joined with what is left, is the whole
pub record Feeds (hasher : Sha256) (left whole : List ℕ) : Type 0 where
  pub fed : List ℕ
  pub holds : Holds256 hasher fed
  pub joins : fed ++ left ≡ whole

use Rattle.std.proofs.Common.{◌≡◌, drop}
use Rattle.pg_journal.specs.Digest.{digest_on}
use Rattle.pg_journal.proofs.digest.digest_on.Given as goal

abbrev pub invariant-loop-byte : goal.invariant-loop-byte
invariant-loop-byte l = digest_on l.sum (drop l.byte-index l.bytes) ≡ digest_on l.digest l.bytes

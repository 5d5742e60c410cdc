use Rattle.std.proofs.Common.{◌≡◌, ℕ, List, ◌++◌, length}
use Rattle.std.specs.Io.KnownBytes.{Appends}
use Rattle.pg_server.proofs.wire.write_whole.Given as goal

abbrev pub invariant-loop-rest : goal.invariant-loop-rest
invariant-loop-rest g l = (sent : List ℕ) × (l.bytes ≡ sent ++ l.rest) × Appends (g.W.Write.contents l.fn.writer.inner) (g.W.Write.contents l.writer.inner) sent × (l.writer.faults ≡ l.fn.writer.faults)

abbrev pub decreases-loop-rest : goal.decreases-loop-rest
decreases-loop-rest g l = length l.rest

use Rattle.std.proofs.Common.{◌≡◌}
use Rattle.pg_server.proofs.ServeLemmas.{HasServed}
use Rattle.pg_server.proofs.service.serve.Given as goal

abbrev pub invariant-loop-served : goal.invariant-loop-served
invariant-loop-served g l = record {
  so_far : HasServed g.S.Service.answers (g.R.Read.remaining l.fn.reader.inner) (g.R.Read.remaining l.reader.inner) (g.W.Write.contents l.fn.writer.inner) (g.W.Write.contents l.writer.inner)
      l.fn.service l.service l._served;
  read_faults : l.reader.faults ≡ l.fn.reader.faults;
  write_faults : l.writer.faults ≡ l.fn.writer.faults;
}

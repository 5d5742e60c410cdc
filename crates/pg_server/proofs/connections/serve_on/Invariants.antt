use Rattle.pg_server.specs.Connections.{Accepts, AnswersInTurn}
use Rattle.pg_server.proofs.connections.serve_on.Given as goal

abbrev pub invariant-loop-served : goal.invariant-loop-served
invariant-loop-served g l = record {
  accepts : Accepts l._served 0 l.fn.listener l.listener;
  answers : AnswersInTurn l._served l.fn.server.state l.server.state;
}

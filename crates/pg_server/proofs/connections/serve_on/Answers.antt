use Rattle.std.proofs.Common.{refl, sym, subst, ap, ◌∙◌, add-one}
use Rattle.pg_server.specs.Connections.{Accepts, AnswersInTurn}
use Rattle.pg_server.specs.Counts.{next_count}
use Rattle.pg_server.proofs.ConnectionLemmas.{none_answered, one_answered}
use Rattle.pg_server.proofs.connections.serve_on.Goals as goal

pub loop-served-init : goal.loop-served-init
loop-served-init g c = record { accepts = (refl, refl); answers = none_answered c.args.server.now.state }

pub loop-served-preserved : goal.loop-served-preserved
loop-served-preserved g c =
    let here = c.loop-served in
    record {
      accepts = subst (λ n. Accepts n 0 c.args.listener.now c.accept.new.self) (sym (add-one here._served))
          (c.in-Ok.ensures.ok ∙ ap next_count here.invariant.accepts.0, c.in-Ok.ensures.no_fault ∙ here.invariant.accepts.1);
      answers = subst (λ n. AnswersInTurn n c.args.server.now.state c.serve_connection.new.server.state) (sym (add-one here._served))
          (one_answered here._served c.args.server.now.state here.server.state c.serve_connection.new.server.state c.serve_connection.result here.invariant.answers c.serve_connection.ensures);
    }

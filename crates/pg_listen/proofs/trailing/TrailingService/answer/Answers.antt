use Rattle.pg_listen.proofs.trailing.TrailingService.answer.Goals as goal

pub returns : goal.returns
returns g c = c.answer.ensures.0

use Rattle.std.proofs.Common.{ℕ, List}
use Rattle.pg_listen.specs.Courses.{Does}
use Rattle.pg_listen.specs.Client.{seen}
use Rattle.pg_listen.specs.Events.{Event}
use Rattle.pg_listen.specs.Moves.{Answers}
use Rattle.pg_listen.proofs.turn.answer_some.Given as goal

abbrev pub invariant-loop-answered : goal.invariant-loop-answered
invariant-loop-answered g l = (c : ℕ) → (events : List Event) × Answers (Does g.S.Service.answers g.S.Service.settles g.S.Service.all_kept) c l.fn.service l.service (seen l.fn.client) (seen l.client) events

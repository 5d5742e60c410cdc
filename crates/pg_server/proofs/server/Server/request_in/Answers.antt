use Rattle.std.proofs.Common.{length, inl, refl, arith}
use Rattle.std.proofs.lemmas.Bool.{lt-leb}
use Rattle.pg_server.specs.Frames.{body_limit}
use Rattle.pg_server.proofs.server.Server.request_in.Goals as goal

pub returns-then-body-gt-MAX_BODY-clause-unread : goal.returns-then-body-gt-MAX_BODY-clause-unread
returns-then-body-gt-MAX_BODY-clause-unread g c = inl (lt-leb (length c.args.body.now) body_limit (omega (arith, c.if-body-gt-MAX_BODY.true)), refl)

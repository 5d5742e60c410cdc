use Rattle.pg_server.specs.Tokens.{place_in}
use Rattle.pg_server.proofs.TokenLemmas.{PutSoFar}
use Rattle.pg_server.proofs.tokens.TokenPlaces.put.Given as goal

abbrev pub invariant-loop-token : goal.invariant-loop-token
invariant-loop-token l = PutSoFar l.tenant.tokens l.place (place_in l.initial.self) (place_in l.self) l.token-index

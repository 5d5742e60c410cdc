use Rattle.std.proofs.Common.{◌≤◌, length}
use Rattle.pg_server.specs.Tokens.{place_in}
use Rattle.pg_server.proofs.TokenLemmas.{ToldFrom}
use Rattle.pg_server.proofs.tokens.TokenPlaces.of.Given as goal

abbrev pub invariant-loop-place : goal.invariant-loop-place
invariant-loop-place l = record {
  within : l.place ≤ length l.tenants;
  told : ToldFrom l.tenants (place_in l.tokens) l.place;
}

abbrev pub decreases-loop-place : goal.decreases-loop-place
decreases-loop-place l = l.place

use Rattle.std.proofs.Common.{◌≡◌, ◌++◌, drop, map}
use Rattle.pg_server.proofs.config.push_texts.Given as goal

abbrev pub invariant-loop-token : goal.invariant-loop-token
invariant-loop-token l =
    map (λ t. t.now) l.initial.texts.items ++ map (λ t. t.text) l.tenant.tokens ≡ map (λ t. t.now) l.texts.items ++ map (λ t. t.text) (drop l.token-index l.tenant.tokens)

use Rattle.std.proofs.Common.{◌≡◌, ◌++◌, drop, map, string_bytes}
use Rattle.pg_server.proofs.tenant_names.has_name_twice.Given as goal

abbrev pub invariant-loop-name : goal.invariant-loop-name
invariant-loop-name l = map string_bytes l.names ≡ map (λ t. t.now) l.texts.items ++ map string_bytes (drop l.name-index l.names)

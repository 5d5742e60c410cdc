use Rattle.std.proofs.Common.{◌≡◌, ◌++◌, drop, map, string_bytes}
use Rattle.pg_server.proofs.tenant_names.copied.Given as goal

abbrev pub invariant-loop-name : goal.invariant-loop-name
invariant-loop-name l = map string_bytes l.names ≡ map string_bytes l.copies.items ++ map string_bytes (drop l.name-index l.names)

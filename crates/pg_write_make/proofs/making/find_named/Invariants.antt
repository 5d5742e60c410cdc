use Rattle.std.proofs.Common.{◌≡◌, drop}
use Rattle.std.specs.Map.{lookup}
use Rattle.std.specs.Prelude.{bytes_eq}
use Rattle.pg_write_make.specs.Makings.{bindings}
use Rattle.pg_write_make.proofs.making.find_named.Given as goal

abbrev pub invariant-loop-binding : goal.invariant-loop-binding
invariant-loop-binding l = lookup (bytes_eq l.name) (bindings l.named.items) ≡ lookup (bytes_eq l.name) (bindings (drop l.binding-index l.named.items))

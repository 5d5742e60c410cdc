use Rattle.std.proofs.Common.{◌≡◌, map, drop, bytes_eq}
use Rattle.std.specs.Map.{lookup}
use Rattle.std.specs.Str.{str_to_ascii_lowercase}
use Rattle.pg_scope.proofs.calls.named.Given as goal

abbrev pub invariant-loop-text : goal.invariant-loop-text
invariant-loop-text g l =
    lookup (bytes_eq (str_to_ascii_lowercase l.name)) (map (λ p. (str_to_ascii_lowercase p.0.now, p.1)) l.known)
    ≡ lookup (bytes_eq (str_to_ascii_lowercase l.name)) (map (λ p. (str_to_ascii_lowercase p.0.now, p.1)) (drop l.text-index l.known))

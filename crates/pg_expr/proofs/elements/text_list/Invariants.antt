use Rattle.std.proofs.Common.{◌≡◌, map, take}
use Rattle.pg_meaning.specs.Value.{text}
use Rattle.pg_value_core.specs.View.{view}
use Rattle.pg_expr.proofs.elements.text_list.Given as goal

abbrev pub invariant-loop-bytes : goal.invariant-loop-bytes
invariant-loop-bytes l = map view l.values.items ≡ map text (map (λ t. t.now) (take l.bytes-index l.bytes-items))

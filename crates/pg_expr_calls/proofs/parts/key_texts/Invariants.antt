use Rattle.std.proofs.Common.{◌≡◌, map}
use Rattle.pg_meaning.specs.Arithmetic.{appended}
use Rattle.pg_meaning.specs.Order.{keys_of}
use Rattle.pg_meaning.specs.Value.{text, values_of}
use Rattle.pg_value_core.specs.View.{values_view, entries_view}
use Rattle.pg_expr_calls.proofs.parts.key_texts.Given as goal

-- the keys so far and those that are left make all
abbrev pub invariant-loop-key : goal.invariant-loop-key
invariant-loop-key l =
    appended (values_view l.keys.items) (values_of (map text (keys_of (entries_view l.key-iterator)))) ≡ values_of (map text (keys_of (entries_view l.entries.entries)))

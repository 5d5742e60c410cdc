use Rattle.std.proofs.Common.{◌≡◌, drop}
use Rattle.std.specs.Str.{str_to_ascii_lowercase}
use Rattle.pg_tree_equality.specs.Codes.{with_bytes}
use Rattle.pg_syntax_tree.specs.View.{name_view}
use Rattle.pg_tree_equality.proofs.codes.add_call.Given as goal

abbrev pub invariant-loop-byte : goal.invariant-loop-byte
invariant-loop-byte l = with_bytes (str_to_ascii_lowercase (drop l.byte-index (name_view l.name).text)) l.code.items ≡ with_bytes (str_to_ascii_lowercase (name_view l.name).text) l.fn.code.items

use Rattle.std.proofs.Common.{◌≡◌, take, map as map_list, string_bytes}
use Rattle.pg_store.proofs.texts.strings_of.Given as goal

abbrev pub invariant-loop-text : goal.invariant-loop-text
invariant-loop-text l = map_list string_bytes l.strings.items ≡ map_list (λ t. t.now) (take l.text-index l.texts)

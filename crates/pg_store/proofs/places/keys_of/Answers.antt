use Rattle.std.proofs.Common.{◌<◌, ℕ, length}
use Rattle.std.proofs.lemmas.List.Sorted.{All-permutation}
use Rattle.std.proofs.lemmas.List.Elements.{All-from_recursion, recursion_from_All}
use Rattle.pg_store.proofs.places.keys_of.Goals as goal

pub returns-clause-named : goal.returns-clause-named
returns-clause-named g c =
    let named = λ (n : ℕ). n < length c.numbers_of.new.names in
    let before = c.in_ok-keys.keys.items in
    let after = c.sort_unstable_by_key.new.self.items in
    recursion_from_All named after (All-permutation named before after c.sort_unstable_by_key.ensures.permutation (All-from_recursion named before c.in_ok-keys.ensures.named))

use Rattle.std.proofs.Common.{◌≡◌, ◌<◌, ◌-◌, ℕ, List, [], ◌∷◌, true, nat_lt, length, slice_get, Some, arith, sym, ap, subst, ◌∙◌}
use Rattle.std.proofs.lemmas.Bool.Decides.{nat_tests}
use Rattle.std.specs.List.{AllByRecursion}
use Rattle.pg_graph.specs.Records.{AreKeys}
use Rattle.pg_store.proofs.NoteLemmas.{some_same}
use Rattle.pg_store.proofs.places.is_above.Goals as goal

all_below : (x : ℕ) (xs : List ℕ) (last key : ℕ) → AreKeys (x ∷ xs) → slice_get (x ∷ xs) (length xs) ≡ Some last → last < key → AllByRecursion (λ k. k < key) (x ∷ xs)
all_below x [] last key rises is h = (subst (λ n. n < key) (sym (some_same is)) h, tt)
all_below x (y ∷ ys) last key rises is h =
    let rest = all_below y ys last key rises.1 is h in
    (omega (arith, rises.0.0, rest.0), rest)

below_key : (keys : List ℕ) (last key : ℕ) → AreKeys keys → Some last ≡ slice_get keys (length keys - 1) → last < key → AllByRecursion (λ k. k < key) keys
below_key [] last key rises is h = tt
below_key (x ∷ xs) last key rises is h =
    let place : length (x ∷ xs) - 1 ≡ length xs = omega arith in
    all_below x xs last key rises (sym (is ∙ ap (slice_get (x ∷ xs)) place)) h

below_by_test : (a b c d : ℕ) → nat_lt a b ≡ true → a ≡ c → b ≡ d → c < d
below_by_test a b c d h p q = grind (arith, nat_tests)

pub returns-in-Some : goal.returns-in-Some
returns-in-Some c = λ h. below_key c.args.keys.now c.in-Some.last.now c.args.key c.requires c.in-Some.ensures.value (below_by_test c.as_u64.result c.as_u64-in-Some.result _ _ h c.as_u64.ensures c.as_u64-in-Some.ensures)

use Rattle.std.proofs.Common.{◌≡◌, ℕ, List, [], drop, map, Bor, nat_cmp}
use Rattle.std.specs.Cmp.Lexicographic.{slice_cmp}
use Rattle.std.specs.BTreeSet.{contains}
use Rattle.pg_meaning.specs.Names.{is_among}
use Rattle.pg_value.specs.Texts.{has_duplicate}
use Rattle.pg_value.proofs.texts.has_duplicate.Given as goal

abbrev pub invariant-loop-text : goal.invariant-loop-text
invariant-loop-text l = (done : List (List ℕ))
    × ((q : Bor (List ℕ)) → contains (λ x y. slice_cmp nat_cmp x.now y.now) l.before q ≡ is_among done q.now)
    × (has_duplicate [] (map (λ t. t.now) l.texts) ≡ has_duplicate done (map (λ t. t.now) (drop l.text-index l.texts)))

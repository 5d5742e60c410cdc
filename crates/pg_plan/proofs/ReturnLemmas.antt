-- The columns of a query whose RETURN stands last.
use Rattle.std.proofs.Common.{◌≡◌, ℕ, Bool, true, false, cond, List, [], ◌∷◌, map, refl}
use Rattle.std.specs.Prelude.{fold}
use Rattle.pg_meaning.specs.Grammar.{kind_of, AreParts, Reads}
use Rattle.pg_meaning.specs.Names.{Names}
use Rattle.pg_meaning.specs.Queries.{returns}
use Rattle.pg_meaning.specs.Scopes.{scope_after, columns_from}
use Rattle.pg_meaning.specs.Tokens.{Token}
use Rattle.pg_meaning.specs.Tree.{Clause, match_paths, unwind, create, merge, set_items, remove_items, delete, with_rows, return_rows, Query}
use Rattle.pg_plan.specs.Returns.{ReturnsLast}

nothing_behind : (cs : List Clause) → map kind_of cs ≡ [] → cs ≡ []
nothing_behind [] h = refl
nothing_behind (c ∷ cs) h = absurd cc

last_columns : (updated : Bool) (scope : Names) (cs : List Clause) → AreParts updated (map kind_of cs) → columns_from scope cs ≡ cond (returns cs) (fold scope_after scope cs) []
last_columns updated scope [] h = refl
last_columns updated scope (return_rows p ∷ cs) h = rw (nothing_behind cs h) refl
last_columns updated scope (match_paths o ps w ∷ cs) h = last_columns false (scope_after scope (match_paths o ps w)) cs h.1
last_columns updated scope (unwind e n ∷ cs) h = last_columns false (scope_after scope (unwind e n)) cs h.1
last_columns updated scope (with_rows p w ∷ cs) h = last_columns false (scope_after scope (with_rows p w)) cs h
last_columns updated scope (create ps ∷ cs) h = last_columns true (scope_after scope (create ps)) cs h
last_columns updated scope (merge p parts ∷ cs) h = last_columns true (scope_after scope (merge p parts)) cs h
last_columns updated scope (set_items xs ∷ cs) h = last_columns true (scope_after scope (set_items xs)) cs h
last_columns updated scope (remove_items xs ∷ cs) h = last_columns true (scope_after scope (remove_items xs)) cs h
last_columns updated scope (delete b es ∷ cs) h = last_columns true (scope_after scope (delete b es)) cs h

pub returns_last : (text : List ℕ) (ts : List Token) (q : Query) → Reads text ts q → ReturnsLast q
returns_last text ts q h = last_columns false [] q.clauses h.well_formed.1

-- Past a clause: the first fault, and the names behind it.
use Rattle.std.specs.Prelude.{List, [], ◌∷◌, flat_map, Option}
use Rattle.pg_meaning.specs.Names.{Names}
use Rattle.pg_meaning.specs.Scopes.{scope_after}
use Rattle.pg_meaning.specs.StaticFaults.{PlacedFault, matching, merging, clause_faults, faults_if_any, paths_faults, set_faults}
use Rattle.pg_meaning.specs.Tree.{Clause}
use Rattle.pg_meaning.specs.Tree as tree
use Rattle.pg_scope.specs.First.{IsFirst}
use Rattle.pg_scope.specs.Names.{HasSame}

pub record Steps (scope : Names) (c : Clause) (before first : Option PlacedFault) (names : Names) : Type 0 where
  pub faults : IsFirst before (clause_faults scope c) first
  pub names_behind : HasSame names (scope_after scope c)

-- ---- the faults of a clause that is neither WITH nor RETURN, in two parts

-- of what sees the names before it
abbrev pub faults_before : Names → Clause → List PlacedFault
faults_before scope (tree.match_paths is_optional ps condition) = paths_faults matching scope ps
faults_before scope (tree.merge p os) = paths_faults merging scope (p ∷ [])
faults_before scope (tree.with_rows p condition) = []
faults_before scope (tree.return_rows p) = []
faults_before scope c = clause_faults scope c

-- of what sees the names behind it
abbrev pub faults_behind : Names → Clause → List PlacedFault
faults_behind scope (tree.match_paths is_optional ps condition) = faults_if_any scope condition
faults_behind scope (tree.merge p os) = flat_map (λ o. flat_map (set_faults scope) o.1) os
faults_behind scope c = []

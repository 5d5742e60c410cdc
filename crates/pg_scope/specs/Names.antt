-- The names that a set of borrowed texts is of.
use Rattle.std.specs.Prelude.{◌≡◌, ℕ, List, map}
use Rattle.std.specs.BTreeSet.{BTreeSet}
use Rattle.std.specs.Borrow.{Bor}
use Rattle.pg_meaning.specs.Names.{Names, is_among}

-- in byte order
abbrev pub names_in : BTreeSet (Bor (List ℕ)) → Names
names_in s = map (λ k. k.now) s.keys

-- the same names stand in both, in any order
pub record HasSame (ns ms : Names) : Type 0 where
  pub is : (name : List ℕ) → is_among ns name ≡ is_among ms name

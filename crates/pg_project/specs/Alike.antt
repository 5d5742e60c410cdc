-- Keys that read columns of the rows, rows that have the same in them, and the group of a row.
use Rattle.std.specs.Prelude.{◌≡◌, ℕ, List, [], ◌∷◌, Option, Some, None, Ok, IfSome, slice_get}
use Rattle.std.specs.Global.{Vec}
use Rattle.pg_expr.specs.LoneColumns.{ReadsColumn}
use Rattle.pg_meaning.specs.Answer.{each_answer}
use Rattle.pg_meaning.specs.Tree.{Expression}
use Rattle.pg_meaning.specs.Value.{Value as Datum}
use Rattle.pg_project.specs.Kept.{Answers}
use Rattle.pg_project.specs.KeptGroups.{HasNumber}
use Rattle.pg_project.specs.declared.groups.Groups.{Groups}
use Rattle.pg_value_core.specs.declared.value.Value.{Value}

-- each of these expressions reads the column beside it
abbrev pub ReadEach : (names : List (List ℕ)) → List Expression → (columns : List ℕ) → Type 0
ReadEach names [] cs = Unit {0}
ReadEach names (e ∷ es) [] = ⊥
ReadEach names (e ∷ es) (c ∷ cs) = ReadsColumn names e c × ReadEach names es cs

-- both rows have the same in each of these columns
abbrev pub AreAlike : (columns : List ℕ) → (row before : List Datum) → Type 0
AreAlike [] r s = Unit {0}
AreAlike (c ∷ cs) r s = (slice_get r c ≡ slice_get s c) × AreAlike cs r s

abbrev pub HaveAlike : (columns : Option (Vec ℕ)) → (row before : List Datum) → Type 0
HaveAlike (Some cs) r s = AreAlike cs.items r s
HaveAlike None r s = ⊥

-- the group of this number has what the keys give as its key
pub record IsGroupOf (at : Answers) (keys : List Expression) (held : List (Vec Value)) (n : ℕ) : Type 0 where
  pub key : List Datum
  pub is : each_answer at keys ≡ Ok key
  pub number : HasNumber held key n

-- the group that took a row last is that of these keys
abbrev pub IsLatest : Answers → (keys : List Expression) → Groups → Type 0
IsLatest at keys g = IfSome g.latest (λ n. IsGroupOf at keys g.keys.keys n)

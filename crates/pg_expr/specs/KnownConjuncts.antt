-- What is known of a condition's conjuncts once a clause, and what that tells at a row.
use Rattle.std.specs.Prelude.{◌≡◌, ℕ, Bool, true, false, cond, List, [], ◌∷◌, drop, is_some, length, Option, Some, None, Result, Ok}
use Rattle.pg_expr.specs.Conditions.{is_true_at}
use Rattle.pg_expr.specs.Sides.{comparison_given, side_given}
use Rattle.pg_expr.specs.declared.known_conjuncts.KnownConjunct.{KnownConjunct}
use Rattle.pg_expr.specs.declared.known_conjuncts.KnownConjunct.TheVariants.{Alone, Comparison}
use Rattle.pg_expr.specs.declared.known_conjuncts.KnownConjuncts.{KnownConjuncts}
use Rattle.pg_meaning.specs.Answer.{◌>>=◌}
use Rattle.pg_meaning.specs.Conditions.{all_true, conjuncts}
use Rattle.pg_meaning.specs.Expressions.{evaluate}
use Rattle.pg_meaning.specs.Graph.{Graph}
use Rattle.pg_meaning.specs.Tree.{Expression}
use Rattle.pg_meaning.specs.Value.{Value as Datum, Entries}
use Rattle.pg_meaning.specs.declared.fault.Fault.{Fault}
use Rattle.pg_rows.specs.Named.{row_of}

-- whether a known conjunct is true at a row of these values
abbrev pub conjunct_given : KnownConjunct → List Datum → Graph → Result Bool Fault
conjunct_given (Comparison known) values g = comparison_given known values g
conjunct_given (Alone side) values g = side_given side values g >>= is_true_at

-- the conjunct of an expression, at whatever row under these names
abbrev pub IsConjunctOf : (names : List (List ℕ)) → Entries → KnownConjunct → Expression → Type 0
IsConjunctOf names parameters known e = (values : List Datum) (g : Graph) → (evaluate (row_of names values) parameters g e >>= is_true_at) ≡ conjunct_given known values g

-- known conjuncts one after the other up to the first that is not true, and behind them what else there is
abbrev pub given_then : List KnownConjunct → List Datum → Graph → Result Bool Fault → Result Bool Fault
given_then [] values g rest = rest
given_then (k ∷ ks) values g rest = conjunct_given k values g >>= λ b. cond b (given_then ks values g rest) (Ok false)

-- the first of the conjuncts, and those behind it
abbrev pub with_first : Option KnownConjunct → List KnownConjunct → List KnownConjunct
with_first None ks = []
with_first (Some k) ks = k ∷ ks

abbrev pub known_list : KnownConjuncts → List KnownConjunct
known_list c = with_first c.first c.others.items

-- whether all known conjuncts are true at a row of these values
abbrev pub known_given : KnownConjuncts → List Datum → Graph → Result Bool Fault
known_given c values g = given_then (known_list c) values g (Ok true)

-- the conjuncts are the known ones and those behind them, at whatever row under these names
abbrev pub StandFor : (names : List (List ℕ)) → Entries → List KnownConjunct → (all left : List Expression) → Type 0
StandFor names parameters ks all left = (values : List Datum) (g : Graph)
    → all_true (row_of names values) parameters g all ≡ given_then ks values g (all_true (row_of names values) parameters g left)

-- what is left of all conjuncts behind the known ones
abbrev pub left_behind : Option KnownConjunct → List KnownConjunct → List Expression → List Expression
left_behind None ks es = es
left_behind (Some k) ks [] = []
left_behind (Some k) ks (e ∷ es) = drop (length ks) es

abbrev pub left_of : KnownConjuncts → List Expression → List Expression
left_of c es = left_behind c.first c.others.items es

-- the first of these conjuncts are known, and all where that is said
abbrev pub AreKnownOf : (names : List (List ℕ)) → Entries → KnownConjuncts → List Expression → Type 0
AreKnownOf names parameters c es = StandFor names parameters (known_list c) es (left_of c es) × (c.are_all ≡ true → length (left_of c es) ≡ 0)

-- what is left of a conjunction behind its first conjunct and so many others
abbrev pub IsLeftOf : Expression → (others : ℕ) → List Expression → Type 0
IsLeftOf e others es = (first : Option KnownConjunct) (ks : List KnownConjunct) → is_some first ≡ true → length ks ≡ others → left_behind first ks (conjuncts e) ≡ es

-- Parts of the grammar's functions, by names of their own.
use Rattle.std.specs.Prelude.{ℕ, Bool, true, false, nat_lt, List, [], ◌∷◌, ◌++◌, length, Option, None}
use Rattle.pg_meaning.specs.declared.lexemes.Keyword.{Keyword}
use Rattle.pg_meaning.specs.declared.lexemes.Keyword.TheVariants as k
use Rattle.pg_meaning.specs.declared.lexemes.Symbol.TheVariants as s
use Rattle.pg_meaning.specs.Tree.{Name, Expression, Item, SetItem, RemoveItem, Clause}
use Rattle.pg_meaning.specs.Tree as tree
use Rattle.pg_meaning.specs.Parse as parse
use Rattle.pg_meaning.specs.Parse.{Parser, ◌>>=◌, ◌>>◌, ◌<$>◌, branch, pure, refuse, symbol, keyword, maybe, many, comma_and, separated, sees_symbol, sees_keyword}

abbrev pub types_if_any : Parser (List (Bool × Name))
types_if_any = branch (sees_symbol s.Colon) parse.types (pure [])

-- what stands behind a range's dots
abbrev pub upper_end : Bool → Parser (Option ℕ)
upper_end dots = elim dots [ true ↦ maybe parse.begins_integer parse.integer | false ↦ pure None ]

-- an item of WITH, or of RETURN
abbrev pub item : (of_with : Bool) → List ℕ → Parser Expression → Parser Item
item true text whole = parse.with_item text whole
item false text whole = parse.return_item text whole

-- behind a star a row of items begins with a comma
abbrev pub items : (star : Bool) → Parser Item → Parser (List Item)
items star piece = elim star [ true ↦ many (sees_symbol s.Comma) (comma_and piece) [] | false ↦ separated piece ]

-- what stands behind the target of SET, and of REMOVE
abbrev pub set_property : Parser Expression → Name → Parser SetItem
set_property whole n = do symbol s.Dot; m ← parse.name; symbol s.Equal; x ← whole; pure (tree.set_property n m x)

abbrev pub set_target : Parser Expression → Name → Parser SetItem
set_target whole n =
    branch (sees_symbol s.Dot) (set_property whole n)
    (branch (sees_symbol s.Equal) (do symbol s.Equal; x ← whole; pure (tree.set_all n x))
    (branch (sees_symbol s.PlusEqual) (do symbol s.PlusEqual; x ← whole; pure (tree.set_more n x))
    (tree.set_labels n <$> parse.labels)))

abbrev pub remove_target : Name → Parser RemoveItem
remove_target n = branch (sees_symbol s.Dot) (do symbol s.Dot; m ← parse.name; pure (tree.remove_property n m)) (tree.remove_labels n <$> parse.labels)

-- an expression behind its keyword, if that is there
abbrev pub behind : Keyword → Parser Expression → Parser (Option Expression)
behind x whole = maybe (sees_keyword x) (keyword x >> whole)

-- the clauses of a part up to WITH, behind those that were found, and whether some of them write
abbrev pub part : Parser Expression → List Clause → Parser (List Clause × Bool)
part whole found = do
  rs ← many parse.begins_reading (parse.reading whole) found
  us ← many parse.begins_updating (parse.updating whole) rs
  pure (us, nat_lt (length rs) (length us))

-- the last clause, behind those that were found
abbrev pub last : List ℕ → Parser Expression → List Clause → (updates : Bool) → Parser (List Clause)
last text whole found updates = branch (sees_keyword k.Return)
    (do c ← parse.return_clause text whole; pure (found ++ c ∷ []))
    (elim updates [ true ↦ pure found | false ↦ refuse ])

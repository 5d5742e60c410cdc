-- Groups with what is kept of them: the values of the items that group, and of each aggregate what it needs of its values.
use Rattle.std.specs.Prelude.{ℕ, Bool, true, false, List, [], ◌∷◌, map, Result, Ok, Err, Some, None}
use Rattle.pg_project.specs.Items.{Item, grouping, aggregate, item_of, keys_in, aggregates_in, are_aggregates}
use Rattle.pg_project.specs.Summaries.{Taken, taken_of, taken_with, told}
use Rattle.pg_meaning.specs.Aggregates.{Aggregate, counting}
use Rattle.pg_meaning.specs.Answer.{Answer, ◌>>=◌, ◌>>◌, each_answer, each_step}
use Rattle.pg_meaning.specs.Expressions.{evaluate}
use Rattle.pg_meaning.specs.Graph.{Graph}
use Rattle.pg_meaning.specs.Projections.{same_values, first_or_null, test_alone}
use Rattle.pg_meaning.specs.Tree.{Expression}
use Rattle.pg_meaning.specs.Value.{Value, boolean, Entries}
use Rattle.pg_meaning.specs.declared.fault.Fault.{Fault}
use Rattle.pg_rows.specs.Named.{row_of}
use Rattle.pg_rows.specs.Sorts.{other_values}

pub record Kept : Type 0 where
  pub key : List Value
  pub taken : List Taken

-- what each expression gives at a row
abbrev pub Answers : Type 0
Answers = Expression → Answer

abbrev pub answers_at : Entries → Graph → (names : List (List ℕ)) → List Value → Answers
answers_at parameters graph names values e = evaluate (row_of names values) parameters graph e

module _ (at : Answers) where
  abbrev pub argument_given : Aggregate → Answer
  argument_given a = elim a.argument [ None ↦ Ok (boolean true) | Some e ↦ at e ]

  -- ---- a row without a group

  abbrev pub item_tested : Item → Result (Unit {0}) Fault
  item_tested (grouping e) = at e >>= λ v. Ok tt
  item_tested (aggregate a) = argument_given a >>= test_alone a.summary

  abbrev pub items_tested : List Expression → Result (Unit {0}) Fault
  items_tested [] = Ok tt
  items_tested (e ∷ es) = item_tested (item_of e) >> items_tested es

  -- ---- a row of a group

  abbrev pub taken_in : Aggregate → Taken → Result Taken Fault
  taken_in a t = argument_given a >>= taken_with t

  abbrev pub all_taken_in : List Aggregate → List Taken → Result (List Taken) Fault
  all_taken_in [] ts = Ok ts
  all_taken_in (a ∷ aggregates) [] = Ok []
  all_taken_in (a ∷ aggregates) (t ∷ ts) = taken_in a t >>= λ u. all_taken_in aggregates ts >>= λ us. Ok (u ∷ us)

abbrev pub begun : List Aggregate → List Taken
begun aggregates = map (λ a. taken_of a []) aggregates

-- a new group comes last
abbrev pub into_kept : Answers → List Aggregate → List Value → List Kept → Result (List Kept) Fault
into_kept at aggregates key [] = all_taken_in at aggregates (begun aggregates) >>= λ ts. Ok (record { key = key; taken = ts } ∷ [])
into_kept at aggregates key (g ∷ gs) = elim (same_values g.key key) [
  | true ↦ all_taken_in at aggregates g.taken >>= λ ts. Ok (record { key = g.key; taken = ts } ∷ gs)
  | false ↦ into_kept at aggregates key gs >>= λ hs. Ok (g ∷ hs)
]

-- the first fault of all items, left to right, where one that groups has a fault
abbrev pub without_group : Answers → List Expression → Fault → Result (List Kept) Fault
without_group at es f = items_tested at es >> Err f

abbrev pub kept_row : Answers → List Expression → List Kept → Result (List Kept) Fault
kept_row at es groups = elim (each_answer at (keys_in es)) [
  | Ok key ↦ into_kept at (aggregates_in es) key groups
  | Err f ↦ without_group at es f
]

-- with aggregates alone there is one group, also over no rows
abbrev pub first_kept : (keys : List Expression) → List Aggregate → List Kept
first_kept [] aggregates = record { key = []; taken = begun aggregates } ∷ []
first_kept (k ∷ ks) aggregates = []

-- `count(*)`
abbrev pub row_count : Aggregate
row_count = record { summary = counting; distinct = false; argument = None }

-- ---- all rows

module _ (parameters : Entries) (graph : Graph) (names : List (List ℕ)) (es : List Expression) where
  abbrev pub kept_rows : List Kept → List (List Value) → Result (List Kept) Fault
  kept_rows groups rows = each_step (λ gs r. kept_row (answers_at parameters graph names r) es gs) groups rows

-- ---- the row of a group

-- the values of the items that group and what the aggregates tell, in the order of the items
abbrev pub merged : (are_aggregates : List Bool) → (key told : List Value) → List Value
merged [] key told = []
merged (true ∷ bs) key told = first_or_null told ∷ merged bs key (other_values told)
merged (false ∷ bs) key told = first_or_null key ∷ merged bs (other_values key) told

abbrev pub told_each : List Taken → List Value
told_each ts = map (λ t. told t.held) ts

abbrev pub kept_values : List Expression → Kept → List Value
kept_values es g = merged (are_aggregates es) g.key (told_each g.taken)

abbrev pub rows_given : Entries → Graph → (names : List (List ℕ)) → List Expression → List (List Value) → Result (List (List Value)) Fault
rows_given parameters graph names es rows = kept_rows parameters graph names es (first_kept (keys_in es) (aggregates_in es)) rows >>= λ gs. Ok (map (kept_values es) gs)

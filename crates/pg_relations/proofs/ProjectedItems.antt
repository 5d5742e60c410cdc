-- Items without aggregates: no row of them has a fault, and they are one list.
use Rattle.std.proofs.Common.{◌≡◌, ℕ, Bool, true, false, cond, List, [], ◌∷◌, map, Option, Some, None, is_some, Result, Ok, Err, refl, sym, ap, subst, ◌∙◌}
use Rattle.std.specs.List.{AllZip, list_any}
use Rattle.pg_soundness.proofs.ChangesOptions.{ok_or_err}
use Rattle.pg_soundness.proofs.ProjectedParts.{none_in}
use Rattle.pg_meaning.specs.Aggregates.{Aggregate, aggregate_of}
use Rattle.pg_meaning.specs.Answer.{◌>>=◌, each_answer}
use Rattle.pg_meaning.specs.AnswerLaws.{went_well, same_ok}
use Rattle.pg_meaning.specs.Expressions.{evaluate}
use Rattle.pg_meaning.specs.Graph.{Graph}
use Rattle.pg_meaning.specs.Lists.{IsIn}
use Rattle.pg_meaning.specs.Meaning.{ArgumentFaults, ItemFaults, AggregateFaults}
use Rattle.pg_meaning.specs.Projections.{Projected, column_value, projected}
use Rattle.pg_meaning.specs.Rows.{Row, values_in}
use Rattle.pg_meaning.specs.Scopes.{Column, is_aggregate}
use Rattle.pg_meaning.specs.Turns.{Given, AtSomeRow}
use Rattle.pg_meaning.specs.Value.{Value}
use Rattle.pg_meaning.specs.declared.fault.Fault.{Fault}
use Rattle.pg_relations.proofs.Lists.{zipped_at, answered_at}

abbrev pub Bound : Type 0
Bound = List ℕ × Value

-- ---- names

abbrev pub first_of : {X : Type 0} → X → List X → X
first_of d [] = d
first_of d (x ∷ xs) = x

abbrev pub rest_of : {X : Type 0} → List X → List X
rest_of [] = []
rest_of (x ∷ xs) = xs

-- rows of the same names and values are one
pub same_row : (xs ys : Row) → map (λ (b : Bound). b.0) xs ≡ map (λ (b : Bound). b.0) ys → values_in xs ≡ values_in ys → xs ≡ ys
same_row [] [] e f = refl
same_row [] (y ∷ ys) e f = cc
same_row (x ∷ xs) [] e f = cc
same_row (x ∷ xs) (y ∷ ys) e f =
    let name : x.0 ≡ y.0 = ap (first_of x.0) e in
    let value : x.1 ≡ y.1 = ap (first_of x.1) f in
    let later = same_row xs ys (ap rest_of e) (ap rest_of f) in
    λ i. (name i, value i) ∷ later i

-- each column under its name
pub columns_named : (f : Column → Result Bound Fault) → ((c : Column) (b : Bound) → f c ≡ Ok b → b.0 ≡ c.name) → (columns : List Column) (bs : Row) → each_answer f columns ≡ Ok bs → map (λ (b : Bound). b.0) bs ≡ map (λ (c : Column). c.name) columns
columns_named f named [] bs e = ap (map (λ (b : Bound). b.0)) (sym (same_ok [] bs e))
columns_named f named (c ∷ cs) bs e =
    let first = went_well (f c) (λ b. each_answer f cs >>= λ ws. Ok (b ∷ ws)) bs e in
    let rest = went_well (each_answer f cs) (λ ws. Ok (first.0 ∷ ws)) bs first.2 in
    let name = named c first.0 first.1 in
    let names = columns_named f named cs rest.0 rest.1 in
    ap (map (λ (b : Bound). b.0)) (sym (same_ok (first.0 ∷ rest.0) bs rest.2)) ∙ (λ i. name i ∷ names i)

-- a projected row that shows its columns alone
abbrev pub IsBare : List Column → Projected → Type 0
IsBare columns p = (map (λ (b : Bound). b.0) p.columns ≡ map (λ (c : Column). c.name) columns) × (p.earlier ≡ [])

pub same_bare : (columns : List Column) (p q : Projected) → IsBare columns p → IsBare columns q → values_in p.columns ≡ values_in q.columns → p ≡ q
same_bare columns p q h k e =
    let row = same_row p.columns q.columns (h.0 ∙ sym k.0) e in
    let none = h.1 ∙ sym k.1 in
    λ i. record { columns = row i; earlier = none i }

-- ---- items without aggregates

module _ (g : Given) (graph : Graph) (columns : List Column) where
  pub value_named : (row : Row) (c : Column) (b : Bound) → column_value g.parameters graph row c ≡ Ok b → b.0 ≡ c.name
  value_named row c b e = let v = went_well (evaluate row g.parameters graph c.value) (λ v. Ok (c.name, v)) b e in ap (λ (b : Bound). b.0) (sym (same_ok (c.name, v.0) b v.2))

  abbrev shown : Bool → Row → Row → Projected
  shown distinct row vs = record { columns = vs; earlier = cond distinct [] row }

  pub projected_bare : (row : Row) (r : Projected) → projected g.parameters graph true columns row ≡ Ok r → IsBare columns r
  projected_bare row r e =
      let vs = went_well (each_answer (column_value g.parameters graph row) columns) (λ vs. Ok (shown true row vs)) r e in
      subst (IsBare columns) (same_ok (shown true row vs.0) r vs.2) (columns_named (column_value g.parameters graph row) (value_named row) columns vs.0 vs.1, refl)

  item_evaluates : (distinct : Bool) (row : Row) (r : Projected) (c : Column) (f : Fault) → projected g.parameters graph distinct columns row ≡ Ok r → IsIn c columns → evaluate row g.parameters graph c.value ≡ Err f → ⊥
  item_evaluates distinct row r c f e i x =
      let vs = went_well (each_answer (column_value g.parameters graph row) columns) (λ vs. Ok (shown distinct row vs)) r e in
      let b = answered_at (column_value g.parameters graph row) c columns vs.0 vs.1 i in
      let v = went_well (evaluate row g.parameters graph c.value) (λ v. Ok (c.name, v)) b.0 b.2 in
      ok_or_err (evaluate row g.parameters graph c.value) v.0 f v.1 x

  abbrev FaultBy : Row → Fault → Column → Option Aggregate → Type 0
  FaultBy row f c o = elim o [ None ↦ evaluate row g.parameters graph c.value ≡ Err f | Some a ↦ ArgumentFaults g graph row a f ]

  plain_fault : (row : Row) (f : Fault) (c : Column) (o : Option Aggregate) → is_some o ≡ false → FaultBy row f c o → evaluate row g.parameters graph c.value ≡ Err f
  plain_fault row f c None n h = h
  plain_fault row f c (Some a) n h = cc

  pub no_plain_fault : (distinct : Bool) (rows : List Row) (made : List Projected) (f : Fault) → list_any is_aggregate columns ≡ false → AllZip (λ row r. projected g.parameters graph distinct columns row ≡ Ok r) rows made → AtSomeRow (ItemFaults g graph columns) rows f → ⊥
  no_plain_fault distinct rows made f none z x =
      let r = zipped_at (λ row r. projected g.parameters graph distinct columns row ≡ Ok r) x.0 rows made z x.1 in
      let c = x.2.0 in
      item_evaluates distinct x.0 r.0 c f r.2 x.2.1 (plain_fault x.0 f c (aggregate_of c.value) (none_in is_aggregate columns c none x.2.1) x.2.2)

  pub no_aggregate : (rows : List Row) (f : Fault) → list_any is_aggregate columns ≡ false → AggregateFaults g graph columns rows f → ⊥
  no_aggregate rows f none x = some_is_none (aggregate_of x.0.value) x.1 x.4 (none_in is_aggregate columns x.0 none x.3)
    where
      some_is_none : (o : Option Aggregate) (a : Aggregate) → o ≡ Some a → is_some o ≡ false → ⊥
      some_is_none None a e n = cc
      some_is_none (Some b) a e n = cc

  -- the items of some rows are one list
  pub same_items : (distinct : Bool) (rows : List Row) (made others : List Projected) → AllZip (λ row r. projected g.parameters graph distinct columns row ≡ Ok r) rows made → AllZip (λ row r. projected g.parameters graph distinct columns row ≡ Ok r) rows others → made ≡ others
  same_items distinct [] [] [] z y = refl
  same_items distinct [] [] (q ∷ qs) z y = absurd y
  same_items distinct [] (p ∷ ps) qs z y = absurd z
  same_items distinct (row ∷ rows) [] qs z y = absurd z
  same_items distinct (row ∷ rows) (p ∷ ps) [] z y = absurd y
  same_items distinct (row ∷ rows) (p ∷ ps) (q ∷ qs) z y =
      let first = same_ok p q (sym z.0 ∙ y.0) in
      let rest = same_items distinct rows ps qs z.1 y.1 in
      λ i. first i ∷ rest i

-- Parts of WITH and RETURN: steps, items without aggregates, DISTINCT, SKIP, LIMIT and WHERE.
use Rattle.std.proofs.Common.{◌≡◌, ℕ, ◌+◌, zero, suc, Bool, true, false, cond, ◌||◌, ◌&&◌, ◌⊎◌, inl, inr, List, [], ◌∷◌, map, take, drop, Option, Some, None, is_some, bytes_eq, Result, Ok, Err, refl, sym, ap, subst, ◌∙◌}
use Rattle.std.specs.Cmp.{eq_by_cmp_equiv}
use Rattle.std.specs.List.{AllByRecursion, AllZip, list_any}
use Rattle.std.specs.Map.{lookup}
use Rattle.pg_meaning.specs.Aggregates.{Aggregate, aggregate_of}
use Rattle.pg_meaning.specs.Agreement.{given_in, AreRowsOf}
use Rattle.pg_meaning.specs.Answer.{◌>>=◌, ◌>>◌, unless, each_answer}
use Rattle.pg_meaning.specs.AnswerLaws.{went_well, went_wrong, same_ok, answers_fault}
use Rattle.pg_meaning.specs.Conditions.{condition}
use Rattle.pg_meaning.specs.Expressions.{evaluate}
use Rattle.pg_meaning.specs.Graph.{Graph}
use Rattle.pg_meaning.specs.Lists.{IsIn, AllPairsByRecursion}
use Rattle.pg_meaning.specs.ListsLaws.{all_weaker, all_in_themselves}
use Rattle.pg_meaning.specs.Meaning.{Distinct, Passing, Projects, ItemFaults, ArgumentFaults, ProjectFaults}
use Rattle.pg_meaning.specs.Meters.{Setting, State, spend}
use Rattle.pg_meaning.specs.Names.{is_among}
use Rattle.pg_meaning.specs.OrderLaws.{order_total}
use Rattle.pg_meaning.specs.Projections.{Projected, visible, column_value, projected, skipped, limited, same_values, firsts, distinct_rows, passing_rows}
use Rattle.pg_meaning.specs.Rows.{Row, value_in, values_in}
use Rattle.pg_meaning.specs.Scopes.{Column, is_aggregate, column_names}
use Rattle.pg_meaning.specs.Tree.{Expression, Projection}
use Rattle.pg_meaning.specs.Value.{Value}
use Rattle.pg_meaning.specs.declared.fault.Fault.{Fault}
use Rattle.pg_meaning.specs.declared.fault.Fault.TheVariants.{StepQuota}

-- ---- steps

pub spend_fault : (s : Setting) (steps more : ℕ) (f : Fault) → spend s steps more ≡ Err f → f ≡ StepQuota
spend_fault s steps more f e = by_test _ e
  where
    by_test : (b : Bool) → (unless b StepQuota >> Ok (steps + more)) ≡ Err f → f ≡ StepQuota
    by_test true e = cc
    by_test false e = cc

-- ---- items

-- a projected row binds the names of its columns
unfoldable pub Binds : List Column → Projected → Type 0
Binds columns p = (name : List ℕ) → is_some (value_in name p.columns) ≡ is_among (map (λ (c : Column). c.name) columns) name

pub columns_bind : (s : Setting) (graph : Graph) (row : Row) (columns : List Column) (vs : Row) → each_answer (column_value s.parameters graph row) columns ≡ Ok vs
    → (name : List ℕ) → is_some (value_in name vs) ≡ is_among (map (λ (c : Column). c.name) columns) name
columns_bind s graph row [] vs e name = subst (λ ws. is_some (value_in name ws) ≡ false) (same_ok [] vs e) refl
columns_bind s graph row (c ∷ cs) vs e name =
    let first = went_well (column_value s.parameters graph row c) (λ b. each_answer (column_value s.parameters graph row) cs >>= λ bs. Ok (b ∷ bs)) vs e in
    let value = went_well (evaluate row s.parameters graph c.value) (λ v. Ok (c.name, v)) first.0 first.1 in
    let rest = went_well (each_answer (column_value s.parameters graph row) cs) (λ bs. Ok (first.0 ∷ bs)) vs first.2 in
    let named : c.name ≡ first.0.0 = ap (λ b. b.0) (same_ok (c.name, value.0) first.0 value.2) in
    let inner = columns_bind s graph row cs rest.0 rest.1 name in
    subst (λ ws. is_some (value_in name ws) ≡ (bytes_eq name c.name || is_among (map (λ (c : Column). c.name) cs) name)) (same_ok (first.0 ∷ rest.0) vs rest.2)
    (ap (λ t. is_some (cond (bytes_eq name t) (Some first.0.1) (lookup (bytes_eq name) rest.0))) (sym named) ∙ either_way (bytes_eq name c.name) first.0.1 (lookup (bytes_eq name) rest.0) _ inner)
  where
    either_way : (b : Bool) (v : Value) (o : Option Value) (r : Bool) → is_some o ≡ r → is_some (cond b (Some v) o) ≡ (b || r)
    either_way true v o r h = refl
    either_way false v o r h = h

projected_binds : (s : Setting) (graph : Graph) (distinct : Bool) (columns : List Column) (row : Row) (p : Projected) → projected s.parameters graph distinct columns row ≡ Ok p → Binds columns p
unfolding Binds
projected_binds s graph distinct columns row p e name =
    let vs = went_well (each_answer (column_value s.parameters graph row) columns) (λ vs. Ok (record { columns = vs; earlier = cond distinct [] row })) p e in
    subst (λ (q : Projected). is_some (value_in name q.columns) ≡ is_among (map (λ (c : Column). c.name) columns) name) (same_ok _ p vs.2) (columns_bind s graph row columns vs.0 vs.1 name)

pub all_bind : (s : Setting) (graph : Graph) (distinct : Bool) (columns : List Column) (rows : List Row) (ps : List Projected) → AllZip (λ row p. projected s.parameters graph distinct columns row ≡ Ok p) rows ps → AllByRecursion (Binds columns) ps
all_bind s graph distinct columns [] [] h = tt
all_bind s graph distinct columns [] (p ∷ ps) h = absurd h
all_bind s graph distinct columns (row ∷ rows) [] h = absurd h
all_bind s graph distinct columns (row ∷ rows) (p ∷ ps) h = (projected_binds s graph distinct columns row p h.0, all_bind s graph distinct columns rows ps h.1)

abbrev FaultBy : Setting → Graph → Row → Fault → Column → Option Aggregate → Type 0
FaultBy s graph row f c o = elim o [ None ↦ evaluate row s.parameters graph c.value ≡ Err f | Some a ↦ ArgumentFaults (given_in s) graph row a f ]

pub none_in : {X : Type 0} (test : X → Bool) (xs : List X) (x : X) → list_any test xs ≡ false → IsIn x xs → test x ≡ false
none_in test [] x h i = absurd i
none_in test (y ∷ ys) x h (inl e) = ap test e ∙ first_false (test y) _ h
  where
    first_false : (a b : Bool) → (a || b) ≡ false → a ≡ false
    first_false true b h = cc
    first_false false b h = refl
none_in test (y ∷ ys) x h (inr i) = none_in test ys x (second_false (test y) _ h) i
  where
    second_false : (a b : Bool) → (a || b) ≡ false → b ≡ false
    second_false true b h = cc
    second_false false b h = h

item_fault : (s : Setting) (graph : Graph) (row : Row) (f : Fault) (c : Column) (o : Option Aggregate) → is_some o ≡ false → evaluate row s.parameters graph c.value ≡ Err f
    → FaultBy s graph row f c o
item_fault s graph row f c None none e = e
item_fault s graph row f c (Some a) none e = cc

pub row_fault : (s : Setting) (graph : Graph) (distinct : Bool) (columns : List Column) (row : Row) (f : Fault) → list_any is_aggregate columns ≡ false → projected s.parameters graph distinct columns row ≡ Err f → ItemFaults (given_in s) graph columns row f
row_fault s graph distinct columns row f none e = by_columns (went_wrong (each_answer (column_value s.parameters graph row) columns) (λ vs. let p : Projected = record { columns = vs; earlier = cond distinct [] row } in Ok p) f e)
  where
    of_column : (c : Column) → IsIn c columns → column_value s.parameters graph row c ≡ Err f → ItemFaults (given_in s) graph columns row f
    of_column c i h = (c, i, item_fault s graph row f c (aggregate_of c.value) (none_in is_aggregate columns c none i) (value_fault (went_wrong (evaluate row s.parameters graph c.value) (λ v. Ok (c.name, v)) f h)))
      where
        value_fault : (evaluate row s.parameters graph c.value ≡ Err f) ⊎ ((v : Value) × (evaluate row s.parameters graph c.value ≡ Ok v) × (◌≡◌ {A = Result (List ℕ × Value) Fault} (Ok (c.name, v)) (Err f))) → evaluate row s.parameters graph c.value ≡ Err f
        value_fault (inl h) = h
        value_fault (inr h) = let impossible = h.2 in cc

    by_columns : (each_answer (column_value s.parameters graph row) columns ≡ Err f) ⊎ ((vs : Row) × (each_answer (column_value s.parameters graph row) columns ≡ Ok vs) × (◌≡◌ {A = Result Projected Fault} (Ok (record { columns = vs; earlier = cond distinct [] row })) (Err f)))
        → ItemFaults (given_in s) graph columns row f
    by_columns (inl h) = let found = answers_fault (column_value s.parameters graph row) columns f h in of_column found.0 found.1 found.2
    by_columns (inr h) = let impossible = h.2 in cc

-- ---- DISTINCT

pub same_itself : (vs : List Value) → same_values vs vs ≡ true
same_itself [] = refl
same_itself (v ∷ vs) = ap (λ b. b && same_values vs vs) ((eq_by_cmp_equiv order_total).refl v) ∙ same_itself vs

pub same_turned : (vs ws : List Value) → same_values vs ws ≡ same_values ws vs
same_turned [] [] = refl
same_turned [] (w ∷ ws) = refl
same_turned (v ∷ vs) [] = refl
same_turned (v ∷ vs) (w ∷ ws) = λ i. (eq_by_cmp_equiv order_total).symm v w i && same_turned vs ws i

abbrev Among : Projected → List (List Value) → Bool
Among p seen = list_any (same_values (values_in p.columns)) seen

pub or_false : (a b : Bool) → (a || b) ≡ false → (a ≡ false) × (b ≡ false)
or_false true b h = cc
or_false false b h = (refl, h)

firsts_from : (seen : List (List Value)) (ps all : List Projected) → AllByRecursion (λ p. IsIn p all) ps → AllByRecursion (λ p. IsIn p all) (firsts seen ps)
firsts_from seen [] all h = tt
firsts_from seen (p ∷ ps) all h =
    elim (Among p seen) as (λ b. AllByRecursion (λ p. IsIn p all) (elim b [ true ↦ firsts seen ps | false ↦ p ∷ firsts (values_in p.columns ∷ seen) ps ])) [
      | true ↦ firsts_from seen ps all h.1
      | false ↦ (h.0, firsts_from (values_in p.columns ∷ seen) ps all h.1)
    ]

-- each is kept, or alike with one that is
Kept : (seen : List (List Value)) → (kept : List Projected) → Projected → Type 0
Kept seen kept p = (Among p seen ≡ true) ⊎ ((q : Projected) × IsIn q kept × (same_values (values_in p.columns) (values_in q.columns) ≡ true))

kept_later : (p : Projected) (seen : List (List Value)) (kept : List Projected) (r : Projected) → Kept (values_in p.columns ∷ seen) kept r → Kept seen (p ∷ kept) r
unfolding Kept
kept_later p seen kept r (inr h) = inr (h.0, inr h.1, h.2)
kept_later p seen kept r (inl h) = by_first (same_values (values_in r.columns) (values_in p.columns)) refl
  where
    by_first : (b : Bool) → same_values (values_in r.columns) (values_in p.columns) ≡ b → (Among r seen ≡ true) ⊎ ((q : Projected) × IsIn q (p ∷ kept) × (same_values (values_in r.columns) (values_in q.columns) ≡ true))
    by_first true e = inr (p, inl refl, e)
    by_first false e = inl (sym (ap (λ b. b || Among r seen) e) ∙ h)

firsts_each : (seen : List (List Value)) (ps : List Projected) → AllByRecursion (Kept seen (firsts seen ps)) ps
unfolding Kept
firsts_each seen [] = tt
firsts_each seen (p ∷ ps) =
    elim (Among p seen) as (λ b. Among p seen ≡ b → AllByRecursion (Kept seen (elim b [ true ↦ firsts seen ps | false ↦ p ∷ firsts (values_in p.columns ∷ seen) ps ])) (p ∷ ps)) [
      | true ↦ λ e. (inl e, firsts_each seen ps)
      | false ↦ λ e. (inr (p, inl refl, same_itself (values_in p.columns)), all_weaker (Kept (values_in p.columns ∷ seen) (firsts (values_in p.columns ∷ seen) ps)) (Kept seen (p ∷ firsts (values_in p.columns ∷ seen) ps)) (kept_later p seen (firsts (values_in p.columns ∷ seen) ps)) ps (firsts_each (values_in p.columns ∷ seen) ps))
    ] refl

firsts_unseen : (seen : List (List Value)) (ps : List Projected) → AllByRecursion (λ q. Among q seen ≡ false) (firsts seen ps)
firsts_unseen seen [] = tt
firsts_unseen seen (p ∷ ps) =
    elim (Among p seen) as (λ b. Among p seen ≡ b → AllByRecursion (λ q. Among q seen ≡ false) (elim b [ true ↦ firsts seen ps | false ↦ p ∷ firsts (values_in p.columns ∷ seen) ps ])) [
      | true ↦ λ e. firsts_unseen seen ps
      | false ↦ λ e. (e, all_weaker (λ q. Among q (values_in p.columns ∷ seen) ≡ false) (λ q. Among q seen ≡ false) (λ q h. (or_false _ _ h).1) (firsts (values_in p.columns ∷ seen) ps) (firsts_unseen (values_in p.columns ∷ seen) ps))
    ] refl

firsts_once : (seen : List (List Value)) (ps : List Projected) → AllPairsByRecursion (λ p q. same_values (values_in p.columns) (values_in q.columns) ≡ false) (firsts seen ps)
firsts_once seen [] = tt
firsts_once seen (p ∷ ps) =
    elim (Among p seen) as (λ b. AllPairsByRecursion (λ p q. same_values (values_in p.columns) (values_in q.columns) ≡ false) (elim b [ true ↦ firsts seen ps | false ↦ p ∷ firsts (values_in p.columns ∷ seen) ps ])) [
      | true ↦ firsts_once seen ps
      | false ↦ (
        all_weaker (λ q. Among q (values_in p.columns ∷ seen) ≡ false) (λ q. same_values (values_in p.columns) (values_in q.columns) ≡ false) (λ q h. same_turned (values_in p.columns) (values_in q.columns) ∙ (or_false _ _ h).0) (firsts (values_in p.columns ∷ seen) ps) (firsts_unseen (values_in p.columns ∷ seen) ps),
        firsts_once (values_in p.columns ∷ seen) ps,
      )
    ]

pub distinct_agrees : (distinct : Bool) (ps : List Projected) → Distinct distinct ps (distinct_rows distinct ps)
unfolding Kept
distinct_agrees true ps = record {
  from = firsts_from [] ps ps (all_in_themselves ps);
  each = all_weaker (Kept [] (firsts [] ps)) (λ p. (q : Projected) × IsIn q (firsts [] ps) × (same_values (values_in p.columns) (values_in q.columns) ≡ true)) kept_only ps (firsts_each [] ps);
  once = firsts_once [] ps;
}
  where
    kept_only : (p : Projected) → (false ≡ true) ⊎ ((q : Projected) × IsIn q (firsts [] ps) × (same_values (values_in p.columns) (values_in q.columns) ≡ true))
        → (q : Projected) × IsIn q (firsts [] ps) × (same_values (values_in p.columns) (values_in q.columns) ≡ true)
    kept_only p (inl e) = cc
    kept_only p (inr h) = h
distinct_agrees false ps = refl

all_firsts : (P : Projected → Type 0) (seen : List (List Value)) (ps : List Projected) → AllByRecursion P ps → AllByRecursion P (firsts seen ps)
all_firsts P seen [] h = tt
all_firsts P seen (p ∷ ps) h =
    elim (Among p seen) as (λ b. AllByRecursion P (elim b [ true ↦ firsts seen ps | false ↦ p ∷ firsts (values_in p.columns ∷ seen) ps ])) [
      | true ↦ all_firsts P seen ps h.1
      | false ↦ (h.0, all_firsts P (values_in p.columns ∷ seen) ps h.1)
    ]

pub all_distinct : (P : Projected → Type 0) (distinct : Bool) (ps : List Projected) → AllByRecursion P ps → AllByRecursion P (distinct_rows distinct ps)
all_distinct P true ps h = all_firsts P [] ps h
all_distinct P false ps h = h

-- ---- WHERE, SKIP and LIMIT

pub passing_agrees : (s : Setting) (graph : Graph) (where_ : Option Expression) (ps kept : List Projected) → passing_rows s graph where_ ps ≡ Ok kept → Passing (given_in s) graph where_ ps kept
passing_agrees s graph where_ [] kept e = sym (same_ok [] kept e)
passing_agrees s graph where_ (p ∷ ps) kept e =
    let first = went_well (condition where_ (visible p) s.parameters graph) (λ b. passing_rows s graph where_ ps >>= λ others. Ok (elim b [ true ↦ p ∷ others | false ↦ others ])) kept e in
    let rest = went_well (passing_rows s graph where_ ps) (λ others. Ok (elim first.0 [ true ↦ p ∷ others | false ↦ others ])) kept first.2 in
    (first.0, rest.0, first.1, passing_agrees s graph where_ ps rest.0 rest.1, sym (same_ok _ kept rest.2) ∙ as_cond first.0 p rest.0)
  where
    as_cond : (b : Bool) (p : Projected) (others : List Projected) → elim b as (λ b. List Projected) [ true ↦ p ∷ others | false ↦ others ] ≡ cond b (p ∷ others) others
    as_cond true p others = refl
    as_cond false p others = refl

pub passing_fault : (s : Setting) (graph : Graph) (where_ : Option Expression) (ps : List Projected) (f : Fault) → passing_rows s graph where_ ps ≡ Err f → (p : Projected) × IsIn p ps × (condition where_ (visible p) s.parameters graph ≡ Err f)
passing_fault s graph where_ [] f e = cc
passing_fault s graph where_ (p ∷ ps) f e =
    by_first (went_wrong (condition where_ (visible p) s.parameters graph) (λ b. passing_rows s graph where_ ps >>= λ others. Ok (elim b [ true ↦ p ∷ others | false ↦ others ])) f e) (passing_fault s graph where_ ps f)
  where
    Found : List Projected → Type 0
    Found qs = (q : Projected) × IsIn q qs × (condition where_ (visible q) s.parameters graph ≡ Err f)

    rest_after : Bool → List Projected → Result (List Projected) Fault
    rest_after b others = Ok (elim b [ true ↦ p ∷ others | false ↦ others ])

    by_rest : (b : Bool) → (passing_rows s graph where_ ps ≡ Err f) ⊎ ((others : List Projected) × (passing_rows s graph where_ ps ≡ Ok others) × (rest_after b others ≡ Err f)) → (passing_rows s graph where_ ps ≡ Err f → Found ps) → Found (p ∷ ps)
    by_rest b (inl h) rest = let q = rest h in (q.0, inr q.1, q.2)
    by_rest b (inr h) rest = let impossible = h.2 in cc

    by_first : (condition where_ (visible p) s.parameters graph ≡ Err f) ⊎ ((b : Bool) × (condition where_ (visible p) s.parameters graph ≡ Ok b) × ((passing_rows s graph where_ ps >>= rest_after b) ≡ Err f))
        → (passing_rows s graph where_ ps ≡ Err f → Found ps) → Found (p ∷ ps)
    by_first (inl h) rest = (p, inl refl, h)
    by_first (inr h) rest = by_rest h.0 (went_wrong (passing_rows s graph where_ ps) (rest_after h.0) f h.2) rest

module _ (P : Projected → Type 0) where
  all_taken : (n : ℕ) (ps : List Projected) → AllByRecursion P ps → AllByRecursion P (take n ps)
  all_taken zero ps h = tt
  all_taken (suc n) [] h = tt
  all_taken (suc n) (p ∷ ps) h = (h.0, all_taken n ps h.1)

  all_dropped : (n : ℕ) (ps : List Projected) → AllByRecursion P ps → AllByRecursion P (drop n ps)
  all_dropped zero ps h = h
  all_dropped (suc n) [] h = tt
  all_dropped (suc n) (p ∷ ps) h = all_dropped n ps h.1

  pub all_cut : (skip limit : Option ℕ) (ps : List Projected) → AllByRecursion P ps → AllByRecursion P (limited limit (skipped skip ps))
  all_cut None None ps h = h
  all_cut None (Some n) ps h = all_taken n ps h
  all_cut (Some m) None ps h = all_dropped m ps h
  all_cut (Some m) (Some n) ps h = all_taken n (drop m ps) (all_dropped m ps h)

  pub all_passing : (s : Setting) (graph : Graph) (where_ : Option Expression) (ps kept : List Projected) → Passing (given_in s) graph where_ ps kept → AllByRecursion P ps → AllByRecursion P kept
  all_passing s graph where_ [] kept e h = subst (AllByRecursion P) (sym e) tt
  all_passing s graph where_ (p ∷ ps) kept e h = subst (AllByRecursion P) (sym e.4) (by_first e.0 (all_passing s graph where_ ps e.1 e.3 h.1))
    where
      by_first : (b : Bool) → AllByRecursion P e.1 → AllByRecursion P (cond b (p ∷ e.1) e.1)
      by_first true r = (h.0, r)
      by_first false r = r

pub rows_bind : (columns : List Column) (ps : List Projected) → AllByRecursion (Binds columns) ps → AreRowsOf (column_names columns) (map (λ (p : Projected). p.columns) ps)
unfolding Binds
rows_bind columns [] h = tt
rows_bind columns (p ∷ ps) h = (h.0, rows_bind columns ps h.1)

-- ---- the clause

abbrev pub ProjectionAgrees : Setting → List Column → Projection → Option Expression → State → Result State Fault → Type 0
ProjectionAgrees s columns p where_ state (Ok next) = (next.graph ≡ state.graph) × Projects (given_in s) state.graph columns p where_ state.rows next.rows × AreRowsOf (column_names columns) next.rows
ProjectionAgrees s columns p where_ state (Err f) = (f ≡ StepQuota) ⊎ ProjectFaults (given_in s) state.graph columns p where_ state.rows f

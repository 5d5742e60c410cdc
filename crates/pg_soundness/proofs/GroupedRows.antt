-- Grouping: row after row into the group of its key, and the groups are those of the meaning.
use Rattle.std.proofs.Common.{◌≡◌, Bool, true, false, cond, ◌||◌, ◌⊎◌, inl, inr, List, [], ◌∷◌, ◌++◌, map, filter, Some, Result, Ok, Err, refl, sym, ap, subst, ◌∙◌, append_assoc}
use Rattle.std.proofs.lemmas.List.{append-nil}
use Rattle.std.specs.List.{AllByRecursion, AllZip, list_any}
use Rattle.pg_meaning.specs.Turns.{AtSomeRow}
use Rattle.pg_meaning.specs.Aggregates.{Aggregate, aggregate_of, take_in}
use Rattle.pg_meaning.specs.Agreement.{given_in}
use Rattle.pg_meaning.specs.Answer.{◌>>=◌, each_answer, each_step}
use Rattle.pg_meaning.specs.AnswerLaws.{went_well, went_wrong, same_ok}
use Rattle.pg_meaning.specs.Expressions.{evaluate}
use Rattle.pg_meaning.specs.Graph.{Graph}
use Rattle.pg_meaning.specs.Lists.{IsIn}
use Rattle.pg_meaning.specs.ListsLaws.{all_weaker}
use Rattle.pg_meaning.specs.Meaning.{taken_in, group_value, grouping_key, rows_with_key, keyed_rows, Groups, ItemFaults, AggregateFaults}
use Rattle.pg_meaning.specs.Meters.{Setting}
use Rattle.pg_soundness.proofs.ProjectedParts.{Binds, same_itself, same_turned}
use Rattle.pg_meaning.specs.Projections.{Projected, Group, same_values, argument_value, fold_cells, grouping_columns, into_groups, group_row, first_groups, group_columns, grouped}
use Rattle.pg_meaning.specs.Rows.{Row}
use Rattle.pg_meaning.specs.Scopes.{Column}
use Rattle.pg_meaning.specs.Value.{Value}
use Rattle.pg_meaning.specs.declared.fault.Fault.{Fault}
use Rattle.pg_soundness.proofs.GroupCells.{steps_fail, Holds, CellsFault, CellsStep, cells_step, no_cells, nothing_held, ItemFaultBy, either_fault, alone_fault, key_fault, group_told, group_binds}
use Rattle.pg_soundness.proofs.GroupKeys.{Key, Keyed, same_exact, keys_with, AreOnce, AreKeysOf, keys_begin, keys_more, are_groups}

-- ---- the rows of a key

rows_joined : (key : Key) (done more : List Keyed) → rows_with_key key (done ++ more) ≡ rows_with_key key done ++ rows_with_key key more
rows_joined key [] more = refl
rows_joined key (d ∷ done) more =
    elim (same_values d.0 key) as (λ b. map (λ (k : Keyed). k.1) (cond b (d ∷ filter (λ (k : Keyed). same_values k.0 key) (done ++ more)) (filter (λ (k : Keyed). same_values k.0 key) (done ++ more)))
    ≡ map (λ (k : Keyed). k.1) (cond b (d ∷ filter (λ (k : Keyed). same_values k.0 key) done) (filter (λ (k : Keyed). same_values k.0 key) done)) ++ rows_with_key key more) [
      | true ↦ ap (λ rows. d.1 ∷ rows) (rows_joined key done more)
      | false ↦ rows_joined key done more
    ]

one_row : Bool → Key → Row → List Row
one_row b k row = map (λ (k : Keyed). k.1) (cond b ((k, row) ∷ []) [])

rows_more : (key : Key) (done : List Keyed) (k : Key) (row : Row) (b : Bool) → same_values k key ≡ b → rows_with_key key (done ++ (k, row) ∷ []) ≡ rows_with_key key done ++ one_row b k row
unfolding one_row
rows_more key done k row b e = rows_joined key done ((k, row) ∷ []) ∙ ap (λ c. rows_with_key key done ++ one_row c k row) e

rows_same : (key : Key) (done : List Keyed) (k : Key) (row : Row) → same_values k key ≡ true → rows_with_key key (done ++ (k, row) ∷ []) ≡ rows_with_key key done ++ row ∷ []
unfolding one_row
rows_same key done k row e = rows_more key done k row true e

rows_other : (key : Key) (done : List Keyed) (k : Key) (row : Row) → same_values k key ≡ false → rows_with_key key (done ++ (k, row) ∷ []) ≡ rows_with_key key done
unfolding one_row
rows_other key done k row e = rows_more key done k row false e ∙ append-nil (rows_with_key key done)

no_rows : (key : Key) (done : List Keyed) → AllByRecursion (λ (d : Keyed). same_values d.0 key ≡ false) done → rows_with_key key done ≡ []
no_rows key [] h = refl
no_rows key (d ∷ done) h = ap (λ b. map (λ (k : Keyed). k.1) (cond b (d ∷ filter (λ (k : Keyed). same_values k.0 key) done) (filter (λ (k : Keyed). same_values k.0 key) done))) h.0 ∙ no_rows key done h.1

abbrev keys_in : List Group → List Key
keys_in = map (λ (g : Group). g.key)

module _ (s : Setting) (graph : Graph) (columns : List Column) where
  abbrev GroupHolds : List Keyed → Group → Type 0
  GroupHolds done g = AllZip (Holds s graph (rows_with_key g.key done)) columns g.cells

  abbrev AggregateFault : List Keyed → Fault → Type 0
  AggregateFault done f = (c : Column) × (a : Aggregate) × (key : Key) × IsIn c columns × (aggregate_of c.value ≡ Some a) × (taken_in (given_in s) graph a (rows_with_key key done) ≡ Err f)

  abbrev StepFault : List Keyed → Row → Fault → Type 0
  StepFault done row f = ItemFaults (given_in s) graph columns row f ⊎ AggregateFault done f

  -- ---- one row

  abbrev IntoStep : List Keyed → Row → List Key → Result (List Group) Fault → Type 0
  IntoStep done row keys (Ok gs) = (keys_in gs ≡ keys) × AllByRecursion (GroupHolds done) gs
  IntoStep done row keys (Err f) = StepFault done row f

  step_fault : (key : Key) (rows : List Row) (done : List Keyed) (row : Row) (f : Fault) → rows_with_key key done ≡ rows ++ row ∷ [] → CellsFault s graph columns rows row f → StepFault done row f
  step_fault key rows done row f more h = by_kind (either_fault s graph h.0 rows row f h.2)
    where
      by_kind : ItemFaultBy s graph h.0 (aggregate_of h.0.value) row f ⊎ ((a : Aggregate) × (aggregate_of h.0.value ≡ Some a) × (taken_in (given_in s) graph a (rows ++ row ∷ []) ≡ Err f)) → StepFault done row f
      by_kind (inl i) = inl (h.0, h.1, i)
      by_kind (inr i) = inr (h.0, i.0, key, h.1, i.1, ap (taken_in (given_in s) graph i.0) more ∙ i.2)

  -- the row's group gets its row, from what it held before
  own_group : (key : Key) (rows : List Row) (done : List Keyed) (row : Row) (gs : List Group) (keys : List Key) (cells : Result (List (List Value)) Fault) → rows_with_key key done ≡ rows ++ row ∷ [] → key ∷ keys_in gs ≡ keys
      → AllByRecursion (GroupHolds done) gs → CellsStep s graph columns rows row cells
      → IntoStep done row keys (cells >>= λ cs. Ok (record { key = key; cells = cs } ∷ gs))
  own_group key rows done row gs keys (Ok cs) more same others h = (same, (subst (λ rs. AllZip (Holds s graph rs) columns cs) (sym more) h, others))
  own_group key rows done row gs keys (Err f) more same others h = step_fault key rows done row f more h

  others_hold : (done : List Keyed) (k : Key) (row : Row) (gs : List Group) → AllByRecursion (GroupHolds done) gs → AllByRecursion (λ l. same_values k l ≡ false) (keys_in gs) → AllByRecursion (GroupHolds (done ++ (k, row) ∷ [])) gs
  others_hold done k row [] h apart = tt
  others_hold done k row (g ∷ gs) h apart = (subst (λ rs. AllZip (Holds s graph rs) columns g.cells) (sym (rows_other g.key done k row apart.0)) h.0, others_hold done k row gs h.1 apart.1)

  -- a row so far stands in one of the groups, or has another key
  abbrev Placed : Key → List Group → Keyed → Type 0
  Placed k gs d = (list_any (same_values d.0) (keys_in gs) ≡ true) ⊎ (same_values d.0 k ≡ false)

  placed_later : (k : Key) (g : Group) (gs : List Group) → same_values g.key k ≡ false → (d : Keyed) → Placed k (g ∷ gs) d → Placed k gs d
  placed_later k g gs apart d (inr h) = inr h
  placed_later k g gs apart d (inl h) = by_first (same_values d.0 g.key) refl h
    where
      by_first : (b : Bool) → same_values d.0 g.key ≡ b → (b || list_any (same_values d.0) (keys_in gs)) ≡ true → Placed k gs d
      by_first true e h = inr (ap (λ l. same_values l k) (same_exact d.0 g.key e) ∙ apart)
      by_first false e h = inl h

  placed_nowhere : (k : Key) (d : Keyed) → Placed k [] d → same_values d.0 k ≡ false
  placed_nowhere k d (inl h) = cc
  placed_nowhere k d (inr h) = h

  into_step : (done : List Keyed) (row : Row) (k : Key) (gs : List Group) → AllByRecursion (GroupHolds done) gs → AreOnce (keys_in gs) → AllByRecursion (Placed k gs) done
      → IntoStep (done ++ (k, row) ∷ []) row (keys_with k (keys_in gs)) (into_groups s graph columns row k gs)
  into_step done row k [] h once placed =
      let none = no_rows k done (all_weaker (Placed k []) (λ (d : Keyed). same_values d.0 k ≡ false) (placed_nowhere k) done placed) in
      own_group k [] (done ++ (k, row) ∷ []) row [] (k ∷ []) (fold_cells s graph row true columns []) (rows_same k done k row (same_itself k) ∙ ap (λ rs. rs ++ row ∷ []) none) refl tt
      (subst (CellsStep s graph columns [] row) (no_cells s graph row true columns) (cells_step s graph columns (map (λ c. []) columns) [] row (nothing_held s graph columns)))
  into_step done row k (g ∷ gs) h once placed =
      let later = into_step done row k gs h.1 once.1 in
      elim (same_values g.key k) as (λ b. same_values g.key k ≡ b → IntoStep (done ++ (k, row) ∷ []) row (elim b as (λ b. List Key) [ true ↦ g.key ∷ keys_in gs | false ↦ g.key ∷ keys_with k (keys_in gs) ])
      (elim b as (λ b. Result (List Group) Fault) [ true ↦ fold_cells s graph row true columns g.cells >>= λ cells. Ok (record { key = g.key; cells = cells } ∷ gs) | false ↦ into_groups s graph columns row k gs >>= λ hs. Ok (g ∷ hs) ])) [
        | true ↦ λ e. own_group g.key (rows_with_key g.key done) (done ++ (k, row) ∷ []) row gs (g.key ∷ keys_in gs) (fold_cells s graph row true columns g.cells) (rows_same g.key done k row (same_turned k g.key ∙ e)) refl
            (others_hold done k row gs h.1 (all_weaker (λ l. same_values g.key l ≡ false) (λ l. same_values k l ≡ false) (λ l apart. ap (λ m. same_values m l) (sym (same_exact g.key k e)) ∙ apart) (keys_in gs) once.0))
            (cells_step s graph columns g.cells (rows_with_key g.key done) row h.0)
        | false ↦ λ e. behind e (into_groups s graph columns row k gs) (later (all_weaker (Placed k (g ∷ gs)) (Placed k gs) (placed_later k g gs e) done placed))
      ] refl
    where
      behind : same_values g.key k ≡ false → (r : Result (List Group) Fault) → IntoStep (done ++ (k, row) ∷ []) row (keys_with k (keys_in gs)) r → IntoStep (done ++ (k, row) ∷ []) row (g.key ∷ keys_with k (keys_in gs)) (r >>= λ hs. Ok (g ∷ hs))
      behind e (Ok hs) i = (ap (λ ks. g.key ∷ ks) i.0, (subst (λ rs. AllZip (Holds s graph rs) columns g.cells) (sym (rows_other g.key done k row (same_turned k g.key ∙ e))) h.0, i.1))
      behind e (Err f) i = i

  -- ---- row after row

  abbrev keyed_row : Row → Result Keyed Fault
  keyed_row row = grouping_key (given_in s) graph columns row >>= λ k. Ok (k, row)

  abbrev Folded : List Keyed → List Row → Result (List Group) Fault → Type 0
  Folded done rows (Ok gs) = (more : List Keyed) × (each_answer keyed_row rows ≡ Ok more) × AllByRecursion (GroupHolds (done ++ more)) gs × AreKeysOf (grouping_columns columns) (done ++ more) (keys_in gs)
  Folded done rows (Err f) = AtSomeRow (ItemFaults (given_in s) graph columns) rows f ⊎ AggregateFault (done ++ keyed_rows (given_in s) graph columns rows) f

  -- a fault over the first rows of a key stays one
  fault_stays : (done more : List Keyed) (f : Fault) → AggregateFault done f → AggregateFault (done ++ more) f
  fault_stays done more f h = (
    h.0,
    h.1,
    h.2,
    h.3,
    h.4,
    ap (taken_in (given_in s) graph h.1) (rows_joined h.2 done more) ∙ steps_fail (λ vs row. argument_value s.parameters graph row h.1 >>= take_in h.1 vs) (rows_with_key h.2 done) (rows_with_key h.2 more) [] f h.5,
  )

  keyed_first : (k : Key) (row : Row) (rows : List Row) → grouping_key (given_in s) graph columns row ≡ Ok k → keyed_rows (given_in s) graph columns (row ∷ rows) ≡ (k, row) ∷ keyed_rows (given_in s) graph columns rows
  keyed_first k row rows e = ap (λ (r : Result Key Fault). elim r as (λ r. List Keyed) [ Ok k ↦ (k, row) ∷ [] | Err f ↦ [] ] ++ keyed_rows (given_in s) graph columns rows) e

  -- the first row with its key, and then the others
  folded_on : (done : List Keyed) (k : Key) (row : Row) (rows : List Row) → grouping_key (given_in s) graph columns row ≡ Ok k → (r : Result (List Group) Fault) → Folded (done ++ (k, row) ∷ []) rows r → Folded done (row ∷ rows) r
  folded_on done k row rows e (Ok gs) h =
      let joined = append_assoc done ((k, row) ∷ []) h.0 in (
        (k, row) ∷ h.0,
        ap (λ (r : Result Key Fault). r >>= (λ l. Ok (l, row)) >>= λ d. each_answer keyed_row rows >>= λ ds. Ok (d ∷ ds)) e ∙ ap (λ (r : Result (List Keyed) Fault). r >>= λ ds. Ok ((k, row) ∷ ds)) h.1,
        subst (λ ds. AllByRecursion (GroupHolds ds) gs) joined h.2,
        subst (λ ds. AreKeysOf (grouping_columns columns) ds (keys_in gs)) joined h.3,
      )
  folded_on done k row rows e (Err f) (inl h) = inl (h.0, inr h.1, h.2)
  folded_on done k row rows e (Err f) (inr h) =
      inr (subst (λ ds. AggregateFault ds f) (append_assoc done ((k, row) ∷ []) (keyed_rows (given_in s) graph columns rows) ∙ ap (λ ds. done ++ ds) (sym (keyed_first k row rows e))) h)

  fault_at_first : (done : List Keyed) (k : Key) (row : Row) (rows : List Row) (f : Fault) → grouping_key (given_in s) graph columns row ≡ Ok k → StepFault (done ++ (k, row) ∷ []) row f → Folded done (row ∷ rows) (Err f)
  fault_at_first done k row rows f e (inl h) = inl (row, inl refl, h)
  fault_at_first done k row rows f e (inr h) =
      folded_on done k row rows e (Err f) (inr (fault_stays (done ++ (k, row) ∷ []) (keyed_rows (given_in s) graph columns rows) f h))

  without_key : (done : List Keyed) (row : Row) (rows : List Row) (g : Fault) → grouping_key (given_in s) graph columns row ≡ Err g → (cells : Result (List (List Value)) Fault) → fold_cells s graph row false columns [] ≡ cells
      → Folded done (row ∷ rows) (cells >>= (λ cs. let r : Result (List Group) Fault = Err g in r) >>= λ gs. each_step (group_row s graph columns) gs rows)
  without_key done row rows g e (Ok cs) h = inl (row, inl refl, key_fault s graph columns row g e)
  without_key done row rows g e (Err f) h = inl (row, inl refl, alone_fault s graph columns row f h)

  abbrev RestFolds : List Keyed → Row → List Row → Type 0
  RestFolds done row rows =
      (k : Key) (gs : List Group) → AllByRecursion (GroupHolds (done ++ (k, row) ∷ [])) gs → AreKeysOf (grouping_columns columns) (done ++ (k, row) ∷ []) (keys_in gs)
      → Folded (done ++ (k, row) ∷ []) rows (each_step (group_row s graph columns) gs rows)

  folded : (rows : List Row) (done : List Keyed) (gs : List Group) → AllByRecursion (GroupHolds done) gs → AreKeysOf (grouping_columns columns) done (keys_in gs) → Folded done rows (each_step (group_row s graph columns) gs rows)
  folded [] done gs h keys =
      let same = sym (append-nil done) in
      ([], refl, subst (λ ds. AllByRecursion (GroupHolds ds) gs) same h, subst (λ ds. AreKeysOf (grouping_columns columns) ds (keys_in gs)) same keys)
  folded (row ∷ rows) done gs h keys = by_key (grouping_key (given_in s) graph columns row) refl (λ k hs. folded rows (done ++ (k, row) ∷ []) hs)
    where
      by_group : (k : Key) → grouping_key (given_in s) graph columns row ≡ Ok k → RestFolds done row rows → (r : Result (List Group) Fault) → IntoStep (done ++ (k, row) ∷ []) row (keys_with k (keys_in gs)) r → Folded done (row ∷ rows) (r >>= λ hs. each_step (group_row s graph columns) hs rows)
      by_group k e rest (Ok hs) i =
          folded_on done k row rows e (each_step (group_row s graph columns) hs rows)
          (rest k hs i.1 (subst (AreKeysOf (grouping_columns columns) (done ++ (k, row) ∷ [])) (sym i.0) (keys_more (grouping_columns columns) (λ c. evaluate row s.parameters graph c.value) done (keys_in gs) k row e keys)))
      by_group k e rest (Err f) i = fault_at_first done k row rows f e i

      by_key : (k : Result Key Fault) → grouping_key (given_in s) graph columns row ≡ k → RestFolds done row rows
          → Folded done (row ∷ rows) (elim k as (λ k. Result (List Group) Fault) [ Ok vs ↦ into_groups s graph columns row vs gs | Err f ↦ fold_cells s graph row false columns [] >>= λ cells. Err f ] >>= λ hs. each_step (group_row s graph columns) hs rows)
      by_key (Ok k) e rest = by_group k e rest (into_groups s graph columns row k gs) (into_step done row k gs h keys.once (all_weaker (λ (d : Keyed). list_any (same_values d.0) (keys_in gs) ≡ true) (Placed k gs) (λ d i. inl i) done keys.among))
      by_key (Err f) e rest = without_key done row rows f e (fold_cells s graph row false columns []) refl

  -- ---- the groups

  abbrev first_by : List Column → List Group
  first_by grouping = elim grouping [ [] ↦ record { key = []; cells = map (λ c. []) columns } ∷ [] | c ∷ cs ↦ [] ]

  first_hold : (grouping : List Column) → AllByRecursion (GroupHolds []) (first_by grouping) × AreKeysOf grouping [] (keys_in (first_by grouping))
  first_hold [] = ((nothing_held s graph columns, tt), keys_begin [])
  first_hold (c ∷ cs) = (tt, keys_begin (c ∷ cs))

  all_folded : (rows : List Row) → Folded [] rows (each_step (group_row s graph columns) (first_groups columns) rows)
  all_folded rows = let first = first_hold (grouping_columns columns) in folded rows [] (first_groups columns) first.0 first.1

  abbrev shown : Group → Projected
  shown g = record { columns = group_columns columns g.cells; earlier = [] }

  summaries_are : (done : List Keyed) (gs : List Group) → AllByRecursion (GroupHolds done) gs
      → AllZip (λ k (r : Projected). (each_answer (group_value (given_in s) graph (rows_with_key k done)) columns ≡ Ok r.columns) × (r.earlier ≡ [])) (keys_in gs) (map shown gs)
  summaries_are done [] h = tt
  summaries_are done (g ∷ gs) h = ((group_told s graph columns g.cells (rows_with_key g.key done) h.0, refl), summaries_are done gs h.1)

  all_bind : (done : List Keyed) (gs : List Group) → AllByRecursion (GroupHolds done) gs → AllByRecursion (Binds columns) (map shown gs)
  unfolding Binds
  all_bind done [] h = tt
  all_bind done (g ∷ gs) h = (group_binds s graph columns g.cells (rows_with_key g.key done) h.0, all_bind done gs h.1)

  pub groups_agree : (rows : List Row) (ps : List Projected) → grouped s graph columns rows ≡ Ok ps → Groups (given_in s) graph columns rows ps × AllByRecursion (Binds columns) ps
  groups_agree rows ps e =
      let groups = went_well (each_step (group_row s graph columns) (first_groups columns) rows) (λ gs. Ok (map shown gs)) ps e in
      let h : Folded [] rows (Ok groups.0) = subst (Folded [] rows) groups.1 (all_folded rows) in
      subst (λ ps. Groups (given_in s) graph columns rows ps × AllByRecursion (Binds columns) ps) (same_ok (map shown groups.0) ps groups.2)
      (record { keyed = h.0; evaluated = h.1; keys = keys_in groups.0; groups = are_groups columns h.0 (keys_in groups.0) h.3; summaries = summaries_are h.0 groups.0 h.2 }, all_bind h.0 groups.0 h.2)

  pub groups_fault : (rows : List Row) (f : Fault) → grouped s graph columns rows ≡ Err f → AtSomeRow (ItemFaults (given_in s) graph columns) rows f ⊎ AggregateFaults (given_in s) graph columns rows f
  groups_fault rows f e = by_groups (went_wrong (each_step (group_row s graph columns) (first_groups columns) rows) (λ gs. Ok (map shown gs)) f e)
    where
      by_groups : (each_step (group_row s graph columns) (first_groups columns) rows ≡ Err f) ⊎ ((gs : List Group) × (each_step (group_row s graph columns) (first_groups columns) rows ≡ Ok gs) × (◌≡◌ {A = Result (List Projected) Fault} (Ok (map shown gs)) (Err f)))
          → AtSomeRow (ItemFaults (given_in s) graph columns) rows f ⊎ AggregateFaults (given_in s) graph columns rows f
      by_groups (inl h) = subst (Folded [] rows) h (all_folded rows)
      by_groups (inr h) = let impossible = h.2 in cc

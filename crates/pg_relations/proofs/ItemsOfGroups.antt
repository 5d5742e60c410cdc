-- Groups: no row and no group has a fault, and the groups are the same in any order.
use Rattle.std.proofs.Common.{◌≡◌, ◌≢◌, Bool, true, false, cond, not, ◌||◌, inl, inr, List, [], ◌∷◌, ◌++◌, map, filter, Option, Some, None, is_some, Result, Ok, Err, refl, sym, ap, subst, ◌∙◌, true≢false}
use Rattle.std.proofs.lemmas.List.Sorted.{IsPermutation-map}
use Rattle.std.specs.List.{AllZip, AllByRecursion, list_any}
use Rattle.std.specs.List.Sorted.{IsPermutation}
use Rattle.pg_soundness.proofs.ChangesOptions.{ok_or_err}
use Rattle.pg_soundness.proofs.GroupKeys.{Key, Keyed, same_exact}
use Rattle.pg_soundness.proofs.ProjectedParts.{same_itself}
use Rattle.pg_meaning.specs.Aggregates.{Aggregate, aggregate_of, summarized}
use Rattle.pg_meaning.specs.Answer.{◌>>=◌, each_answer}
use Rattle.pg_meaning.specs.AnswerLaws.{went_well, same_ok}
use Rattle.pg_meaning.specs.Expressions.{evaluate}
use Rattle.pg_meaning.specs.Graph.{Graph}
use Rattle.pg_meaning.specs.Lists.{IsIn, AllPairsByRecursion}
use Rattle.pg_meaning.specs.ListsLaws.{all_at, in_filtered, in_mapped, all_weaker}
use Rattle.pg_meaning.specs.Meaning.{taken_in, first_value, group_value, grouping_key, rows_with_key, AreGroups, Groups, ArgumentFaults, ItemFaults, keyed_rows, AggregateFaults}
use Rattle.pg_meaning.specs.Projections.{Projected, same_values, grouping_columns}
use Rattle.pg_meaning.specs.Rows.{Row}
use Rattle.pg_meaning.specs.Scopes.{Column, is_aggregate}
use Rattle.pg_meaning.specs.Turns.{Given, AtSomeRow}
use Rattle.pg_meaning.specs.Value.{Value}
use Rattle.pg_meaning.specs.declared.fault.Fault.{Fault}
use Rattle.pg_relations.proofs.AggregatesTested.{no_argument_fault}
use Rattle.pg_relations.proofs.Lists.{zipped_at, zipped_back, zipped_map, answered_at, any_at}
use Rattle.pg_relations.proofs.Moved.{once_moved}
use Rattle.pg_relations.proofs.ProjectedItems.{Bound, IsBare, columns_named}

module _ (g : Given) (graph : Graph) (columns : List Column) where
  abbrev beside : Row → Result Keyed Fault
  beside row = grouping_key g graph columns row >>= λ k. Ok (k, row)

  -- ---- rows and their keys

  row_keyed : (rows : List Row) (keyed : List Keyed) (row : Row) → each_answer beside rows ≡ Ok keyed → IsIn row rows → (k : Key) × IsIn (k, row) keyed × (grouping_key g graph columns row ≡ Ok k)
  row_keyed rows keyed row e i =
      let d = answered_at beside row rows keyed e i in
      let k = went_well (grouping_key g graph columns row) (λ k. Ok (k, row)) d.0 d.2 in
      (k.0, subst (λ (z : Keyed). IsIn z keyed) (sym (same_ok (k.0, row) d.0 k.2)) d.1, k.1)

  keyed_key : (rows : List Row) (keyed : List Keyed) (d : Keyed) → each_answer beside rows ≡ Ok keyed → IsIn d keyed → (row : Row) × (grouping_key g graph columns row ≡ Ok d.0)
  keyed_key [] keyed d e i = absurd (subst (IsIn d) (sym (same_ok [] keyed e)) i)
  keyed_key (row ∷ rows) keyed d e i =
      let first = went_well (beside row) (λ y. each_answer beside rows >>= λ ys. Ok (y ∷ ys)) keyed e in
      let rest = went_well (each_answer beside rows) (λ ys. Ok (first.0 ∷ ys)) keyed first.2 in
      let k = went_well (grouping_key g graph columns row) (λ k. Ok (k, row)) first.0 first.1 in
      by_place first.0 rest.0 (subst (IsIn d) (sym (same_ok (first.0 ∷ rest.0) keyed rest.2)) i) k (keyed_key rows rest.0 d rest.1)
    where
      by_place : (y : Keyed) (ys : List Keyed) → IsIn d (y ∷ ys) → ((k : Key) × (grouping_key g graph columns row ≡ Ok k) × (◌≡◌ {A = Result Keyed Fault} (Ok (k, row)) (Ok y))) → (IsIn d ys → (r : Row) × (grouping_key g graph columns r ≡ Ok d.0)) → (r : Row) × (grouping_key g graph columns r ≡ Ok d.0)
      by_place y ys (inl same) k rest = (row, k.1 ∙ (λ i. Ok (((same_ok (k.0, row) y k.2) ∙ sym same) i).0))
      by_place y ys (inr i) k rest = rest i

  all_keyed : (rows : List Row) (keyed : List Keyed) → each_answer beside rows ≡ Ok keyed → keyed_rows g graph columns rows ≡ keyed
  all_keyed [] keyed e = same_ok [] keyed e
  all_keyed (row ∷ rows) keyed e =
      let first = went_well (beside row) (λ y. each_answer beside rows >>= λ ys. Ok (y ∷ ys)) keyed e in
      let rest = went_well (each_answer beside rows) (λ ys. Ok (first.0 ∷ ys)) keyed first.2 in
      let k = went_well (grouping_key g graph columns row) (λ k. Ok (k, row)) first.0 first.1 in
      ap (λ (r : Result Key Fault). elim r as (λ r. List Keyed) [ Ok k ↦ (k, row) ∷ [] | Err f ↦ [] ] ++ keyed_rows g graph columns rows) k.1
      ∙ (λ i. same_ok (k.0, row) first.0 k.2 i ∷ all_keyed rows rest.0 rest.1 i)
      ∙ same_ok (first.0 ∷ rest.0) keyed rest.2

  -- ---- the keys of the groups

  abbrev GroupsBy : List Column → List Keyed → List Key → Type 0
  GroupsBy grouping keyed keys =
      elim grouping [
        | [] ↦ keys ≡ [] ∷ []
        | c ∷ cs ↦
            AllByRecursion (λ k. (row : Row) × IsIn (k, row) keyed) keys
            × AllByRecursion (λ (k : Keyed). list_any (same_values k.0) keys ≡ true) keyed
            × AllPairsByRecursion (λ k l. same_values k l ≡ false) keys
      ]

  has_group : (rows : List Row) (keyed : List Keyed) (keys : List Key) (d : Keyed) → each_answer beside rows ≡ Ok keyed → AreGroups columns keyed keys → IsIn d keyed → IsIn d.0 keys
  has_group rows keyed keys d e groups i = let row = keyed_key rows keyed d e i in by_grouping (grouping_columns columns) row.0 row.1 groups
    where
      by_grouping : (grouping : List Column) (row : Row) → each_answer (λ (c : Column). evaluate row g.parameters graph c.value) grouping ≡ Ok d.0 → GroupsBy grouping keyed keys → IsIn d.0 keys
      by_grouping [] row k h = subst (IsIn d.0) (sym h) (inl (sym (same_ok [] d.0 k)))
      by_grouping (c ∷ cs) row k h =
          let l = any_at (same_values d.0) keys (all_at (λ (k : Keyed). list_any (same_values k.0) keys ≡ true) d keyed h.1 i) in
          subst (λ k. IsIn k keys) (sym (same_exact d.0 l.0 l.2)) l.1

  same_groups : (rows : List Row) (keyed : List Keyed) (keys others : List Key) (k : Key) → each_answer beside rows ≡ Ok keyed → AreGroups columns keyed keys → AreGroups columns keyed others → IsIn k others → IsIn k keys
  same_groups rows keyed keys others k e groups more i = by_grouping (grouping_columns columns) refl groups more
    where
      by_grouping : (grouping : List Column) → grouping_columns columns ≡ grouping → GroupsBy grouping keyed keys → GroupsBy grouping keyed others → IsIn k keys
      by_grouping [] is h m = subst (IsIn k) (m ∙ sym h) i
      by_grouping (c ∷ cs) is h m = let row = all_at (λ k. (row : Row) × IsIn (k, row) keyed) k others m.0 i in has_group rows keyed keys (k, row.0) e groups row.1

  pub groups_once : (keyed : List Keyed) (keys : List Key) → AreGroups columns keyed keys → AllPairsByRecursion (λ k l. same_values k l ≡ false) keys
  groups_once keyed keys groups = by_grouping (grouping_columns columns) groups
    where
      by_grouping : (grouping : List Column) → GroupsBy grouping keyed keys → AllPairsByRecursion (λ k l. same_values k l ≡ false) keys
      by_grouping [] h = subst (AllPairsByRecursion (λ k l. same_values k l ≡ false)) (sym h) (tt, tt)
      by_grouping (c ∷ cs) h = h.2

  -- ---- what each group shows

  told : (keys : List Key) (keyed : List Keyed) (results : List Projected) (k : Key)
      → AllZip (λ k (r : Projected). (each_answer (group_value g graph (rows_with_key k keyed)) columns ≡ Ok r.columns) × (r.earlier ≡ [])) keys results → IsIn k keys
      → (r : Projected) × IsIn r results × ((each_answer (group_value g graph (rows_with_key k keyed)) columns ≡ Ok r.columns) × (r.earlier ≡ []))
  told keys keyed results k z i = zipped_at (λ k (r : Projected). (each_answer (group_value g graph (rows_with_key k keyed)) columns ≡ Ok r.columns) × (r.earlier ≡ [])) k keys results z i

  abbrev ValueBy : List Row → Column → Option Aggregate → Result Bound Fault
  ValueBy rows c o = elim o [ None ↦ first_value g graph c.value rows >>= λ v. Ok (c.name, v) | Some a ↦ taken_in g graph a rows >>= λ vs. Ok (c.name, summarized a.summary vs) ]

  takes : (rows : List Row) (c : Column) (a : Aggregate) (b : Bound) → aggregate_of c.value ≡ Some a → group_value g graph rows c ≡ Ok b → (vs : List Value) × (taken_in g graph a rows ≡ Ok vs)
  takes rows c a b is e =
      let vs = went_well (taken_in g graph a rows) (λ vs. Ok (c.name, summarized a.summary vs)) b (subst (λ o. ValueBy rows c o ≡ Ok b) is e) in
      (vs.0, vs.1)

  value_named : (rows : List Row) (c : Column) (b : Bound) → group_value g graph rows c ≡ Ok b → b.0 ≡ c.name
  value_named rows c b e = by_kind (aggregate_of c.value) e
    where
      by_kind : (o : Option Aggregate) → ValueBy rows c o ≡ Ok b → b.0 ≡ c.name
      by_kind None e = let v = went_well (first_value g graph c.value rows) (λ v. Ok (c.name, v)) b e in ap (λ (b : Bound). b.0) (sym (same_ok (c.name, v.0) b v.2))
      by_kind (Some a) e = let v = went_well (taken_in g graph a rows) (λ vs. Ok (c.name, summarized a.summary vs)) b e in ap (λ (b : Bound). b.0) (sym (same_ok (c.name, summarized a.summary v.0) b v.2))

  pub groups_bare : (rows : List Row) (made : List Projected) (r : Projected) → Groups g graph columns rows made → IsIn r made → IsBare columns r
  groups_bare rows made r h i =
      let k = zipped_back (λ k (r : Projected). (each_answer (group_value g graph (rows_with_key k h.keyed)) columns ≡ Ok r.columns) × (r.earlier ≡ [])) r h.keys made h.summaries i in
      (columns_named (group_value g graph (rows_with_key k.0 h.keyed)) (value_named (rows_with_key k.0 h.keyed)) columns r.columns k.2.0, k.2.1)

  -- ---- faults

  grouping_in : (c : Column) → IsIn c columns → aggregate_of c.value ≡ None → IsIn c (grouping_columns columns)
  grouping_in c i none = in_filtered (λ c. not (is_aggregate c)) c columns i (ap (λ o. not (is_some o)) none)

  in_key : (key : Key) (keyed : List Keyed) (d : Keyed) → IsIn d keyed → same_values d.0 key ≡ true → IsIn d.1 (rows_with_key key keyed)
  in_key key keyed d i e = in_mapped (λ (k : Keyed). k.1) d (filter (λ (k : Keyed). same_values k.0 key) keyed) (in_filtered (λ (k : Keyed). same_values k.0 key) d keyed i e)

  abbrev FaultBy : Row → Fault → Column → Option Aggregate → Type 0
  FaultBy row f c o = elim o [ None ↦ evaluate row g.parameters graph c.value ≡ Err f | Some a ↦ ArgumentFaults g graph row a f ]

  pub no_item_fault : (rows : List Row) (made : List Projected) (f : Fault) → Groups g graph columns rows made → AtSomeRow (ItemFaults g graph columns) rows f → ⊥
  no_item_fault rows made f h x = by_kind (aggregate_of x.2.0.value) refl x.2.2
    where
      by_kind : (o : Option Aggregate) → aggregate_of x.2.0.value ≡ o → FaultBy x.0 f x.2.0 o → ⊥
      by_kind None is y =
          let k = row_keyed rows h.keyed x.0 h.evaluated x.1 in
          let v = answered_at (λ (c : Column). evaluate x.0 g.parameters graph c.value) x.2.0 (grouping_columns columns) k.0 k.2 (grouping_in x.2.0 x.2.1 is) in
          ok_or_err (evaluate x.0 g.parameters graph x.2.0.value) v.0 f v.2 y
      by_kind (Some a) is y =
          let k = row_keyed rows h.keyed x.0 h.evaluated x.1 in
          let group = has_group rows h.keyed h.keys (k.0, x.0) h.evaluated h.groups k.1 in
          let r = told h.keys h.keyed made k.0 h.summaries group in
          let b = answered_at (group_value g graph (rows_with_key k.0 h.keyed)) x.2.0 columns r.0.columns r.2.0 x.2.1 in
          let vs = takes (rows_with_key k.0 h.keyed) x.2.0 a b.0 is b.2 in
          no_argument_fault a g graph (rows_with_key k.0 h.keyed) x.0 f vs.0 vs.1 (in_key k.0 h.keyed (k.0, x.0) k.1 (same_itself k.0)) y

  no_rows : (key : Key) (keyed : List Keyed) → list_any (λ (d : Keyed). same_values d.0 key) keyed ≡ false → rows_with_key key keyed ≡ []
  no_rows key [] h = refl
  no_rows key (d ∷ ds) h = by_first (same_values d.0 key) h (no_rows key ds)
    where
      by_first : (b : Bool) → (b || list_any (λ (d : Keyed). same_values d.0 key) ds) ≡ false → (list_any (λ (d : Keyed). same_values d.0 key) ds ≡ false → rows_with_key key ds ≡ [])
          → map (λ (k : Keyed). k.1) (cond b (d ∷ filter (λ (k : Keyed). same_values k.0 key) ds) (filter (λ (k : Keyed). same_values k.0 key) ds)) ≡ []
      by_first true h rest = cc
      by_first false h rest = rest h

  pub no_group_fault : (rows : List Row) (made : List Projected) (f : Fault) → Groups g graph columns rows made → AggregateFaults g graph columns rows f → ⊥
  no_group_fault rows made f h (c, a, key, i, is, x) = by_key (list_any (λ (d : Keyed). same_values d.0 key) h.keyed) refl (subst (λ ks. taken_in g graph a (rows_with_key key ks) ≡ Err f) (all_keyed rows h.keyed h.evaluated) x)
    where
      fine : ◌≡◌ {A = Result (List Value) Fault} (Ok []) (Err f) → ⊥
      fine e = cc

      by_key : (b : Bool) → list_any (λ (d : Keyed). same_values d.0 key) h.keyed ≡ b → taken_in g graph a (rows_with_key key h.keyed) ≡ Err f → ⊥
      by_key false e y = fine (subst (λ rs. taken_in g graph a rs ≡ Err f) (no_rows key h.keyed e) y)
      by_key true e y =
          let d = any_at (λ (d : Keyed). same_values d.0 key) h.keyed e in
          let group = subst (λ k. IsIn k h.keys) (same_exact d.0.0 key d.2) (has_group rows h.keyed h.keys d.0 h.evaluated h.groups d.1) in
          let r = told h.keys h.keyed made key h.summaries group in
          let b = answered_at (group_value g graph (rows_with_key key h.keyed)) c columns r.0.columns r.2.0 i in
          let vs = takes (rows_with_key key h.keyed) c a b.0 is b.2 in
          ok_or_err (taken_in g graph a (rows_with_key key h.keyed)) vs.0 f vs.1 y

  -- ---- the same groups

  pub group_in : (rows : List Row) (made others : List Projected) (q : Projected) → Groups g graph columns rows made → Groups g graph columns rows others → IsIn q others → IsIn q made
  group_in rows made others q h m i =
      let k = zipped_back (λ k (r : Projected). (each_answer (group_value g graph (rows_with_key k m.keyed)) columns ≡ Ok r.columns) × (r.earlier ≡ [])) q m.keys others m.summaries i in
      let keyed : m.keyed ≡ h.keyed = same_ok m.keyed h.keyed (sym m.evaluated ∙ h.evaluated) in
      let group = same_groups rows h.keyed h.keys m.keys k.0 h.evaluated h.groups (subst (λ ks. AreGroups columns ks m.keys) keyed m.groups) k.1 in
      let r = told h.keys h.keyed made k.0 h.summaries group in
      let row = same_ok r.0.columns q.columns (sym r.2.0 ∙ subst (λ ks. each_answer (group_value g graph (rows_with_key k.0 ks)) columns ≡ Ok q.columns) keyed k.2.0) in
      let none = r.2.1 ∙ sym k.2.1 in
      subst (λ p. IsIn p made) (λ i. record { columns = row i; earlier = none i }) r.1

  abbrev shown_by : Result Row Fault → Projected
  shown_by r = record { columns = elim r [ Ok vs ↦ vs | Err f ↦ [] ]; earlier = [] }

  abbrev of_key : List Keyed → Key → Projected
  of_key keyed k = shown_by (each_answer (group_value g graph (rows_with_key k keyed)) columns)

  is_of_key : (keyed : List Keyed) (k : Key) (r : Projected) → (each_answer (group_value g graph (rows_with_key k keyed)) columns ≡ Ok r.columns) × (r.earlier ≡ []) → r ≡ of_key keyed k
  is_of_key keyed k r h = sym (ap shown_by h.0 ∙ (λ i. record { columns = r.columns; earlier = sym h.1 i }))

  keys_apart : (keys : List Key) → AllPairsByRecursion (λ k l. same_values k l ≡ false) keys → AllPairsByRecursion (λ k l. k ≢ l) keys
  keys_apart [] h = tt
  keys_apart (k ∷ ks) h = (all_weaker (λ l. same_values k l ≡ false) (λ l. k ≢ l) (λ l d e. true≢false (sym (same_itself k) ∙ ap (same_values k) e ∙ d)) ks h.0, keys_apart ks h.1)

  pub groups_moved : (rows : List Row) (made others : List Projected) → Groups g graph columns rows made → Groups g graph columns rows others → IsPermutation made others
  groups_moved rows made others h m =
      let keyed : m.keyed ≡ h.keyed = same_ok m.keyed h.keyed (sym m.evaluated ∙ h.evaluated) in
      let groups = subst (λ ks. AreGroups columns ks m.keys) keyed m.groups in
      let keys =
      once_moved h.keys m.keys (keys_apart h.keys (groups_once h.keyed h.keys h.groups)) (keys_apart m.keys (groups_once h.keyed m.keys groups))
      (λ k i. same_groups rows h.keyed m.keys h.keys k h.evaluated groups h.groups i)
      (λ k i. same_groups rows h.keyed h.keys m.keys k h.evaluated h.groups groups i)
      in
      subst (λ ps. IsPermutation ps others) (sym (zipped_map _ (of_key h.keyed) (is_of_key h.keyed) h.keys made h.summaries))
      (subst (IsPermutation (map (of_key h.keyed) h.keys)) (sym (zipped_map _ (of_key m.keyed) (is_of_key m.keyed) m.keys others m.summaries ∙ ap (λ ks. map (of_key ks) m.keys) keyed))
      (IsPermutation-map (of_key h.keyed) h.keys m.keys keys))

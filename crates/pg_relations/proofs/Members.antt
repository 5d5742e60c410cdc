-- Reading clauses over rows in any order: of the same rows they give the same, and no fault.
use Rattle.std.proofs.Common.{◌≡◌, ℕ, Bool, true, false, cond, ◌⊎◌, inl, inr, List, [], ◌∷◌, map, Option, None, Ok, refl, sym, subst, ◌∙◌}
use Rattle.std.specs.List.{AllZip}
use Rattle.pg_soundness.proofs.ChangesOptions.{ok_or_err}
use Rattle.pg_soundness.proofs.GroupKeys.{same_exact}
use Rattle.pg_soundness.proofs.MatchLists.{in_left, in_right, in_either}
use Rattle.pg_meaning.specs.AnswerLaws.{same_ok}
use Rattle.pg_meaning.specs.Conditions.{condition}
use Rattle.pg_meaning.specs.Graph.{Graph}
use Rattle.pg_meaning.specs.Lists.{IsIn}
use Rattle.pg_meaning.specs.ListsLaws.{all_at, in_mapped}
use Rattle.pg_meaning.specs.Meaning.{Items, Distinct, Passing, Projects, ProjectFaults, Alike}
use Rattle.pg_meaning.specs.Projections.{Projected, visible, projected, count_given, skipped, limited}
use Rattle.pg_meaning.specs.Rows.{Row, values_in}
use Rattle.pg_meaning.specs.Scopes.{Column}
use Rattle.pg_meaning.specs.Tree.{Expression, Projection}
use Rattle.pg_meaning.specs.Turns.{Given, RowAfterRow, AtSomeRow}
use Rattle.pg_meaning.specs.declared.fault.Fault.{Fault}
use Rattle.pg_relations.proofs.Counted.{of_mapped}
use Rattle.pg_relations.proofs.Lists.{zipped_at, zipped_back}
use Rattle.pg_relations.proofs.ProjectedItems.{IsBare, same_bare, projected_bare, no_plain_fault, no_aggregate}
use Rattle.pg_relations.proofs.ProjectsDecided.{ItemsBy, sorted_in, sorted_of, no_sort_fault, no_where_fault}
use Rattle.pg_relations.specs.AnyOrder.{SameMembers, IsUncut}

-- ---- row after row

module _ (R : Row → List Row → Type 0) (one : (row : Row) (first other : List Row) → R row first → R row other → (x : Row) → IsIn x first → IsIn x other) where
  given_at : (row : Row) (rows results : List Row) → RowAfterRow R rows results → IsIn row rows → (first : List Row) × R row first × ((x : Row) → IsIn x first → IsIn x results)
  given_at row [] results s i = absurd i
  given_at row (r ∷ rows) results s (inl e) = (s.0, subst (λ q. R q s.0) (sym e) s.2, λ x j. subst (IsIn x) (sym s.4) (in_left x s.0 s.1 j))
  given_at row (r ∷ rows) results s (inr i) = let later = given_at row rows s.1 s.3 i in (later.0, later.1, λ x j. subst (IsIn x) (sym s.4) (in_right x s.0 s.1 (later.2 x j)))

  given_by : (x : Row) (rows results : List Row) → RowAfterRow R rows results → IsIn x results → (row : Row) × (first : List Row) × IsIn row rows × R row first × IsIn x first
  given_by x [] results s i = absurd (subst (IsIn x) s i)
  given_by x (r ∷ rows) results s i = by_part (in_either x s.0 s.1 (subst (IsIn x) s.4 i)) (given_by x rows s.1 s.3)
    where
      by_part : IsIn x s.0 ⊎ IsIn x s.1 → (IsIn x s.1 → (row : Row) × (first : List Row) × IsIn row rows × R row first × IsIn x first) → (row : Row) × (first : List Row) × IsIn row (r ∷ rows) × R row first × IsIn x first
      by_part (inl j) rest = (r, s.0, inl refl, s.2, j)
      by_part (inr j) rest = let later = rest j in (later.0, later.1, inr later.2, later.3, later.4)

  members_on : (rows those results others : List Row) → ((row : Row) → IsIn row rows → IsIn row those) → RowAfterRow R rows results → RowAfterRow R those others → (x : Row) → IsIn x results → IsIn x others
  members_on rows those results others into s t x i =
      let from = given_by x rows results s i in
      let there = given_at from.0 those others t (into from.0 from.2) in
      there.2 x (one from.0 from.1 there.0 from.3 there.1 x from.4)

  pub same_on : (rows those results others : List Row) → SameMembers rows those → RowAfterRow R rows results → RowAfterRow R those others → SameMembers results others
  same_on rows those results others same s t = (members_on rows those results others same.0 s t, members_on those rows others results same.1 t s)

pub apart_on : (R : Row → List Row → Type 0) (F : Row → Fault → Type 0) (f : Fault) → ((row : Row) (first : List Row) → R row first → F row f → ⊥) → (rows those results : List Row) → SameMembers rows those → RowAfterRow R rows results → AtSomeRow F those f → ⊥
apart_on R F f apart rows those results same s x = at_row rows results s (same.1 x.0 x.1)
  where
    at_row : (rs results : List Row) → RowAfterRow R rs results → IsIn x.0 rs → ⊥
    at_row [] results s i = absurd i
    at_row (r ∷ rs) results s (inl e) = apart r s.0 s.2 (subst (λ q. F q f) e x.2)
    at_row (r ∷ rs) results s (inr i) = at_row rs s.1 s.3 i

-- ---- WITH and RETURN

module _ (g : Given) (graph : Graph) (columns : List Column) (p : Projection) (whole : IsUncut columns p) where
  abbrev Listed : List Row → List Projected → Type 0
  Listed rows made = AllZip (λ row r. projected g.parameters graph p.distinct columns row ≡ Ok r) rows made

  pub listed : (rows : List Row) (made : List Projected) → Items g graph p.distinct columns rows made → Listed rows made
  listed rows made items = subst (ItemsBy g graph columns p.distinct rows made) whole.2 items

  made_on : (rows those : List Row) (made others : List Projected) → ((row : Row) → IsIn row rows → IsIn row those) → Listed rows made → Listed those others → (r : Projected) → IsIn r made → IsIn r others
  made_on rows those made others into h k r i =
      let row = zipped_back (λ row r. projected g.parameters graph p.distinct columns row ≡ Ok r) r rows made h i in
      let there = zipped_at (λ row r. projected g.parameters graph p.distinct columns row ≡ Ok r) row.0 those others k (into row.0 row.1) in
      subst (λ q. IsIn q others) (same_ok there.0 r (sym there.2 ∙ row.2)) there.1

  module _ (rows those : List Row) (into : (row : Row) → IsIn row rows → IsIn row those) (made others kept some : List Projected) (h : Listed rows made) (k : Listed those others) where
    -- values that are alike are one
    kept_on : (distinct : Bool) → p.distinct ≡ distinct → Distinct distinct made kept → Distinct distinct others some → (r : Projected) → IsIn r kept → IsIn r some
    kept_on true is d e r i =
        let here = all_at (λ q. IsIn q made) r kept d.from i in
        let there = made_on rows those made others into h k r here in
        let like = all_at (λ q. (s : Projected) × IsIn s some × Alike q s) r others e.each there in
        subst (λ q. IsIn q some) (sym (same_bare columns r like.0 (bare r there) (bare like.0 (all_at (λ q. IsIn q others) like.0 some e.from like.1)) (same_exact (values_in r.columns) (values_in like.0.columns) like.2))) like.1
      where
        bare : (q : Projected) → IsIn q others → IsBare columns q
        bare q j =
            let row = zipped_back (λ row r. projected g.parameters graph p.distinct columns row ≡ Ok r) q those others k j in
            projected_bare g graph columns row.0 q (subst (λ b. projected g.parameters graph b columns row.0 ≡ Ok q) is row.2)
    kept_on false is d e r i = subst (IsIn r) (sym e) (made_on rows those made others into h k r (subst (IsIn r) d i))

  kept_into : (rows those : List Row) → ((row : Row) → IsIn row rows → IsIn row those) → (made others kept some : List Projected) → Items g graph p.distinct columns rows made → Items g graph p.distinct columns those others
      → Distinct p.distinct made kept → Distinct p.distinct others some → (r : Projected) → IsIn r kept → IsIn r some
  kept_into rows those into made others kept some h k d e r i = kept_on rows those into made others kept some (listed rows made h) (listed those others k) p.distinct refl d e r i

  none_given : (o : Option Expression) (n : Option ℕ) → o ≡ None → count_given g.parameters graph o ≡ Ok n → None ≡ n
  none_given o n none e = same_ok None n (subst (λ o. count_given g.parameters graph o ≡ Ok n) none e)

  -- with neither SKIP nor LIMIT all rows are tested
  uncut : (skip limit : Option ℕ) (sorted : List Projected) → count_given g.parameters graph p.skip ≡ Ok skip → count_given g.parameters graph p.limit ≡ Ok limit → limited limit (skipped skip sorted) ≡ sorted
  uncut skip limit sorted s l = λ i. limited (sym (none_given p.limit limit whole.1 l) i) (skipped (sym (none_given p.skip skip whole.0 s) i) sorted)

  passing_of : (where_ : Option Expression) (all passing : List Projected) (r : Projected) → Passing g graph where_ all passing → IsIn r passing → IsIn r all × (condition where_ (visible r) g.parameters graph ≡ Ok true)
  passing_of where_ [] passing r s i = absurd (subst (IsIn r) s i)
  passing_of where_ (q ∷ qs) passing r s i = by_test s.0 s.2 (subst (IsIn r) s.4 i) (passing_of where_ qs s.1 r s.3)
    where
      by_test : (b : Bool) → condition where_ (visible q) g.parameters graph ≡ Ok b → IsIn r (cond b (q ∷ s.1) s.1) → (IsIn r s.1 → IsIn r qs × (condition where_ (visible r) g.parameters graph ≡ Ok true))
          → IsIn r (q ∷ qs) × (condition where_ (visible r) g.parameters graph ≡ Ok true)
      by_test true e (inl same) rest = (inl same, subst (λ (z : Projected). condition where_ (visible z) g.parameters graph ≡ Ok true) (sym same) e)
      by_test true e (inr j) rest = let later = rest j in (inr later.0, later.1)
      by_test false e j rest = let later = rest j in (inr later.0, later.1)

  passing_in : (where_ : Option Expression) (all passing : List Projected) (r : Projected) → Passing g graph where_ all passing → IsIn r all → condition where_ (visible r) g.parameters graph ≡ Ok true → IsIn r passing
  passing_in where_ [] passing r s i t = absurd i
  passing_in where_ (q ∷ qs) passing r s (inl same) t =
      subst (IsIn r) (sym s.4)
      (subst (λ b. IsIn r (cond b (q ∷ s.1) s.1)) (same_ok true s.0 (sym (subst (λ (z : Projected). condition where_ (visible z) g.parameters graph ≡ Ok true) same t) ∙ s.2)) (inl same))
  passing_in where_ (q ∷ qs) passing r s (inr i) t = subst (IsIn r) (sym s.4) (behind s.0 (passing_in where_ qs s.1 r s.3 i t))
    where
      behind : (b : Bool) → IsIn r s.1 → IsIn r (cond b (q ∷ s.1) s.1)
      behind true j = inr j
      behind false j = j

  module _ (where_ : Option Expression) (rows those : List Row) (into : (row : Row) → IsIn row rows → IsIn row those) where
    results_on : (results others : List Row) → Projects g graph columns p where_ rows results → Projects g graph columns p where_ those others → (x : Row) → IsIn x results → IsIn x others
    results_on results others h m x i =
        let r = of_mapped (λ (r : Projected). r.columns) x h.passing (subst (IsIn x) h.shown i) in
        let passes = passing_of where_ (limited h.limit (skipped h.skip h.sorted)) h.passing r.0 h.condition r.1 in
        let kept = sorted_of g graph columns p.order h.kept h.sorted r.0 h.order (subst (IsIn r.0) (uncut h.skip h.limit h.sorted h.skip_given h.limit_given) passes.0) in
        let there = sorted_in g graph columns p.order m.kept m.sorted r.0 m.order (kept_into rows those into h.made m.made h.kept m.kept h.items m.items h.distinct m.distinct r.0 kept) in
        let all = subst (IsIn r.0) (sym (uncut m.skip m.limit m.sorted m.skip_given m.limit_given)) there in
        subst (IsIn x) (sym m.shown) (subst (λ z. IsIn z (map (λ (r : Projected). r.columns) m.passing)) (sym r.2) (in_mapped (λ (r : Projected). r.columns) r.0 m.passing (passing_in where_ (limited m.limit (skipped m.skip m.sorted)) m.passing r.0 m.condition all passes.1)))

  pub projects_on : (where_ : Option Expression) (rows those results others : List Row) → SameMembers rows those → Projects g graph columns p where_ rows results → Projects g graph columns p where_ those others → SameMembers results others
  projects_on where_ rows those results others same h m = (results_on where_ rows those same.0 results others h m, results_on where_ those rows same.1 others results m h)

  pub projects_apart : (where_ : Option Expression) (rows those results : List Row) (f : Fault) → SameMembers rows those → Projects g graph columns p where_ rows results → ProjectFaults g graph columns p where_ those f → ⊥
  projects_apart where_ rows those results f same h (inl x) = ok_or_err (count_given g.parameters graph p.skip) h.skip f h.skip_given x
  projects_apart where_ rows those results f same h (inr (inl x)) = ok_or_err (count_given g.parameters graph p.limit) h.limit f h.limit_given x
  projects_apart where_ rows those results f same h (inr (inr (inl x))) = no_plain_fault g graph columns p.distinct rows h.made f whole.2 (listed rows h.made h.items) (x.0, same.1 x.0 x.1, x.2)
  projects_apart where_ rows those results f same h (inr (inr (inr (inl x)))) = no_aggregate g graph columns those f whole.2 x
  projects_apart where_ rows those results f same h (inr (inr (inr (inr (inl (made, kept, r, items, distinct, i, x)))))) =
      no_sort_fault g graph columns p.order h.kept h.sorted r f h.order (kept_into those rows same.1 made h.made kept h.kept items h.items distinct h.distinct r i) x
  projects_apart where_ rows those results f same h (inr (inr (inr (inr (inr (skip, limit, made, kept, sorted, r, skip_is, limit_is, items, distinct, order, i, x)))))) =
      let there = sorted_of g graph columns p.order kept sorted r order (subst (IsIn r) (uncut skip limit sorted skip_is limit_is) i) in
      let here = sorted_in g graph columns p.order h.kept h.sorted r h.order (kept_into those rows same.1 made h.made kept h.kept items h.items distinct h.distinct r there) in
      no_where_fault g graph columns where_ (limited h.limit (skipped h.skip h.sorted)) h.passing r f h.condition (subst (IsIn r) (sym (uncut h.skip h.limit h.sorted h.skip_given h.limit_given)) here) x

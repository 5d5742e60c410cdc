-- UNWIND and MATCH have a result or a fault, never both.
use Rattle.std.proofs.Common.{◌≡◌, Bool, true, inl, inr, List, [], ◌∷◌, Option, Ok, Err, subst}
use Rattle.pg_soundness.proofs.ChangesOptions.{ok_or_err}
use Rattle.pg_meaning.specs.Conditions.{condition}
use Rattle.pg_meaning.specs.Expressions.{evaluate}
use Rattle.pg_meaning.specs.Graph.{Graph}
use Rattle.pg_meaning.specs.Lists.{IsIn}
use Rattle.pg_meaning.specs.ListsLaws.{all_at}
use Rattle.pg_meaning.specs.Meaning.{MatchRow, MatchFaults, items_at, all_nodes, all_pairs}
use Rattle.pg_meaning.specs.Patterns.{node_name, bind_match}
use Rattle.pg_meaning.specs.Reading.{test_bound}
use Rattle.pg_meaning.specs.Rows.{Row}
use Rattle.pg_meaning.specs.Tree.{Expression, PathPattern}
use Rattle.pg_meaning.specs.Turns.{Given, RowAfterRow, AtSomeRow}
use Rattle.pg_meaning.specs.Value.{Value}
use Rattle.pg_meaning.specs.Walks.{bound_value}
use Rattle.pg_meaning.specs.declared.fault.Fault.{Fault}
use Rattle.pg_relations.specs.Decided.{UnwindIsOne, MatchIsOne}

-- where no row has both, the rows haven't
rows_apart : (R : Row → List Row → Type 0) (F : Row → Fault → Type 0) (f : Fault) → ((row : Row) (first : List Row) → R row first → F row f → ⊥) → (rows results : List Row) → RowAfterRow R rows results → AtSomeRow F rows f → ⊥
rows_apart R F f apart rows results s x = at_row rows results s x.1
  where
    at_row : (rs results : List Row) → RowAfterRow R rs results → IsIn x.0 rs → ⊥
    at_row [] results s i = absurd i
    at_row (r ∷ rs) results s (inl e) = apart r s.0 s.2 (subst (λ q. F q f) e x.2)
    at_row (r ∷ rs) results s (inr i) = at_row rs s.1 s.3 i

pub unwind_is_one : UnwindIsOne
unwind_is_one e name g graph after rows results f s =
    rows_apart _ (λ row x. items_at g graph e row ≡ Err x) f (λ row first u. ok_or_err (items_at g graph e row) u.0 f u.1) rows results s.1

pub match_apart : (g : Given) (graph : Graph) (is_optional : Bool) (paths : List PathPattern) (where_ : Option Expression) (f : Fault) (row : Row) (first : List Row) → MatchRow g graph is_optional paths where_ row first → MatchFaults g graph paths where_ row f → ⊥
match_apart g graph is_optional paths where_ f row first m (inl b) =
    ok_or_err (test_bound true graph (bound_value (node_name b.0) row)) tt f (all_at (λ n. test_bound true graph (bound_value (node_name n) row) ≡ Ok tt) b.0 (all_nodes paths) m.live b.1) b.2
match_apart g graph is_optional paths where_ f row first m (inr (inl p)) =
    let v = all_at (λ p. (v : Value) × (evaluate row g.parameters graph p.1 ≡ Ok v)) p.0 (all_pairs paths) m.evaluated p.1 in
    ok_or_err (evaluate row g.parameters graph p.0.1) v.0 f v.1 p.2
match_apart g graph is_optional paths where_ f row first m (inr (inr c)) =
    let b = m.decided c.0 c.1 in
    ok_or_err (condition where_ (bind_match graph paths c.0 row) g.parameters graph) b.0 f b.1 c.2

pub match_is_one : MatchIsOne
match_is_one is_optional paths where_ g graph after rows results f s =
    rows_apart _ (MatchFaults g graph paths where_) f (match_apart g graph is_optional paths where_ f) rows results s.1

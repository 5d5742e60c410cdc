-- What DELETE's expressions name at all rows, and the faults in which they may end.
use Rattle.std.proofs.Common.{◌≡◌, ℕ, ◌⊎◌, inl, inr, List, [], ◌∷◌, Result, Ok, Err, refl, sym, ap, subst, ◌∙◌}
use Rattle.std.specs.Bool.{⊤}
use Rattle.std.specs.List.{AllByRecursion}
use Rattle.pg_meaning.specs.Turns.{AtSomeRow}
use Rattle.pg_meaning.specs.Agreement.{given_in}
use Rattle.pg_meaning.specs.Answer.{◌>>=◌, each_step}
use Rattle.pg_meaning.specs.AnswerLaws.{went_well, went_wrong, same_ok}
use Rattle.pg_meaning.specs.Expressions.{evaluate}
use Rattle.pg_meaning.specs.Graph.{Graph}
use Rattle.pg_meaning.specs.Lists.{IsIn}
use Rattle.pg_meaning.specs.Meters.{Setting}
use Rattle.pg_meaning.specs.Rows.{Row}
use Rattle.pg_meaning.specs.Tree.{Expression}
use Rattle.pg_meaning.specs.Updates.{Doomed, add_path, doom, doom_row}
use Rattle.pg_meaning.specs.Value.{Value, null, boolean, integer, text, list, mapping, node, relationship, path}
use Rattle.pg_meaning.specs.declared.fault.Fault.{Fault}
use Rattle.pg_meaning.specs.declared.fault.Fault.TheVariants.{TypeFault}
use Rattle.pg_meaning.specs.Changes.{path_nodes, path_relationships, HasNode, HasRelationship, IsDeletable, HasDeletable, AllHaveDeletable, ExpressionFaults, FirstFault}
use Rattle.pg_soundness.proofs.ChangesOptions.{same_err}

-- ---- ids are gathered

-- those before, and those that are new
pub record Gathers (N R : ℕ → Type 0) (before after : Doomed) : Type 0 where
  pub nodes : (n : ℕ) → IsIn n after.0 → IsIn n before.0 ⊎ N n
  pub old_nodes : (n : ℕ) → IsIn n before.0 → IsIn n after.0
  pub new_nodes : (n : ℕ) → N n → IsIn n after.0
  pub relationships : (r : ℕ) → IsIn r after.1 → IsIn r before.1 ⊎ R r
  pub old_relationships : (r : ℕ) → IsIn r before.1 → IsIn r after.1
  pub new_relationships : (r : ℕ) → R r → IsIn r after.1

gathers_none : (N R : ℕ → Type 0) (d : Doomed) → ((n : ℕ) → N n → ⊥) → ((r : ℕ) → R r → ⊥) → Gathers N R d d
gathers_none N R d no_node no_relationship = record {
  nodes = λ n i. inl i;
  old_nodes = λ n i. i;
  new_nodes = λ n h. absurd (no_node n h);
  relationships = λ r i. inl i;
  old_relationships = λ r i. i;
  new_relationships = λ r h. absurd (no_relationship r h);
}

gathers_both : (N R M S T U : ℕ → Type 0) (a b c : Doomed)
    → ((n : ℕ) → T n → N n ⊎ M n) → ((n : ℕ) → N n ⊎ M n → T n) → ((r : ℕ) → U r → R r ⊎ S r) → ((r : ℕ) → R r ⊎ S r → U r)
    → Gathers N R a b → Gathers M S b c → Gathers T U a c
gathers_both N R M S T U a b c t_from t_to u_from u_to g h = record {
  nodes = λ n i. node_from n (h.nodes n i);
  old_nodes = λ n i. h.old_nodes n (g.old_nodes n i);
  new_nodes = λ n t. node_to n (t_from n t);
  relationships = λ r i. relationship_from r (h.relationships r i);
  old_relationships = λ r i. h.old_relationships r (g.old_relationships r i);
  new_relationships = λ r t. relationship_to r (u_from r t);
}
  where
    node_earlier : (n : ℕ) → IsIn n a.0 ⊎ N n → IsIn n a.0 ⊎ T n
    node_earlier n (inl i) = inl i
    node_earlier n (inr x) = inr (t_to n (inl x))

    node_from : (n : ℕ) → IsIn n b.0 ⊎ M n → IsIn n a.0 ⊎ T n
    node_from n (inl i) = node_earlier n (g.nodes n i)
    node_from n (inr m) = inr (t_to n (inr m))

    node_to : (n : ℕ) → N n ⊎ M n → IsIn n c.0
    node_to n (inl x) = h.old_nodes n (g.new_nodes n x)
    node_to n (inr m) = h.new_nodes n m

    relationship_earlier : (r : ℕ) → IsIn r a.1 ⊎ R r → IsIn r a.1 ⊎ U r
    relationship_earlier r (inl i) = inl i
    relationship_earlier r (inr x) = inr (u_to r (inl x))

    relationship_from : (r : ℕ) → IsIn r b.1 ⊎ S r → IsIn r a.1 ⊎ U r
    relationship_from r (inl i) = relationship_earlier r (g.relationships r i)
    relationship_from r (inr m) = inr (u_to r (inr m))

    relationship_to : (r : ℕ) → R r ⊎ S r → IsIn r c.1
    relationship_to r (inl x) = h.old_relationships r (g.new_relationships r x)
    relationship_to r (inr m) = h.new_relationships r m

-- ---- a value

path_gathers : (ids : List ℕ) (d : Doomed) → Gathers (λ n. IsIn n (path_nodes ids)) (λ r. IsIn r (path_relationships ids)) d (add_path ids d)
path_gathers [] d = gathers_none _ _ d (λ n i. i) (λ r i. i)
path_gathers (n ∷ []) d = record {
  nodes = λ m i. turned m i;
  old_nodes = λ m i. inr i;
  new_nodes = λ m i. only m i;
  relationships = λ r i. inl i;
  old_relationships = λ r i. i;
  new_relationships = λ r i. absurd i;
}
  where
    turned : (m : ℕ) → (m ≡ n) ⊎ IsIn m d.0 → IsIn m d.0 ⊎ ((m ≡ n) ⊎ ⊥)
    turned m (inl e) = inr (inl e)
    turned m (inr i) = inl i

    only : (m : ℕ) → (m ≡ n) ⊎ ⊥ → (m ≡ n) ⊎ IsIn m d.0
    only m (inl e) = inl e
    only m (inr i) = absurd i
path_gathers (n ∷ r ∷ ids) d =
    let rest = path_gathers ids (n ∷ d.0, r ∷ d.1) in
    record {
      nodes = λ m i. node_from m (rest.nodes m i);
      old_nodes = λ m i. rest.old_nodes m (inr i);
      new_nodes = λ m i. node_to m i rest;
      relationships = λ s i. relationship_from s (rest.relationships s i);
      old_relationships = λ s i. rest.old_relationships s (inr i);
      new_relationships = λ s i. relationship_to s i rest;
    }
  where
    Rest : Type 0
    Rest = Gathers (λ n. IsIn n (path_nodes ids)) (λ r. IsIn r (path_relationships ids)) (n ∷ d.0, r ∷ d.1) (add_path ids (n ∷ d.0, r ∷ d.1))

    node_from : (m : ℕ) → ((m ≡ n) ⊎ IsIn m d.0) ⊎ IsIn m (path_nodes ids) → IsIn m d.0 ⊎ ((m ≡ n) ⊎ IsIn m (path_nodes ids))
    node_from m (inl (inl e)) = inr (inl e)
    node_from m (inl (inr i)) = inl i
    node_from m (inr i) = inr (inr i)

    node_to : (m : ℕ) → (m ≡ n) ⊎ IsIn m (path_nodes ids) → Gathers (λ n. IsIn n (path_nodes ids)) (λ r. IsIn r (path_relationships ids)) (n ∷ d.0, r ∷ d.1) (add_path ids (n ∷ d.0, r ∷ d.1)) → IsIn m (add_path ids (n ∷ d.0, r ∷ d.1)).0
    node_to m (inl e) rest = rest.old_nodes m (inl e)
    node_to m (inr i) rest = rest.new_nodes m i

    relationship_from : (s : ℕ) → ((s ≡ r) ⊎ IsIn s d.1) ⊎ IsIn s (path_relationships ids) → IsIn s d.1 ⊎ ((s ≡ r) ⊎ IsIn s (path_relationships ids))
    relationship_from s (inl (inl e)) = inr (inl e)
    relationship_from s (inl (inr i)) = inl i
    relationship_from s (inr i) = inr (inr i)

    relationship_to : (s : ℕ) → (s ≡ r) ⊎ IsIn s (path_relationships ids) → Gathers (λ n. IsIn n (path_nodes ids)) (λ r. IsIn r (path_relationships ids)) (n ∷ d.0, r ∷ d.1) (add_path ids (n ∷ d.0, r ∷ d.1)) → IsIn s (add_path ids (n ∷ d.0, r ∷ d.1)).1
    relationship_to s (inl e) rest = rest.old_relationships s (inl e)
    relationship_to s (inr i) rest = rest.new_relationships s i

node_gathers : (n : ℕ) (d : Doomed) → Gathers (λ m. m ≡ n) (λ r. ⊥) d (n ∷ d.0, d.1)
node_gathers n d = record {
  nodes = λ m i. turned m i;
  old_nodes = λ m i. inr i;
  new_nodes = λ m e. inl e;
  relationships = λ r i. inl i;
  old_relationships = λ r i. i;
  new_relationships = λ r i. absurd i;
}
  where
    turned : (m : ℕ) → (m ≡ n) ⊎ IsIn m d.0 → IsIn m d.0 ⊎ (m ≡ n)
    turned m (inl e) = inr e
    turned m (inr i) = inl i

relationship_gathers : (r : ℕ) (d : Doomed) → Gathers (λ m. ⊥) (λ s. s ≡ r) d (d.0, r ∷ d.1)
relationship_gathers r d = record {
  nodes = λ m i. inl i;
  old_nodes = λ m i. i;
  new_nodes = λ m i. absurd i;
  relationships = λ s i. turned s i;
  old_relationships = λ s i. inr i;
  new_relationships = λ s e. inl e;
}
  where
    turned : (s : ℕ) → (s ≡ r) ⊎ IsIn s d.1 → IsIn s d.1 ⊎ (s ≡ r)
    turned s (inl e) = inr e
    turned s (inr i) = inl i

value_gathers : (d e : Doomed) (v : Value) → doom d v ≡ Ok e → Gathers (HasNode v) (HasRelationship v) d e × IsDeletable v
value_gathers d e null h = (subst (Gathers (λ n. ⊥) (λ r. ⊥) d) (same_ok d e h) (gathers_none _ _ d (λ n i. i) (λ r i. i)), tt)
value_gathers d e (node n) h = (subst (Gathers (λ m. m ≡ n) (λ r. ⊥) d) (same_ok (n ∷ d.0, d.1) e h) (node_gathers n d), tt)
value_gathers d e (relationship r) h = (subst (Gathers (λ m. ⊥) (λ s. s ≡ r) d) (same_ok (d.0, r ∷ d.1) e h) (relationship_gathers r d), tt)
value_gathers d e (path ids) h = (subst (Gathers (λ n. IsIn n (path_nodes ids)) (λ r. IsIn r (path_relationships ids)) d) (same_ok (add_path ids d) e h) (path_gathers ids d), tt)
value_gathers d e (boolean b) h = cc
value_gathers d e (integer i) h = cc
value_gathers d e (text t) h = cc
value_gathers d e (list vs) h = cc
value_gathers d e (mapping es) h = cc

-- ---- one after the other

module _ {X : Type 0} (step : Doomed → X → Result Doomed Fault) (N R : X → ℕ → Type 0) (E : X → Type 0)
    (each : (d e : Doomed) (x : X) → step d x ≡ Ok e → Gathers (N x) (R x) d e × E x) where
  all_gather : (xs : List X) (d e : Doomed) → each_step step d xs ≡ Ok e
      → Gathers (λ n. (x : X) × IsIn x xs × N x n) (λ r. (x : X) × IsIn x xs × R x r) d e × AllByRecursion E xs
  all_gather [] d e h = (subst (Gathers (λ n. (x : X) × ⊥ × N x n) (λ r. (x : X) × ⊥ × R x r) d) (same_ok d e h) (gathers_none _ _ d (λ n p. p.1) (λ r p. p.1)), tt)
  all_gather (x ∷ xs) d e h =
      let first = went_well (step d x) (λ t. each_step step t xs) e h in
      let here = each d first.0 x first.1 in
      let rest = all_gather xs first.0 e first.2 in (
        gathers_both (N x) (R x) (λ n. (y : X) × IsIn y xs × N y n) (λ r. (y : X) × IsIn y xs × R y r) (λ n. (y : X) × IsIn y (x ∷ xs) × N y n) (λ r. (y : X) × IsIn y (x ∷ xs) × R y r) d first.0 e
            (λ n p. apart_node n p.0 p.1 p.2) (λ n p. joined_node n p) (λ r p. apart_relationship r p.0 p.1 p.2) (λ r p. joined_relationship r p) here.0 rest.0,
        (here.1, rest.1),
      )
    where
      apart_node : (n : ℕ) (y : X) → IsIn y (x ∷ xs) → N y n → N x n ⊎ ((z : X) × IsIn z xs × N z n)
      apart_node n y (inl s) p = inl (subst (λ z. N z n) s p)
      apart_node n y (inr i) p = inr (y, i, p)

      joined_node : (n : ℕ) → N x n ⊎ ((z : X) × IsIn z xs × N z n) → (y : X) × IsIn y (x ∷ xs) × N y n
      joined_node n (inl p) = (x, inl refl, p)
      joined_node n (inr p) = (p.0, inr p.1, p.2)

      apart_relationship : (r : ℕ) (y : X) → IsIn y (x ∷ xs) → R y r → R x r ⊎ ((z : X) × IsIn z xs × R z r)
      apart_relationship r y (inl s) p = inl (subst (λ z. R z r) s p)
      apart_relationship r y (inr i) p = inr (y, i, p)

      joined_relationship : (r : ℕ) → R x r ⊎ ((z : X) × IsIn z xs × R z r) → (y : X) × IsIn y (x ∷ xs) × R y r
      joined_relationship r (inl p) = (x, inl refl, p)
      joined_relationship r (inr p) = (p.0, inr p.1, p.2)

module _ (s : Setting) (graph : Graph) where
  -- an expression at a row
  abbrev pub ValueHas : (Value → Type 0) → Row → Expression → Type 0
  ValueHas P row e = (v : Value) × (evaluate row s.parameters graph e ≡ Ok v) × P v

  expression_gathers : (row : Row) (d c : Doomed) (e : Expression) → (evaluate row s.parameters graph e >>= doom d) ≡ Ok c
      → Gathers (λ n. ValueHas (λ v. HasNode v n) row e) (λ r. ValueHas (λ v. HasRelationship v r) row e) d c × ValueHas IsDeletable row e
  expression_gathers row d c e h =
      let first = went_well (evaluate row s.parameters graph e) (doom d) c h in
      let named = value_gathers d c first.0 first.2 in (
        record {
          nodes = λ n i. node_from n first.0 first.1 (named.0.nodes n i);
          old_nodes = named.0.old_nodes;
          new_nodes = λ n p. named.0.new_nodes n (subst (λ v. HasNode v n) (same_ok p.0 first.0 (sym p.1 ∙ first.1)) p.2);
          relationships = λ r i. relationship_from r first.0 first.1 (named.0.relationships r i);
          old_relationships = named.0.old_relationships;
          new_relationships = λ r p. named.0.new_relationships r (subst (λ v. HasRelationship v r) (same_ok p.0 first.0 (sym p.1 ∙ first.1)) p.2);
        },
        (first.0, first.1, named.1),
      )
    where
      node_from : (n : ℕ) (v : Value) → evaluate row s.parameters graph e ≡ Ok v → IsIn n d.0 ⊎ HasNode v n → IsIn n d.0 ⊎ ValueHas (λ v. HasNode v n) row e
      node_from n v is (inl i) = inl i
      node_from n v is (inr p) = inr (v, is, p)

      relationship_from : (r : ℕ) (v : Value) → evaluate row s.parameters graph e ≡ Ok v → IsIn r d.1 ⊎ HasRelationship v r → IsIn r d.1 ⊎ ValueHas (λ v. HasRelationship v r) row e
      relationship_from r v is (inl i) = inl i
      relationship_from r v is (inr p) = inr (v, is, p)

  -- at all rows
  pub rows_gather : (es : List Expression) (rows : List Row) (d c : Doomed) → each_step (doom_row s graph es) d rows ≡ Ok c
      → Gathers (λ n. (row : Row) × IsIn row rows × ((e : Expression) × IsIn e es × ValueHas (λ v. HasNode v n) row e)) (λ r. (row : Row) × IsIn row rows × ((e : Expression) × IsIn e es × ValueHas (λ v. HasRelationship v r) row e)) d c
      × AllByRecursion (λ row. AllByRecursion (ValueHas IsDeletable row) es) rows
  rows_gather es rows d c h =
      all_gather (doom_row s graph es) (λ row n. (e : Expression) × IsIn e es × ValueHas (λ v. HasNode v n) row e) (λ row r. (e : Expression) × IsIn e es × ValueHas (λ v. HasRelationship v r) row e) (λ row. AllByRecursion (ValueHas IsDeletable row) es)
      (λ d c row h. all_gather (λ c e. evaluate row s.parameters graph e >>= doom c) (λ e n. ValueHas (λ v. HasNode v n) row e) (λ e r. ValueHas (λ v. HasRelationship v r) row e) (ValueHas IsDeletable row) (expression_gathers row) es d c h)
      rows d c h

-- ---- faults

-- both go well, or both end in one fault
abbrev Alike : Result Doomed Fault → Result Doomed Fault → Type 0
Alike (Ok a) (Ok b) = ⊤
Alike (Err f) (Err g) = f ≡ g
Alike a b = ⊥

value_alike : (d c : Doomed) (v : Value) → Alike (doom d v) (doom c v)
value_alike d c null = tt
value_alike d c (node n) = tt
value_alike d c (relationship r) = tt
value_alike d c (path ids) = tt
value_alike d c (boolean b) = refl
value_alike d c (integer i) = refl
value_alike d c (text t) = refl
value_alike d c (list vs) = refl
value_alike d c (mapping es) = refl

answer_alike : (d c : Doomed) (a : Result Value Fault) → Alike (a >>= doom d) (a >>= doom c)
answer_alike d c (Ok v) = value_alike d c v
answer_alike d c (Err f) = refl

steps_alike : {X : Type 0} (step : Doomed → X → Result Doomed Fault) → ((d c : Doomed) (x : X) → Alike (step d x) (step c x)) → (xs : List X) (d c : Doomed) → Alike (each_step step d xs) (each_step step c xs)
steps_alike step each [] d c = tt
steps_alike {X} step each (x ∷ xs) d c = by_first (step d x) (step c x) (each d c x) (λ d c. steps_alike step each xs d c)
  where
    by_first : (a b : Result Doomed Fault) → Alike a b → ((d c : Doomed) → Alike (each_step step d xs) (each_step step c xs)) → Alike (a >>= λ t. each_step step t xs) (b >>= λ t. each_step step t xs)
    by_first (Ok a) (Ok b) h rest = rest a b
    by_first (Ok a) (Err g) h rest = absurd h
    by_first (Err f) (Ok b) h rest = absurd h
    by_first (Err f) (Err g) h rest = h

fault_alike : (a b : Result Doomed Fault) (f : Fault) → Alike a b → a ≡ Err f → b ≡ Err f
fault_alike (Ok a) b f h e = cc
fault_alike (Err g) (Ok b) f h e = absurd h
fault_alike (Err g) (Err k) f h e = ap Err (sym h) ∙ e

step_faults : {X : Type 0} (step : Doomed → X → Result Doomed Fault) → ((d c : Doomed) (x : X) → Alike (step d x) (step c x)) → (xs : List X) (d : Doomed) (f : Fault) → each_step step d xs ≡ Err f
    → (x : X) × IsIn x xs × (step ([], []) x ≡ Err f)
step_faults step each [] d f h = cc
step_faults {X} step each (x ∷ xs) d f h = by_first (went_wrong (step d x) (λ t. each_step step t xs) f h) (λ t. step_faults step each xs t f)
  where
    by_first : (step d x ≡ Err f) ⊎ ((t : Doomed) × (step d x ≡ Ok t) × (each_step step t xs ≡ Err f)) → ((t : Doomed) → each_step step t xs ≡ Err f → (y : X) × IsIn y xs × (step ([], []) y ≡ Err f))
        → (y : X) × IsIn y (x ∷ xs) × (step ([], []) y ≡ Err f)
    by_first (inl e) rest = (x, inl refl, fault_alike (step d x) (step ([], []) x) f (each d ([], []) x) e)
    by_first (inr p) rest = let q = rest p.0 p.2 in (q.0, inr q.1, q.2)

pub rows_fault : (s : Setting) (graph : Graph) (es : List Expression) (rows : List Row) (f : Fault) → each_step (doom_row s graph es) ([], []) rows ≡ Err f → AtSomeRow (λ row e. doom_row s graph es ([], []) row ≡ Err e) rows f
rows_fault s graph es rows f h =
    step_faults (doom_row s graph es) (λ d c row. steps_alike (λ c e. evaluate row s.parameters graph e >>= doom c) (λ d c e. answer_alike d c (evaluate row s.parameters graph e)) es d c) rows ([], []) f h

no_doom : (v : Value) (f : Fault) → doom ([], []) v ≡ Err f → (IsDeletable v → ⊥) × (f ≡ TypeFault)
no_doom null f e = cc
no_doom (node n) f e = cc
no_doom (relationship r) f e = cc
no_doom (path ids) f e = cc
no_doom (boolean b) f e = (λ h. h, sym (same_err TypeFault f e))
no_doom (integer i) f e = (λ h. h, sym (same_err TypeFault f e))
no_doom (text t) f e = (λ h. h, sym (same_err TypeFault f e))
no_doom (list vs) f e = (λ h. h, sym (same_err TypeFault f e))
no_doom (mapping es) f e = (λ h. h, sym (same_err TypeFault f e))

doom_faults : (d : Doomed) (v : Value) → (IsDeletable v → ⊥) → doom d v ≡ Err TypeFault
doom_faults d null h = absurd (h tt)
doom_faults d (node n) h = absurd (h tt)
doom_faults d (relationship r) h = absurd (h tt)
doom_faults d (path ids) h = absurd (h tt)
doom_faults d (boolean b) h = refl
doom_faults d (integer i) h = refl
doom_faults d (text t) h = refl
doom_faults d (list vs) h = refl
doom_faults d (mapping es) h = refl

doom_goes : (d : Doomed) (v : Value) → IsDeletable v → (c : Doomed) × (doom d v ≡ Ok c)
doom_goes d null h = (d, refl)
doom_goes d (node n) h = ((n ∷ d.0, d.1), refl)
doom_goes d (relationship r) h = ((d.0, r ∷ d.1), refl)
doom_goes d (path ids) h = (add_path ids d, refl)
doom_goes d (boolean b) h = absurd h
doom_goes d (integer i) h = absurd h
doom_goes d (text t) h = absurd h
doom_goes d (list vs) h = absurd h
doom_goes d (mapping es) h = absurd h

module _ (s : Setting) (graph : Graph) (row : Row) where
  pub first_fault : (es : List Expression) (d : Doomed) (f : Fault) → doom_row s graph es d row ≡ Err f → FirstFault (given_in s) graph row es f
  first_fault [] d f h = cc
  first_fault (e ∷ es) d f h =
      by_first (went_wrong (evaluate row s.parameters graph e >>= doom d) (λ t. doom_row s graph es t row) f h) (λ t. first_fault es t f)
    where
      by_value : (evaluate row s.parameters graph e ≡ Err f) ⊎ ((v : Value) × (evaluate row s.parameters graph e ≡ Ok v) × (doom d v ≡ Err f)) → ExpressionFaults (given_in s) graph row e f
      by_value (inl h) = inl h
      by_value (inr p) = let n = no_doom p.0 f (fault_alike (doom d p.0) (doom ([], []) p.0) f (value_alike d ([], []) p.0) p.2) in inr (p.0, p.1, n.0, n.1)

      by_first : ((evaluate row s.parameters graph e >>= doom d) ≡ Err f) ⊎ ((t : Doomed) × ((evaluate row s.parameters graph e >>= doom d) ≡ Ok t) × (doom_row s graph es t row ≡ Err f)) → ((t : Doomed) → doom_row s graph es t row ≡ Err f → FirstFault (given_in s) graph row es f)
          → FirstFault (given_in s) graph row (e ∷ es) f
      by_first (inl x) rest = inl (by_value (went_wrong (evaluate row s.parameters graph e) (doom d) f x))
      by_first (inr p) rest = inr ((expression_gathers s graph row d p.0 e p.1).1, rest p.0 p.2)

  pub fault_is_first : (es : List Expression) (d : Doomed) (f : Fault) → FirstFault (given_in s) graph row es f → doom_row s graph es d row ≡ Err f
  fault_is_first [] d f h = absurd h
  fault_is_first (e ∷ es) d f (inl (inl x)) = ap (λ a. (a >>= doom d) >>= λ t. doom_row s graph es t row) x
  fault_is_first (e ∷ es) d f (inl (inr p)) = ap (λ a. (a >>= doom d) >>= λ t. doom_row s graph es t row) p.1 ∙ ap (λ a. a >>= λ t. doom_row s graph es t row) (doom_faults d p.0 p.2) ∙ ap Err (sym p.3)
  fault_is_first (e ∷ es) d f (inr p) =
      let made = doom_goes d p.0.0 p.0.2 in
      ap (λ a. (a >>= doom d) >>= λ t. doom_row s graph es t row) p.0.1 ∙ ap (λ a. a >>= λ t. doom_row s graph es t row) made.1 ∙ fault_is_first es made.0 f p.1

  pub row_goes : (es : List Expression) (d : Doomed) → AllByRecursion (HasDeletable (given_in s) graph row) es → (c : Doomed) × (doom_row s graph es d row ≡ Ok c)
  row_goes [] d h = (d, refl)
  row_goes (e ∷ es) d h =
      let made = doom_goes d h.0.0 h.0.2 in
      let rest = row_goes es made.0 h.1 in
      (rest.0, ap (λ a. (a >>= doom d) >>= λ t. doom_row s graph es t row) h.0.1 ∙ ap (λ a. a >>= λ t. doom_row s graph es t row) made.1 ∙ rest.1)

-- where all have a value that may be deleted, the ids are gathered
pub rows_go : (s : Setting) (graph : Graph) (es : List Expression) (rows : List Row) (d : Doomed) → AllHaveDeletable (given_in s) graph es rows → (c : Doomed) × (each_step (doom_row s graph es) d rows ≡ Ok c)
rows_go s graph es [] d h = (d, refl)
rows_go s graph es (row ∷ rows) d h =
    let made = row_goes s graph row es d h.0 in
    let rest = rows_go s graph es rows made.0 h.1 in
    (rest.0, ap (λ a. a >>= λ t. each_step (doom_row s graph es) t rows) made.1 ∙ rest.1)

-- The property expressions of a MERGE: each has a value, and none is null, or the fault is one of the meaning.
use Rattle.std.proofs.Common.{◌≡◌, ◌≢◌, ℕ, Bool, true, false, not, ◌||◌, inl, inr, List, [], ◌∷◌, ◌++◌, flat_map, Result, Ok, Err, refl, sym, ap, subst, ◌∙◌, append-nil, true≢false}
use Rattle.std.specs.List.{AllByRecursion, AllZip, list_any}
use Rattle.pg_meaning.specs.Answer.{◌>>=◌, unless, each_answer}
use Rattle.pg_meaning.specs.AnswerLaws.{same_ok}
use Rattle.pg_meaning.specs.Expressions.{evaluate}
use Rattle.pg_meaning.specs.Graph.{Graph}
use Rattle.pg_meaning.specs.Lists.{IsIn}
use Rattle.pg_meaning.specs.Meaning.{all_pairs}
use Rattle.pg_meaning.specs.Patterns.{property_pairs, relationship_properties}
use Rattle.pg_meaning.specs.Rows.{Row}
use Rattle.pg_meaning.specs.Tree.{Expression, NodePattern, RelationshipPattern, PathPattern}
use Rattle.pg_meaning.specs.Updates.{has_null, wants_null, test_not_null}
use Rattle.pg_meaning.specs.Value.{Value, null, boolean, integer, text, list, mapping, node, relationship, path, Entries}
use Rattle.pg_meaning.specs.Walks.{NodeWanted, HopWanted, PathWanted, property_values, node_wanted, hop_wanted, path_wanted, paths_wanted}
use Rattle.pg_meaning.specs.declared.fault.Fault.{Fault}
use Rattle.pg_meaning.specs.declared.fault.Fault.TheVariants.{MergeNull}

in_front : {X : Type 0} (x : X) (xs ys : List X) → IsIn x xs → IsIn x (xs ++ ys)
in_front x [] ys i = absurd i
in_front x (y ∷ xs) ys (inl e) = inl e
in_front x (y ∷ xs) ys (inr i) = inr (in_front x xs ys i)

in_back : {X : Type 0} (x : X) (xs ys : List X) → IsIn x ys → IsIn x (xs ++ ys)
in_back x [] ys i = i
in_back x (y ∷ xs) ys i = inr (in_back x xs ys i)

zip_joined : {X Y : Type 0} (R : X → Y → Type 0) (xs : List X) (ys : List Y) (vs : List X) (ws : List Y) → AllZip R xs ys → AllZip R vs ws → AllZip R (xs ++ vs) (ys ++ ws)
zip_joined R [] [] vs ws h k = k
zip_joined R [] (y ∷ ys) vs ws h k = absurd h
zip_joined R (x ∷ xs) [] vs ws h k = absurd h
zip_joined R (x ∷ xs) (y ∷ ys) vs ws h k = (h.0, zip_joined R xs ys vs ws h.1 k)

-- ---- null among values

abbrev is_null : Value → Bool
is_null null = true
is_null v = false

null_is : (v : Value) → is_null v ≡ true → v ≡ null
null_is null e = refl
null_is (boolean b) e = cc
null_is (integer i) e = cc
null_is (text t) e = cc
null_is (list vs) e = cc
null_is (mapping es) e = cc
null_is (node n) e = cc
null_is (relationship r) e = cc
null_is (path ids) e = cc

first_null : (k : List ℕ) (v : Value) (ps : List (List ℕ × Value)) → has_null ((k, v) ∷ ps) ≡ (is_null v || has_null ps)
first_null k null ps = refl
first_null k (boolean b) ps = refl
first_null k (integer i) ps = refl
first_null k (text t) ps = refl
first_null k (list vs) ps = refl
first_null k (mapping es) ps = refl
first_null k (node n) ps = refl
first_null k (relationship r) ps = refl
first_null k (path ids) ps = refl

or_grouped : (a b c : Bool) → (a || (b || c)) ≡ ((a || b) || c)
or_grouped true b c = refl
or_grouped false b c = refl

null_joined : (ps qs : List (List ℕ × Value)) → has_null (ps ++ qs) ≡ (has_null ps || has_null qs)
null_joined [] qs = refl
null_joined (p ∷ ps) qs =
    first_null p.0 p.1 (ps ++ qs) ∙ ap (λ b. is_null p.1 || b) (null_joined ps qs) ∙ or_grouped (is_null p.1) (has_null ps) (has_null qs) ∙ ap (λ b. b || has_null qs) (sym (first_null p.0 p.1 ps))

-- ---- values of a path

abbrev hop_values : HopWanted × NodeWanted → List (List ℕ × Value)
hop_values h = h.0.properties ++ h.1.properties

abbrev path_values : PathWanted → List (List ℕ × Value)
path_values w = w.first.properties ++ flat_map hop_values w.hops

hops_null : (hs : List (HopWanted × NodeWanted)) → has_null (flat_map hop_values hs) ≡ list_any (λ h. has_null h.0.properties || has_null h.1.properties) hs
hops_null [] = refl
hops_null (h ∷ hs) =
    null_joined (hop_values h) (flat_map hop_values hs)
    ∙ ap (λ b. b || has_null (flat_map hop_values hs)) (null_joined h.0.properties h.1.properties)
    ∙ ap (λ b. (has_null h.0.properties || has_null h.1.properties) || b) (hops_null hs)

path_null : (w : PathWanted) → has_null (path_values w) ≡ wants_null w
path_null w = null_joined w.first.properties (flat_map hop_values w.hops) ∙ ap (λ b. has_null w.first.properties || b) (hops_null w.hops)

module _ (row : Row) (parameters : Entries) (graph : Graph) where
  abbrev Gives : List ℕ × Expression → List ℕ × Value → Type 0
  Gives p v = evaluate row parameters graph p.1 ≡ Ok v.1

  abbrev Faulty : List (List ℕ × Expression) → Fault → Type 0
  Faulty pairs f = (p : List ℕ × Expression) × IsIn p pairs × (evaluate row parameters graph p.1 ≡ Err f)

  -- the values of some pairs, or the fault of one of them
  abbrev Valued : {X : Type 0} → (X → List (List ℕ × Value)) → List (List ℕ × Expression) → Result X Fault → Type 0
  Valued values pairs (Ok x) = AllZip Gives pairs (values x)
  Valued values pairs (Err f) = Faulty pairs f

  pairs_valued : (pairs : List (List ℕ × Expression)) → Valued (λ vs. vs) pairs (each_answer (λ p. evaluate row parameters graph p.1 >>= λ v. Ok (p.0, v)) pairs)
  pairs_valued [] = tt
  pairs_valued (p ∷ pairs) = by_first (evaluate row parameters graph p.1) refl (each_answer (λ p. evaluate row parameters graph p.1 >>= λ v. Ok (p.0, v)) pairs) (pairs_valued pairs)
    where
      by_first : (r : Result Value Fault) → evaluate row parameters graph p.1 ≡ r → (rs : Result (List (List ℕ × Value)) Fault) → Valued (λ vs. vs) pairs rs
          → Valued (λ vs. vs) (p ∷ pairs) ((r >>= λ v. Ok (p.0, v)) >>= λ y. rs >>= λ ys. Ok (y ∷ ys))
      by_first (Err f) e rs h = (p, inl refl, e)
      by_first (Ok v) e (Err f) h = (h.0, inr h.1, h.2)
      by_first (Ok v) e (Ok vs) h = (e, h)

  node_valued : (n : NodePattern) → Valued (λ w. w.properties) (property_pairs n.properties) (node_wanted row parameters graph n)
  node_valued n = by_values (property_values row parameters graph n.properties) (pairs_valued (property_pairs n.properties))
    where
      by_values : (r : Result (List (List ℕ × Value)) Fault) → Valued (λ vs. vs) (property_pairs n.properties) r
          → Valued (λ (w : NodeWanted). w.properties) (property_pairs n.properties) (r >>= λ vs. Ok (record { pattern = n; properties = vs }))
      by_values (Err f) h = h
      by_values (Ok vs) h = h

  abbrev hop_pairs : RelationshipPattern × NodePattern → List (List ℕ × Expression)
  hop_pairs h = property_pairs (relationship_properties h.0) ++ property_pairs h.1.properties

  faulty_in_front : (xs ys : List (List ℕ × Expression)) (f : Fault) → Faulty xs f → Faulty (xs ++ ys) f
  faulty_in_front xs ys f h = (h.0, in_front h.0 xs ys h.1, h.2)

  faulty_in_back : (xs ys : List (List ℕ × Expression)) (f : Fault) → Faulty ys f → Faulty (xs ++ ys) f
  faulty_in_back xs ys f h = (h.0, in_back h.0 xs ys h.1, h.2)

  hop_valued : (h : RelationshipPattern × NodePattern) → Valued hop_values (hop_pairs h) (hop_wanted row parameters graph h)
  hop_valued h = by_values (property_values row parameters graph (relationship_properties h.0)) (pairs_valued (property_pairs (relationship_properties h.0))) (node_wanted row parameters graph h.1) (node_valued h.1)
    where
      by_values : (r : Result (List (List ℕ × Value)) Fault) → Valued (λ vs. vs) (property_pairs (relationship_properties h.0)) r
          → (rn : Result NodeWanted Fault) → Valued (λ w. w.properties) (property_pairs h.1.properties) rn
          → Valued hop_values (hop_pairs h) (r >>= λ vs. rn >>= λ n. Ok (record { pattern = h.0; properties = vs }, n))
      by_values (Err f) k rn kn = faulty_in_front (property_pairs (relationship_properties h.0)) (property_pairs h.1.properties) f k
      by_values (Ok vs) k (Err f) kn = faulty_in_back (property_pairs (relationship_properties h.0)) (property_pairs h.1.properties) f kn
      by_values (Ok vs) k (Ok n) kn = zip_joined Gives (property_pairs (relationship_properties h.0)) vs (property_pairs h.1.properties) n.properties k kn

  hops_valued : (hs : List (RelationshipPattern × NodePattern)) → Valued (flat_map hop_values) (flat_map hop_pairs hs) (each_answer (hop_wanted row parameters graph) hs)
  hops_valued [] = tt
  hops_valued (h ∷ hs) = by_first (hop_wanted row parameters graph h) (hop_valued h) (each_answer (hop_wanted row parameters graph) hs) (hops_valued hs)
    where
      by_first : (r : Result (HopWanted × NodeWanted) Fault) → Valued hop_values (hop_pairs h) r → (rs : Result (List (HopWanted × NodeWanted)) Fault) → Valued (flat_map hop_values) (flat_map hop_pairs hs) rs
          → Valued (flat_map hop_values) (flat_map hop_pairs (h ∷ hs)) (r >>= λ y. rs >>= λ ys. Ok (y ∷ ys))
      by_first (Err f) k rs ks = faulty_in_front (hop_pairs h) (flat_map hop_pairs hs) f k
      by_first (Ok y) k (Err f) ks = faulty_in_back (hop_pairs h) (flat_map hop_pairs hs) f ks
      by_first (Ok y) k (Ok ys) ks = zip_joined Gives (hop_pairs h) (hop_values y) (flat_map hop_pairs hs) (flat_map hop_values ys) k ks

  abbrev path_pairs : PathPattern → List (List ℕ × Expression)
  path_pairs p = property_pairs p.first.properties ++ flat_map hop_pairs p.hops

  path_valued : (p : PathPattern) → Valued path_values (path_pairs p) (path_wanted row parameters graph p)
  path_valued p = by_values (node_wanted row parameters graph p.first) (node_valued p.first) (each_answer (hop_wanted row parameters graph) p.hops) (hops_valued p.hops)
    where
      by_values : (r : Result NodeWanted Fault) → Valued (λ w. w.properties) (property_pairs p.first.properties) r
          → (rs : Result (List (HopWanted × NodeWanted)) Fault) → Valued (flat_map hop_values) (flat_map hop_pairs p.hops) rs
          → Valued path_values (path_pairs p) (r >>= λ first. rs >>= λ hops. Ok (record { first = first; hops = hops }))
      by_values (Err f) k rs ks = faulty_in_front (property_pairs p.first.properties) (flat_map hop_pairs p.hops) f k
      by_values (Ok n) k (Err f) ks = faulty_in_back (property_pairs p.first.properties) (flat_map hop_pairs p.hops) f ks
      by_values (Ok n) k (Ok hops) ks = zip_joined Gives (property_pairs p.first.properties) n.properties (flat_map hop_pairs p.hops) (flat_map hop_values hops) k ks

  -- ---- nulls

  abbrev NullAmong : List (List ℕ × Expression) → Type 0
  NullAmong pairs = (q : List ℕ × Expression) × IsIn q pairs × (evaluate row parameters graph q.1 ≡ Ok null)

  null_among : (pairs : List (List ℕ × Expression)) (vs : List (List ℕ × Value)) → AllZip Gives pairs vs → has_null vs ≡ true → NullAmong pairs
  null_among [] [] h e = absurd (true≢false (sym e))
  null_among [] (v ∷ vs) h e = absurd h
  null_among (p ∷ pairs) [] h e = absurd h
  null_among (p ∷ pairs) (v ∷ vs) h e = by_first (is_null v.1) refl (sym (first_null v.0 v.1 vs) ∙ e) (null_among pairs vs h.1)
    where
      by_first : (b : Bool) → is_null v.1 ≡ b → (b || has_null vs) ≡ true → (has_null vs ≡ true → NullAmong pairs) → NullAmong (p ∷ pairs)
      by_first true f k rest = (p, inl refl, h.0 ∙ ap (λ w. Ok w) (null_is v.1 f))
      by_first false f k rest = let r = rest k in (r.0, inr r.1, r.2)

  none_null : (pairs : List (List ℕ × Expression)) (vs : List (List ℕ × Value)) → AllZip Gives pairs vs → has_null vs ≡ false → AllByRecursion (λ p. evaluate row parameters graph p.1 ≢ Ok null) pairs
  none_null [] [] h e = tt
  none_null [] (v ∷ vs) h e = absurd h
  none_null (p ∷ pairs) [] h e = absurd h
  none_null (p ∷ pairs) (v ∷ vs) h e = by_first (is_null v.1) refl (sym (first_null v.0 v.1 vs) ∙ e) (none_null pairs vs h.1)
    where
      not_null : is_null v.1 ≡ false → evaluate row parameters graph p.1 ≢ Ok null
      not_null f is = true≢false (sym (ap is_null (same_ok v.1 null (sym h.0 ∙ is))) ∙ f)

      by_first : (b : Bool) → is_null v.1 ≡ b → (b || has_null vs) ≡ false → (has_null vs ≡ false → AllByRecursion (λ p. evaluate row parameters graph p.1 ≢ Ok null) pairs)
          → AllByRecursion (λ p. evaluate row parameters graph p.1 ≢ Ok null) (p ∷ pairs)
      by_first true f k rest = absurd (true≢false k)
      by_first false f k rest = (not_null f, rest k)

  evaluated : (pairs : List (List ℕ × Expression)) (vs : List (List ℕ × Value)) → AllZip Gives pairs vs → AllByRecursion (λ p. (v : Value) × (evaluate row parameters graph p.1 ≡ Ok v)) pairs
  evaluated [] [] h = tt
  evaluated [] (v ∷ vs) h = absurd h
  evaluated (p ∷ pairs) [] h = absurd h
  evaluated (p ∷ pairs) (v ∷ vs) h = ((v.1, h.0), evaluated pairs vs h.1)

  -- ---- what is wanted of a path

  abbrev pub NullTested : PathPattern → Result (Unit {0}) Fault → Type 0
  NullTested p (Ok x) = AllByRecursion (λ q. evaluate row parameters graph q.1 ≢ Ok null) (all_pairs (p ∷ []))
  NullTested p (Err f) = (f ≡ MergeNull) × (q : List ℕ × Expression) × IsIn q (all_pairs (p ∷ [])) × (evaluate row parameters graph q.1 ≡ Ok null)

  abbrev pub WantedAgrees : PathPattern → Result (List PathWanted) Fault → Type 0
  WantedAgrees p (Ok wanted) = AllByRecursion (λ q. (v : Value) × (evaluate row parameters graph q.1 ≡ Ok v)) (all_pairs (p ∷ [])) × NullTested p (test_not_null wanted)
  WantedAgrees p (Err f) = (q : List ℕ × Expression) × IsIn q (all_pairs (p ∷ [])) × (evaluate row parameters graph q.1 ≡ Err f)

  pub wanted_agrees : (p : PathPattern) → WantedAgrees p (paths_wanted row parameters graph (p ∷ []))
  wanted_agrees p = by_path (path_wanted row parameters graph p) (path_valued p)
    where
      same : path_pairs p ≡ all_pairs (p ∷ [])
      same = sym (append-nil (path_pairs p))

      by_null : (w : PathWanted) (b : Bool) → has_null (path_values w) ≡ b → AllZip Gives (path_pairs p) (path_values w) → NullTested p (unless (not (b || false)) MergeNull)
      by_null w true e k = let q = null_among (path_pairs p) (path_values w) k e in (refl, q.0, subst (IsIn q.0) same q.1, q.2)
      by_null w false e k = subst (AllByRecursion (λ q. evaluate row parameters graph q.1 ≢ Ok null)) same (none_null (path_pairs p) (path_values w) k e)

      by_path : (r : Result PathWanted Fault) → Valued path_values (path_pairs p) r → WantedAgrees p (r >>= λ w. Ok (w ∷ []))
      by_path (Err f) k = (k.0, subst (IsIn k.0) same k.1, k.2)
      by_path (Ok w) k = (
        subst (AllByRecursion (λ q. (v : Value) × (evaluate row parameters graph q.1 ≡ Ok v))) same (evaluated (path_pairs p) (path_values w) k),
        subst (λ b. NullTested p (unless (not (b || false)) MergeNull)) (path_null w) (by_null w (has_null (path_values w)) refl k),
      )

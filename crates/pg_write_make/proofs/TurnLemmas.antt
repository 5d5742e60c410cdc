-- A turn of a loop that goes over a list and keeps what each item gives.
use Rattle.std.proofs.Common.{◌≡◌, ◌<◌, ◌≤◌, ◌+◌, ℕ, zero, suc, Bool, true, false, List, [], ◌∷◌, ◌++◌, map, drop, get_or, length, append_assoc, append-nil, Some, None, IfErr, IsErrAnd, Result, Ok, Err, refl, sym, ap, ◌∙◌, arith}
use Rattle.std.proofs.lemmas.List.{drop_all, map-append}
use Rattle.std.proofs.lemmas.Option.{slice_get_read}
use Rattle.std.specs.Borrow.{Bor}
use Rattle.std.specs.Prelude.{String, string_bytes}
use Rattle.std.specs.declared.alloc.Global.{Global}
use Rattle.pg_match_bindings.specs.InTurn.{after}
use Rattle.pg_meaning.specs.Answer.{◌>>=◌, ◌>>◌}
use Rattle.pg_meaning.specs.Graph.{Graph, Relationship, other_end, relationship_at}
use Rattle.pg_meaning.specs.Names.{Names}
use Rattle.pg_meaning.specs.Patterns.{node_name, walk_on}
use Rattle.pg_meaning.specs.Reading.{test_bound, test_nodes}
use Rattle.pg_meaning.specs.Rows.{Row}
use Rattle.pg_meaning.specs.Tree as tree
use Rattle.pg_meaning.specs.Updates.{count_nodes}
use Rattle.pg_meaning.specs.Value.{Value as Datum, entries_of}
use Rattle.pg_meaning.specs.Walks.{bound_value}
use Rattle.pg_meaning.specs.declared.fault.Fault.{Fault}
use Rattle.pg_meaning.specs.declared.fault.Fault.TheVariants.{OutOfMemory}
use Rattle.pg_store.specs.Stores.{pairs_of}
use Rattle.pg_syntax_tree.specs.View.{expression_view, node_view}
use Rattle.pg_syntax_tree.specs.declared.expression.Expression.{Expression}
use Rattle.pg_syntax_tree.specs.declared.expression.Name.{Name}
use Rattle.pg_syntax_tree.specs.declared.patterns.NodePattern.{NodePattern}
use Rattle.pg_syntax_tree.specs.declared.patterns.RelationshipPattern.{RelationshipPattern}
use Rattle.pg_value_core.specs.View.{entries_view, view}
use Rattle.pg_value_core.specs.declared.ids.RelId.{RelId}
use Rattle.pg_value_core.specs.declared.value.Value.{Value}
use Rattle.pg_write_make.proofs.LoopLemmas.{at_same, past_same, within_same}
use Rattle.pg_write_make.proofs.RowLemmas.{drop_at}
use Rattle.pg_write_make.specs.Creations.{count_one}
use Rattle.pg_write_make.specs.Makings.{others_view, patterns_view, relationship_ids}
use Rattle.pg_write_make.specs.Scenes.{value_given}
use Rattle.pg_write_make.specs.Values.{pairs_given, pairs_wanted}
use Rattle.pg_write_make.specs.declared.clause_scope.ClauseScope.{ClauseScope}

pub seen_pushed : {K O : Type 0} (see : K → O) (kept more : List K) (k : K) → more ≡ kept ++ k ∷ [] → map see more ≡ map see kept ++ see k ∷ []
seen_pushed see kept more k pushed = ap (map see) pushed ∙ map-append see kept (k ∷ [])

module _ {X : Type 0} (items xs : List X) (i : ℕ) (x : X) (same : items ≡ xs) (at : x ≡ get_or items i x) (within : i < length items) where
  pub next_item : drop i xs ≡ x ∷ drop (i + 1) xs
  next_item = drop_at xs i x (slice_get_read xs (length xs) i x refl (within_same items xs i same within) (at_same items xs i x same at))

  -- what is made of the items so far, what one more makes, and what is left to be made
  pub one_further : {O : Type 0} (left : List X → List O) (whole made more own : List O) → left (x ∷ drop (i + 1) xs) ≡ own ++ left (drop (i + 1) xs) → more ≡ made ++ own
      → whole ≡ made ++ left (drop i xs) → whole ≡ more ++ left (drop (i + 1) xs)
  one_further left whole made more own first pushed so_far =
      let others = left (drop (i + 1) xs) in
      so_far
      ∙ ap (λ ys. made ++ left ys) next_item
      ∙ ap (λ os. made ++ os) first
      ∙ sym (append_assoc made own others)
      ∙ ap (λ os. os ++ others) (sym pushed)

-- nothing is left to be made
pub all_made : {X O : Type 0} (items xs : List X) (i : ℕ) (same : items ≡ xs) → length items ≤ i → (left : List X → List O) (made whole : List O) → left [] ≡ [] → made ++ left (drop i xs) ≡ whole → made ≡ whole
all_made items xs i same past left made whole none so_far =
    sym (append-nil made) ∙ ap (λ os. made ++ os) (sym none) ∙ ap (λ ys. made ++ left ys) (sym (drop_all i xs (past_same items xs i same past))) ∙ so_far

pub memory_alone : {X : Type 0} (e : Fault) (r : Result X Fault) → IsErrAnd r (λ f. f ≡ e) → e ≡ OutOfMemory → IfErr r (λ f. f ≡ OutOfMemory)
memory_alone e (Ok x) is h = absurd is
memory_alone e (Err f) is h = is ∙ h

one_after : {Y : Type 0} (ys : List Y) (y : Y) (r : Result (List Y) Fault) → ◌≡◌ {A = Result (List Y) Fault} (after ys (r >>= λ zs. Ok (y ∷ zs))) (after (ys ++ y ∷ []) r)
one_after ys y (Ok zs) = ap (λ (all : List _). Ok all) (sym (append_assoc ys (y ∷ []) zs))
one_after ys y (Err e) = refl

module _ (items xs : List (Name × Expression)) (i : ℕ) (x : Name × Expression) (same : items ≡ xs) (at : x ≡ get_or items i x) (within : i < length items) (s : ClauseScope) (graph : Graph) (row : List Value) (vs : List (Bor (List ℕ) × Value)) (whole : Result (List (List ℕ × Datum)) Fault) (so_far : whole ≡ after (pairs_of vs) (pairs_given s graph row (pairs_wanted (drop i xs)))) where
  abbrev others : Result (List (List ℕ × Datum)) Fault
  others = pairs_given s graph row (pairs_wanted (drop (i + 1) xs))

  abbrev pair_then : Result Datum Fault → Result (List (List ℕ × Datum)) Fault
  pair_then r = after (pairs_of vs) ((r >>= λ v. Ok (string_bytes x.0.text, v)) >>= λ y. others >>= λ ys. Ok (y ∷ ys))

  this_pair : whole ≡ pair_then (value_given s graph row (expression_view x.1))
  this_pair = so_far ∙ ap (λ ps. after (pairs_of vs) (pairs_given s graph row (pairs_wanted ps))) (next_item items xs i x same at within)

  pub pair_refused : (e : Fault) → value_given s graph row (expression_view x.1) ≡ Err e → whole ≡ Err e
  pair_refused e given = this_pair ∙ ap pair_then given

  pub pair_kept : (more : List (Bor (List ℕ) × Value)) (key : Bor (List ℕ)) (v : Value) → value_given s graph row (expression_view x.1) ≡ Ok (view v) → key.now ≡ string_bytes x.0.text → more ≡ vs ++ (key, v) ∷ []
      → whole ≡ after (pairs_of more) others
  pair_kept more key v given named pushed =
      this_pair
      ∙ ap pair_then given
      ∙ one_after (pairs_of vs) (string_bytes x.0.text, view v) others
      ∙ ap (λ (n : List ℕ). after (pairs_of vs ++ (n, view v) ∷ []) others) (sym named)
      ∙ ap (λ ps. after ps others) (sym (seen_pushed (λ p. (p.0.now, view p.1)) vs more (key, v) pushed))

pub none_before : {Y : Type 0} (ys : List Y) (r : Result (List Y) Fault) → ys ≡ [] → r ≡ after ys r
none_before ys (Ok zs) none = ap (λ (os : List _). Ok (os ++ zs)) (sym none)
none_before ys (Err e) none = refl

pub pairs_past : (items xs : List (Name × Expression)) (i : ℕ) (same : items ≡ xs) → length items ≤ i → (s : ClauseScope) (graph : Graph) (row : List Value) (found : List (List ℕ × Datum)) (whole : Result (List (List ℕ × Datum)) Fault)
    → whole ≡ after found (pairs_given s graph row (pairs_wanted (drop i xs))) → whole ≡ Ok found
pairs_past items xs i same past s graph row found whole so_far =
    so_far
    ∙ ap (λ ps. after found (pairs_given s graph row (pairs_wanted ps))) (drop_all i xs (past_same items xs i same past))
    ∙ ap (λ (ps : List (List ℕ × Datum)). Ok ps) (append-nil found)

pub entry_copied : (vs more : List (Bor (List ℕ) × Value)) (whole : List (List ℕ × Datum)) (entries later : List (String Global × Value)) (k : String Global) (v w : Value) (key : Bor (List ℕ)) → entries ≡ (k, v) ∷ later → key.now ≡ string_bytes k → view w ≡ view v
    → more ≡ vs ++ (key, w) ∷ [] → whole ≡ pairs_of vs ++ entries_of (entries_view entries) → whole ≡ pairs_of more ++ entries_of (entries_view later)
entry_copied vs more whole entries later k v w key steps named same pushed so_far =
    let rest = entries_of (entries_view later) in
    so_far
    ∙ ap (λ es. pairs_of vs ++ entries_of (entries_view es)) steps
    ∙ ap (λ (n : List ℕ). pairs_of vs ++ (n, view v) ∷ rest) (sym named)
    ∙ ap (λ (d : Datum). pairs_of vs ++ (key.now, d) ∷ rest) (sym same)
    ∙ sym (append_assoc (pairs_of vs) ((key.now, view w) ∷ []) rest)
    ∙ ap (λ ps. ps ++ rest) (sym (seen_pushed (λ p. (p.0.now, view p.1)) vs more (key, w) pushed))

any_default : {X : Type 0} (xs : List X) (i : ℕ) (d e : X) → i < length xs → get_or xs i d ≡ get_or xs i e
any_default [] i d e h = absurd (omega (arith, h))
any_default (x ∷ xs) zero d e h = refl
any_default (x ∷ xs) (suc i) d e h = any_default xs i d e (omega (arith, h))

module _ (items xs : List RelId) (i : ℕ) (d : RelId) (same : items ≡ xs) (within : i < length items) where
  abbrev bond : RelId
  bond = get_or items i d

  pub walked : (graph : Graph) (here there : ℕ) (ids one two whole : List ℕ) (e : Relationship) → relationship_at graph bond.0 ≡ Some e → there ≡ other_end here e → one ≡ ids ++ bond.0 ∷ [] → two ≡ one ++ there ∷ []
      → whole ≡ ids ++ walk_on graph here (relationship_ids (drop i xs)) → whole ≡ two ++ walk_on graph there (relationship_ids (drop (i + 1) xs))
  walked graph here there ids one two whole e is ends pushed again so_far =
      let rest = relationship_ids (drop (i + 1) xs) in
      so_far
      ∙ ap (λ ys. ids ++ walk_on graph here (relationship_ids ys)) (next_item items xs i bond same (any_default items i d bond within) within)
      ∙ ap (λ o. ids ++ (elim o [ None ↦ [] | Some r ↦ bond.0 ∷ other_end here r ∷ walk_on graph (other_end here r) rest ])) is
      ∙ ap (λ n. ids ++ bond.0 ∷ n ∷ walk_on graph n rest) (sym ends)
      ∙ sym (append_assoc ids (bond.0 ∷ []) (there ∷ walk_on graph there rest))
      ∙ ap (λ (ns : List ℕ). ns ++ there ∷ walk_on graph there rest) (sym pushed)
      ∙ sym (append_assoc one (there ∷ []) (walk_on graph there rest))
      ∙ ap (λ (ns : List ℕ). ns ++ walk_on graph there rest) (sym again)

  -- a relationship that isn't there ends the walk
  pub walk_ends : (graph : Graph) (here : ℕ) (ids whole : List ℕ) → relationship_at graph bond.0 ≡ None → whole ≡ ids ++ walk_on graph here (relationship_ids (drop i xs)) → whole ≡ ids
  walk_ends graph here ids whole is so_far =
      let rest = relationship_ids (drop (i + 1) xs) in
      so_far
      ∙ ap (λ ys. ids ++ walk_on graph here (relationship_ids ys)) (next_item items xs i bond same (any_default items i d bond within) within)
      ∙ ap (λ o. ids ++ (elim o [ None ↦ [] | Some r ↦ bond.0 ∷ other_end here r ∷ walk_on graph (other_end here r) rest ])) is
      ∙ append-nil ids

pub all_walked : (items xs : List RelId) (i : ℕ) (same : items ≡ xs) → length items ≤ i → (graph : Graph) (here : ℕ) (ids whole : List ℕ) → whole ≡ ids ++ walk_on graph here (relationship_ids (drop i xs)) → whole ≡ ids
all_walked items xs i same past graph here ids whole so_far =
    so_far ∙ ap (λ ys. ids ++ walk_on graph here (relationship_ids ys)) (drop_all i xs (past_same items xs i same past)) ∙ append-nil ids

module _ (items xs : List (RelationshipPattern × NodePattern)) (i : ℕ) (same : items ≡ xs) (graph : Graph) (row : Row) (whole : Result (Unit {0}) Fault) (so_far : whole ≡ test_nodes false graph row (others_view (drop i xs))) where
  pub all_tested : length items ≤ i → whole ≡ Ok tt
  all_tested past = so_far ∙ ap (λ ys. test_nodes false graph row (others_view ys)) (drop_all i xs (past_same items xs i same past))

  module _ (x : RelationshipPattern × NodePattern) (at : x ≡ get_or items i x) (within : i < length items) (r : Result (Unit {0}) Fault) (is : r ≡ test_bound false graph (bound_value (node_name (node_view x.1)) row)) where
    pub test_then : whole ≡ (r >> test_nodes false graph row (others_view (drop (i + 1) xs)))
    test_then =
        so_far
        ∙ ap (λ ys. test_nodes false graph row (others_view ys)) (next_item items xs i x same at within)
        ∙ ap (λ t. t >> test_nodes false graph row (others_view (drop (i + 1) xs))) (sym is)

one_moved : (whole count left more : ℕ) → whole ≡ count + (1 + left) → more ≡ count + 1 → whole ≡ more + left
one_moved whole count left more all next = omega (arith, all, next)

few_on : (count more i : ℕ) → more ≡ count + 1 → count ≤ i → more ≤ i + 1
few_on count more i next few = omega (arith, next, few)

few_still : (count more i : ℕ) → more ≡ count → count ≤ i → more ≤ i + 1
few_still count more i next few = omega (arith, next, few)

module _ (items xs : List (Bor NodePattern)) (i : ℕ) (x : Bor NodePattern) (same : items ≡ xs) (at : x ≡ get_or items i x) (within : i < length items) (seen later : Names) (makes : Bool) (goes : (ns : List tree.NodePattern) → count_nodes seen (node_view x.now ∷ ns) ≡ count_one makes (count_nodes later ns))
    (count more whole : ℕ) (so_far : whole ≡ count + count_nodes seen (patterns_view (drop i xs))) (few : count ≤ i) where
  abbrev left : ℕ
  left = count_nodes later (patterns_view (drop (i + 1) xs))

  counted : whole ≡ count + count_one makes left
  counted = so_far ∙ ap (λ ys. count + count_nodes seen (patterns_view ys)) (next_item items xs i x same at within) ∙ ap (λ k. count + k) (goes (patterns_view (drop (i + 1) xs)))

  pub one_counts : makes ≡ true → more ≡ count + 1 → (whole ≡ more + left) × (more ≤ i + 1)
  one_counts is next = (one_moved whole count left more (counted ∙ ap (λ b. count + count_one b left) is) next, few_on count more i next few)

  pub none_counts : makes ≡ false → more ≡ count → (whole ≡ more + left) × (more ≤ i + 1)
  none_counts is next = (counted ∙ ap (λ b. count + count_one b left) is ∙ ap (λ k. k + left) (sym next), few_still count more i next few)

pub all_counted : (items xs : List (Bor NodePattern)) (i : ℕ) (same : items ≡ xs) → length items ≤ i → (seen : Names) (count whole : ℕ) → whole ≡ count + count_nodes seen (patterns_view (drop i xs)) → count ≡ whole
all_counted items xs i same past seen count whole so_far =
    let all = so_far ∙ ap (λ ys. count + count_nodes seen (patterns_view ys)) (drop_all i xs (past_same items xs i same past)) in
    omega (arith, all)

pub few_in : (count i n : ℕ) → count ≤ i → i ≤ n → count ≤ n
few_in count i n few within = omega (arith, few, within)

-- Stores that were just made, of which the first is taken to work.
use Rattle.std.proofs.Common.{◌≡◌, ℕ, zero, suc, ◌+◌, ◌<◌, List, [], ◌∷◌, ◌++◌, Option, None, length, get_or, set, map, arith, refl, sym, ap, subst, ◌∙◌}
use Rattle.std.specs.Prelude.{replicate}
use Rattle.std.proofs.lemmas.List.{get_or-set_same, get_or-set_other, length-set, length-replicate, map-set}
use Rattle.pg_graph.specs.Content.{Seen}
use Rattle.pg_live.proofs.HeldLemmas.{fit_of_parts}
use Rattle.pg_live.proofs.LiveLemmas.{take_all}
use Rattle.pg_live.proofs.OpenLemmas.{none_begun, one_at}
use Rattle.pg_live.specs.Live.{all_begun, graphs_of, live_of, shared_then, IsLive}
use Rattle.pg_live.specs.declared.transactions.Begin.{Begin}
use Rattle.pg_live.specs.Opening.{AreOpening, Opens}
use Rattle.pg_meaning.specs.Graph.{empty_graph}
use Rattle.pg_names.specs.Names.{AreDistinct}
use Rattle.pg_store.specs.Stores.{graph_of_store, index_pairs, IsFit, HasMark}
use Rattle.pg_store.specs.declared.journal.Mark.{Mark}
use Rattle.pg_store.specs.declared.shared.Shared.{Shared}
use Rattle.pg_store.specs.declared.store.Store.{Store}

-- what each of a list has at its place, and one more at the end
at_end : {X : Type 0} (P : X → ℕ → Type 0) (xs : List X) (x : X) (from : ℕ) → ((k : ℕ) (d : X) → k < length xs → P (get_or xs k d) (from + k)) → P x (from + length xs)
    → (k : ℕ) (d : X) → k < length (xs ++ x ∷ []) → P (get_or (xs ++ x ∷ []) k d) (from + k)
at_end P [] x from h here zero d lt = here
at_end P [] x from h here (suc k) d lt = absurd (omega (arith, lt))
at_end P (y ∷ xs) x from h here zero d lt = h 0 d (omega arith)
at_end P (y ∷ xs) x from h here (suc k) d lt =
    subst (P (get_or (xs ++ x ∷ []) k d)) (omega arith)
    (at_end P xs x (suc from) (λ j e below. subst (P (get_or xs j e)) (omega arith) (h (suc j) e (omega (arith, below)))) (subst (P x) (omega arith) here) k d (omega (arith, lt)))

longer : {X : Type 0} (xs : List X) (x : X) → length (xs ++ x ∷ []) ≡ length xs + 1
longer [] x = refl
longer (y ∷ xs) x = omega (arith, longer xs x)

module _ {T S : Type 0} (seen : Seen T S) where
  pub none_open : (stores : List (Store T)) → stores ≡ [] → AreOpening seen 0 stores
  none_open stores none = subst (AreOpening seen 0) (sym none) (record { all = refl; opens = λ k d lt. absurd (omega (arith, lt)) })

  pub one_open : (n m : ℕ) (stores after : List (Store T)) (one : Store T) → AreOpening seen n stores → Opens seen one n → after ≡ stores ++ one ∷ [] → m ≡ n + 1 → AreOpening seen m after
  one_open n m stores after one begun opens pushed more =
      subst (AreOpening seen m) (sym pushed) (record {
        all = longer stores one ∙ ap (λ k. k + 1) begun.all ∙ sym more;
        opens = λ k d lt. subst (Opens seen (get_or (stores ++ one ∷ []) k d)) (omega arith)
            (at_end (Opens seen) stores one 0 (λ j e below. subst (Opens seen (get_or stores j e)) (omega arith) (begun.opens j e below)) (subst (Opens seen one) (omega (arith, begun.all)) opens) k d lt);
      })

-- the same of each
all_one : {X Y : Type 0} (f : X → Y) (y : Y) (xs : List X) → ((k : ℕ) (d : X) → k < length xs → f (get_or xs k d) ≡ y) → map f xs ≡ replicate (length xs) y
all_one f y [] h = refl
all_one f y (x ∷ xs) h = λ i. h 0 x (omega arith) i ∷ all_one f y xs (λ k d lt. h (suc k) d (omega (arith, lt))) i

set_one : {Y : Type 0} (y : Y) (n : ℕ) → set (replicate n y) 0 y ≡ replicate n y
set_one y zero = refl
set_one y (suc n) = refl

module _ {T S K : Type 0} (seen : Seen T S) (count : ℕ) (stores : List (Store T)) (begun : AreOpening seen count stores) (some : 0 < count) (spare store : Store T) (spare_opens : Opens seen spare count)
    (store_is : store ≡ get_or stores 0 store) (shared : Shared S K) (distinct : AreDistinct shared.names) (unused : (owner : ℕ) → seen.is_unused owner shared.tables) where
  abbrev others : List (Store T)
  others = set stores 0 spare

  long : length others ≡ count
  long = length-set stores 0 spare ∙ begun.all

  first : 0 < length stores
  first = omega (arith, some, begun.all)

  first_opens : Opens seen store 0
  first_opens = subst (λ (s : Store T). Opens seen s 0) (sym store_is) (begun.opens 0 store first)

  abbrev parts : Shared S (Unit {0})
  parts = record { names = shared.names; tables = shared.tables }

  -- a store of an owner that doesn't use the part
  fresh : (s : Store T) (owner : ℕ) → Opens seen s owner → IsFit seen s shared
  fresh s owner opens = fit_of_parts seen s parts (opens.fit parts distinct (unused owner))

  pub first_fits : IsFit seen store shared
  first_fits = fresh store 0 first_opens

  -- what a spare store has, and each other
  module _ (P : Store T → Type 0) (here : P spare) (there : (k : ℕ) (d : Store T) → k < length stores → P (get_or stores k d)) where
    each : (k : ℕ) (d : Store T) → k < length others → P (get_or others k d)
    each zero d lt = subst P (sym (get_or-set_same stores 0 spare d first)) here
    each (suc k) d lt = subst P (sym (get_or-set_other stores 0 (suc k) spare d (λ e. omega (arith, e)))) (there (suc k) d (omega (arith, lt, length-set stores 0 spare)))

  fits : (k : ℕ) (d : Store T) → k < length others → IsFit seen (get_or others k d) shared
  fits = each (λ (s : Store T). IsFit seen s shared) (fresh spare count spare_opens) (λ k d lt. fresh (get_or stores k d) k (begun.opens k d lt))

  empty : (k : ℕ) (d : Store T) → k < length others → graph_of_store seen (get_or others k d) shared ≡ empty_graph
  empty = each (λ (s : Store T). graph_of_store seen s shared ≡ empty_graph) (spare_opens.empty parts (unused count)) (λ k d lt. (begun.opens k d lt).empty parts (unused k))

  module _ (mark : Mark) (all : mark.names ≡ length shared.names) (begins : List (Option Begin)) (none : begins ≡ replicate count None) where
    abbrev then : Shared S K
    then = shared_then seen store others shared 0 mark

    now_is : then ≡ shared
    now_is = ap (λ (ns : List (List ℕ)). let p : Shared S K = record { names = ns; tables = shared.tables } in p) (take_all mark.names shared.names all)

    nothing_open : (k : ℕ) → get_or begins k None ≡ None
    nothing_open k = ap (λ (bs : List (Option Begin)). get_or bs k None) none ∙ one_at count k None

    pub opened_live : HasMark seen store shared mark → IsLive seen store others shared 0 mark begins
    opened_live marked = record {
      fit = first_fits;
      marked = marked;
      fits = λ k d lt. subst (λ (p : Shared S K). IsFit seen (get_or others k d) p) (sym now_is) (fits k d lt);
      within = omega (arith, some, long);
      mine = first_opens.own;
      spare = λ d. ap (λ (s : Store T). seen.owner s.tables) (get_or-set_same stores 0 spare d first) ∙ spare_opens.own ∙ sym long;
      own = λ k d lt ne. ap (λ (s : Store T). seen.owner s.tables) (get_or-set_other stores 0 k spare d ne) ∙ (begun.opens k d (omega (arith, lt, length-set stores 0 spare))).own;
      each = ap length none ∙ length-replicate count None ∙ sym long;
      opened = λ k d b is. absurd (cc (is, nothing_open k));
      earlier = λ b is. absurd (cc (is, nothing_open 0));
    }

    pub opened_begins : (live_of seen store others shared 0 mark begins).aside.begins ≡ replicate count None
    opened_begins =
        ap (λ (bs : List (Option Begin)). all_begun seen then bs (set others 0 store)) none
        ∙ none_begun seen then count (set others 0 store) (length-set others 0 store ∙ long)

    pub opened_pairs : (live_of seen store others shared 0 mark begins).aside.pairs ≡ replicate count []
    opened_pairs =
        map-set (λ (s : Store T). index_pairs s) others 0 store
        ∙ (λ i. set (all_one (λ (s : Store T). index_pairs s) [] others (each (λ (s : Store T). index_pairs s ≡ []) spare_opens.indexes (λ k d lt. (begun.opens k d lt).indexes)) i) 0 (first_opens.indexes i))
        ∙ set_one [] (length others) ∙ ap (λ n. replicate n []) long

    pub opened_graphs : graphs_of (live_of seen store others shared 0 mark begins) ≡ replicate count empty_graph
    opened_graphs =
        ap (λ (p : Shared S K). set (map (λ s. graph_of_store seen s p) others) 0 (graph_of_store seen store shared)) now_is
        ∙ (λ i. set (all_one (λ s. graph_of_store seen s shared) empty_graph others empty i) 0 (first_opens.empty parts (unused 0) i))
        ∙ set_one empty_graph (length others) ∙ ap (λ n. replicate n empty_graph) long

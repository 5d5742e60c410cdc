-- Sets that insert_id a state, through each change and back.
use Rattle.std.proofs.Common.{◌≡◌, ℕ, Bool, true, false, List, [], ◌∷◌, ◌++◌, Option, Some, None, inl, inr, refl, sym, ap, subst, ◌∙◌}
use Rattle.std.proofs.lemmas.Bool.{cases_eq}
use Rattle.std.specs.FinMap as map
use Rattle.std.specs.FinMap.{FinMap}
use Rattle.std.specs.Ordering.{nat_cmp}
use Rattle.std.specs.Option.{option_map_or}
use Rattle.pg_graph.proofs.Maps.{get_inserted, get_inserted_other, get_removed, get_removed_other}
use Rattle.pg_graph.specs.Content.{Content, with_node, without_node, with_rel, with_rel_properties}
use Rattle.pg_graph.specs.Records.{Properties}
use Rattle.pg_graph.specs.Stored.{has_number}
use Rattle.pg_graph.specs.declared.records.NodeRecord.{NodeRecord}
use Rattle.pg_graph.specs.declared.records.RelRecord.{RelRecord}
use Rattle.pg_store.proofs.JournalLemmas.{undone_last}
use Rattle.pg_store.specs.Covers.{FindAlike, Key, every, with_label, with_value, label_set_key, Covers, HasCovered, belongs}
use Rattle.pg_store.specs.Journal.{State, undo_one, undone}
use Rattle.pg_store.specs.declared.journal.Entry.{Entry}
use Rattle.pg_value_core.specs.declared.value.Value.{Value}

abbrev pub Has : Type 0
Has = Key → ℕ → Bool

abbrev pub Grows : Has → Has → Type 0
Grows a b = (k : Key) (i : ℕ) → a k i ≡ true → b k i ≡ true

pub grows_on : (a b c : Has) → Grows a b → Grows b c → Grows a c
grows_on a b c p q = λ k i h. q k i (p k i h)

pub grown_covers : (a b : Has) → Grows a b → (s : State) → Covers a s → Covers b s
grown_covers a b grows s c = λ k i n is found. grows k i (c k i n is found)

pub grown_covered : (a b : Has) → Grows a b → (es : List Entry) (s : State) → HasCovered a es s → HasCovered b es s
grown_covered a b grows [] s h = grown_covers a b grows s h
grown_covered a b grows (e ∷ es) s h = (grown_covers a b grows (undone (e ∷ es) s) h.0, grown_covered a b grows es s h.1)

module _ (has : Has) where
  pub covers_now : (es : List Entry) (s : State) → HasCovered has es s → Covers has s
  covers_now [] s h = h
  covers_now (e ∷ es) s h = covers_now es s h.1

  covered_last : (es : List Entry) (e : Entry) (s : State) → HasCovered has es (undo_one e s) → Covers has s → HasCovered has (es ++ e ∷ []) s
  covered_last [] e s h now = (h, now)
  covered_last (x ∷ es) e s h now = (subst (λ (t : State). Covers has (undo_one x t)) (sym (undone_last es e s)) h.0, covered_last es e s h.1 now)

  covered_pop : (es : List Entry) (e : Entry) (s : State) → HasCovered has (es ++ e ∷ []) s → HasCovered has es (undo_one e s)
  covered_pop [] e s h = h.0
  covered_pop (x ∷ es) e s h = (subst (λ (t : State). Covers has (undo_one x t)) (undone_last es e s) h.0, covered_pop es e s h.1)

  -- a change joins the journal, and leaves it
  pub covered_pushed : (es es' : List Entry) (e : Entry) (s s' : State) → es' ≡ es ++ e ∷ [] → undo_one e s' ≡ s → HasCovered has es s → Covers has s' → HasCovered has es' s'
  covered_pushed es es' e s s' is back all now = subst (λ xs. HasCovered has xs s') (sym is) (covered_last es e s' (subst (HasCovered has es) (sym back) all) now)

  pub covered_popped : (es es' : List Entry) (e : Entry) (s : State) → es' ≡ es ++ e ∷ [] → HasCovered has es' s → HasCovered has es (undo_one e s)
  covered_popped es es' e s is all = covered_pop es e s (subst (λ xs. HasCovered has xs s) is all)

  -- a node comes or is changed, and a node goes
  pub covers_with : (s : State) (id : ℕ) (n : NodeRecord) → Covers has s → ((k : Key) → belongs k n ≡ true → has k id ≡ true) → Covers has (record s { content = with_node s.content id n })
  covers_with s id n c mine = λ k i m is number. elim (cases_eq i id) [
    | inl same ↦
        subst (λ q. has k q ≡ true) (sym same)
        (mine k (let here : Some n ≡ Some m = sym (get_inserted s.content.nodes id n) ∙ subst (λ q. map.get (map.insert s.content.nodes id n) q ≡ Some m) same is in ap (λ o. option_map_or (belongs k) o false) here ∙ number))
    | inr ne ↦ c k i m (sym (get_inserted_other s.content.nodes id n i ne) ∙ is) number
  ]

  pub covers_without : (s : State) (id : ℕ) → Covers has s → Covers has (record s { content = without_node s.content id })
  covers_without s id c = λ k i m is number. elim (cases_eq i id) [
    | inl same ↦ let gone = get_removed s.content.nodes id in let there : map.get (map.remove s.content.nodes id) id ≡ Some m = subst (λ q. map.get (map.remove s.content.nodes id) q ≡ Some m) same is in absurd (cc)
    | inr ne ↦ c k i m (sym (get_removed_other s.content.nodes id i ne) ∙ is) number
  ]

-- a relationship that gets other properties leaves the nodes
pub same_nodes : (c : Content) (id : ℕ) (ps : Properties) → (with_rel_properties c id ps).nodes ≡ c.nodes
same_nodes c id ps = by_case (map.get c.rels id)
  where
    by_case : (o : Option RelRecord) → (option_map_or (λ (r : RelRecord). with_rel c id (record r { properties = ps })) o c).nodes ≡ c.nodes
    by_case None = refl
    by_case (Some r) = refl

pub covers_other_properties : (has : Has) (s : State) (id : ℕ) (ps : Properties) → Covers has s → Covers has (record s { content = with_rel_properties s.content id ps })
covers_other_properties has s id ps c = λ k i n is number. c k i n (ap (λ (m : FinMap nat_cmp NodeRecord). map.get m i) (sym (same_nodes s.content id ps)) ∙ is) number

-- an id leaves a set where it does not belong
pub swept_covers : (a b : Has) (key : Key) (id : ℕ) (s : State) → ((k : Key) (i : ℕ) → a k i ≡ true → b k i ≡ false → FindAlike k key × (i ≡ id)) → option_map_or (belongs key) (map.get s.content.nodes id) false ≡ false → Covers a s → Covers b s
swept_covers a b key id s others strange c = λ k i n is found. by_test k i n is found (b k i) refl
  where
    by_test : (k : Key) (i : ℕ) (n : NodeRecord) → map.get s.content.nodes i ≡ Some n → belongs k n ≡ true → (t : Bool) → b k i ≡ t → t ≡ true
    by_test k i n is found true h = refl
    by_test k i n is found false h =
        let at = others k i (c k i n is found) h in
        let not_there : belongs key n ≡ false = ap (λ o. option_map_or (belongs key) o false) (sym is) ∙ ap (λ q. option_map_or (belongs key) (map.get s.content.nodes q) false) at.1 ∙ strange in
        let alike = at.0 n in
        absurd (cc (found, alike, not_there))

-- a node that its labels' sets and the property indexes insert_id
pub all_covered : (a b : Has) (n : NodeRecord) (id : ℕ) → Grows a b → ((k : Option ℕ) → has_number k n ≡ true → a (label_set_key k) id ≡ true)
    → ((label key : ℕ) (v : Value) → belongs (with_value label key v) n ≡ true → b (with_value label key v) id ≡ true) → (k : Key) → belongs k n ≡ true → b k id ≡ true
all_covered a b n id grows labels values every h = grows every id (labels None refl)
all_covered a b n id grows labels values (with_label label) h = grows (with_label label) id (labels (Some label) h)
all_covered a b n id grows labels values (with_value label key v) h = values label key v h

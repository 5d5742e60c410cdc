-- Keys of rows that have the same in the columns that they read, and the groups that have these keys.
use Rattle.std.proofs.Common.{◌≡◌, ℕ, ◌+◌, ◌<◌, List, [], ◌∷◌, ◌++◌, drop, length, map, get_or, Bor, Option, Some, None, Ok, refl, sym, ap, subst, ◌∙◌, add-one}
use Rattle.std.proofs.Math.Seq.{drop-cons}
use Rattle.std.proofs.lemmas.List.{append_assoc}
use Rattle.std.specs.Global.{Vec}
use Rattle.std.proofs.lemmas.Option.{slice_get-map, slice_get_past, slice_get_read}
use Rattle.std.specs.Prelude.{IfSome, option_map, slice_get}
use Rattle.std.specs.Slice.{IsItemAt}
use Rattle.pg_expr.specs.LoneColumns.{ReadsColumn}
use Rattle.pg_expr.specs.Prepared.{tree_of}
use Rattle.pg_expr.specs.declared.prepared.Prepared.{Prepared}
use Rattle.pg_meaning.specs.Answer.{◌>>=◌, each_answer}
use Rattle.pg_meaning.specs.Graph.{Graph}
use Rattle.pg_meaning.specs.Tree.{Expression}
use Rattle.pg_meaning.specs.Value.{Value as Datum, Entries}
use Rattle.pg_project.proofs.Turns.{here}
use Rattle.pg_project.specs.Alike.{AreAlike, HaveAlike, IsGroupOf, ReadEach}
use Rattle.pg_project.specs.Kept.{Answers, answers_at}
use Rattle.pg_project.specs.KeptGroups.{HasNumber}
use Rattle.pg_project.specs.ReadyItems.{keys_of}
use Rattle.pg_value_core.specs.View.{view}
use Rattle.pg_value_core.specs.declared.value.Value.{Value}

-- a key more, and its column
module _ (names : List (List ℕ)) (keys : List Prepared) (i : ℕ) (columns : List ℕ) (so_far : (rest : List ℕ) → ReadEach names (keys_of names (drop i keys)) rest → ReadEach names (keys_of names keys) (columns ++ rest)) where
  pub one_more : (lent : List Prepared) → lent ≡ keys → (key : Prepared) → i < length lent → key ≡ get_or lent i key → (c : ℕ) → ReadsColumn names (tree_of names key) c → (more : List ℕ) → more ≡ columns ++ c ∷ []
      → (rest : List ℕ) → ReadEach names (keys_of names (drop (i + 1) keys)) rest → ReadEach names (keys_of names keys) (more ++ rest)
  one_more lent same key within is c reads more behind rest r =
      subst (λ cs. ReadEach names (keys_of names keys) cs) (sym (ap (λ cs. cs ++ rest) behind ∙ append_assoc columns (c ∷ []) rest))
      (so_far (c ∷ rest) (subst (λ ks. ReadEach names (keys_of names ks) (c ∷ rest)) (sym (subst (λ ks. drop i ks ≡ key ∷ drop (i + 1) ks) same (here lent i key within is))) (reads, r)))

-- a column more that is alike
module _ (r s : List Datum) (columns : List ℕ) (i : ℕ) (so_far : AreAlike (drop i columns) r s → AreAlike columns r s) where
  pub one_alike : i < length columns → slice_get r (get_or columns i 0) ≡ slice_get s (get_or columns i 0) → AreAlike (drop (i + 1) columns) r s → AreAlike columns r s
  one_alike within same rest = so_far (subst (λ cs. AreAlike cs r s) (sym (drop-cons columns i 0 within)) (same, subst (λ k. AreAlike (drop k columns) r s) (add-one i) rest))

pub seen_at : (row : List Value) (at : ℕ) (o : Option (Bor Value)) → IsItemAt row at o → option_map (λ v. view v.now) o ≡ slice_get (map view row) at
seen_at row at None got = sym (slice_get-map view row at ∙ ap (option_map view) (slice_get_past row at got.3))
seen_at row at (Some v) got = sym (slice_get-map view row at ∙ ap (option_map view) (slice_get_read row (length row) at v.now refl got.3.0 got.1))

module _ (parameters : Entries) (g : Graph) (names : List (List ℕ)) (r s : List Datum) where
  pub same_key : (es : List Expression) (columns : List ℕ) → ReadEach names es columns → AreAlike columns r s → each_answer (answers_at parameters g names r) es ≡ each_answer (answers_at parameters g names s) es
  same_key [] cs reads alike = refl
  same_key (e ∷ es) [] reads alike = absurd reads
  same_key (e ∷ es) (c ∷ cs) reads alike =
      ap (λ a. a >>= λ v. each_answer (answers_at parameters g names r) es >>= λ vs. Ok (v ∷ vs)) (reads.0 parameters g r s alike.0)
      ∙ ap (λ a. answers_at parameters g names s e >>= λ v. a >>= λ vs. Ok (v ∷ vs)) (same_key es cs reads.1 alike.1)

  pub group_stays : (columns : Option (Vec ℕ)) (es : List Expression) → IfSome columns (λ cs. ReadEach names es cs.items) → HaveAlike columns r s
      → (held : List (Vec Value)) (latest : Option ℕ) (n : ℕ) → latest ≡ Some n → IfSome latest (λ m. IsGroupOf (answers_at parameters g names s) es held m) → IsGroupOf (answers_at parameters g names r) es held n
  group_stays None es reads alike held latest n is group = absurd alike
  group_stays (Some cs) es reads alike held latest n is group =
      let before : IsGroupOf (answers_at parameters g names s) es held n = subst (λ o. IfSome o (λ m. IsGroupOf (answers_at parameters g names s) es held m)) is group in
      record { key = before.key; is = same_key es cs.items reads alike ∙ before.is; number = before.number }

pub latest_of : (at : Answers) (es : List Expression) (key : List Datum) → each_answer at es ≡ Ok key → (held : List (Vec Value)) (latest : Option ℕ) → IfSome latest (λ n. HasNumber held key n) → IfSome latest (λ n. IsGroupOf at es held n)
latest_of at es key is held None h = tt
latest_of at es key is held (Some n) h = record { key = key; is = is; number = h }

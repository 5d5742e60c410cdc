-- Keys that are columns of the rows, and keys that stand beside them.
use Rattle.std.proofs.Common.{◌≡◌, ◌<◌, ◌+◌, ℕ, zero, suc, List, [], ◌∷◌, ◌++◌, map, take, length, slice_get, slice_index_or, Ok, Some, refl, sym, ap, subst, ◌∙◌, arith}
use Rattle.std.proofs.Math.Seq.{take-length}
use Rattle.std.proofs.lemmas.List.{map-append}
use Rattle.std.specs.List.{AllByRecursion}
use Rattle.std.specs.Option.{option_and_then}
use Rattle.pg_expr.specs.LoneColumns.{IsLoneColumn}
use Rattle.pg_meaning.specs.Answer.{◌>>=◌}
use Rattle.pg_meaning.specs.Expressions.{evaluate, or_fault}
use Rattle.pg_meaning.specs.Graph.{Graph}
use Rattle.pg_meaning.specs.Tree.{Expression}
use Rattle.pg_meaning.specs.Value.{Value as Datum, null, Entries}
use Rattle.pg_meaning.specs.declared.fault.Fault.TheVariants.{UndefinedVariable}
use Rattle.pg_project.specs.Given.{item, other, all_keys_given}
use Rattle.pg_project.specs.Sources.{ReadsAt, ReadColumns, sources_view}
use Rattle.pg_project.specs.declared.sorting.SortSource.{SortSource}
use Rattle.pg_rows.proofs.NamedRows.{values_stand}
use Rattle.pg_rows.specs.Named.{row_of}
use Rattle.pg_rows.specs.Sorts.{picked}
use Rattle.pg_rows.specs.declared.sort_by.SortBy.{SortBy}

pub item_read : (names : List (List ℕ)) (width at : ℕ) → ReadsAt names width (item at) at
item_read names width at = λ parameters graph values long. refl

there : (values : List Datum) (at : ℕ) → at < length values → slice_get values at ≡ Some (slice_index_or values at null)
there [] at h = absurd (omega (arith, h))
there (v ∷ vs) zero h = refl
there (v ∷ vs) (suc at) h = there vs at (omega arith)

pub variable_read : (names : List (List ℕ)) (width at : ℕ) (e : Expression) → IsLoneColumn names e at → at < width → ReadsAt names width (other e) at
variable_read names width at e r h = λ parameters graph values long.
    ap (λ x. evaluate (row_of names values) parameters graph x) r.is
    ∙ ap (λ v. or_fault v UndefinedVariable)
    (values_stand r.name.text names values
    ∙ ap (option_and_then (slice_get values)) r.first
    ∙ there values at (subst (λ n. at < n) (sym long) h))

-- the keys of each row are its values
pub all_read : (parameters : Entries) (graph : Graph) (names : List (List ℕ)) (width : ℕ) (sources : List SortSource) (sorts : List SortBy) → ReadColumns names width sources sorts → (rows : List (List Datum)) → AllByRecursion (λ r. length r ≡ width) rows
    → all_keys_given parameters graph names (sources_view names sources) rows ≡ Ok (map (picked sorts) rows)
all_read parameters graph names width sources sorts r [] a = refl
all_read parameters graph names width sources sorts r (w ∷ ws) a = λ i. r.keys parameters graph w a.0 i >>= λ k. all_read parameters graph names width sources sorts r ws a.1 i >>= λ ks. Ok (k ∷ ks)

one_taken : (keys : List Datum) (n : ℕ) → n < length keys → take (n + 1) keys ≡ take n keys ++ slice_index_or keys n null ∷ []
one_taken [] n h = absurd (omega (arith, h))
one_taken (k ∷ ks) zero h = refl
one_taken (k ∷ ks) (suc n) h = ap (λ m. take m (k ∷ ks)) (let e : suc n + 1 ≡ suc (n + 1) = omega arith in e) ∙ ap (λ us. k ∷ us) (one_taken ks n (omega arith))

-- one key more
pub one_picked : (found : List SortBy) (s : SortBy) (keys : List Datum) (n : ℕ) → picked found keys ≡ take n keys → s.column ≡ n → n < length keys → picked (found ++ s ∷ []) keys ≡ take (n + 1) keys
one_picked found s keys n so_far is h =
    map-append (λ (t : SortBy). slice_index_or keys t.column null) found (s ∷ [])
    ∙ (λ i. so_far i ++ slice_index_or keys (is i) null ∷ [])
    ∙ sym (one_taken keys n h)

pub all_taken : (keys : List Datum) (n : ℕ) → n ≡ length keys → take n keys ≡ keys
all_taken keys n h = ap (λ m. take m keys) h ∙ take-length keys

-- keys that are picked from their own table are that table
pub keys_picked : (sorts : List SortBy) (n : ℕ) → ((keys : List Datum) → length keys ≡ n → picked sorts keys ≡ keys) → (rows : List (List Datum)) → AllByRecursion (λ r. length r ≡ n) rows → map (picked sorts) rows ≡ rows
keys_picked sorts n same [] a = refl
keys_picked sorts n same (k ∷ ks) a = λ i. same k a.0 i ∷ keys_picked sorts n same ks a.1 i

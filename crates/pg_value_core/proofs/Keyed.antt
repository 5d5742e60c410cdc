-- What a map of values holds under a key, and the entries that it stands for.
use Rattle.std.proofs.Common.{◌≡◌, ℕ, Bool, true, false, cond, List, [], ◌∷◌, Some, None, String, string_bytes, refl, ap, sym, ◌∙◌}
use Rattle.std.proofs.lemmas.Map.Text.{is_eq-slice_cmp}
use Rattle.std.specs.Borrow.{Bor}
use Rattle.std.specs.Prelude.{bytes_eq, Option, unwrap_or, option_map, option_copied}
use Rattle.std.specs.Cmp.Lexicographic.{slice_cmp}
use Rattle.std.specs.Ordering.{is_eq, nat_cmp}
use Rattle.std.specs.Map.{lookup}
use Rattle.std.specs.declared.alloc.Global.{Global}
use Rattle.pg_meaning.specs.Entries.{value_at, at_key}
use Rattle.pg_meaning.specs.Value.{null, Value as Datum}
use Rattle.pg_value_core.specs.View.{view, entries_view}
use Rattle.pg_value_core.specs.declared.value.Value.{Value}

abbrev pub found : List ℕ → List (String Global × Value) → Option Value
found k es = lookup (λ l. is_eq (slice_cmp nat_cmp k (string_bytes l))) es

abbrev pub seen : Option Value → Option Datum
seen None = None
seen (Some v) = Some (view v)

seen_chosen : (b : Bool) (v : Value) (o : Option Value) → seen (cond b (Some v) o) ≡ cond b (Some (view v)) (seen o)
seen_chosen true v o = refl
seen_chosen false v o = refl

pub same_found : (k : List ℕ) (es : List (String Global × Value)) → seen (found k es) ≡ at_key k (entries_view es)
same_found k [] = refl
same_found k (e ∷ es) =
    seen_chosen (is_eq (slice_cmp nat_cmp k (string_bytes e.0))) e.1 (found k es)
    ∙ ap (λ b. cond b (Some (view e.1)) (seen (found k es))) (is_eq-slice_cmp k (string_bytes e.0))
    ∙ ap (λ o. cond (bytes_eq k (string_bytes e.0)) (Some (view e.1)) o) (same_found k es)

pub read_seen : (r : Option (Bor Value)) → option_map (λ v. view v.now) r ≡ seen (option_copied r)
read_seen None = refl
read_seen (Some b) = refl

pub value_under : (k : List ℕ) (es : List (String Global × Value)) (v : Value) → found k es ≡ Some v → value_at k (entries_view es) ≡ view v
value_under k es v e = ap (λ o. unwrap_or o null) (sym (same_found k es) ∙ ap seen e)

pub nothing_under : (k : List ℕ) (es : List (String Global × Value)) → found k es ≡ None → value_at k (entries_view es) ≡ null
nothing_under k es e = ap (λ o. unwrap_or o null) (sym (same_found k es) ∙ ap seen e)

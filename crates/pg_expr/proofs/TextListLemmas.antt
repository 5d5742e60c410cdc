-- Texts that are copied one after the other.
use Rattle.std.proofs.Common.{◌≡◌, ◌<◌, ◌≤◌, ◌+◌, ℕ, List, [], ◌∷◌, ◌++◌, Bor, Vec, map, take, get_or, length, sym, ap, ◌∙◌}
use Rattle.std.proofs.lemmas.List.{map-append, take_more, take_all}
use Rattle.std.specs.declared.alloc.Global.{Global}
use Rattle.pg_meaning.specs.Functions.{texts}
use Rattle.pg_meaning.specs.Value.{Value as Datum, text, list, values_of}
use Rattle.pg_value_core.specs.View.{view, values_view}
use Rattle.pg_value_core.specs.declared.value.Value.{Value}

abbrev pub texts_of : List (Bor (List ℕ)) → List Datum
texts_of ts = map text (map (λ t. t.now) ts)

texts_pushed : (ts : List (Bor (List ℕ))) (t : Bor (List ℕ)) → texts_of (ts ++ t ∷ []) ≡ texts_of ts ++ text t.now ∷ []
texts_pushed ts t = ap (map text) (map-append (λ (u : Bor (List ℕ)). u.now) ts (t ∷ [])) ∙ map-append text (map (λ (u : Bor (List ℕ)). u.now) ts) (t.now ∷ [])

module _ (values : List Value) (ts : List (Bor (List ℕ))) (i : ℕ) (so_far : map view values ≡ texts_of (take i ts)) where
  pub text_copied : (d : Bor (List ℕ)) (v : Value) (more : List Value) → i < length ts → view v ≡ text (get_or ts i d).now → more ≡ values ++ v ∷ [] → map view more ≡ texts_of (take (i + 1) ts)
  text_copied d v more within same push =
      ap (map view) push
      ∙ map-append view values (v ∷ [])
      ∙ (λ j. so_far j ++ same j ∷ [])
      ∙ sym (texts_pushed (take i ts) (get_or ts i d))
      ∙ ap texts_of (sym (take_more ts i d within))

pub all_copied : (values : Vec Value Global) (ts all : List (Bor (List ℕ))) (same : ts ≡ all) (i : ℕ) → map view values.items ≡ texts_of (take i ts) → length ts ≤ i → list (values_view values.items) ≡ texts (map (λ t. t.now) all)
all_copied values ts all same i so_far past =
    ap (λ ds. list (values_of ds)) (so_far ∙ ap texts_of (take_all i ts past ∙ same))

-- What a test of labels gives, by what is tested.
use Rattle.std.proofs.Common.{◌≡◌, ℕ, true, false, List, [], ◌∷◌, length, Vec, vec_len, Ok, Err, eqb, eqb-true, refl, sym, ap, ◌∙◌}
use Rattle.std.proofs.lemmas.Bool.{eqb-false}
use Rattle.std.proofs.lemmas.List.{length-map, nil_from_length}
use Rattle.std.specs.declared.alloc.Global.{Global}
use Rattle.pg_expr.specs.Reads.{labels_tested}
use Rattle.pg_meaning.specs.Expressions.{labelled}
use Rattle.pg_meaning.specs.Graph.{Graph}
use Rattle.pg_meaning.specs.Tree as tree
use Rattle.pg_meaning.specs.Value.{Value as Datum, null, node}
use Rattle.pg_meaning.specs.declared.fault.Fault.TheVariants.{TypeFault}
use Rattle.pg_syntax_tree.specs.View.{name_view, names_view}
use Rattle.pg_syntax_tree.specs.declared.expression.Name.{Name}
use Rattle.pg_value_core.specs.View.{view, view_step}
use Rattle.pg_value_core.specs.declared.ids.NodeId.{NodeId}
use Rattle.pg_value_core.specs.declared.value.Value.{Value}
use Rattle.pg_value_core.specs.declared.value.Value.TheFolds.{fold-roll-Value}
use Rattle.pg_value_core.specs.declared.value.Value.TheOpen.{Value-F}
use Rattle.pg_value_core.specs.declared.value.Value.TheVariants.{Null, Node}
use Rattle.pg_value_core.specs.declared.value.Value.TheViews.{out-Value, roll-Value, roll-out-Value, rolls-Null, rolls-Node}

module _ (g : Graph) where
  null_tested : (ls : List tree.Name) → (length ls ≡ 0 → ⊥) → labelled g null ls ≡ Ok null
  null_tested [] some = absurd (some refl)
  null_tested (l ∷ ls) some = refl

  node_tested : (n : ℕ) (ls : List tree.Name) → (length ls ≡ 0 → ⊥) → labelled g (node n) ls ≡ labels_tested g n ls
  node_tested n [] some = absurd (some refl)
  node_tested n (l ∷ ls) some = refl

  module _ (l : tree.Name) (ls : List tree.Name) (v : Value) where
    other_part : (part : Value-F Value) → roll-Value part ≡ v → (v ≡ Null → ⊥) → ((n : NodeId) → v ≡ Node n → ⊥) → labelled g (view v) (l ∷ ls) ≡ Err TypeFault
    other_part Value-F.Null same other none = absurd (other (sym same ∙ rolls-Null))
    other_part (Value-F.Node n) same other none = absurd (none n (sym same ∙ rolls-Node n))
    other_part part same other none = ap (λ u. labelled g u (l ∷ ls)) (sym (ap view same) ∙ fold-roll-Value Datum view_step part)

  other_tested : (ls : List tree.Name) → (length ls ≡ 0 → ⊥) → (v : Value) → (v ≡ Null → ⊥) → ((n : NodeId) → v ≡ Node n → ⊥) → labelled g (view v) ls ≡ Err TypeFault
  other_tested [] some v other none = absurd (some refl)
  other_tested (l ∷ ls) some v other none = other_part l ls v (out-Value v) (roll-out-Value v) other none

  module _ (names : Vec Name Global) (d : Datum) where
    pub no_labels : eqb (vec_len names) 0 ≡ true → labelled g d (names_view names.items) ≡ Ok d
    no_labels none = ap (λ ns. labelled g d (names_view ns)) (nil_from_length names.items (sym names.ok.0 ∙ eqb-true (vec_len names) 0 none))

    module _ (some : eqb (vec_len names) 0 ≡ false) (v : Value) (is : view v ≡ d) where
      asked : length (names_view names.items) ≡ 0 → ⊥
      asked h = eqb-false (vec_len names) 0 some (names.ok.0 ∙ sym (length-map names.items name_view) ∙ h)

      at_value : (u : Datum) → view v ≡ u → labelled g d (names_view names.items) ≡ labelled g u (names_view names.items)
      at_value u h = ap (λ w. labelled g w (names_view names.items)) (sym is ∙ h)

      pub of_null : v ≡ Null → labelled g d (names_view names.items) ≡ Ok null
      of_null h = at_value null (ap view (h ∙ sym rolls-Null) ∙ fold-roll-Value Datum view_step Value-F.Null) ∙ null_tested (names_view names.items) asked

      pub of_node : (n : NodeId) → v ≡ Node n → labelled g d (names_view names.items) ≡ labels_tested g n.0 (names_view names.items)
      of_node n h = at_value (node n.0) (ap view (h ∙ sym (rolls-Node n)) ∙ fold-roll-Value Datum view_step (Value-F.Node n)) ∙ node_tested n.0 (names_view names.items) asked

      pub of_other : (v ≡ Null → ⊥) → ((n : NodeId) → v ≡ Node n → ⊥) → labelled g d (names_view names.items) ≡ Err TypeFault
      of_other other none = at_value (view v) refl ∙ other_tested (names_view names.items) asked v other none

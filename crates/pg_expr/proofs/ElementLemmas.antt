-- What has properties, by what it is.
use Rattle.std.specs.declared.rc.Rc.{Rc}
use Rattle.std.proofs.Common.{◌≡◌, ℕ, Bool, true, false, List, BTreeMap, String, Global, Result, Ok, Err, IfOk, IfErr, refl, sym, ap, subst, ◌∙◌}
use Rattle.pg_expr.specs.Elements.{element_properties, properties_given, keys_given, node_at_end}
use Rattle.pg_meaning.specs.Answer.{Answer, ◌>>=◌}
use Rattle.pg_meaning.specs.Expressions.{property_of}
use Rattle.pg_meaning.specs.Functions.{id_of, labels_of, properties_of, texts, type_of}
use Rattle.pg_meaning.specs.Graph.{Graph}
use Rattle.pg_meaning.specs.Order.{keys_of}
use Rattle.pg_meaning.specs.Value.{Value as Datum, mapping}
use Rattle.pg_meaning.specs.declared.fault.Fault.{Fault}
use Rattle.pg_meaning.specs.declared.fault.Fault.TheVariants.{OutOfMemory, TypeFault}
use Rattle.pg_value_core.proofs.Forms.{map_seen}
use Rattle.pg_value_core.specs.Gives.{Gives}
use Rattle.pg_value_core.specs.View.{view, view_step, entries_view}
use Rattle.pg_value_core.specs.declared.ids.NodeId.{NodeId}
use Rattle.pg_value_core.specs.declared.ids.RelId.{RelId}
use Rattle.pg_value_core.specs.declared.value.Value.{Value}
use Rattle.pg_value_core.specs.declared.value.Value.TheFolds.{fold-roll-Value}
use Rattle.pg_value_core.specs.declared.value.Value.TheOpen.{Value-F}
use Rattle.pg_value_core.specs.declared.value.Value.TheVariants.{Null, Map, Node, Rel}
use Rattle.pg_value_core.specs.declared.value.Value.TheViews.{out-Value, roll-Value, roll-out-Value, rolls-Null, rolls-Map, rolls-Node, rolls-Rel}

module _ (g : Graph) (v : Value) where
  element_part : (part : Value-F Value) → roll-Value part ≡ v → ((m : Rc (BTreeMap (String Global) Value) Global) → v ≡ Map m → ⊥) → properties_of g (view v) ≡ element_properties g (view v)
  element_part (Value-F.Map m) same none = absurd (none m (sym same ∙ rolls-Map m))
  element_part part same none = subst (λ u. properties_of g u ≡ element_properties g u) (sym (fold-roll-Value Datum view_step part) ∙ ap view same) refl

  pub of_element : ((m : Rc (BTreeMap (String Global) Value) Global) → v ≡ Map m → ⊥) → properties_of g (view v) ≡ element_properties g (view v)
  of_element none = element_part (out-Value v) (roll-out-Value v) none

  pub map_keys : (m : Rc (BTreeMap (String Global) Value) Global) → v ≡ Map m → keys_given g (view v) ≡ Ok (texts (keys_of (entries_view m.value.entries)))
  map_keys m is = ap (keys_given g) (map_seen m is)

  module _ (d : Datum) (is : view v ≡ d) where
    pub map_properties : (m : Rc (BTreeMap (String Global) Value) Global) → v ≡ Map m → properties_given g d ≡ Ok d
    map_properties m h = subst (λ u. properties_given g u ≡ Ok u) (sym (map_seen m h) ∙ is) refl

    pub element_given : ((m : Rc (BTreeMap (String Global) Value) Global) → v ≡ Map m → ⊥) → properties_given g d ≡ (element_properties g (view v) >>= λ es. Ok (mapping es))
    element_given none = ap (properties_given g) (sym is) ∙ ap (λ r. r >>= λ es. Ok (mapping es)) (of_element none)

pub keys_told : {answer : Answer} (ts : Datum) (result : Result Value Fault) → IfOk result (λ u. view u ≡ ts) → IfErr result (λ e. e ≡ OutOfMemory) → answer ≡ Ok ts → Gives result answer view
keys_told ts (Ok u) h k same = record { ok = same ∙ ap Ok (sym h); err = tt }
keys_told ts (Err e) h k same = record { ok = tt; err = λ other. absurd (other k) }

-- what is null, a map, a node or a relationship has properties, and no other value has
module _ (g : Graph) (k : List ℕ) (v : Value) (some : v ≡ Null → ⊥) (map : (m : Rc (BTreeMap (String Global) Value) Global) → v ≡ Map m → ⊥) (node : (n : NodeId) → v ≡ Node n → ⊥) (rel : (r : RelId) → v ≡ Rel r → ⊥) where
  no_part : (part : Value-F Value) → roll-Value part ≡ v → property_of g (view v) k ≡ Err TypeFault
  no_part Value-F.Null same = absurd (some (sym same ∙ rolls-Null))
  no_part (Value-F.Map m) same = absurd (map m (sym same ∙ rolls-Map m))
  no_part (Value-F.Node n) same = absurd (node n (sym same ∙ rolls-Node n))
  no_part (Value-F.Rel r) same = absurd (rel r (sym same ∙ rolls-Rel r))
  no_part part same = ap (λ u. property_of g u k) (sym (ap view same) ∙ fold-roll-Value Datum view_step part)

  pub no_property : property_of g (view v) k ≡ Err TypeFault
  no_property = no_part (out-Value v) (roll-out-Value v)

-- what no node and no relationship has
module _ (v : Value) where
  module _ (node : (n : NodeId) → v ≡ Node n → ⊥) where
    unlabelled_part : (g : Graph) (part : Value-F Value) → roll-Value part ≡ v → labels_of g (view v) ≡ Err TypeFault
    unlabelled_part g (Value-F.Node n) same = absurd (node n (sym same ∙ rolls-Node n))
    unlabelled_part g part same = ap (labels_of g) (sym (ap view same) ∙ fold-roll-Value Datum view_step part)

    pub no_labels : (g : Graph) → labels_of g (view v) ≡ Err TypeFault
    no_labels g = unlabelled_part g (out-Value v) (roll-out-Value v)

  module _ (rel : (r : RelId) → v ≡ Rel r → ⊥) where
    untyped_part : (g : Graph) (part : Value-F Value) → roll-Value part ≡ v → type_of g (view v) ≡ Err TypeFault
    untyped_part g (Value-F.Rel r) same = absurd (rel r (sym same ∙ rolls-Rel r))
    untyped_part g part same = ap (type_of g) (sym (ap view same) ∙ fold-roll-Value Datum view_step part)

    endless_part : (is_last : Bool) (g : Graph) (part : Value-F Value) → roll-Value part ≡ v → node_at_end is_last g (view v) ≡ Err TypeFault
    endless_part is_last g (Value-F.Rel r) same = absurd (rel r (sym same ∙ rolls-Rel r))
    endless_part false g part same = ap (node_at_end false g) (sym (ap view same) ∙ fold-roll-Value Datum view_step part)
    endless_part true g part same = ap (node_at_end true g) (sym (ap view same) ∙ fold-roll-Value Datum view_step part)

    pub no_end : (is_last : Bool) (g : Graph) → node_at_end is_last g (view v) ≡ Err TypeFault
    no_end is_last g = endless_part is_last g (out-Value v) (roll-out-Value v)

    pub no_type : (g : Graph) → type_of g (view v) ≡ Err TypeFault
    no_type g = untyped_part g (out-Value v) (roll-out-Value v)

  module _ (node : (n : NodeId) → v ≡ Node n → ⊥) (rel : (r : RelId) → v ≡ Rel r → ⊥) where
    bare_part : (g : Graph) (part : Value-F Value) → roll-Value part ≡ v → element_properties g (view v) ≡ Err TypeFault
    bare_part g (Value-F.Node n) same = absurd (node n (sym same ∙ rolls-Node n))
    bare_part g (Value-F.Rel r) same = absurd (rel r (sym same ∙ rolls-Rel r))
    bare_part g part same = ap (element_properties g) (sym (ap view same) ∙ fold-roll-Value Datum view_step part)

    pub no_properties : (g : Graph) → element_properties g (view v) ≡ Err TypeFault
    no_properties g = bare_part g (out-Value v) (roll-out-Value v)

    unnumbered_part : (part : Value-F Value) → roll-Value part ≡ v → id_of (view v) ≡ Err TypeFault
    unnumbered_part (Value-F.Node n) same = absurd (node n (sym same ∙ rolls-Node n))
    unnumbered_part (Value-F.Rel r) same = absurd (rel r (sym same ∙ rolls-Rel r))
    unnumbered_part part same = ap id_of (sym (ap view same) ∙ fold-roll-Value Datum view_step part)

    pub no_number : id_of (view v) ≡ Err TypeFault
    no_number = unnumbered_part (out-Value v) (roll-out-Value v)

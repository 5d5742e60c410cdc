-- Patterns without static faults: their properties go well or end in a fault of a run.
use Rattle.std.proofs.Common.{◌≡◌, ℕ, Bool, true, List, [], ◌∷◌, ◌++◌, map, flat_map, Option, Some, None, Result, Ok, refl}
use Rattle.std.specs.Bool.{⊤}
use Rattle.std.specs.List.{AllByRecursion}
use Rattle.pg_meaning.specs.Agreement.{AreGiven}
use Rattle.pg_meaning.specs.AgreementLaws.{named_in, given_split}
use Rattle.pg_meaning.specs.Answer.{◌>>=◌, each_answer}
use Rattle.pg_soundness.proofs.RowNames.{BindsOnly}
use Rattle.pg_meaning.specs.Expressions.{evaluate}
use Rattle.pg_meaning.specs.Grammar.{Mark, sign, flag, commas, begun, optional_marks, var_marks, label_marks, types_marks, range_marks, pair_marks, properties_marks, node_marks, detail_marks, relationship_marks, hop_marks, path_variable_marks, path_marks, ArePairs, AreProperties, Each, IsDetail, IsHop, IsPath}
use Rattle.pg_meaning.specs.Graph.{Graph, has_node}
use Rattle.pg_meaning.specs.Names.{Names}
use Rattle.pg_meaning.specs.Patterns.{pair_list, property_pairs, relationship_properties, nodes_of, node_name}
use Rattle.pg_meaning.specs.Reading.{test_bound, test_nodes, test_paths}
use Rattle.pg_meaning.specs.Rows.{Row}
use Rattle.pg_meaning.specs.StaticFaults.{found_if, faults_of, Mode, Part, path_part, node_part, relationship_part, hop_parts, path_variable_part, path_parts, Used, used_with, relationship_variable, new_faults, node_variable_faults, key_faults, properties_faults, detail_faults, relationship_faults, part_faults, parts_faults}
use Rattle.pg_meaning.specs.Tree.{Expression, Pairs, no_pairs, pair, Properties, no_properties, given, from_parameter, NodePattern, Detail, RelationshipPattern, PathPattern}
use Rattle.pg_meaning.specs.Value.{Value, null, node, Entries}
use Rattle.pg_meaning.specs.Walks.{property_values, node_wanted, hop_wanted, path_wanted, paths_wanted, bound_value}
use Rattle.pg_meaning.specs.declared.fault.Fault.{Fault}
use Rattle.pg_meaning.specs.declared.lexemes.Symbol.TheVariants as s
use Rattle.pg_soundness.proofs.FaultsReads.{commas_given}
use Rattle.pg_soundness.proofs.FaultsSteps.{ends_fine, fine_ends, ends_each, Ready, fine_ready}
use Rattle.pg_soundness.proofs.FaultsValues.{Fine, fine_all, fine_after, fine_unless}
use Rattle.pg_soundness.proofs.MatchBindings.{all_front, all_back}
use Rattle.pg_soundness.proofs.MatchScopes.{first_none, second_none}

module _ (scope : Names) (parameters : Entries) where
  abbrev pub PairsReady : List (List ℕ × Expression) → Type 0
  PairsReady ps = AllByRecursion (λ p. Ready scope parameters p.1) ps

  abbrev pub HopReady : RelationshipPattern × NodePattern → Type 0
  HopReady h = PairsReady (property_pairs (relationship_properties h.0)) × PairsReady (property_pairs h.1.properties)

  abbrev pub PathReady : PathPattern → Type 0
  PathReady p = PairsReady (property_pairs p.first.properties) × AllByRecursion HopReady p.hops

  abbrev Given : List Mark → Type 0
  Given ms = AreGiven (named_in ms) parameters

  pairs_ready : (before : Names) (ps : Pairs) → ArePairs ps → key_faults scope before ps ≡ [] → AllByRecursion Given (pair_marks ps) → PairsReady (pair_list ps)
  pairs_ready before no_pairs w e h = tt
  pairs_ready before (pair n x ps) w e h =
      let own = first_none (found_if _ n.place _ ++ faults_of scope x) (key_faults scope (n.text ∷ before) ps) e in
      ((w.0, second_none (found_if _ n.place _) (faults_of scope x) own, h.0), pairs_ready (n.text ∷ before) ps w.1 (second_none (found_if _ n.place _ ++ faults_of scope x) (key_faults scope (n.text ∷ before) ps) e) h.1)

  properties_ready : (mode : Mode) (at : ℕ) (ps : Properties) → AreProperties ps → properties_faults mode scope at ps ≡ [] → Given (properties_marks ps) → PairsReady (property_pairs ps)
  properties_ready mode at no_properties w e h = tt
  properties_ready mode at (from_parameter n) w e h = tt
  properties_ready mode at (given ps) w e h = pairs_ready [] ps w e (commas_given parameters (pair_marks ps) (given_split parameters (commas (pair_marks ps)) (sign s.CloseBrace ∷ []) h).0)

  -- ---- the parts of paths

  abbrev PartOk : Mode → Part → Type 0
  PartOk mode (path_part n) = ⊤
  PartOk mode (node_part is_whole x) = properties_faults mode scope x.place x.properties ≡ []
  PartOk mode (relationship_part r) = detail_faults mode scope r.place r.detail ≡ []

  part_ok : (mode : Mode) (used : Used) (x : Part) → part_faults mode scope used x ≡ [] → PartOk mode x
  part_ok mode used (path_part n) e = tt
  part_ok mode used (node_part is_whole x) e = second_none (node_variable_faults mode scope used is_whole x x.variable) (properties_faults mode scope x.place x.properties) e
  part_ok mode used (relationship_part r) e = second_none (found_if _ r.place _ ++ found_if _ r.place _) (detail_faults mode scope r.place r.detail) (second_none (new_faults scope used (relationship_variable r)) (relationship_faults mode scope r) e)

  parts_ok : (mode : Mode) (used : Used) (xs : List Part) → parts_faults mode scope used xs ≡ [] → AllByRecursion (PartOk mode) xs
  parts_ok mode used [] e = tt
  parts_ok mode used (x ∷ xs) e = (part_ok mode used x (first_none (part_faults mode scope used x) (parts_faults mode scope (used_with x used) xs) e), parts_ok mode (used_with x used) xs (second_none (part_faults mode scope used x) (parts_faults mode scope (used_with x used) xs) e))

  node_given : (n : NodePattern) → Given (node_marks n) → Given (properties_marks n.properties)
  node_given n h =
      let names : List Mark = optional_marks var_marks n.variable ++ label_marks n.labels in
      (given_split parameters names (properties_marks n.properties) (given_split parameters (names ++ properties_marks n.properties) (sign s.CloseParenthesis ∷ []) h).0).1

  begun_given : (at : ℕ) (ms : List Mark) → Given (begun at ms) → Given ms
  begun_given at [] h = h
  begun_given at (m ∷ ms) h = h

  detail_given : (d : Detail) → Given (detail_marks d) → Given (properties_marks d.properties)
  detail_given d h =
      let names : List Mark = (optional_marks var_marks d.variable ++ types_marks d.types) ++ optional_marks range_marks d.range in
      (given_split parameters names (properties_marks d.properties) (given_split parameters (names ++ properties_marks d.properties) (sign s.CloseBracket ∷ []) h).0).1

  abbrev behind_detail : RelationshipPattern → List Mark
  behind_detail r = sign s.Minus ∷ flag r.right_head (sign s.Greater)

  abbrev from_minus : RelationshipPattern → List Mark
  from_minus r = sign s.Minus ∷ (optional_marks detail_marks r.detail ++ behind_detail r)

  relationship_given : (r : RelationshipPattern) → Given (relationship_marks r) → Given (optional_marks detail_marks r.detail)
  relationship_given r h =
      (given_split parameters (optional_marks detail_marks r.detail) (behind_detail r)
      (given_split parameters (flag r.left_head (sign s.Less)) (from_minus r) (begun_given r.place (flag r.left_head (sign s.Less) ++ from_minus r) h)).1).0

  detail_ready : (mode : Mode) (at : ℕ) (d : Option Detail) → Each IsDetail d → detail_faults mode scope at d ≡ [] → Given (optional_marks detail_marks d) → PairsReady (property_pairs (elim d as (λ o. Properties) [ None ↦ no_properties | Some x ↦ x.properties ]))
  detail_ready mode at None w e h = tt
  detail_ready mode at (Some d) w e h = properties_ready mode at d.properties w.2 (second_none (found_if _ at _) (properties_faults mode scope at d.properties) e) (detail_given d h)

  hops_ready : (mode : Mode) (hs : List (RelationshipPattern × NodePattern)) → AllByRecursion IsHop hs → AllByRecursion (PartOk mode) (flat_map hop_parts hs) → Given (hop_marks hs) → AllByRecursion HopReady hs
  hops_ready mode [] w o h = tt
  hops_ready mode (x ∷ hs) w o h =
      let both = given_split parameters (relationship_marks x.0 ++ node_marks x.1) (hop_marks hs) h in
      let parts = given_split parameters (relationship_marks x.0) (node_marks x.1) both.0 in (
        (detail_ready mode x.0.place x.0.detail w.0.0 o.0 (relationship_given x.0 parts.0), properties_ready mode x.1.place x.1.properties w.0.1 o.1.0 (node_given x.1 parts.1)),
        hops_ready mode hs w.1 o.1.1 both.1,
      )

  path_ready : (mode : Mode) (p : PathPattern) → IsPath p → AllByRecursion (PartOk mode) (path_parts p) → Given (path_marks p) → PathReady p
  path_ready mode p w o h =
      let behind = all_back (PartOk mode) (path_variable_part p.variable) _ o in
      let both = given_split parameters (optional_marks path_variable_marks p.variable ++ node_marks p.first) (hop_marks p.hops) h in
      let first = given_split parameters (optional_marks path_variable_marks p.variable) (node_marks p.first) both.0 in
      (properties_ready mode p.first.place p.first.properties w.0 behind.0 (node_given p.first first.1), hops_ready mode p.hops w.1 behind.1 both.1)

  pub paths_ready : (mode : Mode) (used : Used) (ps : List PathPattern) → AllByRecursion IsPath ps → parts_faults mode scope used (flat_map path_parts ps) ≡ [] → AllByRecursion Given (map path_marks ps) → AllByRecursion PathReady ps
  paths_ready mode used ps w e h = each ps w (parts_ok mode used (flat_map path_parts ps) e) h
    where
      each : (ps : List PathPattern) → AllByRecursion IsPath ps → AllByRecursion (PartOk mode) (flat_map path_parts ps) → AllByRecursion Given (map path_marks ps) → AllByRecursion PathReady ps
      each [] w o h = tt
      each (p ∷ ps) w o h = (path_ready mode p w.0 (all_front (PartOk mode) (path_parts p) (flat_map path_parts ps) o) h.0, each ps w.1 (all_back (PartOk mode) (path_parts p) (flat_map path_parts ps) o) h.1)

  -- ---- what is wanted of them

  module _ (graph : Graph) (row : Row) (b : BindsOnly scope row) where
    abbrev pub pair_value : List ℕ × Expression → Result (List ℕ × Value) Fault
    pair_value p = evaluate row parameters graph p.1 >>= λ v. Ok (p.0, v)

    pub fine_pairs : (ps : List (List ℕ × Expression)) → PairsReady ps → Fine (each_answer pair_value ps)
    fine_pairs ps r =
        fine_ends (AllByRecursion (λ x. ⊤)) (each_answer pair_value ps)
        (ends_each (λ p. Ready scope parameters p.1) (λ x. ⊤) pair_value
        (λ p h. ends_fine (λ x. ⊤) (pair_value p) (fine_all (evaluate row parameters graph p.1) (λ v. (let y : Result (List ℕ × Value) Fault = Ok (p.0, v) in y)) (fine_ready scope parameters graph row b p.1 h) (λ v. tt)) (λ x is. tt)) ps r)

    fine_node : (n : NodePattern) → PairsReady (property_pairs n.properties) → Fine (node_wanted row parameters graph n)
    fine_node n r = fine_all (property_values row parameters graph n.properties) (λ vs. Ok (record { pattern = n; properties = vs })) (fine_pairs (property_pairs n.properties) r) (λ vs. tt)

    fine_hop : (h : RelationshipPattern × NodePattern) → HopReady h → Fine (hop_wanted row parameters graph h)
    fine_hop h r =
        fine_all (property_values row parameters graph (relationship_properties h.0)) _ (fine_pairs (property_pairs (relationship_properties h.0)) r.0)
        (λ vs. fine_all (node_wanted row parameters graph h.1) _ (fine_node h.1 r.1) (λ n. tt))

    fine_hops : (hs : List (RelationshipPattern × NodePattern)) → AllByRecursion HopReady hs → Fine (each_answer (hop_wanted row parameters graph) hs)
    fine_hops hs r =
        fine_ends (AllByRecursion (λ x. ⊤)) (each_answer (hop_wanted row parameters graph) hs)
        (ends_each HopReady (λ x. ⊤) (hop_wanted row parameters graph) (λ h g. ends_fine (λ x. ⊤) (hop_wanted row parameters graph h) (fine_hop h g) (λ x is. tt)) hs r)

    fine_path : (p : PathPattern) → PathReady p → Fine (path_wanted row parameters graph p)
    fine_path p r =
        fine_all (node_wanted row parameters graph p.first) _ (fine_node p.first r.0)
        (λ first. fine_all (each_answer (hop_wanted row parameters graph) p.hops) _ (fine_hops p.hops r.1) (λ hops. tt))

    pub fine_wanted : (ps : List PathPattern) → AllByRecursion PathReady ps → Fine (paths_wanted row parameters graph ps)
    fine_wanted ps r =
        fine_ends (AllByRecursion (λ x. ⊤)) (paths_wanted row parameters graph ps)
        (ends_each PathReady (λ x. ⊤) (path_wanted row parameters graph) (λ p g. ends_fine (λ x. ⊤) (path_wanted row parameters graph p) (fine_path p g) (λ x is. tt)) ps r)

-- ---- bound nodes

fine_bound : (may_be_null : Bool) (graph : Graph) (o : Option Value) → Fine (test_bound may_be_null graph o)
fine_bound may_be_null graph None = tt
fine_bound may_be_null graph (Some (node n)) = fine_unless (has_node graph n) _ refl
fine_bound true graph (Some null) = tt
fine_bound may_be_null graph (Some v) = refl

fine_nodes : (may_be_null : Bool) (graph : Graph) (row : Row) (ns : List NodePattern) → Fine (test_nodes may_be_null graph row ns)
fine_nodes may_be_null graph row [] = tt
fine_nodes may_be_null graph row (n ∷ ns) = fine_after (test_bound may_be_null graph (bound_value (node_name n) row)) (test_nodes may_be_null graph row ns) (fine_bound may_be_null graph (bound_value (node_name n) row)) (fine_nodes may_be_null graph row ns)

pub fine_bound_nodes : (may_be_null : Bool) (graph : Graph) (row : Row) (ps : List PathPattern) → Fine (test_paths may_be_null graph row ps)
fine_bound_nodes may_be_null graph row ps = fine_nodes may_be_null graph row (flat_map nodes_of ps)

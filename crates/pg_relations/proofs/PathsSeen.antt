-- The properties of a well-formed CREATE are read of what was there before.
use Rattle.std.proofs.Common.{◌≡◌, ℕ, List, ◌∷◌, flat_map, inl, inr, Option, Some, None, Result, Ok, refl, sym, ap, subst, ◌∙◌}
use Rattle.std.specs.List.{AllByRecursion}
use Rattle.pg_meaning.specs.Answer.{◌>>=◌, ◌>>◌}
use Rattle.pg_meaning.specs.Entries.{set_keys}
use Rattle.pg_meaning.specs.Grammar.{ArePairs, AreProperties, Each, IsDetail, IsHop, IsPath}
use Rattle.pg_meaning.specs.Graph.{Graph}
use Rattle.pg_meaning.specs.Lists.{IsIn}
use Rattle.pg_meaning.specs.ListsLaws.{all_at}
use Rattle.pg_meaning.specs.Meaning.{all_nodes}
use Rattle.pg_meaning.specs.Patterns.{nodes_of, relationship_properties}
use Rattle.pg_meaning.specs.Rows.{Row}
use Rattle.pg_meaning.specs.Tree.{Detail, Pairs, no_pairs, pair, Properties, no_properties, given, from_parameter, NodePattern, RelationshipPattern, PathPattern}
use Rattle.pg_meaning.specs.Turns.{Given}
use Rattle.pg_meaning.specs.Updates.{given_pairs, given_properties, test_storable}
use Rattle.pg_meaning.specs.Value.{Value, no_entries}
use Rattle.pg_meaning.specs.declared.fault.Fault.{Fault}
use Rattle.pg_relations.proofs.Counted.{of_mapped}
use Rattle.pg_relations.proofs.CreatesPlaces.{of_flat}
use Rattle.pg_relations.proofs.EvaluatedAlike.{evaluates_alike}
use Rattle.pg_relations.specs.HandedOut.{RowHandedOut, EntriesHandedOut, StoresHandedOut, PathsSeeTheOld}
use Rattle.pg_relations.specs.Numbered.{Keeps, all_hops}

module _ (g : Given) (before : Graph) (row : Row) (stores : StoresHandedOut before) (bound : RowHandedOut before row) (parameters : EntriesHandedOut before g.parameters) where
  pairs_alike : (after : Graph) → Keeps before after → (ps : Pairs) → ArePairs ps → given_pairs g.parameters after row (given ps) ≡ given_pairs g.parameters before row (given ps)
  pairs_alike after keeps no_pairs w = refl
  pairs_alike after keeps (pair key e ps) w =
      let first = evaluates_alike before after row g.parameters e keeps stores bound parameters w.0 in
      let rest = pairs_alike after keeps ps w.1 in
      λ i. joined (first i) (rest i)
    where
      joined : Result Value Fault → Result (List (List ℕ × Value)) Fault → Result (List (List ℕ × Value)) Fault
      joined r s = r >>= named >>= λ y. s >>= λ ys. Ok (y ∷ ys)
        where
          named : Value → Result (List ℕ × Value) Fault
          named v = Ok (key.text, v)

  given_alike : (after : Graph) → Keeps before after → (ps : Properties) → AreProperties ps → given_properties g.parameters after row ps ≡ given_properties g.parameters before row ps
  given_alike after keeps no_properties w = refl
  given_alike after keeps (given ps) w = ap (λ r. r >>= λ pairs. test_storable pairs >> Ok (set_keys pairs no_entries)) (pairs_alike after keeps ps w)
  given_alike after keeps (from_parameter name) w = refl

  two_alike : (a b : Graph) → Keeps before a → Keeps before b → (ps : Properties) → AreProperties ps → given_properties g.parameters a row ps ≡ given_properties g.parameters b row ps
  two_alike a b k l ps w = given_alike a k ps w ∙ sym (given_alike b l ps w)

  detail_fine : (h : RelationshipPattern × NodePattern) → IsHop h → AreProperties (relationship_properties h.0)
  detail_fine h w = by_detail h.0.detail w.0
    where
      by_detail : (o : Option Detail) → Each IsDetail o → AreProperties (elim o as (λ o. Properties) [ None ↦ no_properties | Some d ↦ d.properties ])
      by_detail None w = tt
      by_detail (Some d) w = w.2

  node_fine : (paths : List PathPattern) (n : NodePattern) → AllByRecursion IsPath paths → IsIn n (all_nodes paths) → AreProperties n.properties
  node_fine paths n all i = let p = of_flat nodes_of n paths i in at_path p.0 (all_at IsPath p.0 paths all p.1) p.2
    where
      at_path : (p : PathPattern) → IsPath p → IsIn n (nodes_of p) → AreProperties n.properties
      at_path p w (inl e) = subst (λ (m : NodePattern). AreProperties m.properties) (sym e) w.0
      at_path p w (inr j) =
          let h = of_mapped (λ (h : RelationshipPattern × NodePattern). h.1) n p.hops j in
          subst (λ (m : NodePattern). AreProperties m.properties) (sym h.2) (all_at IsHop h.0 p.hops w.1 h.1).1

  hop_fine : (paths : List PathPattern) (r : RelationshipPattern) → AllByRecursion IsPath paths → IsIn r (all_hops paths) → AreProperties (relationship_properties r)
  hop_fine paths r all i =
      let h = of_mapped (λ (h : RelationshipPattern × NodePattern). h.0) r (flat_map (λ (p : PathPattern). p.hops) paths) i in
      let p = of_flat (λ (p : PathPattern). p.hops) h.0 paths h.1 in
      subst (λ q. AreProperties (relationship_properties q)) (sym h.2) (detail_fine h.0 (all_at IsHop h.0 p.0.hops (all_at IsPath p.0 paths all p.1).1 p.2))

pub paths_see_the_old : PathsSeeTheOld
paths_see_the_old g paths before row stores bound parameters all = record {
  nodes = λ a b n k l i. two_alike g before row stores bound parameters a b k l n.properties (node_fine g before row stores bound parameters paths n all i);
  hops = λ a b h k l i. two_alike g before row stores bound parameters a b k l (relationship_properties h) (hop_fine g before row stores bound parameters paths h all i);
}

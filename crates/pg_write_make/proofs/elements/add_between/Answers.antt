use Rattle.std.proofs.Common.{◌≡◌, ℕ, Bool, true, false, List, refl, sym, ap, ◌∙◌}
use Rattle.std.proofs.lemmas.Result.{IfOk-weaker}
use Rattle.pg_meaning.specs.Entries.{set_keys}
use Rattle.pg_meaning.specs.Graph.{Graph, add_relationship}
use Rattle.pg_meaning.specs.Patterns.{types_of, way_of, way_of_heads}
use Rattle.pg_meaning.specs.Updates.{add_between, first_text}
use Rattle.pg_meaning.specs.Value.{Entries, no_entries}
use Rattle.pg_store.specs.Stores.{pairs_of}
use Rattle.pg_syntax_tree.specs.View.{relationship_view}
use Rattle.pg_write_make.proofs.elements.add_between.Goals as goal
use Rattle.pg_write_make.proofs.elements.add_between.Goals.{else-pattern-via-then-pattern+else-not-pattern, else-pattern-via-else-pattern}

module _ (type : List ℕ) (x y : ℕ) (es : Entries) (graph : Graph) where
  turned : (l r : Bool) → l ≡ true → r ≡ false → add_between (way_of_heads l r) type x y es graph ≡ add_relationship type y x es graph
  turned true false h k = refl
  turned true true h k = absurd cc
  turned false r h k = absurd cc

  with_right_head : (l r : Bool) → r ≡ true → add_between (way_of_heads l r) type x y es graph ≡ add_relationship type x y es graph
  with_right_head true true h = refl
  with_right_head false true h = refl
  with_right_head l false h = absurd cc

  without_left_head : (l r : Bool) → l ≡ false → add_between (way_of_heads l r) type x y es graph ≡ add_relationship type x y es graph
  without_left_head false true h = refl
  without_left_head false false h = refl
  without_left_head true r h = absurd cc

pub returns-then-not-pattern : goal.returns-then-not-pattern
returns-then-not-pattern g c =
    let before = c.args.live.now.graph in
    let call = c.create_rel in
    let after = call.new.self.graph in
    let p = c.args.pattern.now in
    let type = first_text (types_of (relationship_view p)) in
    let left = c.args.left.0 in
    let right = c.args.right.0 in
    let es = set_keys (pairs_of c.args.properties.items) no_entries in
    record {
      ok =
          IfOk-weaker call.result (λ u. after ≡ add_relationship c.type_text-kind.result.now right left es before) (λ u. add_between (way_of (relationship_view p)) type left right es before ≡ after)
          (λ u h. turned type left right es before p.left_head p.right_head c.if-pattern.true c.if-not-pattern.true ∙ ap (λ t. add_relationship t right left es before) (sym c.type_text-kind.ensures) ∙ sym h) call.ensures.ok;
      id = call.ensures.id;
      aside = call.ensures.aside;
    }

pub returns-else-pattern : goal.returns-else-pattern
returns-else-pattern g c =
    let before = c.args.live.now.graph in
    let call = c.create_rel-else-pattern in
    let after = call.new.self.graph in
    let p = c.args.pattern.now in
    let type = first_text (types_of (relationship_view p)) in
    let left = c.args.left.0 in
    let right = c.args.right.0 in
    let es = set_keys (pairs_of c.args.properties.items) no_entries in
    let straight : add_between (way_of (relationship_view p)) type left right es before ≡ add_relationship type left right es before = elim c.else-pattern.branch [
      | else-pattern-via-then-pattern+else-not-pattern w ↦ with_right_head type left right es before p.left_head p.right_head w.if-not-pattern.false
      | else-pattern-via-else-pattern w ↦ without_left_head type left right es before p.left_head p.right_head w.if-pattern.false
    ] in
    record {
      ok =
          IfOk-weaker call.result (λ u. after ≡ add_relationship c.type_text-kind.result.now left right es before) (λ u. add_between (way_of (relationship_view p)) type left right es before ≡ after)
          (λ u h. straight ∙ ap (λ t. add_relationship t left right es before) (sym c.type_text-kind.ensures) ∙ sym h) call.ensures.ok;
      id = call.ensures.id;
      aside = call.ensures.aside;
    }

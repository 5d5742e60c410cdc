use Rattle.std.proofs.Common.{◌≡◌, Bool, true, false, sym, ap, subst, ◌∙◌, refl}
use Rattle.std.proofs.lemmas.Result.{IfOk-weaker}
use Rattle.pg_meaning.specs.Graph.{Graph}
use Rattle.pg_meaning.specs.Updates.{change_properties}
use Rattle.pg_store.specs.Stores.{pairs_of}
use Rattle.pg_write.specs.Parts.{put_map}
use Rattle.pg_write.specs.Targets.{target_view, IsThere}
use Rattle.pg_write.specs.declared.targets.Target.{Target}
use Rattle.pg_write.specs.declared.targets.Target.TheVariants.{Node, Rel}
use Rattle.pg_write.proofs.changes.put_properties.Goals as goal

pub returns-in-Nothing : goal.returns-in-Nothing
returns-in-Nothing g c =
    let graph = c.args.live.now.graph in
    record {
      ok = ap (λ (t : Target). change_properties (put_map c.args.is_whole (pairs_of c.args.pairs.items)) (target_view t) graph) c.in-Nothing.is;
      aside = refl;
    }

pub replace_node_properties-requires : goal.replace_node_properties-requires
replace_node_properties-requires g c =
    let graph = c.args.live.now.graph in
    record { there = subst (λ (t : Target). IsThere graph (target_view t)) c.in-Node.is c.requires.there }

pub returns-in-Node : goal.returns-in-Node
returns-in-Node g c =
    let graph = c.args.live.now.graph in
    let call = c.replace_node_properties in
    let after = call.new.self.graph in
    let by = λ (whole : Bool) (t : Target) (graph : Graph). change_properties (put_map whole (pairs_of c.args.pairs.items)) (target_view t) graph in
    record {
      ok = IfOk-weaker call.result (λ u. after ≡ by true (Node c.in-Node.id) graph) (λ u. by c.args.is_whole c.args.target graph ≡ after) (λ u h. (λ i. by (c.if-is_whole.true i) (c.in-Node.is i) graph) ∙ sym h) call.ensures.ok;
      aside = call.ensures.aside;
    }

pub set_node_properties-requires : goal.set_node_properties-requires
set_node_properties-requires g c =
    let graph = c.args.live.now.graph in
    record { there = subst (λ (t : Target). IsThere graph (target_view t)) c.in-Node-2.is c.requires.there }

pub returns-in-Node-2 : goal.returns-in-Node-2
returns-in-Node-2 g c =
    let graph = c.args.live.now.graph in
    let call = c.set_node_properties in
    let after = call.new.self.graph in
    let by = λ (whole : Bool) (t : Target) (graph : Graph). change_properties (put_map whole (pairs_of c.args.pairs.items)) (target_view t) graph in
    record {
      ok = IfOk-weaker call.result (λ u. after ≡ by false (Node c.in-Node-2.id) graph) (λ u. by c.args.is_whole c.args.target graph ≡ after) (λ u h. (λ i. by (c.if-is_whole.false i) (c.in-Node-2.is i) graph) ∙ sym h) call.ensures.ok;
      aside = call.ensures.aside;
    }

pub replace_rel_properties-requires : goal.replace_rel_properties-requires
replace_rel_properties-requires g c =
    let graph = c.args.live.now.graph in
    record { there = subst (λ (t : Target). IsThere graph (target_view t)) c.in-Rel.is c.requires.there }

pub returns-in-Rel : goal.returns-in-Rel
returns-in-Rel g c =
    let graph = c.args.live.now.graph in
    let call = c.replace_rel_properties in
    let after = call.new.self.graph in
    let by = λ (whole : Bool) (t : Target) (graph : Graph). change_properties (put_map whole (pairs_of c.args.pairs.items)) (target_view t) graph in
    record {
      ok = IfOk-weaker call.result (λ u. after ≡ by true (Rel c.in-Rel.id) graph) (λ u. by c.args.is_whole c.args.target graph ≡ after) (λ u h. (λ i. by (c.if-is_whole-2.true i) (c.in-Rel.is i) graph) ∙ sym h) call.ensures.ok;
      aside = call.ensures.aside;
    }

pub set_rel_properties-requires : goal.set_rel_properties-requires
set_rel_properties-requires g c =
    let graph = c.args.live.now.graph in
    record { there = subst (λ (t : Target). IsThere graph (target_view t)) c.in-Rel-2.is c.requires.there }

pub returns-in-Rel-2 : goal.returns-in-Rel-2
returns-in-Rel-2 g c =
    let graph = c.args.live.now.graph in
    let call = c.set_rel_properties in
    let after = call.new.self.graph in
    let by = λ (whole : Bool) (t : Target) (graph : Graph). change_properties (put_map whole (pairs_of c.args.pairs.items)) (target_view t) graph in
    record {
      ok = IfOk-weaker call.result (λ u. after ≡ by false (Rel c.in-Rel-2.id) graph) (λ u. by c.args.is_whole c.args.target graph ≡ after) (λ u h. (λ i. by (c.if-is_whole-2.false i) (c.in-Rel-2.is i) graph) ∙ sym h) call.ensures.ok;
      aside = call.ensures.aside;
    }

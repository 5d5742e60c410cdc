use Rattle.std.proofs.Common.{◌≡◌, Ok, refl, sym, subst, ◌∙◌}
use Rattle.std.proofs.lemmas.Result.{IfOk-from_err}
use Rattle.pg_expr.proofs.ExitLemmas.{fault_passed}
use Rattle.pg_meaning.specs.declared.fault.Fault.TheVariants.{OutOfMemory}
use Rattle.pg_write.proofs.RemovalLemmas.{RelationshipsThere, still_there, now_apart, still_connected, all_taken_out}
use Rattle.pg_write.specs.Gathered.{taken_out, Rises}
use Rattle.pg_write.proofs.removal.take_out.Goals as goal

pub remove_rels-requires : goal.remove_rels-requires
remove_rels-requires g c =
    let keys_are = sym c.rels.ensures in
    let is = c.requires.there in
    record {
      there = subst (RelationshipsThere c.args.live.now.graph) keys_are is.relationships;
      rises = subst Rises keys_are is.relationships_rise;
    }

pub returns-in_err-remove_rels : goal.returns-in_err-remove_rels
returns-in_err-remove_rels g c =
    let given = taken_out c.args.doomed.now c.args.live.now.graph in
    record {
      ok = IfOk-from_err c.from_residual.result (λ u. given ≡ Ok c.remove_rels.new.live.graph) c.from_residual.ensures.0;
      err = fault_passed given OutOfMemory c.from_residual.result c.from_residual.ensures.1 (λ other. absurd (other refl));
      names = c.remove_rels.ensures.names;
      tables = c.remove_rels.ensures.tables;
      aside = c.remove_rels.ensures.aside;
    }

pub returns-in_err-test_unconnected : goal.returns-in_err-test_unconnected
returns-in_err-test_unconnected g c =
    let before = c.args.live.now.graph in
    let middle = c.remove_rels.new.live.graph in
    let result = c.from_residual-in_err-test_unconnected in
    let given = taken_out c.args.doomed.now before in
    record {
      ok = IfOk-from_err result.result (λ u. given ≡ Ok middle) result.ensures.0;
      err =
          fault_passed given c.in_err-test_unconnected.field-0.0 result.result result.ensures.1
          (λ other. still_connected before middle c.args.doomed.now c.rels.result.now.keys c.rels.ensures c.in_ok-remove_rels.ensures.removed
          c.graph.result c.nodes.result.now.keys c.graph.ensures.is c.nodes.ensures c.in_err-test_unconnected.field-0.0 c.in_err-test_unconnected.ensures);
      names = c.remove_rels.ensures.names;
      tables = c.remove_rels.ensures.tables;
      aside = c.remove_rels.ensures.aside;
    }

pub remove_nodes-requires : goal.remove_nodes-requires
remove_nodes-requires g c =
    let before = c.args.live.now.graph in
    let middle = c.remove_rels.new.live.graph in
    let keys = c.nodes-2.result.now.keys in
    record {
      there = still_there before middle c.args.doomed.now c.rels.result.now.keys c.rels.ensures c.in_ok-remove_rels.ensures.removed keys c.nodes-2.ensures c.requires.there.nodes;
      rises = subst Rises (sym c.nodes-2.ensures) c.requires.there.nodes_rise;
      apart =
          now_apart before middle c.args.doomed.now c.rels.result.now.keys c.rels.ensures c.in_ok-remove_rels.ensures.removed
          c.graph.result c.nodes.result.now.keys keys c.graph.ensures.is c.nodes.ensures c.nodes-2.ensures c.in_ok-test_unconnected.ensures;
    }

pub returns-in_err-remove_nodes : goal.returns-in_err-remove_nodes
returns-in_err-remove_nodes g c =
    let result = c.from_residual-in_err-remove_nodes in
    let given = taken_out c.args.doomed.now c.args.live.now.graph in
    record {
      ok = IfOk-from_err result.result (λ u. given ≡ Ok c.remove_nodes.new.live.graph) result.ensures.0;
      err = fault_passed given OutOfMemory result.result result.ensures.1 (λ other. absurd (other refl));
      names = c.remove_nodes.ensures.names ∙ c.remove_rels.ensures.names;
      tables = c.remove_nodes.ensures.tables ∙ c.remove_rels.ensures.tables;
      aside = c.remove_nodes.ensures.aside ∙ c.remove_rels.ensures.aside;
    }

pub returns : goal.returns
returns g c =
    record {
      ok =
          all_taken_out c.args.live.now.graph c.remove_rels.new.live.graph c.args.doomed.now c.rels.result.now.keys c.rels.ensures c.in_ok-remove_rels.ensures.removed
          c.graph.result c.remove_nodes.new.live.graph c.nodes.result.now.keys c.nodes-2.result.now.keys c.graph.ensures.is c.nodes.ensures c.nodes-2.ensures c.in_ok-test_unconnected.ensures c.in_ok-remove_nodes.ensures.removed;
      err = tt;
      names = c.remove_nodes.ensures.names ∙ c.remove_rels.ensures.names;
      tables = c.remove_nodes.ensures.tables ∙ c.remove_rels.ensures.tables;
      aside = c.remove_nodes.ensures.aside ∙ c.remove_rels.ensures.aside;
    }

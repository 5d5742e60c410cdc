use Rattle.std.proofs.Common.{◌≡◌, [], IsTrue, sym, ap, subst, ◌∙◌, refl}
use Rattle.std.proofs.lemmas.Result.{IfOk-from_err}
use Rattle.pg_meaning.specs.Graph.{both, has_node, incident, remove_elements}
use Rattle.pg_write.proofs.RemovalLemmas.{NodesThere, NodesApart, none_left, none_outgoing, none_incoming, one_node_goes, this_one}
use Rattle.pg_write.specs.Gathered.{Rises}
use Rattle.pg_write.proofs.removal.remove_nodes.Goals as goal

pub loop-node-init : goal.loop-node-init
loop-node-init g c =
    let graph = c.args.live.now.graph in
    let keys_are = c.into_iter-node-iterator.ensures.into_iter_gives.0 in
    record {
      rest = ap (λ ks. remove_elements ks [] graph) keys_are;
      there = subst (NodesThere graph) (sym keys_are) c.requires.there;
      rises = subst Rises (sym keys_are) c.requires.rises;
      apart = subst (NodesApart graph) (sym keys_are) c.requires.apart;
      names = refl;
      tables = refl;
      aside = refl;
    }

pub remove_node-requires : goal.remove_node-requires
remove_node-requires g c =
    let graph = c.loop-node.live.graph in
    let node = c.in-Some.node.now in
    let l = c.loop-node in
    let apart = this_one (λ n. incident both n graph ≡ []) node l.node-iterator c.next.new.self c.in-Some.ensures.steps l.invariant.apart in
    record {
      there = this_one (λ n. IsTrue (has_node graph n)) node l.node-iterator c.next.new.self c.in-Some.ensures.steps l.invariant.there;
      no_outgoing = none_outgoing graph node apart;
      no_incoming = none_incoming graph node apart;
    }

pub loop-node-preserved : goal.loop-node-preserved
loop-node-preserved g c =
    let l = c.loop-node in
    let step = one_node_goes l.live.graph c.remove_node.new.self.graph c.in-Some.node.now l.node-iterator c.next.new.self c.in-Some.ensures.steps c.in_ok-remove_node.ensures.ok l.invariant.rises l.invariant.there l.invariant.apart in
    record {
      rest = step.0 ∙ l.invariant.rest;
      there = step.1;
      rises = step.2;
      apart = step.3;
      names = c.remove_node.ensures.names ∙ l.invariant.names;
      tables = c.remove_node.ensures.tables ∙ l.invariant.tables;
      aside = c.remove_node.ensures.aside ∙ l.invariant.aside;
    }

pub returns-in_err-remove_node : goal.returns-in_err-remove_node
returns-in_err-remove_node g c =
    let l = c.loop-node in
    record {
      removed = IfOk-from_err c.from_residual.result (λ u. c.remove_node.new.self.graph ≡ remove_elements c.args.nodes.now.keys [] c.args.live.now.graph) c.from_residual.ensures.0;
      names = c.remove_node.ensures.names ∙ l.invariant.names;
      tables = c.remove_node.ensures.tables ∙ l.invariant.tables;
      aside = c.remove_node.ensures.aside ∙ l.invariant.aside;
    }

pub returns : goal.returns
returns g c =
    let graph = c.loop-node.live.graph in
    record {
      removed = sym (none_left graph) ∙ ap (λ ns. remove_elements ns [] graph) (sym c.in-None.ensures.steps.0) ∙ c.loop-node.invariant.rest;
      names = c.loop-node.invariant.names;
      tables = c.loop-node.invariant.tables;
      aside = c.loop-node.invariant.aside;
    }

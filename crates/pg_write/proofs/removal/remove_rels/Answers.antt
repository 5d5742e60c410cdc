use Rattle.std.proofs.Common.{◌≡◌, [], IsTrue, sym, ap, subst, ◌∙◌, refl}
use Rattle.std.proofs.lemmas.Result.{IfOk-from_err}
use Rattle.pg_meaning.specs.Graph.{has_relationship, remove_elements}
use Rattle.pg_write.proofs.RemovalLemmas.{RelationshipsThere, none_left, one_relationship_goes, this_one}
use Rattle.pg_write.specs.Gathered.{Rises}
use Rattle.pg_write.proofs.removal.remove_rels.Goals as goal

pub loop-rel-init : goal.loop-rel-init
loop-rel-init g c =
    let graph = c.args.live.now.graph in
    let keys_are = c.into_iter-rel-iterator.ensures.into_iter_gives.0 in
    record {
      rest = ap (λ ks. remove_elements [] ks graph) keys_are;
      there = subst (RelationshipsThere graph) (sym keys_are) c.requires.there;
      rises = subst Rises (sym keys_are) c.requires.rises;
      names = refl;
      tables = refl;
      aside = refl;
    }

pub remove_rel-requires : goal.remove_rel-requires
remove_rel-requires g c =
    let graph = c.loop-rel.live.graph in
    record {
      there = this_one (λ r. IsTrue (has_relationship graph r)) c.in-Some.rel.now c.loop-rel.rel-iterator c.next.new.self c.in-Some.ensures.steps c.loop-rel.invariant.there;
    }

pub loop-rel-preserved : goal.loop-rel-preserved
loop-rel-preserved g c =
    let l = c.loop-rel in
    let step = one_relationship_goes l.live.graph c.remove_rel.new.self.graph c.in-Some.rel.now l.rel-iterator c.next.new.self c.in-Some.ensures.steps c.in_ok-remove_rel.ensures.ok l.invariant.rises l.invariant.there in
    record {
      rest = step.0 ∙ l.invariant.rest;
      there = step.1;
      rises = step.2;
      names = c.remove_rel.ensures.names ∙ l.invariant.names;
      tables = c.remove_rel.ensures.tables ∙ l.invariant.tables;
      aside = c.remove_rel.ensures.aside ∙ l.invariant.aside;
    }

pub returns-in_err-remove_rel : goal.returns-in_err-remove_rel
returns-in_err-remove_rel g c =
    let l = c.loop-rel in
    record {
      removed = IfOk-from_err c.from_residual.result (λ u. c.remove_rel.new.self.graph ≡ remove_elements [] c.args.rels.now.keys c.args.live.now.graph) c.from_residual.ensures.0;
      names = c.remove_rel.ensures.names ∙ l.invariant.names;
      tables = c.remove_rel.ensures.tables ∙ l.invariant.tables;
      aside = c.remove_rel.ensures.aside ∙ l.invariant.aside;
    }

pub returns : goal.returns
returns g c =
    let graph = c.loop-rel.live.graph in
    record {
      removed = sym (none_left graph) ∙ ap (λ rs. remove_elements [] rs graph) (sym c.in-None.ensures.steps.0) ∙ c.loop-rel.invariant.rest;
      names = c.loop-rel.invariant.names;
      tables = c.loop-rel.invariant.tables;
      aside = c.loop-rel.invariant.aside;
    }

use Rattle.std.proofs.Common.{subst, sym}
use Rattle.std.proofs.lemmas.Result.{on_ok_weaker}
use Rattle.pg_graph.specs.Links.{with_id}
use Rattle.pg_graph.specs.Sorted.{Rises}
use Rattle.pg_pool.proofs.ChunkLists.{either_way}
use Rattle.pg_pool.proofs.ListPlaces.{list_replaced, list_kept, replaced_apart, on_err_weaker}
use Rattle.pg_pool.specs.Lists.{list_at}
use Rattle.pg_pool.proofs.links.Links.add.Goals as goal

pub put_in-requires : goal.put_in-requires
put_in-requires c = record {
  there = c.requires.apart.there c.args.node c.in-Some.key (sym c.in-Some.ensures);
  rises = subst (λ o. Rises (λ n. n) (list_at c.args.self.now.lists o)) (sym c.in-Some.ensures) (c.requires.rises c.args.node);
}

pub returns-in-Some-clause-ok : goal.returns-in-Some-clause-ok
returns-in-Some-clause-ok c =
    let old = c.args.self.now in
    on_ok_weaker c.put_in.result (list_replaced old.places old.lists c.put_in.new.lists c.in-Some.key c.args.node c.requires.apart (sym c.in-Some.ensures) (with_id c.args.id.0)) c.put_in.ensures.ok

pub returns-in-Some-clause-err : goal.returns-in-Some-clause-err
returns-in-Some-clause-err c =
    let old = c.args.self.now in
    on_err_weaker c.put_in.result (list_kept old.places old.lists c.put_in.new.lists c.in-Some.key c.args.node c.requires.apart (sym c.in-Some.ensures)) c.put_in.ensures.err

pub returns-in-Some-clause-apart : goal.returns-in-Some-clause-apart
returns-in-Some-clause-apart c =
    let old = c.args.self.now in
    let apart = replaced_apart old.places old.lists c.put_in.new.lists c.in-Some.key c.args.node c.requires.apart (sym c.in-Some.ensures) in
    either_way c.put_in.result c.put_in.ensures.ok c.put_in.ensures.err (apart (with_id c.args.id.0)) (apart (λ ids. ids))

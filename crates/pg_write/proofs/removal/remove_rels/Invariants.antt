use Rattle.std.proofs.Common.{◌≡◌, []}
use Rattle.std.specs.List.{AllByRecursion}
use Rattle.std.specs.Prelude.{IsTrue}
use Rattle.pg_meaning.specs.Graph.{has_relationship, remove_elements}
use Rattle.pg_write.specs.Gathered.{Rises}
use Rattle.pg_write.proofs.removal.remove_rels.Given as goal

abbrev pub invariant-loop-rel : goal.invariant-loop-rel
invariant-loop-rel g l =
    let graph = l.live.graph in
    record {
      rest : remove_elements [] l.rel-iterator graph ≡ remove_elements [] l.rels.keys l.fn.live.graph;
      there : AllByRecursion (λ r. IsTrue (has_relationship graph r)) l.rel-iterator;
      rises : Rises l.rel-iterator;
      names : l.live.names ≡ l.fn.live.names;
      tables : l.live.tables ≡ l.fn.live.tables;
      aside : l.live.aside ≡ l.fn.live.aside;
    }

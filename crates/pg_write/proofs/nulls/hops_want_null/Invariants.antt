use Rattle.std.proofs.Common.{◌≡◌, ◌||◌, drop, map}
use Rattle.std.specs.List.{list_any}
use Rattle.pg_match_stages.specs.View.{wanted_hop_and_node}
use Rattle.pg_meaning.specs.Updates.{has_null}
use Rattle.pg_write.proofs.nulls.hops_want_null.Given as goal

abbrev pub invariant-loop-hop : goal.invariant-loop-hop
invariant-loop-hop l =
    list_any (λ h. has_null h.0.properties || has_null h.1.properties) (map wanted_hop_and_node l.hops.items)
    ≡ list_any (λ h. has_null h.0.properties || has_null h.1.properties) (map wanted_hop_and_node (drop l.hop-index l.hops.items))

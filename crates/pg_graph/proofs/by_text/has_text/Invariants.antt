use Rattle.std.proofs.Common.{◌≡◌, drop, map}
use Rattle.std.specs.List.{list_any}
use Rattle.std.specs.Str.{bytes_eq}
use Rattle.pg_graph.specs.Refinement.{AreNamed, text_of}
use Rattle.pg_graph.proofs.by_text.has_text.Given as goal

abbrev pub invariant-loop-label : goal.invariant-loop-label
invariant-loop-label g l =
    AreNamed l.names (drop l.label-index l.labels)
    × (list_any (bytes_eq l.text) (map (text_of l.names) l.labels) ≡ list_any (bytes_eq l.text) (map (text_of l.names) (drop l.label-index l.labels)))

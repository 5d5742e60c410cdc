use Rattle.std.proofs.Common.{◌≡◌, drop, map as map_list}
use Rattle.pg_graph.proofs.labels.Labels.sorted_texts.Given as goal
use Rattle.pg_graph.specs.Refinement.{text_of, label_texts}
use Rattle.pg_meaning.specs.Names.{put_texts}

-- the texts so far with those to come are all
abbrev pub invariant-loop-label : goal.invariant-loop-label
invariant-loop-label g l = put_texts (map_list (text_of l.names) (drop l.label-index l.label-items)) (map_list (λ t. t.now) l.texts.keys) ≡ label_texts l.names l.self

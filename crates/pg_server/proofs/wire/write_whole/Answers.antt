use Rattle.std.proofs.Common.{◌++◌, take, ◌∙◌}
use Rattle.std.proofs.KnownBytes.{Appends-trans}
use Rattle.pg_server.proofs.FillLemmas.{moves_front}
use Rattle.pg_server.proofs.wire.write_whole.Goals as goal

pub loop-rest-preserved : goal.loop-rest-preserved
loop-rest-preserved g c =
    let (sent, split, appended, count) = c.loop-rest.invariant in
    let rest = c.loop-rest.rest.now in
    let n = c.in_ok-n.n in
    (sent ++ take n rest, moves_front _ sent rest n split, Appends-trans _ _ _ _ _ appended c.in_ok-n.ensures.bytes, c.in_ok-n.ensures.ok ∙ count)

use Rattle.std.proofs.Common.{rules, ◌≡◌, ◌++◌, length, subst}
use Rattle.std.proofs.lemmas.Result.{err_from_is_err_and}
use Rattle.std.specs.Int.{w32, to_be_bytes}
use Rattle.pg_server.specs.Counts.{inner_of, faults_of}
use Rattle.pg_server.specs.Wire.{Sends}
use Rattle.pg_server.proofs.FrameLemmas.{sends_front, sends_then}
use Rattle.pg_server.proofs.wire.write_frame.Goals as goal

pub returns-in_err-write_whole : goal.returns-in_err-write_whole
returns-in_err-write_whole g c =
    let body = c.args.body.now in
    let head : c.to_be_bytes-header.result ≡ to_be_bytes w32 (length body) = search rules in
    let failed = err_from_is_err_and c.from_residual.result c.from_residual.ensures.1 in
    subst (λ h. Sends (g.W.Write.contents (inner_of c.args.writer.now)) (g.W.Write.contents (inner_of c.write_whole.new.writer)) (faults_of c.args.writer.now) (faults_of c.write_whole.new.writer) (h ++ body) c.from_residual.result) head
    (sends_front c.to_be_bytes-header.result body _ _ _ _ _ failed.0 _ failed.1 c.in_err-write_whole.ensures)

pub returns-then-buffer-body : goal.returns-then-buffer-body
returns-then-buffer-body g c =
    let body = c.args.body.now in
    let head : c.to_be_bytes-header.result ≡ to_be_bytes w32 (length body) = search rules in
    subst (λ h. Sends (g.W.Write.contents (inner_of c.args.writer.now)) (g.W.Write.contents (inner_of c.write_whole-then-buffer-body.new.writer)) (faults_of c.args.writer.now) (faults_of c.write_whole-then-buffer-body.new.writer) (h ++ body) c.write_whole-then-buffer-body.result) head
    (sends_then c.to_be_bytes-header.result body _ _ _ _ _ _ _ _ c.in_ok-write_whole.ensures c.write_whole-then-buffer-body.ensures)

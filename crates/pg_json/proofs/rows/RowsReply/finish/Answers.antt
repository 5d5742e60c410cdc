use Rattle.std.proofs.Common.{◌≡◌, ◌≢◌, ◌<◌, IfOk, IfErr, length, ap, ◌∙◌, subst}
use Rattle.std.proofs.lemmas.Result.{IfOk-weaker, IfErr-weaker}
use Rattle.pg_meaning.specs.declared.fault.Fault.TheVariants.{OutOfMemory}
use Rattle.pg_json.proofs.Writing.{noted_whole, plain_whole}
use Rattle.pg_json.specs.Joined.{with_end}
use Rattle.pg_json.specs.Pages.{query_text}
use Rattle.pg_json.specs.Replies.{max_reply}
use Rattle.pg_json.specs.Rows.{rows_text}
use Rattle.pg_json.specs.Telling.{AreWritten, plain_end}
use Rattle.pg_json.proofs.rows.RowsReply.finish.Goals as goal

pub returns-in-Plain-clause-ok : goal.returns-in-Plain-clause-ok
returns-in-Plain-clause-ok c = λ notes columns rows h.
    let w = subst (λ r. AreWritten r notes columns rows) c.in-Plain.is h.so_far in
    IfOk-weaker c.finish.result (λ reply. reply ≡ plain_end c.in-Plain.rows c.args.steps) (λ reply. reply ≡ query_text notes columns rows c.args.steps)
    (λ reply e. e ∙ plain_whole c.in-Plain.rows notes columns rows c.args.steps w.0 w.1) (rw c.in-Plain.is at c.finish.ensures.ok)

pub returns-in-Plain-clause-long : goal.returns-in-Plain-clause-long
returns-in-Plain-clause-long c = λ notes columns rows h.
    let w = subst (λ r. AreWritten r notes columns rows) c.in-Plain.is h.so_far in
    let same = ap (λ q. q.text) (plain_whole c.in-Plain.rows notes columns rows c.args.steps w.0 w.1) in
    IfErr-weaker c.finish.result (λ e. e ≢ OutOfMemory → max_reply < length ((plain_end c.in-Plain.rows c.args.steps).text)) (λ e. e ≢ OutOfMemory → max_reply < length (rows_text columns rows c.args.steps))
    (λ e long other. subst (λ t. max_reply < length t) same (long other)) (rw c.in-Plain.is at c.finish.ensures.long)

pub returns-clause-ok : goal.returns-clause-ok
returns-clause-ok c = λ notes columns rows h.
    let w = subst (λ r. AreWritten r notes columns rows) c.in-Noted.is h.so_far in
    IfOk-weaker c.finish-in-Noted.result (λ reply. reply ≡ with_end c.in-Noted.rows.value c.args.steps) (λ reply. reply ≡ query_text notes columns rows c.args.steps)
    (λ reply e. e ∙ noted_whole c.in-Noted.rows.value notes columns rows c.args.steps w.0 w.1)
    (subst (λ q. IfOk c.finish-in-Noted.result (λ reply. reply ≡ with_end q c.args.steps)) (c.into_inner.ensures ∙ ap (λ b. b.value) c.in-Noted.rows-is) c.finish-in-Noted.ensures.ok)

pub returns-clause-long : goal.returns-clause-long
returns-clause-long c = λ notes columns rows h.
    let w = subst (λ r. AreWritten r notes columns rows) c.in-Noted.is h.so_far in
    let same = ap (λ q. q.text) (noted_whole c.in-Noted.rows.value notes columns rows c.args.steps w.0 w.1) in
    IfErr-weaker c.finish-in-Noted.result (λ e. e ≢ OutOfMemory → max_reply < length ((with_end c.in-Noted.rows.value c.args.steps).text)) (λ e. e ≢ OutOfMemory → max_reply < length (rows_text columns rows c.args.steps))
    (λ e long other. subst (λ t. max_reply < length t) same (long other))
    (subst (λ q. IfErr c.finish-in-Noted.result (λ e. e ≢ OutOfMemory → max_reply < length ((with_end q c.args.steps).text))) (c.into_inner.ensures ∙ ap (λ b. b.value) c.in-Noted.rows-is) c.finish-in-Noted.ensures.long)

use Rattle.std.proofs.Common.{◌++◌, ℕ, sym, ◌∙◌, ap}
use Rattle.pg_journal.specs.Records.{digest_after, written}
use Rattle.pg_journal.specs.Views.{kept}
use Rattle.pg_journal.proofs.Appended.{written_push, digest_push}
use Rattle.pg_journal.proofs.journal.Journal.keep.Goals as goal

pub returns-clause-waits : goal.returns-clause-waits
returns-clause-waits g c = λ ks waiting before.
    let ready = c.reserve.ensures.same ks waiting before in
    let row = kept c.args.tenant.now c.args.body.now c.args.reply in
    let digest = c.reserve.new.self.digest in
    record {
      file = ready.file;
      durable = ready.durable;
      waits = c.in_ok-digest.ensures.bytes ∙ (λ i. ready.waits i ++ ap (λ (d : ℕ). written d row) ready.sums i) ∙ sym (written_push digest waiting row);
      sums = c.in_ok-digest.ensures.digest ∙ ap (λ (d : ℕ). digest_after d row) ready.sums ∙ sym (digest_push digest waiting row);
    }

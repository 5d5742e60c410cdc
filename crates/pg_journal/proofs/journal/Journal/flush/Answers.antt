use Rattle.std.proofs.Common.{◌≡◌, ◌+◌, [], ◌++◌, inl, inr, ⊎_elim, ℕ, List, length, refl, sym, ◌∙◌, ap, subst, arith, rules}
use Rattle.std.specs.Prelude.{not}
use Rattle.std.proofs.lemmas.List.{append-nil, nil_from_length}
use Rattle.pg_journal.specs.Records.{Kept, number}
use Rattle.pg_journal.specs.Ready.{IsFile, IsReady, IsBeforeOrAfter}
use Rattle.pg_journal.specs.Steps.{Spares, IsStaged, marked}
use Rattle.pg_journal.proofs.Moments.{then, wider}
use Rattle.pg_journal.proofs.Appended.{none_written}
use Rattle.pg_journal.proofs.Flushes.{file_journal, spared_file, marked_file}
use Rattle.pg_journal.proofs.journal.Journal.flush.Goals as goal

pub returns-then-is_empty-clause-acknowledged : goal.returns-then-is_empty-clause-acknowledged
returns-then-is_empty-clause-acknowledged g c = λ honest ks ws ready.
    let empty : c.args.self.now.waiting.items ≡ [] = nil_from_length c.args.self.now.waiting.items (search rules) in
    let none : ws ≡ [] = none_written c.args.self.now.digest ws (sym ready.waits ∙ empty) in
    subst (λ (vs : List Kept). IsReady g.D.Device.seen g.D.Device.may_leave c.args.self.now (ks ++ vs) []) (sym none)
    (subst (λ (vs : List Kept). IsReady g.D.Device.seen g.D.Device.may_leave c.args.self.now vs []) (sym (append-nil ks))
    (subst (IsReady g.D.Device.seen g.D.Device.may_leave c.args.self.now ks) none ready))

pub returns-in_err-mark-clause-any_moment : goal.returns-in_err-mark-clause-any_moment
returns-in_err-mark-clause-any_moment g c = λ honest ks ws ready.
    let old = g.D.Device.seen c.args.self.now.device in
    let mid = g.D.Device.seen c.stage.new.device in
    let slot = c.args.self.now.slot in
    let size = c.args.self.now.size in
    let bytes = c.deref.result.now in
    let digest' = c.args.self.now.waiting_digest in
    let P = IsBeforeOrAfter ks ws in
    let staged : IsStaged slot size bytes (number (size + length bytes) ++ number digest') old mid =
    subst (λ (t : List ℕ). IsStaged slot size bytes t old mid) (c.tally-tally.ensures ∙ ap (λ (n : ℕ). number n ++ number digest') (omega (arith, c.len-2.ensures, ap length c.deref.ensures.value))) (c.in_ok-stage.ensures.staged honest ready.file.room) in
    let file = spared_file slot size c.args.self.now.digest ks old mid ready.file staged.spared in
    let after = marked_file slot size c.args.self.now.digest digest' ks ws bytes old mid ready.file (c.deref.ensures.value ∙ ready.waits) ready.sums staged in
    let first = wider g.D.Device.moment g.D.Device.left_since c.args.self.now.device c.stage.new.device (Spares slot size old) P (c.in_ok-stage.ensures.any_moment honest ready.file.room ready.durable)
    (λ f spares. inl (file_journal slot size c.args.self.now.digest ks f (spared_file slot size c.args.self.now.digest ks old f ready.file spares))) in
    then g.D.Device.moment g.D.Device.left_since c.args.self.now.device c.stage.new.device c.mark.new.device P _ first
    (c.mark.ensures.any_moment honest (omega (arith, file.room)) (c.in_ok-stage.ensures.durable honest))
    (λ f left. ⊎_elim
    (λ (same : f ≡ mid). subst P (sym same) (inl (file_journal slot size c.args.self.now.digest ks mid file)))
    (λ (turned : f ≡ marked (not slot) mid). subst P (sym turned) (inr (file_journal (not slot) (size + length bytes) digest' (ks ++ ws) (marked (not slot) mid) after)))
    left)

pub returns-clause-acknowledged : goal.returns-clause-acknowledged
returns-clause-acknowledged g c = λ honest ks ws ready.
    let old = g.D.Device.seen c.args.self.now.device in
    let mid = g.D.Device.seen c.stage.new.device in
    let slot = c.args.self.now.slot in
    let size = c.args.self.now.size in
    let bytes = c.deref.result.now in
    let digest' = c.args.self.now.waiting_digest in
    let size_is : c.len-2.result ≡ length bytes = omega (arith, c.len-2.ensures, ap length c.deref.ensures.value) in
    let staged : IsStaged slot size bytes (number (size + length bytes) ++ number digest') old mid =
    subst (λ (t : List ℕ). IsStaged slot size bytes t old mid) (c.tally-tally.ensures ∙ ap (λ (n : ℕ). number (size + n) ++ number digest') size_is) (c.in_ok-stage.ensures.staged honest ready.file.room) in
    let file = spared_file slot size c.args.self.now.digest ks old mid ready.file staged.spared in
    let after = marked_file slot size c.args.self.now.digest digest' ks ws bytes old mid ready.file (c.deref.ensures.value ∙ ready.waits) ready.sums staged in
    let is = c.in_ok-mark.ensures.marked honest (omega (arith, file.room)) in
    record {
      file = subst (λ (n : ℕ). IsFile (not slot) (size + n) digest' (ks ++ ws) (g.D.Device.seen c.mark.new.device)) (sym size_is) (subst (IsFile (not slot) (size + length bytes) digest' (ks ++ ws)) (sym is) after);
      durable = c.in_ok-mark.ensures.durable honest;
      waits = c.clear.ensures.items;
      sums = refl;
    }

pub returns-clause-any_moment : goal.returns-clause-any_moment
returns-clause-any_moment g c = λ honest ks ws ready.
    let old = g.D.Device.seen c.args.self.now.device in
    let mid = g.D.Device.seen c.stage.new.device in
    let slot = c.args.self.now.slot in
    let size = c.args.self.now.size in
    let bytes = c.deref.result.now in
    let digest' = c.args.self.now.waiting_digest in
    let P = IsBeforeOrAfter ks ws in
    let staged : IsStaged slot size bytes (number (size + length bytes) ++ number digest') old mid =
    subst (λ (t : List ℕ). IsStaged slot size bytes t old mid) (c.tally-tally.ensures ∙ ap (λ (n : ℕ). number n ++ number digest') (omega (arith, c.len-2.ensures, ap length c.deref.ensures.value))) (c.in_ok-stage.ensures.staged honest ready.file.room) in
    let file = spared_file slot size c.args.self.now.digest ks old mid ready.file staged.spared in
    let after = marked_file slot size c.args.self.now.digest digest' ks ws bytes old mid ready.file (c.deref.ensures.value ∙ ready.waits) ready.sums staged in
    let first = wider g.D.Device.moment g.D.Device.left_since c.args.self.now.device c.stage.new.device (Spares slot size old) P (c.in_ok-stage.ensures.any_moment honest ready.file.room ready.durable)
    (λ f spares. inl (file_journal slot size c.args.self.now.digest ks f (spared_file slot size c.args.self.now.digest ks old f ready.file spares))) in
    then g.D.Device.moment g.D.Device.left_since c.args.self.now.device c.stage.new.device c.mark.new.device P _ first
    (c.mark.ensures.any_moment honest (omega (arith, file.room)) (c.in_ok-stage.ensures.durable honest))
    (λ f left. ⊎_elim
    (λ (same : f ≡ mid). subst P (sym same) (inl (file_journal slot size c.args.self.now.digest ks mid file)))
    (λ (turned : f ≡ marked (not slot) mid). subst P (sym turned) (inr (file_journal (not slot) (size + length bytes) digest' (ks ++ ws) (marked (not slot) mid) after)))
    left)

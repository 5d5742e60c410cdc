use Rattle.std.proofs.Common.{◌≡◌, ◌≤◌, inl, inr, ⊎_elim, false, [], ◌∷◌, length, take, refl, sym, ◌∙◌, ap, subst, arith}
use Rattle.std.proofs.lemmas.Result.{on_ok_weaker}
use Rattle.std.proofs.lemmas.List.{length-take}
use Rattle.pg_journal.specs.Digest.{digest_of_none}
use Rattle.pg_journal.specs.Device.{Holds, Torn}
use Rattle.pg_journal.specs.Files.{IsUnbegun, Recovers}
use Rattle.pg_journal.specs.Ready.{IsFile}
use Rattle.pg_journal.proofs.Moments.{then, wider}
use Rattle.pg_journal.proofs.Begun.{unbegun_first, zero_first, unbegun_rest, whole, torn_letter, begun, letter_recovers}
use Rattle.pg_journal.proofs.steps.begin.Goals as goal

pub returns-in_err-put-2-clause-any_moment : goal.returns-in_err-put-2-clause-any_moment
returns-in_err-put-2-clause-any_moment g c = λ honest unbegun only.
    let old = c.args.device.now in
    let f0 = g.D.Device.seen old in
    let f1 = g.D.Device.seen c.put.new.device in
    let first = zero_first f0 f1 unbegun (c.in_ok-put.ensures.written honest (omega arith)) in
    let fits : 1 ≤ length f1 = omega (arith, ap length first.0, length-take 1 f1) in
    let one = wider g.D.Device.moment g.D.Device.left_since old c.put.new.device _ (Recovers []) (c.in_ok-put.ensures.any_moment honest (omega arith) only)
    (λ f left. ⊎_elim (λ (same : f ≡ f0). inl (subst IsUnbegun (sym same) unbegun, refl)) (λ torn. inl (unbegun_first f0 f unbegun torn, refl)) left) in
    then g.D.Device.moment g.D.Device.left_since old c.put.new.device c.put-2.new.device (Recovers []) _ one (c.put-2.ensures.any_moment honest fits (c.in_ok-put.ensures.durable honest))
    (λ f left. ⊎_elim (λ (same : f ≡ f1). inl (inr (ap (take 1) same ∙ first.0, omega (arith, ap length same, first.1)), refl)) (λ torn. inl (unbegun_rest f1 f first.0 first.1 torn, refl)) left)

pub returns-clause-begun : goal.returns-clause-begun
returns-clause-begun g c = λ honest unbegun.
    let f0 = g.D.Device.seen c.args.device.now in
    let f1 = g.D.Device.seen c.put.new.device in
    let f2 = g.D.Device.seen c.put-2.new.device in
    let first = zero_first f0 f1 unbegun (c.in_ok-put.ensures.written honest (omega arith)) in
    let fits : 1 ≤ length f1 = omega (arith, ap length first.0, length-take 1 f1) in
    let is = whole f1 f2 first.0 first.1 (c.in_ok-put-2.ensures.written honest fits) in
    on_ok_weaker c.put-3.result
    (λ holds. subst (IsFile false 0 digest_of_none []) (sym (subst (λ f. Holds f 0 (103 ∷ []) (g.D.Device.seen c.put-3.new.device)) is holds)) begun)
    (c.put-3.ensures.written honest (omega arith))

pub returns-clause-any_moment : goal.returns-clause-any_moment
returns-clause-any_moment g c = λ honest unbegun only.
    let old = c.args.device.now in
    let f0 = g.D.Device.seen old in
    let f1 = g.D.Device.seen c.put.new.device in
    let f2 = g.D.Device.seen c.put-2.new.device in
    let first = zero_first f0 f1 unbegun (c.in_ok-put.ensures.written honest (omega arith)) in
    let fits : 1 ≤ length f1 = omega (arith, ap length first.0, length-take 1 f1) in
    let is = whole f1 f2 first.0 first.1 (c.in_ok-put-2.ensures.written honest fits) in
    let one = wider g.D.Device.moment g.D.Device.left_since old c.put.new.device _ (Recovers []) (c.in_ok-put.ensures.any_moment honest (omega arith) only)
    (λ f left. ⊎_elim (λ (same : f ≡ f0). inl (subst IsUnbegun (sym same) unbegun, refl)) (λ torn. inl (unbegun_first f0 f unbegun torn, refl)) left) in
    let two = then g.D.Device.moment g.D.Device.left_since old c.put.new.device c.put-2.new.device (Recovers []) _ one (c.in_ok-put-2.ensures.any_moment honest fits (c.in_ok-put.ensures.durable honest))
    (λ f left. ⊎_elim (λ (same : f ≡ f1). inl (inr (ap (take 1) same ∙ first.0, omega (arith, ap length same, first.1)), refl)) (λ torn. inl (unbegun_rest f1 f first.0 first.1 torn, refl)) left) in
    then g.D.Device.moment g.D.Device.left_since old c.put-2.new.device c.put-3.new.device (Recovers []) _ two (c.put-3.ensures.any_moment honest (omega arith) (c.in_ok-put-2.ensures.durable honest))
    (λ f left. letter_recovers f (⊎_elim (λ (same : f ≡ f2). inl (same ∙ is)) (λ torn. torn_letter f (subst (λ d. Torn 0 (103 ∷ []) d f) is torn)) left))

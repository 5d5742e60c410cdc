use Rattle.std.proofs.Common.{true, ◌≡◌, ◌+◌, ◌≤◌, arith, length, length-take, [], ◌∷◌, ◌++◌, refl, sym, ap, take, drop, subst, ◌∙◌, slice_range}
use Rattle.pg_listen.specs.Client.{seen}
use Rattle.pg_listen.specs.Events.{answered}
use Rattle.pg_server.specs.Frames.{frame, body_limit}
use Rattle.pg_server.specs.Served.{too_long_reply}
use Rattle.pg_listen.specs.Frames.{BeginsTooLong}
use Rattle.pg_listen.proofs.StepLemmas.{went_nowhere, was_refused, was_answered}
use Rattle.pg_listen.proofs.turn.answer.Goals as goal

pub returns-in-Partial : goal.returns-in-Partial
returns-in-Partial g c = λ n. (seen c.args.client.now, [], record { passes = went_nowhere n _; none = refl; course = refl }, refl)

pub returns-in-Ok : goal.returns-in-Ok
returns-in-Ok g c = λ n. (
  record (seen c.args.client.now) { pending = (seen c.args.client.now).pending ++ frame too_long_reply; refused = true },
  [],
  record { passes = was_refused n (seen c.args.client.now) c.requires (subst BeginsTooLong c.front.ensures c.in-TooLong.ensures); none = refl; course = refl },
  ap (λ l. record (seen c.args.client.now) { pending = l; refused = true }) (ap (λ l. (seen c.args.client.now).pending ++ frame l) (sym (c.as_slice-text.ensures.value ∙ c.refusal-reply.ensures)) ∙ sym c.in-Ok.ensures),
)

pub returns-in-TooLong : goal.returns-in-TooLong
returns-in-TooLong g c = λ n. (
  record (seen c.args.client.now) { pending = (seen c.args.client.now).pending ++ frame too_long_reply; refused = true },
  [],
  record { passes = was_refused n (seen c.args.client.now) c.requires (subst BeginsTooLong c.front.ensures c.in-TooLong.ensures); none = refl; course = refl },
  tt,
)

pub returns-in-Ok-push_frame : goal.returns-in-Ok-push_frame
returns-in-Ok-push_frame g c = λ client.
    let inbox = (seen c.args.client.now).inbox in
    let reply = c.answer-reply.result in
    let n = c.in-Body.n in
    let body = take n (drop 4 inbox) in
    let rest = drop (4 + n) inbox in
    let stands = subst (λ l. l ≡ frame (take n (drop 4 l)) ++ drop (4 + n) l) c.front.ensures c.in-Body.ensures.0 in
    let is : slice_range c.front-in-Body.result.now 4 (4 + n) ≡ body = ap (λ l. slice_range l 4 (4 + n)) c.front-in-Body.ensures ∙ ap (λ k. take k (drop 4 inbox)) (omega arith) in
    let short : length body ≤ body_limit = omega (arith, length-take n (drop 4 inbox), c.in-Body.ensures.1) in (
      record (seen c.args.client.now) { inbox = rest; pending = (seen c.args.client.now).pending ++ frame reply },
      answered client (record { body = body; reply = reply }) ∷ [],
      record {
        passes = was_answered client (seen c.args.client.now) c.requires body reply rest stands short;
        none = refl;
        course = (c.answer-reply.new.self, subst (λ l. g.S.Service.answers c.args.service.now l reply c.answer-reply.new.self) is c.answer-reply.ensures, refl);
      },
      ap (λ l. record { inbox = l; pending = (seen c.args.client.now).pending ++ frame reply; refused = (seen c.args.client.now).refused }) (sym c.skip.ensures)
          ∙ ap (λ l. record { inbox = (seen (record c.args.client.now { inbox = c.skip.new.self })).inbox; pending = l; refused = (seen c.args.client.now).refused })
          (ap (λ l. (seen c.args.client.now).pending ++ frame l) (sym c.as_slice-text-in-Body.ensures.value) ∙ sym c.in-Ok-push_frame.ensures),
    )

pub returns : goal.returns
returns g c = λ client.
    let inbox = (seen c.args.client.now).inbox in
    let reply = c.answer-reply.result in
    let n = c.in-Body.n in
    let body = take n (drop 4 inbox) in
    let rest = drop (4 + n) inbox in
    let stands = subst (λ l. l ≡ frame (take n (drop 4 l)) ++ drop (4 + n) l) c.front.ensures c.in-Body.ensures.0 in
    let is : slice_range c.front-in-Body.result.now 4 (4 + n) ≡ body = ap (λ l. slice_range l 4 (4 + n)) c.front-in-Body.ensures ∙ ap (λ k. take k (drop 4 inbox)) (omega arith) in
    let short : length body ≤ body_limit = omega (arith, length-take n (drop 4 inbox), c.in-Body.ensures.1) in (
      record (seen c.args.client.now) { inbox = rest; pending = (seen c.args.client.now).pending ++ frame reply },
      answered client (record { body = body; reply = reply }) ∷ [],
      record {
        passes = was_answered client (seen c.args.client.now) c.requires body reply rest stands short;
        none = refl;
        course = (c.answer-reply.new.self, subst (λ l. g.S.Service.answers c.args.service.now l reply c.answer-reply.new.self) is c.answer-reply.ensures, refl);
      },
      tt,
    )

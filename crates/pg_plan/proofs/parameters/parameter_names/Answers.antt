use Rattle.std.proofs.Common.{map, string_bytes, sym, ap, ◌∷◌, ◌++◌, ◌+◌, ◌∙◌, drop}
use Rattle.pg_lex.specs.View.{tokens_view}
use Rattle.pg_plan.proofs.LoopLemmas.{one_taken, all_taken}
use Rattle.pg_plan.proofs.parameters.parameter_names.Goals.{in-Some+in_ok-copied+in_ok-push, in_default}
use Rattle.pg_plan.specs.Parameters.{named_in_tokens}
use Rattle.pg_scope.proofs.FirstLemmas.{item_here, items_end}
use Rattle.pg_plan.proofs.parameters.parameter_names.Goals as goal

pub loop-token-init : goal.loop-token-init
loop-token-init c = ap (λ names. map string_bytes names ++ named_in_tokens (tokens_view c.args.tokens.now.items)) c.new-names.ensures.items

pub loop-token-preserved : goal.loop-token-preserved
loop-token-preserved c =
    let tokens = c.args.tokens.now.items in
    let names = c.loop-token.names.items in
    let left = named_in_tokens (tokens_view (drop c.loop-token.token-index tokens)) in
    let rest = named_in_tokens (tokens_view (drop (c.loop-token.token-index + 1) tokens)) in
    let here = ap (λ ts. named_in_tokens (tokens_view ts)) (item_here c.loop-token-test.true c.token-item.is c.deref-token-items.ensures.value) in
    elim c.match-parameter_name.branch [
      | in-Some+in_ok-copied+in_ok-push w ↦ rw w.names-is
          (one_taken string_bytes names _ w.in_ok-copied.copied left rest (named_in_tokens (tokens_view tokens)) w.in_ok-push.ensures.items
          (here ∙ sym (ap (λ ns. ns ++ rest) w.in-Some.ensures) ∙ ap (λ n. n ∷ rest) (sym w.in_ok-copied.ensures.ok)) c.loop-token.invariant)
      | in_default w ↦ rw w.names-is (ap (λ ns. map string_bytes names ++ ns) (ap (λ ns. ns ++ rest) w.in_default.ensures ∙ sym here) ∙ c.loop-token.invariant)
    ]

pub returns : goal.returns
returns c =
    let tokens = c.args.tokens.now.items in
    all_taken (map string_bytes c.loop-token.names.items) (named_in_tokens (tokens_view (drop c.loop-token.token-index tokens))) (named_in_tokens (tokens_view tokens))
    (ap (λ ts. named_in_tokens (tokens_view ts)) (items_end c.loop-token-test.false c.deref-token-items.ensures.value)) c.loop-token.invariant

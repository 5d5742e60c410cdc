use Rattle.std.proofs.Common.{◌≡◌, ◌+◌, ◌++◌, ◌∷◌, ℕ, List, Bor, drop, map, refl, ap, sym, ◌∙◌}
use Rattle.std.proofs.lemmas.List.{append-nil}
use Rattle.pg_tenant.specs.Settings.{TokenSettings, token_texts}
use Rattle.pg_server.proofs.FoundLemmas.{one_more_seen, item_here, none_left}
use Rattle.pg_server.proofs.config.push_texts.Goals as goal

pub loop-token-init : goal.loop-token-init
loop-token-init c = refl

pub loop-token-preserved : goal.loop-token-preserved
loop-token-preserved c =
    let l = c.loop-token in
    let tokens = c.args.tenant.now.tokens in
    let texts = map (λ (t : Bor (List ℕ)). t.now) l.texts.items in
    let same : c.tokens-token-items.result.now ≡ tokens = c.tokens-token-items.ensures in
    let left = map (λ (s : TokenSettings). s.text) (drop (l.token-index + 1) tokens) in
    one_more_seen (λ (t : Bor (List ℕ)). t.now) l.texts.items c.push.new.self.items c.text.result left (map (λ (t : Bor (List ℕ)). t.now) c.args.texts.now.items ++ token_texts c.args.tenant.now) c.in_ok-push.ensures.items
    (l.invariant
    ∙ ap (λ ss. texts ++ map (λ (s : TokenSettings). s.text) ss) (item_here c.tokens-token-items.result.now tokens l.token-index c.token-item.result same c.loop-token-test.true c.token-item.is)
    ∙ ap (λ t. texts ++ t ∷ left) (sym c.text.ensures))

pub returns : goal.returns
returns c =
    let l = c.loop-token in
    let tokens = c.args.tenant.now.tokens in
    let texts = map (λ (t : Bor (List ℕ)). t.now) l.texts.items in
    let same : c.tokens-token-items.result.now ≡ tokens = c.tokens-token-items.ensures in
    sym (l.invariant ∙ ap (λ ss. texts ++ map (λ (s : TokenSettings). s.text) ss) (none_left c.tokens-token-items.result.now tokens l.token-index same c.loop-token-test.false) ∙ append-nil texts)

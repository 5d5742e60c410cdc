use Rattle.std.proofs.Common.{◌≡◌, ◌+◌, ◌++◌, ℕ, List, [], Bor, append_assoc, drop, map, refl, ap, subst, sym, ◌∙◌}
use Rattle.std.specs.Prelude.{IfOk}
use Rattle.std.proofs.lemmas.List.{append-nil}
use Rattle.pg_server.specs.Settings.{all_tokens}
use Rattle.pg_tenant.specs.Settings.{token_texts}
use Rattle.pg_value.specs.Texts.{has_duplicate}
use Rattle.pg_server.proofs.FoundLemmas.{item_here, none_left}
use Rattle.pg_server.proofs.config.has_token_twice.Goals as goal

pub loop-tenant-init : goal.loop-tenant-init
loop-tenant-init c = sym (ap (λ ts. map (λ (t : Bor (List ℕ)). t.now) ts ++ all_tokens c.args.tenants.now) c.new-texts.ensures.items)

pub loop-tenant-preserved : goal.loop-tenant-preserved
loop-tenant-preserved c =
    let l = c.loop-tenant in
    let tenants = c.args.tenants.now in
    let texts = map (λ (t : Bor (List ℕ)). t.now) l.texts.items in
    let left = all_tokens (drop (l.tenant-index + 1) tenants) in
    l.invariant
    ∙ ap (λ ts. texts ++ all_tokens ts) (item_here tenants tenants l.tenant-index c.tenant-item.result refl c.loop-tenant-test.true c.tenant-item.is)
    ∙ sym (append_assoc texts (token_texts c.tenant-item.result) left)
    ∙ sym (ap (λ ts. ts ++ left) c.in_ok-push_texts.ensures)

pub returns : goal.returns
returns c =
    let l = c.loop-tenant in
    let texts = map (λ (t : Bor (List ℕ)). t.now) l.texts.items in
    let all : all_tokens c.args.tenants.now ≡ texts = l.invariant ∙ ap (λ ts. texts ++ all_tokens ts) (none_left c.args.tenants.now c.args.tenants.now l.tenant-index refl c.loop-tenant-test.false) ∙ append-nil texts in
    subst (λ ts. IfOk c.has_duplicate.result (λ b. b ≡ has_duplicate [] ts)) (ap (map (λ (t : Bor (List ℕ)). t.now)) c.deref.ensures.value ∙ sym all) c.has_duplicate.ensures

use Rattle.std.proofs.Common.{◌≡◌, ◌+◌, ◌++◌, ◌∷◌, ℕ, List, [], Bor, drop, map, string_bytes, refl, ap, subst, sym, ◌∙◌}
use Rattle.std.specs.Prelude.{IfOk}
use Rattle.std.proofs.lemmas.List.{append-nil}
use Rattle.pg_value.specs.Texts.{has_duplicate}
use Rattle.pg_server.proofs.FoundLemmas.{one_more_seen, item_here, none_left}
use Rattle.pg_server.proofs.tenant_names.has_name_twice.Goals as goal

pub loop-name-init : goal.loop-name-init
loop-name-init c = sym (ap (λ ts. map (λ (t : Bor (List ℕ)). t.now) ts ++ map string_bytes c.args.names.now) c.in_ok-texts.ensures.items)

pub loop-name-preserved : goal.loop-name-preserved
loop-name-preserved c =
    let l = c.loop-name in
    let names = c.args.names.now in
    let texts = map (λ (t : Bor (List ℕ)). t.now) l.texts.items in
    let left = map string_bytes (drop (l.name-index + 1) names) in
    one_more_seen (λ (t : Bor (List ℕ)). t.now) l.texts.items c.push.new.self.items c.as_str.result left (map string_bytes names) c.in_ok-push.ensures.items
    (l.invariant
    ∙ ap (λ ns. texts ++ map string_bytes ns) (item_here names names l.name-index c.name-item.result refl c.loop-name-test.true c.name-item.is)
    ∙ ap (λ t. texts ++ t ∷ left) (sym c.as_str.ensures.value))

pub returns : goal.returns
returns c =
    let l = c.loop-name in
    let names = c.args.names.now in
    let texts = map (λ (t : Bor (List ℕ)). t.now) l.texts.items in
    let all : map string_bytes names ≡ texts = l.invariant ∙ ap (λ ns. texts ++ map string_bytes ns) (none_left names names l.name-index refl c.loop-name-test.false) ∙ append-nil texts in
    subst (λ ts. IfOk c.has_duplicate.result (λ b. b ≡ has_duplicate [] ts)) (ap (map (λ (t : Bor (List ℕ)). t.now)) c.deref.ensures.value ∙ sym all) c.has_duplicate.ensures

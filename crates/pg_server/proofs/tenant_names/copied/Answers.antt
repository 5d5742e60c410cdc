use Rattle.std.proofs.Common.{◌+◌, ◌++◌, ◌∷◌, drop, map, string_bytes, refl, ap, sym, ◌∙◌}
use Rattle.std.proofs.lemmas.List.{append-nil}
use Rattle.pg_server.proofs.FoundLemmas.{one_more_seen, item_here, none_left}
use Rattle.pg_server.proofs.tenant_names.copied.Goals as goal

pub loop-name-init : goal.loop-name-init
loop-name-init c = sym (ap (λ ts. map string_bytes ts ++ map string_bytes c.args.names.now) c.in_ok-copies.ensures.items)

pub loop-name-preserved : goal.loop-name-preserved
loop-name-preserved c =
    let l = c.loop-name in
    let names = c.args.names.now in
    let copies = map string_bytes l.copies.items in
    let left = map string_bytes (drop (l.name-index + 1) names) in
    one_more_seen string_bytes l.copies.items c.push.new.self.items c.in_ok-from_str.field-0 left (map string_bytes names) c.in_ok-push.ensures.items
    (l.invariant
    ∙ ap (λ ns. copies ++ map string_bytes ns) (item_here names names l.name-index c.name-item.result refl c.loop-name-test.true c.name-item.is)
    ∙ ap (λ t. copies ++ t ∷ left) (sym (c.in_ok-from_str.ensures.ok ∙ c.as_str.ensures.value)))

pub returns : goal.returns
returns c =
    let l = c.loop-name in
    let names = c.args.names.now in
    let copies = map string_bytes l.copies.items in
    sym (l.invariant ∙ ap (λ ns. copies ++ map string_bytes ns) (none_left names names l.name-index refl c.loop-name-test.false) ∙ append-nil copies)

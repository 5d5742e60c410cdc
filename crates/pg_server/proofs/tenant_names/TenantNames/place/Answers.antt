use Rattle.std.proofs.Common.{rules, ◌≡◌, ◌+◌, true, drop, ◌∷◌, Some, map, position, bytes_eq, string_bytes, sym, ap, ◌∙◌, arith}
use Rattle.std.proofs.lemmas.List.{drop_more, drop_all}
use Rattle.std.specs.Prelude.{cond}
use Rattle.std.specs.List.{position_from}
use Rattle.pg_server.proofs.TenantNameLemmas.{is_named, first_named}
use Rattle.pg_server.proofs.tenant_names.TenantNames.place.Goals as goal

pub returns-then-eq-clause-found : goal.returns-then-eq-clause-found
returns-then-eq-clause-found c =
    let l = c.loop-place in
    let name = c.args.name.now in
    let items = c.deref-one-items.result.now in
    let one = c.one-item.result in
    let here : drop l.place items ≡ one ∷ drop (l.place + 1) items = drop_more items l.place one (omega arith) ∙ ap (λ y. y ∷ drop (l.place + 1) items) (sym c.one-item.is) in
    let same : is_named name one ≡ true = search rules in
    let all : map string_bytes items ≡ c.args.self.now = ap (map string_bytes) c.deref-one-items.ensures.value ∙ c.self.view_is in
    sym (ap (λ b. cond b (Some l.place) (position_from (is_named name) (l.place + 1) (drop (l.place + 1) items))) same)
    ∙ sym (ap (position_from (is_named name) l.place) here)
    ∙ sym l.invariant
    ∙ sym (first_named name items)
    ∙ ap (position (bytes_eq name)) all

pub returns-clause-found : goal.returns-clause-found
returns-clause-found c =
    let l = c.loop-place in
    let name = c.args.name.now in
    let items = c.deref-one-items.result.now in
    let all : map string_bytes items ≡ c.args.self.now = ap (map string_bytes) c.deref-one-items.ensures.value ∙ c.self.view_is in
    sym (ap (position_from (is_named name) l.place) (drop_all l.place items (omega arith)))
    ∙ sym l.invariant
    ∙ sym (first_named name items)
    ∙ ap (position (bytes_eq name)) all

use Rattle.std.proofs.Common.{rules, ◌≡◌, ◌+◌, true, drop, ◌∷◌, Some, map, position, bytes_eq, string_bytes, sym, ap, ◌∙◌, arith}
use Rattle.std.proofs.lemmas.List.{drop_more, drop_all}
use Rattle.std.specs.Prelude.{cond}
use Rattle.std.specs.List.{position_from}
use Rattle.pg_rows.proofs.NamedRows.{is_named, first_named}
use Rattle.pg_rows.proofs.columns.Columns.find_short.Goals as goal

pub returns-then-same_short : goal.returns-then-same_short
returns-then-same_short c =
    let l = c.loop-at in
    let name = c.args.name.now in
    let items = c.deref-held-items.result.now in
    let held = c.held-item.result in
    let here : drop l.at items ≡ held ∷ drop (l.at + 1) items = drop_more items l.at held (omega arith) ∙ ap (λ y. y ∷ drop (l.at + 1) items) (sym c.held-item.is) in
    let same : is_named name held ≡ true = search rules in
    let all : map string_bytes items ≡ c.args.self.now = ap (map string_bytes) c.deref-held-items.ensures.value ∙ c.self.view_is in
    sym (ap (λ b. cond b (Some l.at) (position_from (is_named name) (l.at + 1) (drop (l.at + 1) items))) same)
    ∙ sym (ap (position_from (is_named name) l.at) here)
    ∙ sym l.invariant
    ∙ sym (first_named name items)
    ∙ ap (position (bytes_eq name)) all

pub returns : goal.returns
returns c =
    let l = c.loop-at in
    let name = c.args.name.now in
    let items = c.deref-held-items.result.now in
    let all : map string_bytes items ≡ c.args.self.now = ap (map string_bytes) c.deref-held-items.ensures.value ∙ c.self.view_is in
    sym (ap (position_from (is_named name) l.at) (drop_all l.at items (omega arith)))
    ∙ sym l.invariant
    ∙ sym (first_named name items)
    ∙ ap (position (bytes_eq name)) all

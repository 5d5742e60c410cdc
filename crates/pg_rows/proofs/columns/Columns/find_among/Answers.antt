use Rattle.std.proofs.Common.{◌≡◌, take, map, position, bytes_eq, string_bytes, sym, ap, ◌∙◌, subst}
use Rattle.std.proofs.lemmas.List.{take-map}
use Rattle.std.specs.List.{position_from}
use Rattle.std.specs.List.Sorted.{IsStrictlySortedBy}
use Rattle.pg_meaning.specs.Order.{text_order}
use Rattle.pg_rows.proofs.NamedRows.{first_place}
use Rattle.pg_rows.proofs.Rising.{found_first}
use Rattle.pg_rows.proofs.columns.Columns.find_among.Goals as goal

pub place_among-requires : goal.place_among-requires
place_among-requires c =
    let n = c.self.inside.rising in
    let items = c.self.inside.names.items in
    let part : take n (map string_bytes items) ≡ map string_bytes (take n c.deref.result.now) = take-map string_bytes n items ∙ ap (λ xs. map string_bytes (take n xs)) (sym c.deref.ensures.value) in
    subst (IsStrictlySortedBy text_order) part c.self.invariant.0.1

pub returns-in-Some : goal.returns-in-Some
returns-in-Some c =
    let n = c.self.inside.rising in
    let items = c.self.inside.names.items in
    let t = bytes_eq c.args.name.now in
    let part : take n (map string_bytes items) ≡ map string_bytes (take n c.deref.result.now) = take-map string_bytes n items ∙ ap (λ xs. map string_bytes (take n xs)) (sym c.deref.ensures.value) in
    let among = ap (position_from t 0) part ∙ sym (first_place c.args.name.now (map string_bytes (take n c.deref.result.now))) ∙ sym c.place_among.ensures ∙ c.in-Some.is in
    let all = ap (position t) (sym c.self.view_is) ∙ first_place c.args.name.now (map string_bytes items) ∙ found_first t (map string_bytes items) n c.in-Some.at among in
    sym all

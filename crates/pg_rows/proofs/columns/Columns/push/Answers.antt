use Rattle.std.proofs.Common.{rules, vec_len, ◌≡◌, ◌++◌, ◌∷◌, [], length, map, string_bytes, sym, ap, ◌∙◌, subst}
use Rattle.std.proofs.lemmas.List.{map-append, length-map}
use Rattle.std.specs.Prelude.{cond}
use Rattle.pg_rows.proofs.FirstNames.{firsts_with}
use Rattle.pg_rows.proofs.Rising.{rising_with}
use Rattle.pg_rows.proofs.columns.Columns.push.Goals as goal
use Rattle.pg_rows.specs.Named.{AreFirsts}
use Rattle.pg_rows.specs.Rising.{FirstRise}

pub invariant_of-self-2 : goal.invariant_of-self-2
invariant_of-self-2 c =
    let names = c.args.self.now in
    let name = c.args.name.now in
    let items = c.self.inside.names.items in
    let pushed : map string_bytes c.push.new.self.items ≡ names ++ name ∷ [] =
    ap (map string_bytes) c.in_ok-push.ensures.items
    ∙ map-append string_bytes items (c.in_ok-from_str.field-0 ∷ [])
    ∙ ap (λ xs. xs ++ string_bytes c.in_ok-from_str.field-0 ∷ []) c.self.view_is
    ∙ ap (λ x. names ++ x ∷ []) c.in_ok-from_str.ensures.ok in
    let len : vec_len c.push.new.self ≡ length c.push.new.self.items = search rules in
    let all : length c.push.new.self.items ≡ length (names ++ name ∷ []) = sym (length-map c.push.new.self.items string_bytes) ∙ ap length pushed in
    let rising : c.count_if-self-inside.result ≡ cond c.still_rises-still_rises.result (length (names ++ name ∷ [])) c.self.inside.rising =
    c.count_if-self-inside.ensures ∙ ap (λ k. cond c.still_rises-still_rises.result k c.self.inside.rising) (c.len.ensures ∙ len ∙ all) in
    let firsts : c.count_if-self-inside-2.result ≡ cond c.is_next_first-is_first.result (length (names ++ name ∷ [])) c.self.inside.firsts =
    c.count_if-self-inside-2.ensures ∙ ap (λ k. cond c.is_next_first-is_first.result k c.self.inside.firsts) (c.len-2.ensures ∙ len ∙ all) in
    let before = subst (λ ns. FirstRise c.self.inside.rising ns × AreFirsts c.self.inside.firsts ns) c.self.view_is c.self.invariant in
    subst
    (λ ns. FirstRise c.count_if-self-inside.result ns × AreFirsts c.count_if-self-inside-2.result ns)
    (sym pushed) (
      subst (λ k. FirstRise k (names ++ name ∷ [])) (sym rising) (rising_with c.still_rises-still_rises.result name names c.self.inside.rising before.0 c.still_rises-still_rises.ensures),
      subst (λ k. AreFirsts k (names ++ name ∷ [])) (sym firsts) (firsts_with c.is_next_first-is_first.result name names c.self.inside.firsts before.1 c.is_next_first-is_first.ensures.firsts c.is_next_first-is_first.ensures.first),
    )

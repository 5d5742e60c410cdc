use Rattle.std.proofs.Common.{◌≡◌, ◌+◌, ℕ, List, ◌∷◌, drop, sym, ap, subst, ◌∙◌}
use Rattle.std.proofs.lemmas.List.{at_drop_more, at_drop_all}
use Rattle.std.specs.Prelude.{OnOk}
use Rattle.pg_tree_equality.specs.Codes.{with_names, with_text}
use Rattle.pg_syntax_tree.specs.View.{name_view, names_view}
use Rattle.pg_syntax_tree.specs.declared.expression.Name.{Name}
use Rattle.pg_tree_equality.proofs.codes.add_names.Goals as goal

pub loop-name-preserved : goal.loop-name-preserved
loop-name-preserved c =
    let l = c.loop-name in
    let xs = c.deref-name-items.result.now in
    let same = c.deref-name-items.ensures.value in
    let x = c.name-item.result in
    let rest = drop (l.name-index + 1) xs in
    let named = c.in_ok-add_text.ensures ∙ ap (λ (s : List ℕ). with_text s c.add_byte.new.code.items) c.as_str.ensures.value ∙ ap (with_text (name_view x).text) c.in_ok-add_byte.ensures in
    ap (λ ys. with_names (names_view (drop (l.name-index + 1) ys)) c.add_text.new.code.items) (sym same)
    ∙ ap (with_names (names_view rest)) named
    ∙ ap (λ (n : Name). with_names (names_view (n ∷ rest)) l.code.items) c.name-item.is
    ∙ sym (at_drop_more (λ ys. with_names (names_view ys) l.code.items) xs l.name-index x c.loop-name-test.true)
    ∙ ap (λ ys. with_names (names_view (drop l.name-index ys)) l.code.items) same
    ∙ l.invariant

pub returns : goal.returns
returns c =
    let l = c.loop-name in
    let last = c.add_byte-2 in
    let done = sym (at_drop_all (λ ys. with_names (names_view ys) l.code.items) c.deref-name-items.result.now l.name-index c.loop-name-test.false)
    ∙ ap (λ ys. with_names (names_view (drop l.name-index ys)) l.code.items) c.deref-name-items.ensures.value ∙ l.invariant in
    subst (λ (code : List ℕ). OnOk last.result (last.new.code.items ≡ code)) done last.ensures

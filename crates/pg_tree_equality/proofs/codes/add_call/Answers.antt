use Rattle.std.proofs.Common.{◌≡◌, ◌+◌, ◌++◌, ◌∷◌, [], ℕ, List, drop, sym, ap, subst, ◌∙◌}
use Rattle.std.proofs.lemmas.List.{at_drop_more, at_drop_all}
use Rattle.std.specs.Prelude.{OnOk}
use Rattle.std.specs.Str.{str_to_ascii_lowercase}
use Rattle.pg_tree_equality.specs.Codes.{with_byte, with_bytes, with_flag}
use Rattle.pg_tree_equality.proofs.codes.add_call.Goals as goal

pub loop-byte-preserved : goal.loop-byte-preserved
loop-byte-preserved c =
    let l = c.loop-byte in
    let xs = c.as_bytes-byte-items.result.now in
    let same = c.as_bytes-byte-items.ensures.value in
    ap (λ ys. with_bytes (str_to_ascii_lowercase (drop (l.byte-index + 1) ys)) c.push.new.self.items) (sym same)
    ∙ ap (with_bytes (str_to_ascii_lowercase (drop (l.byte-index + 1) xs))) (c.in_ok-push.ensures.items ∙ ap (λ (b : ℕ). l.code.items ++ b ∷ []) c.to_ascii_lowercase.ensures.value)
    ∙ sym (at_drop_more (λ ys. with_bytes (str_to_ascii_lowercase ys) l.code.items) xs l.byte-index 0 c.loop-byte-test.true)
    ∙ ap (λ ys. with_bytes (str_to_ascii_lowercase (drop l.byte-index ys)) l.code.items) same
    ∙ l.invariant

pub returns : goal.returns
returns c =
    let l = c.loop-byte in
    let last = c.add_flag-2 in
    let done = sym (at_drop_all (λ ys. with_bytes (str_to_ascii_lowercase ys) l.code.items) c.as_bytes-byte-items.result.now l.byte-index c.loop-byte-test.false)
    ∙ ap (λ ys. with_bytes (str_to_ascii_lowercase (drop l.byte-index ys)) l.code.items) c.as_bytes-byte-items.ensures.value ∙ l.invariant in
    let starred = c.in_ok-add_flag.ensures ∙ ap (with_flag c.args.star) (c.in_ok-add_byte.ensures ∙ ap (with_byte 255) done) in
    subst (λ (code : List ℕ). OnOk last.result (last.new.code.items ≡ with_flag c.args.distinct code)) starred last.ensures

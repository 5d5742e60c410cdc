use Rattle.std.proofs.Common.{◌≡◌, ◌++◌, ℕ, List, sym, ap, subst, ◌∙◌}
use Rattle.std.specs.Prelude.{OnOk}
use Rattle.pg_tree_equality.proofs.CodeSteps.{bytes_are}
use Rattle.pg_tree_equality.specs.Codes.{with_byte}
use Rattle.pg_tree_equality.proofs.codes.add_text.Goals as goal

pub returns : goal.returns
returns c =
    let was = c.args.code.now.items in
    let text = c.args.text.now in
    let last = c.add_byte in
    let written = c.in_ok-extend_from_slice.ensures.items ∙ ap (λ (bs : List ℕ). was ++ bs) c.as_bytes.ensures.value ∙ sym (bytes_are text was) in
    subst (λ (code : List ℕ). OnOk last.result (last.new.code.items ≡ with_byte 255 code)) written last.ensures

use Rattle.std.proofs.Common.{◌++◌, ℕ, List, sym, ap, ◌∙◌}
use Rattle.std.specs.Int.{to_le_bytes, w64}
use Rattle.pg_tree_equality.proofs.CodeSteps.{bytes_are}
use Rattle.pg_tree_equality.proofs.codes.add_number.Goals as goal

pub returns : goal.returns
returns c =
    let was = c.args.code.now.items in
    c.in_ok-extend_from_slice.ensures.items ∙ ap (λ (bs : List ℕ). was ++ bs) c.to_le_bytes.ensures ∙ sym (bytes_are (to_le_bytes w64 c.args.number) was)

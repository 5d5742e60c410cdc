use Rattle.std.proofs.Common.{◌≡◌, ℕ, List, None, map, length, take, arith, sym, ap, subst, ◌∙◌}
use Rattle.std.proofs.Math.Seq.{take-append_seam}
use Rattle.std.specs.List.{AllByRecursion}
use Rattle.pg_graph.proofs.places.insert_blanks.Goals as goal
use Rattle.pg_graph.specs.Records.{value_in}
use Rattle.pg_value_core.specs.declared.value.Value.{Value}
use Rattle.pg_value_core.specs.declared.value.Value.TheVariants.{Null}

pub merge_blanks-requires-clause-absent : goal.merge_blanks-requires-clause-absent
merge_blanks-requires-clause-absent c =
    let es = c.args.entries.now.items in
    let count : c.len-count.result ≡ length es = omega (arith, c.len-count.ensures) in
    let front = ap (λ n. take n c.push_blanks.new.entries.items) count ∙ ap (take (length es)) c.in_ok-push_blanks.ensures.ok ∙ take-append_seam es (map (λ key. (key, Null)) c.args.keys.now) in
    subst (λ (xs : List (ℕ × Value)). AllByRecursion (λ key. value_in xs key ≡ None) c.args.keys.now) (sym front) c.requires.absent

use Rattle.std.proofs.Common.{◌<◌, ◌≤◌, ◌+◌, ◌-◌, min, drop, length, arith, refl, ap, ◌∙◌}
use Rattle.pg_json.proofs.Held.{held_count, held_after, held_dropped, held_left}
use Rattle.pg_json.proofs.held_rows.HeldRows.skip.Goals as goal

pub overflow_sub-len : goal.overflow_sub-len
overflow_sub-len c = let all = held_count _ _ _ _ c.self.invariant in omega (arith, all, c.self.invariant.given)

pub invariant_of-self : goal.invariant_of-self
invariant_of-self c =
    let h = c.self.invariant in
    let all = held_count _ _ _ _ h in
    let some : 0 < c.min-count.result = omega arith in
    let within : c.self.inside.next + c.min-count.result ≤ length c.self.inside.row_ends.items = omega (arith, all, h.given) in
    held_after _ _ _ _ h c.min-count.result c.index.result.now some within c.index.ensures _ refl

pub returns-then-count-gt0 : goal.returns-then-count-gt0
returns-then-count-gt0 c =
    let h = c.self.invariant in
    let all = held_count _ _ _ _ h in
    let some : 0 < c.min-count.result = omega arith in
    let within : c.self.inside.next + c.min-count.result ≤ length c.self.inside.row_ends.items = omega (arith, all, h.given) in
    held_left _ _ _ _ h c.min-count.result c.index.result.now some within c.index.ensures _ refl
    ∙ held_dropped _ _ _ _ h c.args.size c.min-count.result (c.min-count.ensures ∙ ap (λ n. min c.args.size (n - c.self.inside.next)) (omega arith)) ∙ ap (drop c.args.size) c.self.view_is

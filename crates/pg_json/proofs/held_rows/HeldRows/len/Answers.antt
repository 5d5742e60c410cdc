use Rattle.std.proofs.Common.{◌-◌, length, arith, sym, ap, ◌∙◌}
use Rattle.pg_json.proofs.Held.{held_count, held_length}
use Rattle.pg_json.proofs.held_rows.HeldRows.len.Goals as goal

pub overflow_sub-result : goal.overflow_sub-result
overflow_sub-result c = let all = held_count _ _ _ _ c.self.invariant in omega (arith, all, c.self.invariant.given)

pub returns : goal.returns
returns c = ap (λ n. n - c.self.inside.next) (omega arith) ∙ sym (held_length _ _ _ _ c.self.invariant) ∙ ap length c.self.view_is

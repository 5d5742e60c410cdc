use Rattle.std.proofs.Common.{get_or, arith}
use Rattle.std.specs.Int.{IsInRange}
use Rattle.pg_json.proofs.Numbers.{value_fits, value_may_grow, one_more_digit, value_of_one_more}
use Rattle.pg_json.proofs.number.short_number.Goals as goal

pub overflow_mul-number : goal.overflow_mul-number
overflow_mul-number c = let l = c.loop-byte in omega (arith, value_may_grow c.args.bytes.now l.byte-index l.invariant.0 (omega arith))

pub overflow_add-number : goal.overflow_add-number
overflow_add-number c = let l = c.loop-byte in omega (arith, value_may_grow c.args.bytes.now l.byte-index l.invariant.0 (omega arith))

pub loop-byte-preserved : goal.loop-byte-preserved
loop-byte-preserved c =
    let bs = c.args.bytes.now in
    let i = c.loop-byte.byte-index in
    let so_far = c.loop-byte.invariant.0 in
    let digit : IsInRange 48 57 (get_or bs i 0) = (omega arith, omega arith) in (
      one_more_digit bs i so_far c.loop-byte-test.true digit,
      omega (arith, value_of_one_more bs i so_far c.loop-byte-test.true digit),
    )

pub returns-clause-within : goal.returns-clause-within
returns-clause-within c = let l = c.loop-byte in omega (arith, value_fits c.args.bytes.now l.byte-index l.invariant.0 (omega arith))

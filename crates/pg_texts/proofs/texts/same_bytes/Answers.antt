use Rattle.std.proofs.Common.{rules, arith, length, ◌-◌}
use Rattle.pg_texts.proofs.Words.{joined, told}
use Rattle.pg_texts.proofs.texts.same_bytes.Goals as goal

pub returns : goal.returns
returns c =
    let xs = c.args.one.now in
    let ys = c.args.other.now in
    let n = length xs in
    told xs ys _ c.requires.same
    (λ is. joined xs ys 0 4 (n - 4) n (omega arith) (search rules) (search rules))
    (search rules)

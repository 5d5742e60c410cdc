use Rattle.std.proofs.Common.{◌≡◌, List, ℕ, take, drop, ◌-◌, ap, arith}
use Rattle.pg_syntax.proofs.Cuts.{cut_is, cut_none}
use Rattle.pg_syntax.proofs.projections.source_of.Goals as goal

pub returns-in_default : goal.returns-in_default
returns-in_default c = cut_none _ _ _ _ (ap (λ (bs : List ℕ). take (c.args.finish - c.args.start) (drop c.args.start bs)) c.as_bytes.ensures.value) c.in_default.ensures.cases.0

pub returns : goal.returns
returns c =
    let h = c.in-Ok.ensures.cases in
    let whole : take (c.args.finish - c.args.start) (drop c.args.start c.as_bytes.result.now) ≡ take (c.args.finish - c.args.start) (drop c.args.start c.args.text.now) =
    ap (λ (bs : List ℕ). take (c.args.finish - c.args.start) (drop c.args.start bs)) c.as_bytes.ensures.value in
    rw (c.in_ok-from_str.ensures.ok, h.0) (cut_is _ _ _ _ (omega arith) (omega arith) whole h.1)

use Rattle.std.proofs.Common.{sym, ◌∙◌, arith}
use Rattle.graphd.proofs.Numbers.{read_number}
use Rattle.graphd.proofs.command.number_of.Goals as goal

pub returns-else-starts_with : goal.returns-else-starts_with
returns-else-starts_with c =
    let first = c.starts_with.ensures.byte (omega arith) (omega arith) (λ w o found. found) in
    c.ok.ensures.value ∙ read_number 64 c.args.text.now c.parse.result c.parse.ensures.value.0 (sym first ∙ c.if-starts_with.false)

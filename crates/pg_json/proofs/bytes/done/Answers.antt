use Rattle.std.proofs.Common.{rules}
use Rattle.std.specs.Fmt.{digits}
use Rattle.serde_json.proofs.OnLiterals.{serde_json_on_literals}
use Rattle.pg_json.specs.Refusals.{done_text}
use Rattle.pg_json.proofs.bytes.done.Goals as goal

pub returns : goal.returns
unfolding serde_json_on_literals digits done_text
returns c = search rules

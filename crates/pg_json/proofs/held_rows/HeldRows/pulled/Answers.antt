use Rattle.std.proofs.Common.{rules}
use Rattle.pg_json.specs.Pages.{pulled_text}
use Rattle.pg_json.proofs.held_rows.HeldRows.pulled.Goals as goal

pub returns : goal.returns
unfolding pulled_text
returns c = search rules

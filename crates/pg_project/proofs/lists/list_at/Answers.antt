use Rattle.std.proofs.Common.{map, Ok, ap, sym, ◌∙◌}
use Rattle.pg_project.proofs.Unwinding.{items_again}
use Rattle.pg_meaning.specs.Answer.{◌>>=◌}
use Rattle.pg_meaning.specs.Reading.{unwound}
use Rattle.pg_meaning.specs.Value.{list}
use Rattle.pg_value_core.proofs.Forms.{list_seen}
use Rattle.pg_value_core.specs.View.{view}
use Rattle.pg_project.proofs.lists.list_at.Goals as goal

pub returns-in-List-clause-ok : goal.returns-in-List-clause-ok
returns-in-List-clause-ok g c =
    let owned = c.in_ok-owned_items-in-List in
    ap (λ a. a >>= unwound) c.in_ok-value.ensures.ok
    ∙ ap unwound (list_seen c.in-List.items (sym c.in-List.ensures))
    ∙ ap (λ vs. unwound (list vs)) (sym owned.ensures)
    ∙ ap Ok (items_again (map view owned.field-0.items))

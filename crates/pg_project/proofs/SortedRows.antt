-- The least of the rows are the first of the sorted rows.
use Rattle.std.proofs.Common.{◌≡◌, Bool, ℕ, List, length, sym, ap, subst, ◌∙◌}
use Rattle.pg_meaning.specs.Value.{Value as Datum}
use Rattle.pg_project.proofs.Moves.{least_moved, sorted_long}
use Rattle.pg_project.specs.Cuts.{Reaches}
use Rattle.pg_project.specs.Given.{Cut, cut_of}
use Rattle.pg_rows.specs.Sorts.{least_places, sorted_places}
use Rattle.pg_rows.specs.Tables.{EachBelow, moved_rows, rows_at_places}

pub let_in : (c : Cut) (width count most : ℕ) (rows keys found : List (List Datum)) (ds : List Bool) (ps : List ℕ) → Reaches c count most → count ≡ length keys → ps ≡ least_places most ds keys → EachBelow (length rows) ps
    → found ≡ moved_rows width rows ps → cut_of c found ≡ cut_of c (rows_at_places rows (sorted_places ds keys))
let_in c width count most rows keys found ds ps reaches counted least below moved =
    ap (cut_of c) (moved ∙ ap (moved_rows width rows) least ∙ least_moved width most rows keys ds (subst (EachBelow (length rows)) least below))
    ∙ reaches (rows_at_places rows (sorted_places ds keys)) (sorted_long rows keys ds ∙ sym counted)

-- The setting of a clause suits its columns.
use Rattle.std.specs.Prelude.{ℕ, List, refl}
use Rattle.pg_meaning.specs.Plans.{Anchor}
use Rattle.pg_meaning.specs.Value.{Entries}
use Rattle.pg_rows.specs.States.{Suits}
use Rattle.pg_run.specs.Runs.{setting_of}

pub suits_own : (parameters : Entries) (max_steps max_elements : ℕ) (names : List (List ℕ)) (anchors : List Anchor) → Suits (setting_of parameters max_steps max_elements names anchors) parameters max_steps names
suits_own parameters max_steps max_elements names anchors = record { parameters_are = refl; steps_are = refl; scope_is = refl }

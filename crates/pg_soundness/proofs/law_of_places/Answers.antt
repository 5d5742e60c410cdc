use Rattle.pg_soundness.proofs.PlacesCounted.{creation_is_charged, names_are_of_places}
use Rattle.pg_soundness.proofs.law_of_places.Goals as goal

pub returns-clause-charged : goal.returns-clause-charged
returns-clause-charged c = creation_is_charged

pub returns-clause-named : goal.returns-clause-named
returns-clause-named c = names_are_of_places

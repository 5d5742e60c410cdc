-- Which nodes are sought, and where ids are kept.
use Rattle.pg_store.specs.Covers.{Key, every, with_label, with_value}
use Rattle.pg_store.specs.declared.wanted.Place.{Place}
use Rattle.pg_store.specs.declared.wanted.Place.TheVariants as place
use Rattle.pg_store.specs.declared.wanted.Wanted.{Wanted}
use Rattle.pg_store.specs.declared.wanted.Wanted.TheVariants as wanted

abbrev pub wanted_key : Wanted → Key
wanted_key wanted.All = every
wanted_key (wanted.Labelled label) = with_label label
wanted_key (wanted.Valued label key value) = with_value label key value.now

abbrev pub place_key : Place → Key
place_key place.All = every
place_key (place.Labelled label) = with_label label
place_key (place.Valued label key value) = with_value label key value

-- Whether some text stands twice in a list.
use Rattle.std.specs.Prelude.{Bool, false, ◌||◌, [], ◌∷◌}
use Rattle.pg_meaning.specs.Names.{Names, is_among}

-- some text has come before: among these, or earlier in the list
abbrev pub has_duplicate : Names → Names → Bool
has_duplicate before [] = false
has_duplicate before (text ∷ texts) = is_among before text || has_duplicate (text ∷ before) texts

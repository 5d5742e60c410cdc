-- The tokens of a node and of a relationship, up to their properties and behind these.
use Rattle.std.specs.Prelude.{ℕ, List, [], ◌∷◌, ◌++◌, codes, decimal}
use Rattle.json.specs.Token.{Token, begin_object, end_object, key, number, string}
use Rattle.json.specs.Tree.{json_tokens}
use Rattle.serde_json.specs.Data.{Items, array}
use Rattle.serde_json.specs.Written.{outline}

abbrev pub node_begun : ℕ → Items → List Token
node_begun id labels = begin_object ∷ key (codes "$node") ∷ number (decimal id) ∷ key (codes "labels") ∷ json_tokens (outline (array labels)) ++ key (codes "properties") ∷ []

abbrev pub rel_begun : ℕ → ℕ → List Token
rel_begun id end = begin_object ∷ key (codes "$rel") ∷ number (decimal id) ∷ key (codes "end") ∷ number (decimal end) ∷ key (codes "properties") ∷ []

abbrev pub rel_ended : ℕ → List ℕ → List Token
rel_ended start kind = key (codes "start") ∷ number (decimal start) ∷ key (codes "type") ∷ string kind ∷ end_object ∷ []

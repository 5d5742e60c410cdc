use Rattle.std.proofs.Common.{◌∙◌, sym, ap, ℕ, List, ◌∷◌}
use Rattle.pg_meaning.specs.Tokens.{characters}
use Rattle.pg_lex.proofs.Texts.{characters_past}
use Rattle.pg_lex.proofs.text.split_first.Goals as goal

pub returns-clause-parts : goal.returns-clause-parts
returns-clause-parts c =
    characters_past _ _ c.in_ok-first.first c.utf8.text (sym c.chars-chars.ensures.rest ∙ c.in_ok-first.ensures.steps.0) ∙ ap (λ (l : List ℕ). c.in_ok-first.first ∷ characters l) (sym c.as_str.ensures)

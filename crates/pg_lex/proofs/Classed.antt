-- Lexemes by the class of their first character.
use Rattle.std.proofs.Common.{◌≡◌, ℕ, List, ◌∷◌, Option, Some, false, refl, sym, ap, ◌∙◌}
use Rattle.pg_meaning.specs.declared.lexemes.Keyword.{Keyword}
use Rattle.pg_meaning.specs.Tokens.{Class, letter, digit, class, lexeme_at, lexeme_by, parameter_at, parameter_by, worded, keyword_of, word_at, parameter, run, after, utf8, continues_word, is_digit}
use Rattle.pg_lex.specs.Scans.{parameter_front}
use Rattle.pg_lex.proofs.Classes.{digit_is}
use Rattle.pg_lex.proofs.Pairs.{both}
use Rattle.pg_lex.proofs.Reserved.{worded_word}
use Rattle.pg_lex.proofs.Runs.{word_is, digits_is}

module _ (cs b : List ℕ) (c : ℕ) (e : cs ≡ c ∷ b) where
  pub word_first : (r w : List ℕ) (o : Option Keyword) → letter ≡ class c → r ≡ after continues_word b → w ≡ utf8 (word_at c b) → o ≡ keyword_of w → lexeme_at cs ≡ Some (worded w o, r)
  word_first r w o h f g k =
      ap lexeme_at e ∙ ap (λ (t : Class). lexeme_by t c b) (sym h) ∙ worded_word (c ∷ b) w r (word_is c (c ∷ b) b r w refl f g) ∙ ap (λ (o : Option Keyword). both (worded w o) r) (sym k)

  pub word_named : (r w : List ℕ) → letter ≡ class c → r ≡ after continues_word b → w ≡ utf8 (word_at c b) → parameter_at cs ≡ Some (parameter false w, r)
  word_named r w h f g = ap parameter_at e ∙ ap (λ (t : Class). parameter_by t c b) (sym h) ∙ ap parameter_front (word_is c (c ∷ b) b r w refl f g)

  pub digits_named : (r w : List ℕ) → digit ≡ class c → r ≡ after is_digit b → w ≡ utf8 (c ∷ run is_digit b) → parameter_at cs ≡ Some (parameter false w, r)
  digits_named r w h f g = ap parameter_at e ∙ ap (λ (t : Class). parameter_by t c b) (sym h) ∙ ap parameter_front (digits_is c (c ∷ b) b r w refl (digit_is c (sym h)) f g)

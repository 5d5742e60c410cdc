-- The laws in the words of the contract.
use Rattle.std.proofs.Common.{◌≡◌, List, ℕ, Option, Some, None, Result, Ok, Err, Vec, Global, IfOk, IsErrOf, ok_or, option_map, sym, ◌∙◌}
use Rattle.std.specs.Str.{IsUtf8}
use Rattle.pg_meaning.specs.declared.fault.Fault.{Fault}
use Rattle.pg_meaning.specs.declared.fault.Fault.TheVariants.{BadLexeme}
use Rattle.pg_meaning.specs.Tokens.{Token, Lexes, tokens_of}
use Rattle.pg_lex.specs.declared.token.Token.{Token as CodeToken}
use Rattle.pg_lex.specs.View.{tokens_view}
use Rattle.pg_lex.proofs.Lexing.{lexes_exactly}

abbrev Answer : Type 0
Answer = Result (Vec CodeToken Global) Fault

abbrev Given : List ℕ → Option (Vec CodeToken Global) → Type 0
Given text o = option_map (λ ts. tokens_view ts.items) o ≡ tokens_of text

abbrev some : List Token → Option (List Token)
some ts = Some ts

abbrev fault : Fault → Answer
fault e = Err e

abbrev fine : Vec CodeToken Global → Answer
fine ts = Ok ts

same_some : (ts us : List Token) → some ts ≡ some us → ts ≡ us
same_some ts us e = cc

not_both : (ts : List Token) → None ≡ some ts → ⊥
not_both ts e = absurd cc

not_fine : (ts : Vec CodeToken Global) (e : Fault) → fine ts ≡ fault e → ⊥
not_fine ts e h = absurd cc

pub lexes_so : (text : List ℕ) (o : Option (Vec CodeToken Global)) → IsUtf8 text → Given text o → IfOk (ok_or o BadLexeme) (λ ts. Lexes text (tokens_view ts.items))
lexes_so text None u g = tt
lexes_so text (Some ts) u g = (lexes_exactly text u (tokens_view ts.items)).1 (sym g)

pub no_other : (text : List ℕ) (o : Option (Vec CodeToken Global)) → IsUtf8 text → Given text o → (us : List Token) → Lexes text us → IfOk (ok_or o BadLexeme) (λ ts. tokens_view ts.items ≡ us)
no_other text None u g us h = tt
no_other text (Some ts) u g us h = same_some (tokens_view ts.items) us (g ∙ (lexes_exactly text u us).0 h)

pub none_lexes : (text : List ℕ) (o : Option (Vec CodeToken Global)) → IsUtf8 text → Given text o → IsErrOf (ok_or o BadLexeme) BadLexeme → (us : List Token) → Lexes text us → ⊥
none_lexes text None u g e us h = not_both us (g ∙ (lexes_exactly text u us).0 h)
none_lexes text (Some ts) u g e us h = not_fine ts BadLexeme e

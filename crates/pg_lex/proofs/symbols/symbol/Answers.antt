use Rattle.std.proofs.Common.{◌≡◌, sym, None}
use Rattle.pg_meaning.specs.Tokens.{characters}
use Rattle.pg_lex.specs.Scans.{pair_front}
use Rattle.pg_lex.proofs.Signs.{pair_stands, sign_alone_stands, no_pair_stands, sign_found}
use Rattle.pg_lex.proofs.symbols.symbol.Goals.{in-Some+in_default-pair_of, in_default}
use Rattle.pg_lex.proofs.symbols.symbol.Goals as goal

pub returns : goal.returns
returns c =
    let none : pair_front (characters c.args.text.now) ≡ None = elim c.match-split_first.branch [
      | in-Some+in_default-pair_of w ↦ no_pair_stands _ _ _ c.in_ok-first.first w.in-Some.second c.in_ok-first.ensures.parts w.in-Some.ensures.parts w.in_default-pair_of.ensures
      | in_default w ↦ sign_alone_stands _ _ c.in_ok-first.first c.in_ok-first.ensures.parts w.in_default.ensures.parts
    ] in
    sign_found _ _ c.in_ok-first.first _ c.in_ok-first.ensures.parts none (sym c.in_ok-sign_of.ensures)

pub returns-in-Some-pair_of : goal.returns-in-Some-pair_of
returns-in-Some-pair_of c = pair_stands _ _ _ c.in_ok-first.first c.in-Some.second c.in-Some-pair_of.symbol c.in_ok-first.ensures.parts c.in-Some.ensures.parts c.in-Some-pair_of.ensures

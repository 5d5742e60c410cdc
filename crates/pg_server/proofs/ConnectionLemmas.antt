-- Connections that are served one after the other, one more at a time.
use Rattle.std.proofs.Common.{ℕ, suc, List, [], ◌∷◌, ◌++◌, refl, subst}
use Rattle.pg_server.specs.declared.end.End.{End}
use Rattle.pg_server.specs.Connections.{AnswersInTurn, endless}
use Rattle.pg_server.specs.Exchange.{Exchange, Chain}
use Rattle.pg_server.specs.Handles.{Handles}
use Rattle.pg_server.specs.Served.{untold}
use Rattle.pg_server.specs.Serves.{Serves}
use Rattle.pg_server.specs.State.{ServerState}
use Rattle.pg_server.proofs.RunLemmas.{Runs-of_chain}

Chain-append : {S : Type 0} (answers : S → List ℕ → List ℕ → S → Type 0) (old mid new : S) (es fs : List Exchange) → Chain answers old es mid → Chain answers mid fs new → Chain answers old (es ++ fs) new
Chain-append {S = S} answers old mid new [] fs chain more = subst (λ (s : S). Chain answers s fs new) chain more
Chain-append answers old mid new (e ∷ es) fs chain more = (chain.0, chain.1, Chain-append answers chain.0 mid new es fs chain.2 more)

pub none_answered : (s : ServerState) → AnswersInTurn 0 s s
none_answered s = record { exchanges = []; turns = (refl, refl); chain = refl; runs = Runs-of_chain s s [] refl }

pub one_answered : (n : ℕ) (old mid new : ServerState) (end : End) → AnswersInTurn n old mid → Serves untold untold mid new endless end → AnswersInTurn (suc n) old new
one_answered n old mid new end a s =
    let es : List Exchange = a.exchanges ++ s.0.transcript.exchanges in
    let chain : Chain Handles old es new = Chain-append Handles old mid new a.exchanges s.0.transcript.exchanges a.chain s.0.chain in
    record { exchanges = es; turns = (mid, a.exchanges, end, a.turns, s, refl); chain = chain; runs = Runs-of_chain old new es chain }

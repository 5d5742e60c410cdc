-- Two runs of one tenant alone that begin alike.
use Rattle.std.proofs.Common.{◌≡◌, List, [], ◌∷◌, Some, refl, sym, ap₂, ◌∙◌}
use Rattle.pg_server.specs.Exchange.{Exchange, replies_of}
use Rattle.pg_server.specs.Runs.{SoloRun, TwoWorlds, requests_of, asked}
use Rattle.pg_tenant.specs.Solo.{solo}
use Rattle.pg_tenant.specs.State.{State}

solo_alike : (s s' : State) (es es' : List Exchange) (n n' : State) → SoloRun s es n → SoloRun s' es' n' → s ≡ s' → requests_of es ≡ requests_of es'
    → (replies_of es ≡ replies_of es') × (n ≡ n')
solo_alike s s' [] [] n n' run run' same requests = (refl, run ∙ same ∙ sym run')
solo_alike s s' [] (e' ∷ es') n n' run run' same requests = cc
solo_alike s s' (e ∷ es) [] n n' run run' same requests = cc
solo_alike s s' (e ∷ es) (e' ∷ es') n n' run run' same requests =
    let first : asked e.body ≡ asked e'.body = cc in
    let others : requests_of es ≡ requests_of es' = cc in
    let one : Some run.0 ≡ Some run'.0 = sym run.1 ∙ first ∙ run'.1 in
    let request : run.0 ≡ run'.0 = cc in
    let rest = solo_alike (solo s run.0).state (solo s' run'.0).state es es' n n' run.4 run'.4 (ap₂ (λ t r. (solo t r).state) same request) others in
    let reply : e.reply ≡ e'.reply = run.2 ∙ ap₂ (λ t r. (solo t r).reply) same request ∙ sym run'.2 in
    (ap₂ (λ r rs. r ∷ rs) reply rest.0, rest.1)

pub two_worlds : TwoWorlds
two_worlds old new es old' new' es' t t' run run' same requests = solo_alike _ _ _ _ _ _ (run.solo t) (run'.solo t') same requests

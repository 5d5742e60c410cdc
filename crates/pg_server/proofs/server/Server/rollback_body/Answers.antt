use Rattle.std.proofs.Common.{◌≡◌, ◌<◌, Some, length, true, arith, ap, subst, ◌∙◌}
use Rattle.std.proofs.lemmas.Bool.{le-leb}
use Rattle.pg_json.specs.Requests.{rollback}
use Rattle.pg_live.specs.Live.{graphs_of}
use Rattle.pg_server.specs.Frames.{body_limit}
use Rattle.pg_server.specs.Runs.{asked, is_short}
use Rattle.pg_server.specs.State.{ServerState, state_at}
use Rattle.pg_server.specs.Transactions.{RollsBack}
use Rattle.pg_server.proofs.HoldLemmas.{state_seen}
use Rattle.pg_server.proofs.StepLemmas.{asked_is}
use Rattle.pg_server.proofs.TenantLemmas.{rolls_back}
use Rattle.pg_tenant.specs.TenantStates.{token_at}
use Rattle.pg_server.proofs.server.Server.rollback_body.Goals as goal

pub returns : goal.returns
returns g c =
    let tenants = c.self.inside.tenants.items in
    let live = c.self.inside.graphs in
    let was = c.index.result.now in
    let body = c.in-Some-rollback_body.body in
    let lt : c.args.place < length tenants = omega (arith, c.if-place-len.false, c.len.ensures, c.self.inside.tenants.ok.0) in
    let short : is_short body.items ≡ true = le-leb (length body.items) body_limit (omega (arith, c.if-len-gt-MAX_BODY.false, body.ok.0)) in
    let shows : asked body.items ≡ Some (rollback (token_at was.settings c.in-Some.holder)) =
    asked_is body.items (rollback c.token_at.result.now) short c.in-Some-rollback_body.ensures ∙ ap (λ t. Some (rollback t)) c.token_at.ensures in
    subst (λ (s : ServerState). RollsBack (state_at s c.args.place) (asked body.items)) (ap state_seen c.self.view_is)
    (rolls_back tenants (graphs_of live) live.aside.begins c.args.place was c.in-Some.holder (asked body.items) lt c.index.ensures c.in-Some.ensures shows)

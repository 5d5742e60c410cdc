-- The instances of runs with transactions.
use Rattle.std.proofs.Common.{◌≡◌, ℕ, Bool, true, false, List, [], ◌∷◌, Some, None, bytes_eq, arith, refl, sym, ap, ◌∙◌, inl, inr}
use Rattle.std.specs.Prelude.{◌⊎◌, ◌&&◌, codes}
use Rattle.std.proofs.lemmas.Slice.Eq.{bytes_eq-Decides}
use Rattle.pg_json.proofs.Codes.{done_is_no_refusal}
use Rattle.pg_json.specs.Refusals.{refusal_text, done_text}
use Rattle.pg_json.specs.Requests.{Request, status, begin, commit, rollback}
use Rattle.pg_meaning.specs.Graph.{Graph}
use Rattle.pg_meaning.specs.declared.fault.Fault.TheVariants.{NoTransaction, TenantBusy, TransactionOpen, OutOfMemory}
use Rattle.pg_server.specs.InstancesOfTransactions.{InstancesOfExchanges, InstancesOfKeysInTransactions, InstancesOfTransactions, InstancesOfWaiting, done_by, neighbour, one_open}
use Rattle.pg_server.specs.Runs.{SoloRun, asked, is_want_of_memory}
use Rattle.pg_server.specs.Transactions.{asks_end}
use Rattle.pg_server.proofs.InstanceLemmas.{told_alike}
use Rattle.pg_server.proofs.TransactionLemmas.{answered_alone}
use Rattle.pg_tenant.specs.Answers.{limited}
use Rattle.pg_tenant.specs.InstancesOfTransactions.{idle, mid, one_node}
use Rattle.pg_tenant.specs.Solo.{solo, status_text}
use Rattle.pg_tenant.specs.State.{State, Transaction, opening}

-- a run of one exchange that was done
of_done : (s new : State) (body : List ℕ) (request : Request) → asked body ≡ Some request → SoloRun s (done_by body ∷ []) new → (done_text ≡ (solo s request).reply) × (new ≡ (solo s request).state)
of_done s new body request asks run =
    let found : Some run.0 ≡ Some request = sym run.1 ∙ asks in
    let it : run.0 ≡ request = cc in
    (run.2 ∙ ap (λ r. (solo s r).reply) it, run.4 ∙ ap (λ r. (solo s r).state) it)

-- what a run of one exchange leaves is one state
some_is_none : (t : Transaction) → Some t ≡ None → ⊥
some_is_none t e = cc

node_is_none : one_node ≡ idle.graph → ⊥
node_is_none e = absurd (omega (arith, ap (λ (g : Graph). g.next_node) e))

module _ (begins commits rolls_back : List ℕ) (new : State) (asks_begin : asked begins ≡ Some (begin (codes "w"))) (asks_commit : asked commits ≡ Some (commit (codes "w")))
    (asks_rollback : asked rolls_back ≡ Some (rollback (codes "w"))) where
  stays_open : SoloRun idle (done_by begins ∷ []) idle → ⊥
  stays_open run = some_is_none (record { token = codes "w"; begun = idle.graph }) (sym (ap (λ (s : State). s.transaction) (of_done idle idle begins (begin (codes "w")) asks_begin run).1))

  begun_twice : SoloRun idle (done_by begins ∷ done_by begins ∷ []) new → ⊥
  begun_twice run =
      let found : Some run.0 ≡ Some (begin (codes "w")) = sym run.1 ∙ asks_begin in
      let it : run.0 ≡ begin (codes "w") = cc in
      let after = (solo idle run.0).state in
      let again : done_text ≡ (solo after (begin (codes "w"))).reply = (of_done after new begins (begin (codes "w")) asks_begin run.4).0 in
      done_is_no_refusal TransactionOpen (again ∙ ap (λ r. (solo (solo idle r).state (begin (codes "w"))).reply) it)

pub instances_of_transactions : InstancesOfTransactions
instances_of_transactions begins commits rolls_back new asks_begin asks_commit asks_rollback = (
  (begin (codes "w"), asks_begin, refl, tt, (rollback (codes "w"), asks_rollback, refl, tt, refl)),
  stays_open begins commits rolls_back new asks_begin asks_commit asks_rollback,
  begun_twice begins commits rolls_back new asks_begin asks_commit asks_rollback,
  (λ run. done_is_no_refusal NoTransaction (of_done idle new commits (commit (codes "w")) asks_commit run).0),
  (λ run. done_is_no_refusal NoTransaction (of_done idle new rolls_back (rollback (codes "w")) asks_rollback run).0),
  (rollback (codes "w"), asks_rollback, refl, tt, refl),
  (commit (codes "w"), asks_commit, refl, tt, refl),
  (λ run. some_is_none _ (ap (λ (s : State). s.transaction) (of_done mid mid commits (commit (codes "w")) asks_commit run).1)),
  (rollback (codes "w"), asks_rollback, refl, tt, refl),
  (λ run. node_is_none (ap (λ (s : State). s.graph) (of_done mid (record idle { graph = one_node }) rolls_back (rollback (codes "w")) asks_rollback run).1)),
)

-- ---- exchanges that end a transaction

is_done : bytes_eq done_text done_text ≡ true
is_done = (bytes_eq-Decides done_text done_text).1 refl

refused_is_not : (b : Bool) → bytes_eq (refusal_text TenantBusy) done_text ≡ b → bytes_eq (refusal_text TenantBusy) done_text ≡ false
refused_is_not false is = is
refused_is_not true is = absurd (done_is_no_refusal TenantBusy (sym ((bytes_eq-Decides (refusal_text TenantBusy) done_text).0 is)))

pub instances_of_exchanges : InstancesOfExchanges
instances_of_exchanges body = (
  (λ asks. ap (λ r. asks_end r && bytes_eq done_text done_text) asks ∙ is_done),
  (λ asks. ap (λ r. asks_end r && bytes_eq done_text done_text) asks ∙ is_done),
  (λ asks. ap (λ r. asks_end r && bytes_eq (refusal_text TenantBusy) done_text) asks ∙ refused_is_not (bytes_eq (refusal_text TenantBusy) done_text) refl),
  (λ asks. ap (λ r. asks_end r && bytes_eq done_text done_text) asks),
  (λ asks. ap (λ r. asks_end r && bytes_eq done_text done_text) asks),
)

-- ---- who waits

or_memory : {A : Type 0} (reply : List ℕ) (b : Bool) → is_want_of_memory reply ≡ b → ((reply ≡ refusal_text OutOfMemory → ⊥) → A) → A ⊎ (reply ≡ refusal_text OutOfMemory)
or_memory reply true is f = inr ((bytes_eq-Decides reply (refusal_text OutOfMemory)).0 is)
or_memory reply false is f = inl (f (λ same. let no : is_want_of_memory reply ≡ true = (bytes_eq-Decides reply (refusal_text OutOfMemory)).1 same in cc))

pub instances_of_waiting : InstancesOfWaiting
instances_of_waiting body reply new run = (
  (λ asks. or_memory reply (is_want_of_memory reply) refl (λ answered. answered_alone one_open new (record { body = body; reply = reply }) (status (codes "v")) 0 run asks refl answered)),
  (λ asks. or_memory reply (is_want_of_memory reply) refl
      (λ answered. answered_alone one_open new (record { body = body; reply = reply }) (status (codes "b")) 1 run asks refl answered ∙ told_alike (opening neighbour) (limited (status_text (opening neighbour))))),
)

pub instances_of_keys_in_transactions : InstancesOfKeysInTransactions
instances_of_keys_in_transactions = (refl, refl, refl, refl, refl, refl)

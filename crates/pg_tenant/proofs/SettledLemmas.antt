-- A query's answer, once its changes are kept or taken back; and calls that left the graph.
use Rattle.std.proofs.Common.{◌≡◌, ◌≢◌, ℕ, Bool, List, Result, Ok, Err, refl, ap, sym, subst}
use Rattle.std.specs.Prelude.{IfErr, IfOk, OnErr, OnOk}
use Rattle.pg_json.specs.Pages.{QueryText}
use Rattle.pg_live.specs.Live.{Aside, Live, begun_at}
use Rattle.pg_live.specs.Settled.{Settles}
use Rattle.pg_meaning.specs.Graph.{Graph}
use Rattle.pg_meaning.specs.Queries.{Outcome}
use Rattle.pg_meaning.specs.declared.fault.Fault.{Fault}
use Rattle.pg_meaning.specs.declared.fault.Fault.TheVariants.{OutOfMemory}
use Rattle.pg_names.specs.Names.{KeepsNames}
use Rattle.pg_pages.specs.Held.{Held}
use Rattle.pg_tenant.specs.Answers.{Answered, answered}
use Rattle.pg_tenant.specs.Replies.{IsAnswer, IsShown}

-- what is shown stays, with the graph that is kept
pub shown_settled : (result reply : Result (List ℕ) Fault) (shown : Result Answered Fault) (mid end : Graph) (old new : Held) → result ≡ reply → IsShown reply shown mid old new → OnOk result (end ≡ mid)
    → IsShown result shown end old new
shown_settled result reply shown mid end old new same is kept = by_result result (subst (λ r. IsShown r shown mid old new) (sym same) is) kept
  where
    by_result : (r : Result (List ℕ) Fault) → IsShown r shown mid old new → OnOk r (end ≡ mid) → IsShown r shown end old new
    by_result (Ok bytes) is kept = subst (λ (g : Graph). shown ≡ Ok (answered bytes g new)) (sym kept) is
    by_result (Err e) is kept = is

-- nothing was done
pub nothing_done : {L X E : Type 0} (l : Live L) (r : Result X E) → Settles l l r
nothing_done l (Ok x) = record { same = tt; same_names = tt; kept = λ n t h. h; others = refl; place = refl; begins = refl; pairs = refl }
nothing_done l (Err e) = record { same = refl; same_names = refl; kept = λ n t h. h; others = refl; place = refl; begins = refl; pairs = refl }

-- work began anew in the same graph
pub anew : {L X E : Type 0} (old new : Live L) (r : Result X E) → new.graph ≡ old.graph → OnErr r (new.names ≡ old.names) → KeepsNames old.names new.names → new.aside ≡ begun_at old.graph new.names old.aside → Settles old new r
anew {X = X} {E = E} old new r graph names kept aside = record {
  same = by r;
  same_names = names;
  kept = kept;
  others = ap (λ (a : Aside). a.others) aside;
  place = ap (λ (a : Aside). a.place) aside;
  begins = ap (λ (a : Aside). a.begins) aside;
  pairs = ap (λ (a : Aside). a.pairs) aside;
}
  where
    by : (r : Result X E) → OnErr r (new.graph ≡ old.graph)
    by (Ok x) = tt
    by (Err e) = graph

-- the reply to a query, or out of memory in its place
pub answer_or_refused : (notes : Bool) (result reply : Result QueryText Fault) (outcome : Result Outcome Fault) (end : Graph) → IfOk result (λ made. reply ≡ Ok made) → IfErr result (λ e. e ≢ OutOfMemory → reply ≡ Err e)
    → IsAnswer notes reply outcome end → IsAnswer notes result outcome end
answer_or_refused notes (Ok made) reply outcome end ok err answer = subst (λ r. IsAnswer notes r outcome end) ok answer
answer_or_refused notes (Err e) reply outcome end ok err answer = record { ok = tt; err = λ other. (subst (λ r. IsAnswer notes r outcome end) (err other) answer).err other }

-- What tells replies apart.
use Rattle.std.specs.Prelude.{◌≡◌, ◌≢◌, ℕ, List, Option}
use Rattle.pg_json.specs.Pages.{paged_text, pulled_text}
use Rattle.pg_json.specs.Refusals.{refusal_text, done_text}
use Rattle.pg_json.specs.Replies.{tenant_text}
use Rattle.pg_json.specs.Rows.{rows_text}
use Rattle.pg_json.specs.declared.status.TenantStatus.{TenantStatus}
use Rattle.pg_meaning.specs.declared.fault.Fault.{Fault}
use Rattle.serde_json.specs.Data.{Items}

abbrev pub RefusalsDiffer : Type 0
RefusalsDiffer = (f g : Fault) → refusal_text f ≡ refusal_text g → f ≡ g

abbrev pub RowsAreNoRefusals : Type 0
RowsAreNoRefusals = (columns : Items) (rows : List Items) (steps : ℕ) (f : Fault) → rows_text columns rows steps ≢ refusal_text f

abbrev pub PagesAreNoRefusals : Type 0
PagesAreNoRefusals = (columns : Items) (page : Option ℕ) (rows : List (List ℕ)) (steps : ℕ) (f : Fault) → paged_text columns page rows steps ≢ refusal_text f

abbrev pub PullsAreNoRefusals : Type 0
PullsAreNoRefusals = (page : Option ℕ) (rows : List (List ℕ)) (f : Fault) → pulled_text page rows ≢ refusal_text f

abbrev pub StatusesAreNoRefusals : Type 0
StatusesAreNoRefusals = (s : TenantStatus) (f : Fault) → tenant_text s ≢ refusal_text f

abbrev pub DoneIsNoRefusal : Type 0
DoneIsNoRefusal = (f : Fault) → done_text ≢ refusal_text f

-- Small requests and what a tenant answers them: some that the definitions let in, and some that they refuse.
use Rattle.std.specs.Prelude.{◌≡◌, ℕ, true, false, List, [], ◌∷◌, length, Option, Some, None, Ok, Err, codes}
use Rattle.pg_json.specs.Refusals.{refusal_text, done_text}
use Rattle.pg_json.specs.Requests.{query, status, create_index, drop_index, pull}
use Rattle.pg_meaning.specs.Grammar.{parameters_of}
use Rattle.pg_meaning.specs.Graph.{empty_graph}
use Rattle.pg_meaning.specs.Plans.{Catalogue, is_indexed}
use Rattle.pg_meaning.specs.Tree.{Query}
use Rattle.pg_meaning.specs.Value.{Entries}
use Rattle.pg_meaning.specs.declared.fault.Fault.{Fault}
use Rattle.pg_meaning.specs.declared.fault.Fault.TheVariants.{ReadOnly, MissingParameter, IndexExists, NoSuchIndex, TooManyIndexes, ReplyTooLong}
use Rattle.pg_pages.specs.Held.{no_pages}
use Rattle.pg_plan.specs.Updates.{updates}
use Rattle.pg_tenant.specs.Answers.{limited}
use Rattle.pg_tenant.specs.Changes.{may_change}
use Rattle.pg_tenant.specs.Indexes.{index_created}
use Rattle.pg_tenant.specs.Outcomes.{all_given, text_query}
use Rattle.pg_tenant.specs.Settings.{TenantSettings, TokenSettings, may_write}
use Rattle.pg_tenant.specs.Solo.{Replied, replies, solo}
use Rattle.pg_tenant.specs.State.{State}
use Rattle.pg_tenant.specs.declared.settings.Rights.{Rights}
use Rattle.pg_tenant.specs.declared.settings.Rights.TheVariants.{Read, Write}

abbrev pub token_with : Rights → List ℕ → TokenSettings
token_with rights text = record { text = text; rights = rights }

-- a tenant with a token that may write, and one that may not
abbrev pub writer : TenantSettings
writer = record { max_steps = 3; max_elements = 2; max_held = 5; tokens = token_with Write (codes "w") ∷ token_with Read (codes "a") ∷ [] }

abbrev pub state_with : Catalogue → State
state_with indexes = record { settings = writer; graph = empty_graph; indexes = indexes; transaction = None; held = no_pages }

abbrev pub bare : State
bare = state_with []

abbrev pub indexed : State
indexed = state_with ((codes "P", codes "k") ∷ [])

abbrev pub refused : State → Fault → Replied
refused s fault = replies (refusal_text fault) s

abbrev pub InstancesOfRights : Type 0
InstancesOfRights =
    (may_write writer (codes "w") ≡ true)
    × (may_write writer (codes "a") ≡ false)
    × (may_write writer (codes "b") ≡ false)

abbrev pub InstancesOfIndexes : Type 0
InstancesOfIndexes =
    (solo bare (create_index (codes "w") (codes "P") (codes "k")) ≡ replies done_text indexed)
    × (solo bare (create_index (codes "a") (codes "P") (codes "k")) ≡ refused bare ReadOnly)
    × (solo indexed (create_index (codes "w") (codes "P") (codes "k")) ≡ refused indexed IndexExists)
    × (solo indexed (drop_index (codes "w") (codes "P") (codes "k")) ≡ replies done_text bare)
    × (solo indexed (drop_index (codes "a") (codes "P") (codes "k")) ≡ refused indexed ReadOnly)
    × (solo bare (drop_index (codes "w") (codes "P") (codes "k")) ≡ refused bare NoSuchIndex)
    × (solo indexed (create_index (codes "w") (codes "P") (codes "b")) ≡ replies done_text (state_with ((codes "P", codes "b") ∷ (codes "P", codes "k") ∷ [])))
    × (solo indexed (create_index (codes "w") (codes "O") (codes "z")) ≡ replies done_text (state_with ((codes "O", codes "z") ∷ (codes "P", codes "k") ∷ [])))
    × ((indexes : Catalogue) → is_indexed indexes (codes "P", codes "k") ≡ false → length indexes ≡ 16 → index_created true false indexes (codes "P") (codes "k") ≡ Err TooManyIndexes)

-- the right to write is tested before parameters, and both before any clause
abbrev pub InstancesOfEarlyTests : Type 0
InstancesOfEarlyTests =
    (text : List ℕ) (q : Query) (parameters : Entries) (page : Option ℕ) → text_query text ≡ Ok q →
    (updates q ≡ true → solo bare (query (codes "a") text parameters page) ≡ refused bare ReadOnly)
    × (updates q ≡ false → all_given (parameters_of q) parameters ≡ false → solo bare (query (codes "a") text parameters page) ≡ refused bare MissingParameter)

-- a text that is refused
abbrev pub InstancesOfTexts : Type 0
InstancesOfTexts =
    (text : List ℕ) (fault : Fault) (parameters : Entries) (page : Option ℕ) → text_query text ≡ Err fault → solo bare (query (codes "a") text parameters page) ≡ refused bare fault

abbrev pub InstancesOfReplies : Type 0
InstancesOfReplies =
    (solo indexed (status (codes "a")) ≡ replies (codes "{\"code\":0,\"elements\":0,\"indexes\":[[\"P\",\"k\"]],\"max_elements\":2,\"max_steps\":3,\"next_node\":0,\"next_rel\":0}") indexed)
    × (refusal_text ReadOnly ≡ codes "{\"code\":4,\"error\":\"ReadOnly\"}")
    × (done_text ≡ codes "{\"code\":0}")
    × ((reply : List ℕ) → length reply ≡ 16777216 → limited reply ≡ Ok reply)
    × ((reply : List ℕ) → length reply ≡ 16777217 → limited reply ≡ Err ReplyTooLong)

-- what only reads changes nothing, unless it holds rows
abbrev pub InstancesOfChanges : Type 0
InstancesOfChanges =
    (token text : List ℕ) (parameters : Entries) (size : ℕ) (q : Query) → text_query text ≡ Ok q
    → (updates q ≡ true → may_change (query token text parameters None) ≡ true)
    × (updates q ≡ false → may_change (query token text parameters None) ≡ false)
    × (may_change (query token text parameters (Some size)) ≡ true)
    × (may_change (status token) ≡ false)
    × (may_change (pull token size) ≡ true)

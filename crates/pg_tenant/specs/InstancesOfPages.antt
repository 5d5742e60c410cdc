-- Small requests of pages, and what a tenant answers them: some that the definitions let in, and some that they refuse.
use Rattle.std.specs.Prelude.{◌≡◌, ℕ, List, [], ◌∷◌, Option, Some, None, Ok, Err, codes}
use Rattle.serde_json.specs.Data.{no_items}
use Rattle.pg_json.specs.Pages.{paged_text, pulled_text}
use Rattle.pg_json.specs.Requests.{query, pull, drop_page}
use Rattle.pg_meaning.specs.Meters.{greatest_id}
use Rattle.pg_meaning.specs.Value.{Entries}
use Rattle.pg_meaning.specs.declared.fault.Fault.TheVariants.{TenantBusy, TransactionOpen, NoSuchPage, HeldRowsQuota, IdsExhausted}
use Rattle.pg_pages.specs.Held.{Held, Page, first_page, no_pages}
use Rattle.pg_tenant.specs.InstancesOfTenants.{refused}
use Rattle.pg_tenant.specs.InstancesOfTransactions.{idle, mid}
use Rattle.pg_tenant.specs.Solo.{done, replies, solo}
use Rattle.pg_tenant.specs.State.{State}

abbrev pub page_with : (number : ℕ) → (token : List ℕ) → (rows : List (List ℕ)) → Page
page_with number token rows = record { number = number; token = token; size = 2; rows = rows }

abbrev pub holding : List Page → (next : ℕ) → State
holding pages next = record idle { held = record { pages = pages; next = next } }

abbrev pub one : List ℕ
one = codes "[1]"

abbrev pub two : List ℕ
two = codes "[2]"

abbrev pub three : List ℕ
three = codes "[3]"

-- w has three rows left under 0, and the token that may only read has two under 4
abbrev pub waiting : State
waiting = holding (page_with 0 (codes "w") (one ∷ two ∷ three ∷ []) ∷ page_with 4 (codes "a") (two ∷ one ∷ []) ∷ []) 7

-- a page is its token's alone; the last rows take it away, and its number isn't used again
abbrev pub InstancesOfPulls : Type 0
InstancesOfPulls =
    (solo waiting (pull (codes "w") 0)
    ≡ replies (pulled_text (Some 0) (one ∷ two ∷ [])) (holding (page_with 0 (codes "w") (three ∷ []) ∷ page_with 4 (codes "a") (two ∷ one ∷ []) ∷ []) 7))
    × (solo waiting (pull (codes "a") 4) ≡ replies (pulled_text None (two ∷ one ∷ [])) (holding (page_with 0 (codes "w") (one ∷ two ∷ three ∷ []) ∷ []) 7))
    × (solo waiting (pull (codes "a") 0) ≡ refused waiting NoSuchPage)
    × (solo waiting (pull (codes "w") 4) ≡ refused waiting NoSuchPage)
    × (solo waiting (pull (codes "w") 1) ≡ refused waiting NoSuchPage)
    × (solo waiting (drop_page (codes "w") 0) ≡ done (holding (page_with 4 (codes "a") (two ∷ one ∷ []) ∷ []) 7))
    × (solo waiting (drop_page (codes "v") 0) ≡ refused waiting NoSuchPage)
    × (solo mid (pull (codes "w") 0) ≡ refused mid TransactionOpen)
    × (solo mid (drop_page (codes "w") 0) ≡ refused mid TransactionOpen)
    × (solo mid (pull (codes "v") 0) ≡ refused mid TenantBusy)
    × ((text : List ℕ) (parameters : Entries) (size : ℕ) → solo mid (query (codes "w") text parameters (Some size)) ≡ refused mid TransactionOpen)
    × (pulled_text (Some 0) (one ∷ two ∷ []) ≡ codes "{\"code\":0,\"page\":0,\"rows\":[[1],[2]]}")
    × (pulled_text None [] ≡ codes "{\"code\":0,\"page\":null,\"rows\":[]}")

-- the first rows at once and the others held; where none are left no number is taken; the rows of all tokens count; the quota before the number
abbrev pub InstancesOfHeldRows : Type 0
InstancesOfHeldRows =
    (first_page no_pages 5 (codes "w") 2 no_items (one ∷ two ∷ three ∷ []) 4
    ≡ Ok (paged_text no_items (Some 0) (one ∷ two ∷ []) 4, record { pages = page_with 0 (codes "w") (three ∷ []) ∷ []; next = 1 }))
    × (first_page no_pages 5 (codes "w") 2 no_items (one ∷ two ∷ []) 4 ≡ Ok (paged_text no_items None (one ∷ two ∷ []) 4, no_pages))
    × (first_page waiting.held 5 (codes "w") 2 no_items (one ∷ two ∷ three ∷ []) 4 ≡ Err HeldRowsQuota)
    × (first_page waiting.held 6 (codes "v") 2 no_items (one ∷ two ∷ three ∷ []) 4
    ≡ Ok (
      paged_text no_items (Some 7) (one ∷ two ∷ []) 4,
      (holding (page_with 0 (codes "w") (one ∷ two ∷ three ∷ []) ∷ page_with 4 (codes "a") (two ∷ one ∷ [])
          ∷ page_with 7 (codes "v") (three ∷ []) ∷ []) 8).held,
    ))
    × (first_page (record { pages = []; next = greatest_id }) 0 (codes "w") 2 no_items (one ∷ two ∷ three ∷ []) 4 ≡ Err HeldRowsQuota)
    × (first_page (record { pages = []; next = greatest_id }) 1 (codes "w") 2 no_items (one ∷ two ∷ three ∷ []) 4 ≡ Err IdsExhausted)
    × (first_page (record { pages = []; next = greatest_id }) 0 (codes "w") 3 no_items (one ∷ two ∷ three ∷ []) 4
    ≡ Ok (paged_text no_items None (one ∷ two ∷ three ∷ []) 4, record { pages = []; next = greatest_id }))
    × (paged_text no_items (Some 0) (one ∷ two ∷ []) 4 ≡ codes "{\"code\":0,\"columns\":[],\"page\":0,\"rows\":[[1],[2]],\"steps\":4}")
    × (paged_text no_items None [] 4 ≡ codes "{\"code\":0,\"columns\":[],\"page\":null,\"rows\":[],\"steps\":4}")

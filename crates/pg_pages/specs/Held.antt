-- Rows of queries that wait to be pulled, each as it was printed: what holds them, what a pull gives and what it leaves.
use Rattle.std.specs.Prelude.{ℕ, ◌+◌, sum, nat_le, nat_lt, nat_eq, not, ◌&&◌, List, [], ◌∷◌, ◌++◌, length, map, filter, find, take, drop, Option, Some, None, option_map, Result, Ok, Err, if◌then◌else◌}
use Rattle.std.specs.Str.{bytes_eq}
use Rattle.serde_json.specs.Data.{Items}
use Rattle.pg_json.specs.Pages.{paged_text, pulled_text}
use Rattle.pg_meaning.specs.Answer.{◌>>=◌, ◌>>◌, unless}
use Rattle.pg_meaning.specs.Meters.{greatest_id}
use Rattle.pg_meaning.specs.declared.fault.Fault.{Fault}
use Rattle.pg_meaning.specs.declared.fault.Fault.TheVariants.{IdsExhausted, NoSuchPage, HeldRowsQuota}

-- the rows of one query that are left: their number, the token that may pull them, and how many it is given at a time
pub record Page : Type 0 where
  pub number : ℕ
  pub token : List ℕ
  pub size : ℕ
  pub rows : List (List ℕ)

-- the pages stand in the order of their numbers, and the next one has the number `next`
pub record Held : Type 0 where
  pub pages : List Page
  pub next : ℕ

abbrev pub no_pages : Held
no_pages = record { pages = []; next = 0 }

-- all rows that wait
abbrev pub held_rows : List Page → ℕ
held_rows pages = sum (map (λ p. length p.rows) pages)

-- ---- a query

-- these rows are held too, and the number under which they are; where there is none nothing is held
abbrev pub hold : Held → (max_held : ℕ) → (token : List ℕ) → (size : ℕ) → (rows : List (List ℕ)) → Result (Option ℕ × Held) Fault
hold held max_held token size [] = Ok (None, held)
hold held max_held token size (row ∷ rows) = do
  unless (nat_le (held_rows held.pages + length (row ∷ rows)) max_held) HeldRowsQuota
  unless (nat_lt held.next greatest_id) IdsExhausted
  let page : Page = record { number = held.next; token = token; size = size; rows = row ∷ rows }
  Ok (Some held.next, record { pages = held.pages ++ page ∷ []; next = held.next + 1 })

-- the reply that gives the first rows while the others are held
abbrev pub first_page : Held → (max_held : ℕ) → (token : List ℕ) → (size : ℕ) → (columns : Items) → (rows : List (List ℕ)) → (steps : ℕ) → Result (List ℕ × Held) Fault
first_page held max_held token size columns rows steps = do
  kept ← hold held max_held token size (drop size rows)
  Ok (paged_text columns kept.0 (take size rows) steps, kept.1)

-- ---- a page

-- the page of this number, if it is the token's
abbrev pub page_of : Held → (token : List ℕ) → (number : ℕ) → Result Page Fault
page_of held token number = elim (find (λ p. nat_eq p.number number && bytes_eq p.token token) held.pages) [ Some p ↦ Ok p | None ↦ Err NoSuchPage ]

-- the token that may pull the page of this number: this one, where the page is its, or else the one that it is held for
abbrev pub puller_of : Held → (token : List ℕ) → (number : ℕ) → Option (List ℕ)
puller_of held token number = elim (page_of held token number) [
  | Ok p ↦ Some token
  | Err fault ↦ option_map (λ p. p.token) (find (λ p. nat_eq p.number number) held.pages)
]

abbrev pub without_page : ℕ → List Page → List Page
without_page number pages = filter (λ p. not (nat_eq p.number number)) pages

-- other rows for the page of this number
abbrev pub given_rows : ℕ → List (List ℕ) → Page → Page
given_rows number rows p = if nat_eq p.number number then record p { rows = rows } else p

abbrev pub with_rows : ℕ → List (List ℕ) → List Page → List Page
with_rows number rows pages = map (given_rows number rows) pages

-- these rows are left of a page; without any it is gone
abbrev pub left_with : Page → (rows : List (List ℕ)) → Held → Option ℕ × Held
left_with p [] held = (None, record held { pages = without_page p.number held.pages })
left_with p (row ∷ rows) held = (Some p.number, record held { pages = with_rows p.number (row ∷ rows) held.pages })

-- the next rows of a page, and the number under which more are left
abbrev pub pulled : Held → (token : List ℕ) → (number : ℕ) → Result (List ℕ × Held) Fault
pulled held token number = do
  p ← page_of held token number
  let left = left_with p (drop p.size p.rows) held
  Ok (pulled_text left.0 (take p.size p.rows), left.1)

-- the page is gone
abbrev pub dropped : Held → (token : List ℕ) → (number : ℕ) → Result Held Fault
dropped held token number = do
  p ← page_of held token number
  Ok (record held { pages = without_page number held.pages })

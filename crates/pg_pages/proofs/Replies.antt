-- What is answered to a query and to a pull, case by case.
use Rattle.std.proofs.Common.{◌≡◌, ℕ, suc, ◌+◌, ◌-◌, ◌<◌, ◌≤◌, Bool, true, false, nat_le, nat_lt, List, [], ◌∷◌, ◌++◌, length, map, take, drop, Option, Some, None, Result, Ok, Err, refl, sym, ap, ◌∙◌, arith, length-drop}
use Rattle.std.proofs.lemmas.Grind.{common_steps}
use Rattle.std.proofs.lemmas.List.{drop_all}
use Rattle.serde_json.specs.Data.{Items}
use Rattle.pg_json.specs.Pages.{ends_from, paged_text, pulled_text, query_text, row_text, rows_start, QueryText}
use Rattle.pg_meaning.specs.Answer.{◌>>◌, ◌>>=◌, unless}
use Rattle.pg_meaning.specs.Meters.{greatest_id}
use Rattle.pg_meaning.specs.declared.fault.Fault.{Fault}
use Rattle.pg_meaning.specs.declared.fault.Fault.TheVariants.{HeldRowsQuota, IdsExhausted}
use Rattle.pg_pages.specs.Held as held
use Rattle.pg_pages.specs.Held.{Held, dropped, first_page, held_rows, hold, left_with, page_of, pulled, with_rows, without_page}
use Rattle.pg_pages.specs.Kept.{number_for, shown}
use Rattle.pg_pages.specs.declared.pages.Page.{Page}
use Rattle.pg_pages.proofs.Entries.{with_pages}

-- ---- a pull

abbrev pull_of : Held → held.Page → Result (List ℕ × Held) Fault
pull_of h p = let left = left_with p (drop p.size p.rows) h in Ok (pulled_text left.0 (take p.size p.rows), left.1)

pull_from : (h : Held) (token : List ℕ) (n : ℕ) (p : held.Page) → page_of h token n ≡ Ok p → pulled h token n ≡ pull_of h p
pull_from h token n p there = ap (λ (r : Result held.Page Fault). r >>= pull_of h) there

pub pulled_last : (h : Held) (token : List ℕ) (n : ℕ) (p : Page) → page_of h token n ≡ Ok (shown (n, p)) → length p.rows ≤ p.size
    → pulled h token n ≡ Ok (pulled_text None (take p.size p.rows), with_pages (without_page n h.pages) h.next)
pulled_last h token n p there last =
    pull_from h token n (shown (n, p)) there
    ∙ ap (λ (rs : List (List ℕ)). Ok (pulled_text (left_with (shown (n, p)) rs h).0 (take p.size p.rows), (left_with (shown (n, p)) rs h).1)) (drop_all p.size p.rows last)

more : (h : Held) (p : held.Page) (given rows : List (List ℕ)) → 0 < length rows
    → ◌≡◌ {A = List ℕ × Held} (pulled_text (left_with p rows h).0 given, (left_with p rows h).1) (pulled_text (Some p.number) given, with_pages (with_rows p.number rows h.pages) h.next)
more h p given [] long = absurd (omega arith)
more h p given (row ∷ rows) long = refl

pub pulled_more : (h : Held) (token : List ℕ) (n : ℕ) (p : Page) → page_of h token n ≡ Ok (shown (n, p)) → p.size < length p.rows
    → pulled h token n ≡ Ok (pulled_text (Some n) (take p.size p.rows), with_pages (with_rows n (drop p.size p.rows) h.pages) h.next)
pulled_more h token n p there left =
    pull_from h token n (shown (n, p)) there
    ∙ ap (λ (x : List ℕ × Held). Ok x) (more h (shown (n, p)) (take p.size p.rows) (drop p.size p.rows) (rw (length-drop p.size p.rows) (omega arith)))

pub pull_refused : (h : Held) (token : List ℕ) (n : ℕ) (e : Fault) → page_of h token n ≡ Err e → pulled h token n ≡ Err e
pull_refused h token n e there = ap (λ (r : Result held.Page Fault). r >>= pull_of h) there

-- ---- a page that is dropped

abbrev drop_of : Held → (n : ℕ) → held.Page → Result Held Fault
drop_of h n p = Ok (with_pages (without_page n h.pages) h.next)

pub dropped_page : (h : Held) (token : List ℕ) (n : ℕ) (p : held.Page) → page_of h token n ≡ Ok p → dropped h token n ≡ Ok (with_pages (without_page n h.pages) h.next)
dropped_page h token n p there = ap (λ (r : Result held.Page Fault). r >>= drop_of h n) there

pub drop_refused : (h : Held) (token : List ℕ) (n : ℕ) (e : Fault) → page_of h token n ≡ Err e → dropped h token n ≡ Err e
drop_refused h token n e there = ap (λ (r : Result held.Page Fault). r >>= drop_of h n) there

-- ---- a query

ends_of : (start : ℕ) (rows : List (List ℕ)) → length (ends_from start rows) ≡ length rows
ends_of start [] = refl
ends_of start (row ∷ rows) = ap (λ (k : ℕ). suc k) (ends_of (start + length row + 1) rows)

-- so many ends were noted as there are rows
pub rows_noted : (q : QueryText) (columns : Items) (rows : List Items) (steps : ℕ) → q ≡ query_text true columns rows steps → length q.row_ends ≡ length (map row_text rows)
rows_noted q columns rows steps e = ap (λ (r : QueryText). length r.row_ends) e ∙ ends_of (rows_start columns) (map row_text rows)

abbrev reply_from : (columns : Items) → (given : List (List ℕ)) → (steps : ℕ) → Option ℕ × Held → Result (List ℕ × Held) Fault
reply_from columns given steps kept = Ok (paged_text columns kept.0 given steps, kept.1)

pub first_page_whole : (h : Held) (max_held : ℕ) (token : List ℕ) (size : ℕ) (columns : Items) (rows : List (List ℕ)) (steps : ℕ) → length rows ≤ size
    → first_page h max_held token size columns rows steps ≡ Ok (paged_text columns None (take size rows) steps, h)
first_page_whole h max_held token size columns rows steps short =
    ap (λ (rs : List (List ℕ)). hold h max_held token size rs >>= reply_from columns (take size rows) steps) (drop_all size rows short)

abbrev page_with : Held → (token : List ℕ) → (size : ℕ) → (rows : List (List ℕ)) → ℕ → Result (Option ℕ × Held) Fault
page_with h token size rows n = Ok (Some n, with_pages (h.pages ++ record { number = n; token = token; size = size; rows = rows } ∷ []) (n + 1))

tested_first : (room free : Bool) (n : ℕ) (f : ℕ → Result (Option ℕ × Held) Fault)
    → (unless room HeldRowsQuota >> (unless free IdsExhausted >> f n)) ≡ ((unless room HeldRowsQuota >> (unless free IdsExhausted >> Ok n)) >>= f)
tested_first true true n f = refl
tested_first true false n f = refl
tested_first false free n f = refl

hold_more : (h : Held) (max_held : ℕ) (token : List ℕ) (size : ℕ) (rows : List (List ℕ)) → 0 < length rows
    → hold h max_held token size rows ≡ (number_for h max_held (length rows) >>= page_with h token size rows)
hold_more h max_held token size [] long = absurd (omega arith)
hold_more h max_held token size (row ∷ rows) long =
    tested_first (nat_le (held_rows h.pages + length (row ∷ rows)) max_held) (nat_lt h.next greatest_id) h.next (page_with h token size (row ∷ rows))

first_page_more : (h : Held) (max_held : ℕ) (token : List ℕ) (size : ℕ) (columns : Items) (rows : List (List ℕ)) (steps : ℕ) → size < length rows
    → first_page h max_held token size columns rows steps
    ≡ ((number_for h max_held (length rows - size) >>= page_with h token size (drop size rows)) >>= reply_from columns (take size rows) steps)
first_page_more h max_held token size columns rows steps long =
    ap (λ (r : Result (Option ℕ × Held) Fault). r >>= reply_from columns (take size rows) steps)
    (hold_more h max_held token size (drop size rows) (rw (length-drop size rows) (omega arith))
    ∙ ap (λ (k : ℕ). number_for h max_held k >>= page_with h token size (drop size rows)) (length-drop size rows))

pub hold_refused : (h : Held) (max_held : ℕ) (token : List ℕ) (size : ℕ) (columns : Items) (rows : List (List ℕ)) (steps : ℕ) (e : Fault) → size < length rows
    → number_for h max_held (length rows - size) ≡ Err e → first_page h max_held token size columns rows steps ≡ Err e
hold_refused h max_held token size columns rows steps e long refused =
    first_page_more h max_held token size columns rows steps long
    ∙ ap (λ (r : Result ℕ Fault). (r >>= page_with h token size (drop size rows)) >>= reply_from columns (take size rows) steps) refused

both_pass : (room free : Bool) (next n : ℕ) → (unless room HeldRowsQuota >> (unless free IdsExhausted >> Ok next)) ≡ Ok n → (room ≡ true) × (free ≡ true) × (next ≡ n)
both_pass true true next n e = (refl, refl, cc)
both_pass true false next n e = absurd (cc)
both_pass false free next n e = absurd (cc)

within : (a b : ℕ) → nat_le a b ≡ true → a ≤ b
within a b e = grind (arith, common_steps)

below : (a b : ℕ) → nat_lt a b ≡ true → a < b
below a b e = grind (arith, common_steps)

module _ (h : Held) (max_held more n : ℕ) (passes : number_for h max_held more ≡ Ok n) where
  tests : (nat_le (held_rows h.pages + more) max_held ≡ true) × (nat_lt h.next greatest_id ≡ true) × (h.next ≡ n)
  tests = both_pass (nat_le (held_rows h.pages + more) max_held) (nat_lt h.next greatest_id) h.next n passes

  pub number_next : h.next ≡ n
  number_next = tests.2

  pub number_free : h.next < greatest_id
  number_free = below h.next greatest_id tests.1

  pub rows_fit : held_rows h.pages + more ≤ max_held
  rows_fit = within (held_rows h.pages + more) max_held tests.0

pub held_page : (h : Held) (max_held : ℕ) (token : List ℕ) (size : ℕ) (columns : Items) (rows : List (List ℕ)) (steps n : ℕ) (bytes : List ℕ) (left : List (List ℕ)) (new : Held) → size < length rows
    → number_for h max_held (length rows - size) ≡ Ok n → bytes ≡ paged_text columns (Some n) (take size rows) steps → left ≡ drop size rows
    → new ≡ with_pages (h.pages ++ record { number = h.next; token = token; size = size; rows = left } ∷ []) (h.next + 1)
    → first_page h max_held token size columns rows steps ≡ Ok (bytes, new)
held_page h max_held token size columns rows steps n bytes left new long passes first rest page =
    first_page_more h max_held token size columns rows steps long
    ∙ ap (λ (r : Result ℕ Fault). (r >>= page_with h token size (drop size rows)) >>= reply_from columns (take size rows) steps) passes
    ∙ ap (λ (bs : List ℕ). Ok (bs, with_pages (h.pages ++ record { number = n; token = token; size = size; rows = drop size rows } ∷ []) (n + 1))) (sym first)
    ∙ ap (λ (rs : List (List ℕ)). Ok (bytes, with_pages (h.pages ++ record { number = n; token = token; size = size; rows = rs } ∷ []) (n + 1))) (sym rest)
    ∙ ap (λ (k : ℕ). Ok (bytes, with_pages (h.pages ++ record { number = k; token = token; size = size; rows = left } ∷ []) (k + 1))) (sym (number_next h max_held (length rows - size) n passes))
    ∙ ap (λ (g : Held). Ok (bytes, g)) (sym page)

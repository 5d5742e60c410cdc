-- No text that a query is answered is a refusal's.
use Rattle.std.proofs.Common.{◌≡◌, ◌≢◌, ℕ, List, length, map, Option, Some, None, Result, Ok, Err}
use Rattle.std.specs.Prelude.{codes, drop, take, IfOk}
use Rattle.serde_json.specs.Data.{array, string, member, no_members}
use Rattle.pg_json.proofs.Codes.{answer_is_no_refusal, paged_is_no_refusal}
use Rattle.pg_json.specs.Pages.{paged_text}
use Rattle.pg_json.specs.Refusals.{refusal_text}
use Rattle.pg_json.specs.Replies.{items_of, natural}
use Rattle.pg_meaning.specs.Answer.{◌>>=◌}
use Rattle.pg_meaning.specs.Queries.{Outcome}
use Rattle.pg_meaning.specs.declared.fault.Fault.{Fault}
use Rattle.pg_pages.specs.Held.{Held, hold}
use Rattle.pg_tenant.specs.Answers.{Answered, answered, column_items, fitting, outcome_text, row_data, row_texts, shown, shown_if_fitting}

pub outcome_is_no_refusal : (o : Outcome) (f : Fault) → outcome_text o ≢ refusal_text f
unfolding outcome_text
outcome_is_no_refusal o f =
    answer_is_no_refusal (codes "columns") (array (items_of (map string o.columns)))
    (member (codes "rows") (array (items_of (map (row_data o.graph) o.rows))) (member (codes "steps") (natural o.steps) no_members)) f

abbrev pub NoRefusal : Result Answered Fault → Type 0
NoRefusal answer = IfOk answer (λ a. (f : Fault) → a.reply ≢ refusal_text f)

module _ (held : Held) (max_held : ℕ) (token : List ℕ) where
  -- the first rows, with what is held then
  abbrev first : (size : ℕ) (o : Outcome) → Option ℕ × Held → Result (List ℕ × Held) Fault
  first size o kept = Ok (paged_text (column_items o) kept.0 (take size (row_texts o)) o.steps, kept.1)

  paged : (size : ℕ) (o : Outcome) (kept : Result (Option ℕ × Held) Fault) → NoRefusal ((kept >>= first size o) >>= λ p. Ok (answered p.0 o.graph p.1))
  paged size o (Ok k) = λ f. paged_is_no_refusal (column_items o) k.0 (take size (row_texts o)) o.steps f
  paged size o (Err e) = tt

  by_page : (page : Option ℕ) (o : Outcome) → NoRefusal (shown held max_held token page o)
  by_page None o = λ f. outcome_is_no_refusal o f
  by_page (Some size) o = paged size o (hold held max_held token size (drop size (row_texts o)))

  by_fit : (page : Option ℕ) (r : Result Outcome Fault) → NoRefusal (r >>= shown held max_held token page)
  by_fit page (Ok o) = by_page page o
  by_fit page (Err e) = tt

  pub shown_is_no_refusal : (page : Option ℕ) (outcome : Result Outcome Fault) → NoRefusal (shown_if_fitting held max_held token page outcome)
  shown_is_no_refusal page outcome = by_fit page (fitting outcome)

-- The reply of the rows that the clauses leave is the answer.
use Rattle.std.proofs.Common.{◌≡◌, ◌≢◌, ℕ, Bool, true, false, cond, List, [], ◌∷◌, map, length, Option, None, is_some, Result, Ok, Err, OnOk, refl, sym, ap, subst, ◌∙◌}
use Rattle.std.specs.Prelude.{nat_le}
use Rattle.serde_json.specs.Data.{array, item, string}
use Rattle.serde_json.specs.Written.{compact_text}
use Rattle.pg_json.specs.Pages.{QueryText, query_text}
use Rattle.pg_json.specs.Replies.{items_of, query_data, max_reply}
use Rattle.pg_json.specs.Rows.{rows_data, rows_text}
use Rattle.pg_meaning.specs.Answer.{◌>>=◌, ◌>>◌}
use Rattle.pg_meaning.specs.Graph.{Graph}
use Rattle.pg_meaning.specs.Meters.{State}
use Rattle.pg_meaning.specs.Names.{Names}
use Rattle.pg_meaning.specs.Queries.{Outcome, output_rows}
use Rattle.pg_meaning.specs.Value.{Value, values_of}
use Rattle.pg_meaning.specs.declared.fault.Fault.{Fault}
use Rattle.pg_meaning.specs.declared.fault.Fault.TheVariants.{ReplyTooLong}
use Rattle.pg_run.specs.Printed.{printed_items}
use Rattle.pg_run.specs.Returning.{named_items, replied}
use Rattle.pg_run.specs.Telling.{fitting as text_fitting}
use Rattle.pg_run.specs.Told.{printed_rows, test_told}
use Rattle.pg_tenant.proofs.FinishedLemmas.{output}
use Rattle.pg_pages.specs.Held.{Held}
use Rattle.pg_tenant.specs.Answers.{Answered, answered, fitting, limited, outcome_text, row_data, shown, shown_if_fitting}
use Rattle.pg_tenant.specs.Replies.{IsAnswer, IsReply}
use Rattle.pg_value_core.specs.Gives.{Gives}

rows_are : (graph : Graph) (rows : List (List Value)) → items_of (map (row_data graph) rows) ≡ rows_data (printed_rows graph rows)
rows_are graph [] = refl
rows_are graph (r ∷ rs) = ap (item (array (printed_items graph (values_of r)))) (rows_are graph rs)

-- the text of all rows is the same, whether the ends of the rows are noted or not
pub text_is : (o : Outcome) → outcome_text o ≡ rows_text (named_items o.columns) (printed_rows o.graph o.rows) o.steps
unfolding outcome_text rows_text
text_is o = ap (λ rows. compact_text (query_data (named_items o.columns) rows o.steps)) (rows_are o.graph o.rows)

module _ (notes : Bool) (o : Outcome) where
  abbrev reply : QueryText
  reply = query_text notes (named_items o.columns) (printed_rows o.graph o.rows) o.steps

  -- the outcome, where its text is no longer than that
  abbrev where_fits : Bool → Result Outcome Fault
  where_fits fits = (let r : Result (List ℕ) Fault = cond fits (Ok (outcome_text o)) (Err ReplyTooLong) in r) >>= λ t. Ok o

  fits_alike : fitting (Ok o) ≡ where_fits (nat_le (length reply.text) max_reply)
  fits_alike = ap (λ t. where_fits (nat_le (length t) max_reply)) (text_is o)

  abbrev given_where : Bool → Result QueryText Fault
  given_where fits = cond fits (Ok reply) (Err ReplyTooLong)

  replies_by : (fits : Bool) (r : QueryText) → given_where fits ≡ Ok r → (where_fits fits ≡ Ok o) × (r ≡ reply)
  replies_by true r h = (refl, cc)
  replies_by false r h = cc

  refuses_by : (fits : Bool) (e : Fault) → given_where fits ≡ Err e → where_fits fits ≡ Err e
  refuses_by true e h = cc
  refuses_by false e h = let same : ReplyTooLong ≡ e = cc in ap Err same

  pub replies : (t : Result (Unit {0}) Fault) (r : QueryText) → (t >> text_fitting reply) ≡ Ok r → (fitting (t >> Ok o) ≡ Ok o) × (r ≡ reply)
  replies (Ok tt) r h = let by = replies_by (nat_le (length reply.text) max_reply) r h in (fits_alike ∙ by.0, by.1)
  replies (Err f) r h = cc

  pub refuses : (t : Result (Unit {0}) Fault) (e : Fault) → (t >> text_fitting reply) ≡ Err e → fitting (t >> Ok o) ≡ Err e
  refuses (Ok tt) e h = fits_alike ∙ refuses_by (nat_le (length reply.text) max_reply) e h
  refuses (Err f) e h = let same : f ≡ e = cc in ap Err same

module _ (notes b : Bool) (named names : Names) (is : named ≡ cond b names []) where
  abbrev outcome : State → Outcome
  outcome last = record { columns = named; rows = output_rows b last.rows; graph = last.graph; steps = last.steps }

  abbrev tests : State → Result (Unit {0}) Fault
  tests last = test_told last.graph (output_rows b last.rows)

  -- the columns are named so
  told_alike : (last : State) → (tests last >> text_fitting (reply notes (outcome last))) ≡ replied notes b names last
  told_alike last = ap (λ ns. tests last >> text_fitting (query_text notes (named_items ns) (printed_rows last.graph (output_rows b last.rows)) last.steps)) is

  by_clauses : (x : Result State Fault) (r : Result QueryText Fault) (left : Graph) → Gives r (x >>= replied notes b names) (λ reply. reply)
      → OnOk r ((last : State) → x ≡ Ok last → last.graph ≡ left) → IsAnswer notes r (x >>= output b named) left
  by_clauses (Ok last) (Ok r) left given keeps =
      let by = replies notes (outcome last) (tests last) r (told_alike last ∙ given.ok) in
      record { ok = record { of = outcome last; is = by.0; text = by.1; graph = keeps last refl }; err = tt }
  by_clauses (Ok last) (Err e) left given keeps =
      record { ok = tt; err = λ other. refuses notes (outcome last) (tests last) e (told_alike last ∙ given.err other) }
  by_clauses (Err f) (Ok r) left given keeps = let clash = given.ok in cc
  by_clauses (Err f) (Err e) left given keeps =
      record { ok = tt; err = λ other. let h = given.err other in let same : f ≡ e = cc in ap Err same }

  pub is_answer : (x : Result State Fault) (r : Result QueryText Fault) (left : Graph) (answer : Result Outcome Fault) → answer ≡ (x >>= output b named)
      → Gives r (x >>= replied notes b names) (λ reply. reply) → OnOk r ((last : State) → x ≡ Ok last → last.graph ≡ left) → IsAnswer notes r answer left
  is_answer x r left answer same given keeps = subst (λ (a : Result Outcome Fault). IsAnswer notes r a left) (sym same) (by_clauses x r left given keeps)

-- the whole text shows all rows
module _ (held : Held) (max_held : ℕ) (token : List ℕ) (outcome : Result Outcome Fault) (left : Graph) where
  abbrev given : Option ℕ → Result Outcome Fault → Result Answered Fault
  given page fits = fits >>= shown held max_held token page

  by_answer : (notes : Bool) (reply : QueryText) → IsReply notes reply outcome left → given None (fitting outcome) ≡ Ok (answered reply.text left held)
  by_answer notes reply a =
      ap (given None) a.is
      ∙ (λ i. Ok (answered ((text_is a.of ∙ sym (ap (λ (q : QueryText). q.text) a.text)) i) (a.graph i) held))

  pub shows_whole : (page : Option ℕ) (made : QueryText) (reply : Result QueryText Fault) (bytes : List ℕ) → page ≡ None → reply ≡ Ok made → bytes ≡ made.text
      → IsAnswer (is_some page) reply outcome left → shown_if_fitting held max_held token page outcome ≡ Ok (answered bytes left held)
  shows_whole page made reply bytes none is told answer =
      ap (λ p. given p (fitting outcome)) none
      ∙ by_answer (is_some page) made (subst (λ (r : Result QueryText Fault). IsAnswer (is_some page) r outcome left) is answer).ok
      ∙ ap (λ t. Ok (answered t left held)) (sym told)

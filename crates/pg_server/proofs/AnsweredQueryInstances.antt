-- The instances of answered queries.
use Rattle.std.proofs.Common.{◌≡◌, ◌≢◌, ℕ, true, false, cond, List, [], ◌∷◌, map, get_or, Option, Some, None, Ok, arith, refl, sym, ap, ap₂, ◌∙◌, subst, inl, inr}
use Rattle.std.specs.Prelude.{codes, drop, length, pos, ◌≤◌}
use Rattle.std.specs.Fmt.{digits}
use Rattle.std.specs.List.{AllZip}
use Rattle.serde_json.proofs.OnLiterals.{serde_json_on_literals}
use Rattle.pg_json.specs.Refusals.{refusal_text}
use Rattle.pg_json.specs.Replies.{max_reply}
use Rattle.pg_meaning.proofs.Computing.{texts}
use Rattle.pg_meaning.specs.Graph.{Graph, empty_graph}
use Rattle.pg_meaning.specs.Meaning.{Means, Passing, Projects, given_of}
use Rattle.pg_meaning.specs.Projections.{Projected, limited, projected, skipped}
use Rattle.pg_meaning.specs.Rows.{Row, values_in}
use Rattle.pg_meaning.specs.Scopes.{return_columns}
use Rattle.pg_meaning.specs.Turns.{Given}
use Rattle.pg_meaning.specs.Value.{Value, integer, no_entries}
use Rattle.pg_meaning.specs.declared.fault.Fault.{Fault}
use Rattle.pg_meaning.specs.declared.fault.Fault.TheVariants.{StepQuota, TenantBusy}
use Rattle.pg_pages.specs.Held.{Held}
use Rattle.pg_server.specs.AnsweredQueries.{AnsweredQuery, HoldsOthers}
use Rattle.pg_server.specs.InstancesOfAnsweredQueries.{InstancesOfAnsweredQueries, asks_one, grown, one_returned, pages_one, returns_one, row_of, told_rows, waiting}
use Rattle.pg_tenant.proofs.AnswerLemmas.{outcome_is_no_refusal}
use Rattle.pg_tenant.specs.Answers.{outcome_text, row_texts}
use Rattle.pg_tenant.specs.InstancesOfTransactions.{idle, mid, one_node}
use Rattle.pg_tenant.specs.Outcomes.{text_query}
use Rattle.pg_tenant.specs.State.{State}

reads_one : text_query (codes "RETURN 1") ≡ Ok returns_one
unfolding texts
reads_one = refl

-- ---- what the query means

abbrev one_given : Given
one_given = given_of no_entries 2 []

abbrev one_row : Row
one_row = (codes "1", integer (pos 1)) ∷ []

abbrev one_made : Projected
one_made = record { columns = one_row; earlier = [] }

made_one : (graph : Graph) (made : List Projected) → AllZip (λ (row : Row) (r : Projected). projected one_given.parameters graph false (return_columns [] one_returned) row ≡ Ok r) ([] ∷ []) made → made ≡ one_made ∷ []
made_one graph [] h = absurd h
made_one graph (r ∷ []) h = let same : r ≡ one_made = cc in ap (λ p. p ∷ []) same
made_one graph (r ∷ s ∷ rs) h = absurd h.1

all_pass : (graph : Graph) (passing : List Projected) → Passing one_given graph None (one_made ∷ []) passing → passing ≡ one_made ∷ []
all_pass graph passing h = let b : h.0 ≡ true = cc in h.4 ∙ ap₂ (λ b others. cond b (one_made ∷ others) others) b h.3

projects_one : (graph : Graph) (results : List Row) → Projects one_given graph (return_columns [] one_returned) one_returned None ([] ∷ []) results → results ≡ one_row ∷ []
projects_one graph results p =
    let no_skip : p.skip ≡ None = let h = p.skip_given in cc in
    let no_limit : p.limit ≡ None = let h = p.limit_given in cc in
    let sorted : p.sorted ≡ one_made ∷ [] = p.order ∙ p.distinct ∙ made_one graph p.made p.items in
    let passes : Passing one_given graph None (one_made ∷ []) p.passing =
    subst (λ ps. Passing one_given graph None ps p.passing) (ap (λ l. limited l (skipped p.skip p.sorted)) no_limit ∙ ap (λ k. skipped k p.sorted) no_skip ∙ sorted) p.condition in
    p.shown ∙ ap (map (λ (r : Projected). r.columns)) (all_pass graph p.passing passes)

-- one column, one row, and no other graph
meant : (columns : List (List ℕ)) (rows : List (List Value)) (after : Graph) → Means returns_one no_entries 2 empty_graph columns rows after
    → (columns ≡ codes "1" ∷ []) × (rows ≡ row_of 1 ∷ []) × (after ≡ empty_graph)
meant columns rows after m =
    let results : m.results ≡ one_row ∷ [] = m.steps.3.1 ∙ projects_one empty_graph m.steps.1 m.steps.2.1 in
    (m.named, m.shown ∙ ap (map values_in) results, m.steps.3.0 ∙ m.steps.2.0)

means_one : Means returns_one no_entries 2 empty_graph (codes "1" ∷ []) (row_of 1 ∷ []) empty_graph
means_one = record {
  results = one_row ∷ [];
  steps = (empty_graph, one_row ∷ [], (refl, projects), (refl, refl));
  named = refl;
  shown = refl;
  live = (refl, tt);
}
  where
    projects : Projects one_given empty_graph (return_columns [] one_returned) one_returned None ([] ∷ []) (one_row ∷ [])
    projects = record {
      skip = None;
      skip_given = refl;
      limit = None;
      limit_given = refl;
      made = one_made ∷ [];
      items = (refl, tt);
      kept = one_made ∷ [];
      distinct = refl;
      sorted = one_made ∷ [];
      order = refl;
      passing = one_made ∷ [];
      condition = (true, [], refl, refl, refl);
      shown = refl;
    }

-- ---- what is answered

answer_of_one : (reply : List ℕ) (new : State) → AnsweredQuery idle (asks_one (codes "a")) reply new → ((fault : Fault) → reply ≢ refusal_text fault)
    → (steps : ℕ) × (reply ≡ told_rows (row_of 1 ∷ []) steps) × (new.graph ≡ empty_graph)
answer_of_one reply new (inl g) none =
    let same : Ok g.q ≡ Ok returns_one = sym g.reads ∙ reads_one in
    let q : g.q ≡ returns_one = cc in
    let m = meant g.columns g.rows new.graph (subst (λ q. Means q no_entries 2 empty_graph g.columns g.rows new.graph) q g.means) in
    (g.steps, g.shows.0 ∙ (λ i. outcome_text (record { columns = m.0 i; rows = m.1 i; graph = m.2 i; steps = g.steps })), m.2)
answer_of_one reply new (inr r) none = absurd (none r.fault r.told)

abbrev byte_of : List (List Value) → (steps place : ℕ) → ℕ
byte_of rows steps place = get_or (told_rows rows steps) place 0

one_text : (steps : ℕ) → (byte_of (row_of 1 ∷ []) steps 34 ≡ 91) × (byte_of (row_of 1 ∷ []) steps 35 ≡ 49) × (byte_of (row_of 1 ∷ []) steps 37 ≡ 93)
unfolding serde_json_on_literals digits outcome_text
one_text steps = (refl, refl, refl)

other_texts : (steps : ℕ) → (byte_of [] steps 34 ≡ 93) × (byte_of (row_of 2 ∷ []) steps 35 ≡ 50) × (byte_of (row_of 1 ∷ row_of 1 ∷ []) steps 37 ≡ 44)
unfolding serde_json_on_literals digits outcome_text
other_texts steps = (refl, refl, refl)

no_refusal : (rows : List (List Value)) (steps : ℕ) (fault : Fault) → told_rows rows steps ≢ refusal_text fault
no_refusal rows steps fault = outcome_is_no_refusal (record { columns = codes "1" ∷ []; rows = rows; graph = empty_graph; steps = steps }) fault

grew : one_node ≡ empty_graph → ⊥
grew e = absurd (omega (arith, ap (λ (g : Graph). g.next_node) e))

module _ (steps : ℕ) where
  no_row_more : AnsweredQuery idle (asks_one (codes "a")) (told_rows (row_of 1 ∷ row_of 1 ∷ []) steps) idle → ⊥
  no_row_more answered =
      let a = answer_of_one _ idle answered (no_refusal (row_of 1 ∷ row_of 1 ∷ []) steps) in
      let clash : 44 ≡ 93 = sym (other_texts steps).2 ∙ ap (λ s. get_or s 37 0) a.1 ∙ (one_text a.0).2 in
      absurd (omega (arith, clash))

  no_row_less : AnsweredQuery idle (asks_one (codes "a")) (told_rows [] steps) idle → ⊥
  no_row_less answered =
      let a = answer_of_one _ idle answered (no_refusal [] steps) in
      let clash : 93 ≡ 91 = sym (other_texts steps).0 ∙ ap (λ s. get_or s 34 0) a.1 ∙ (one_text a.0).0 in
      absurd (omega (arith, clash))

  no_other_row : AnsweredQuery idle (asks_one (codes "a")) (told_rows (row_of 2 ∷ []) steps) idle → ⊥
  no_other_row answered =
      let a = answer_of_one _ idle answered (no_refusal (row_of 2 ∷ []) steps) in
      let clash : 50 ≡ 49 = sym (other_texts steps).1 ∙ ap (λ s. get_or s 35 0) a.1 ∙ (one_text a.0).1 in
      absurd (omega (arith, clash))

  no_other_graph : AnsweredQuery idle (asks_one (codes "a")) (told_rows (row_of 1 ∷ []) steps) grown → ⊥
  no_other_graph answered = grew (answer_of_one _ grown answered (no_refusal (row_of 1 ∷ []) steps)).2

  -- the other token has to wait
  no_answer_while_busy : AnsweredQuery mid (asks_one (codes "a")) (told_rows (row_of 1 ∷ []) steps) mid → ⊥
  no_answer_while_busy (inl g) = let clash : true ≡ false = g.tested.0 in cc
  no_answer_while_busy (inr r) = absurd (no_refusal (row_of 1 ∷ []) steps r.fault r.told)

-- ---- what waits

row_waits : (others : List (List ℕ)) (number : Option ℕ) → HoldsOthers idle (codes "a") 1 others number waiting.held → others ≡ [] → ⊥
row_waits others None h none = absurd (omega (arith, ap (λ (held : Held). held.next) h.1))
row_waits others (Some n) h none = absurd (h.0 none)

none_waits : (reply : List ℕ) → AnsweredQuery idle pages_one reply waiting → ⊥
none_waits reply (inl g) =
    let same : Ok g.q ≡ Ok returns_one = sym g.reads ∙ reads_one in
    let q : g.q ≡ returns_one = cc in
    let m = meant g.columns g.rows empty_graph (subst (λ q. Means q no_entries 2 empty_graph g.columns g.rows empty_graph) q g.means) in
    row_waits _ g.shows.0 g.shows.2 (λ i. drop 1 (row_texts (record { columns = g.columns; rows = m.1 i; graph = empty_graph; steps = g.steps })))
none_waits reply (inr r) = absurd (omega (arith, ap (λ (s : State). s.held.next) r.kept))

-- what is refused leaves the graph
keeps_refused : (fault : Fault) → AnsweredQuery idle (asks_one (codes "a")) (refusal_text fault) grown → ⊥
keeps_refused fault (inl g) = absurd (outcome_is_no_refusal _ fault (sym g.shows.0))
keeps_refused fault (inr r) = grew (ap (λ (s : State). s.graph) r.kept)

one_fits : length (told_rows (row_of 1 ∷ []) 2) ≤ max_reply
unfolding serde_json_on_literals digits outcome_text
one_fits = omega arith

pub instances_of_answered_queries : InstancesOfAnsweredQueries
instances_of_answered_queries = (
  (
    reads_one,
    inl (record {
      q = returns_one;
      reads = reads_one;
      columns = codes "1" ∷ [];
      rows = row_of 1 ∷ [];
      steps = 2;
      tested = (refl, refl, refl, refl);
      means = means_one;
      fits = one_fits;
      shows = (refl, refl);
      stays = refl;
    }),
    no_row_more,
    no_row_less,
    no_other_row,
    no_other_graph,
    no_answer_while_busy,
    none_waits,
  ),
  (
    inr (record { fault = StepQuota; told = refl; kept = refl; due = inr (inr (inr (returns_one, reads_one, inr (inr (inl refl))))) }),
    keeps_refused,
    inr (record { fault = TenantBusy; told = refl; kept = refl; due = inl (refl, refl) }),
  ),
)

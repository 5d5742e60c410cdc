-- What a query text gives over a tenant's graph and indexes: the text's own tests, whether its token may write, whether its parameters are given, then its clauses.
use Rattle.std.specs.Prelude.{◌≡◌, ℕ, ◌≤◌, Bool, ◌||◌, not, List, length, Result, Ok, is_some}
use Rattle.std.specs.List.{list_all}
use Rattle.pg_meaning.specs.Agreement.{OutcomeAgrees}
use Rattle.pg_meaning.specs.Answer.{◌>>=◌, ◌>>◌, unless}
use Rattle.pg_meaning.specs.Entries.{at_key}
use Rattle.pg_meaning.specs.Grammar.{parameters_of}
use Rattle.pg_meaning.specs.Graph.{Graph, IsGraph}
use Rattle.pg_meaning.specs.Names.{Names}
use Rattle.pg_meaning.specs.Plans.{Catalogue}
use Rattle.pg_meaning.specs.Queries.{Outcome, answer_of, under_plan}
use Rattle.pg_meaning.specs.Tree.{Query}
use Rattle.pg_meaning.specs.Value.{Entries}
use Rattle.pg_meaning.specs.declared.fault.Fault.{Fault}
use Rattle.pg_meaning.specs.declared.fault.Fault.TheVariants.{ReadOnly, MissingParameter}
use Rattle.pg_plan.specs.Plans.{IsPlanOfText, plan_anchors, plan_query}
use Rattle.pg_meaning.specs.Texts.{text_checked}
use Rattle.pg_plan.specs.Reading.{greatest_text, tested_length}
use Rattle.pg_plan.specs.Updates.{updates}
use Rattle.pg_plan.specs.declared.plan.Plan.{Plan}

-- the query that a text is, behind the test of its length
abbrev pub text_query : List ℕ → Result Query Fault
text_query text = tested_length text >> text_checked text

-- the request gives each of these parameters
abbrev pub all_given : Names → (parameters : Entries) → Bool
all_given names parameters = list_all (λ name. is_some (at_key name parameters)) names

-- each parameter that the query names, also where nothing is evaluated
abbrev pub are_given : (parameters : Entries) → Query → Result (Unit {0}) Fault
are_given parameters q = unless (all_given (parameters_of q) parameters) MissingParameter

-- the tests of a query that come before any clause
abbrev pub early_tests : Bool → (parameters : Entries) → Query → Result (Unit {0}) Fault
early_tests may_write parameters q = unless (may_write || not (updates q)) ReadOnly >> are_given parameters q

module _ (may_write : Bool) (max_steps max_elements : ℕ) (parameters : Entries) where
  abbrev pub permitted : Query → Result (Unit {0}) Fault
  permitted q = unless (may_write || not (updates q)) ReadOnly

  -- the tests before any clause, then the clauses
  abbrev pub query_outcome : Catalogue → Graph → Query → Result Outcome Fault
  query_outcome indexes graph q = permitted q >> (are_given parameters q >> answer_of indexes q parameters graph max_steps max_elements)

  abbrev pub text_outcome : Catalogue → Graph → List ℕ → Result Outcome Fault
  text_outcome indexes graph text = text_query text >>= query_outcome indexes graph

  -- the same of a text that was read before, under the plan that was made of it
  abbrev pub plan_outcome : Graph → Plan → Result Outcome Fault
  plan_outcome graph plan =
      let q = plan_query plan in
      permitted q >> (are_given parameters q >> under_plan (plan_anchors plan) q parameters graph max_steps max_elements)

-- the plan that a text has for some indexes answers as the text does where there are these
abbrev pub PlansAnswer : Type 0
PlansAnswer =
    (may_write : Bool) (max_steps max_elements : ℕ) (parameters : Entries) (indexes : Catalogue) (graph : Graph) (text : List ℕ) (plan : Plan) → length text ≤ greatest_text → IsPlanOfText text indexes plan
    → text_outcome may_write max_steps max_elements parameters indexes graph text ≡ plan_outcome may_write max_steps max_elements parameters graph plan

-- what a text that reads and has its parameters answers, whatever indexes there are, is one that the meaning of its query gives
abbrev pub TextMeans : Type 0
TextMeans =
    (max_steps max_elements : ℕ) (parameters : Entries) (indexes : Catalogue) (graph : Graph) (text : List ℕ) (q : Query) → IsGraph graph → text_query text ≡ Ok q → are_given parameters q ≡ Ok tt
    → OutcomeAgrees q parameters max_elements graph (answer_of indexes q parameters graph max_steps max_elements)

use Rattle.pg_json.proofs.Codes.{rows_are_no_refusals, paged_is_no_refusal, pulled_is_no_refusal, statuses_are_no_refusals}
use Rattle.pg_json.proofs.laws.law_of_replies.Goals as goal

pub returns-clause-rows : goal.returns-clause-rows
returns-clause-rows c = rows_are_no_refusals

pub returns-clause-pages : goal.returns-clause-pages
returns-clause-pages c = paged_is_no_refusal

pub returns-clause-pulls : goal.returns-clause-pulls
returns-clause-pulls c = pulled_is_no_refusal

pub returns-clause-statuses : goal.returns-clause-statuses
returns-clause-statuses c = statuses_are_no_refusals

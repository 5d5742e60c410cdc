use Rattle.pg_server.proofs.PageLemmas.{pages_give, pages_stay, pages_stay_in_runs, pulls_give, runs_give_pages}
use Rattle.pg_server.proofs.laws.law_of_pages.Goals as goal

pub returns-clause-numbers : goal.returns-clause-numbers
returns-clause-numbers c = pages_stay

pub returns-clause-numbers_in_runs : goal.returns-clause-numbers_in_runs
returns-clause-numbers_in_runs c = pages_stay_in_runs

pub returns-clause-pulls : goal.returns-clause-pulls
returns-clause-pulls c = pulls_give

pub returns-clause-tenant : goal.returns-clause-tenant
returns-clause-tenant c = pages_give

pub returns-clause-server : goal.returns-clause-server
returns-clause-server c = runs_give_pages

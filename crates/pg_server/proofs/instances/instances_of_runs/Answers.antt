use Rattle.pg_server.proofs.AnsweredQueryInstances.{instances_of_answered_queries}
use Rattle.pg_server.proofs.InstanceLemmas.{empty_runs, status_runs}
use Rattle.pg_server.proofs.ReplyInstances.{instances_of_replies}
use Rattle.pg_server.proofs.RequestInstances.{instances_of_pages, instances_of_requests, strangers_are_refused}
use Rattle.pg_server.proofs.ServingInstances.{instances_of_ends, instances_of_failed_writes, instances_of_frames, instances_of_keys, instances_of_look_ups, runs_of_no_frame}
use Rattle.pg_server.proofs.instances.instances_of_runs.Goals as goal

pub returns-clause-empty : goal.returns-clause-empty
returns-clause-empty c = empty_runs

pub returns-clause-status : goal.returns-clause-status
returns-clause-status c = status_runs

pub returns-clause-answered : goal.returns-clause-answered
returns-clause-answered c = instances_of_answered_queries

pub returns-clause-replies : goal.returns-clause-replies
returns-clause-replies c = instances_of_replies

pub returns-clause-strangers : goal.returns-clause-strangers
returns-clause-strangers c = strangers_are_refused

pub returns-clause-requests : goal.returns-clause-requests
returns-clause-requests c = instances_of_requests

pub returns-clause-pages : goal.returns-clause-pages
returns-clause-pages c = instances_of_pages

pub returns-clause-frames : goal.returns-clause-frames
returns-clause-frames c = instances_of_frames

pub returns-clause-ends : goal.returns-clause-ends
returns-clause-ends c = instances_of_ends

pub returns-clause-failed : goal.returns-clause-failed
returns-clause-failed c = instances_of_failed_writes

pub returns-clause-nothing : goal.returns-clause-nothing
returns-clause-nothing c = runs_of_no_frame

pub returns-clause-keys : goal.returns-clause-keys
returns-clause-keys c = instances_of_keys

pub returns-clause-look_ups : goal.returns-clause-look_ups
returns-clause-look_ups c = instances_of_look_ups

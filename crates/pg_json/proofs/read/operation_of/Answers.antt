use Rattle.std.proofs.Common.{ap, option_and_then}
use Rattle.serde_json.specs.View.{members_view}
use Rattle.pg_json.specs.Requests.{by_op}
use Rattle.pg_json.proofs.Asking.{query_asked, status_asked, create_asked, drop_asked, begin_asked, commit_asked, rollback_asked, pull_asked, drop_page_asked, none_asked}
use Rattle.pg_json.proofs.read.operation_of.Goals as goal

pub returns-in_err-op : goal.returns-in_err-op
returns-in_err-op c =
    let ms = members_view c.args.members.now.entries in
    rw c.from_residual.ensures (ap (option_and_then (λ o. by_op o ms)) c.in_err-op.ensures)

pub returns-then-eq : goal.returns-then-eq
returns-then-eq c = query_asked (members_view c.args.members.now.entries) c.in_ok-op.op.now c.in_ok-op.ensures c.if-eq.ensures

pub returns-then-eq-2 : goal.returns-then-eq-2
returns-then-eq-2 c = status_asked (members_view c.args.members.now.entries) c.in_ok-op.op.now c.in_ok-op.ensures c.if-eq.ensures c.if-eq-2.ensures

pub returns-then-eq-3 : goal.returns-then-eq-3
returns-then-eq-3 c = create_asked (members_view c.args.members.now.entries) c.in_ok-op.op.now c.in_ok-op.ensures c.if-eq.ensures c.if-eq-2.ensures c.if-eq-3.ensures

pub returns-then-eq-4 : goal.returns-then-eq-4
returns-then-eq-4 c = drop_asked (members_view c.args.members.now.entries) c.in_ok-op.op.now c.in_ok-op.ensures c.if-eq.ensures c.if-eq-2.ensures c.if-eq-3.ensures c.if-eq-4.ensures

pub returns-then-eq-5 : goal.returns-then-eq-5
returns-then-eq-5 c = begin_asked (members_view c.args.members.now.entries) c.in_ok-op.op.now c.in_ok-op.ensures c.if-eq.ensures c.if-eq-2.ensures c.if-eq-3.ensures c.if-eq-4.ensures c.if-eq-5.ensures

pub returns-then-eq-6 : goal.returns-then-eq-6
returns-then-eq-6 c = commit_asked (members_view c.args.members.now.entries) c.in_ok-op.op.now c.in_ok-op.ensures c.if-eq.ensures c.if-eq-2.ensures c.if-eq-3.ensures c.if-eq-4.ensures c.if-eq-5.ensures c.if-eq-6.ensures

pub returns-then-eq-7 : goal.returns-then-eq-7
returns-then-eq-7 c = rollback_asked (members_view c.args.members.now.entries) c.in_ok-op.op.now c.in_ok-op.ensures c.if-eq.ensures c.if-eq-2.ensures c.if-eq-3.ensures c.if-eq-4.ensures c.if-eq-5.ensures c.if-eq-6.ensures c.if-eq-7.ensures

pub returns-then-eq-8 : goal.returns-then-eq-8
returns-then-eq-8 c = pull_asked (members_view c.args.members.now.entries) c.in_ok-op.op.now c.in_ok-op.ensures c.if-eq.ensures c.if-eq-2.ensures c.if-eq-3.ensures c.if-eq-4.ensures c.if-eq-5.ensures c.if-eq-6.ensures c.if-eq-7.ensures c.if-eq-8.ensures

pub returns-then-eq-9 : goal.returns-then-eq-9
returns-then-eq-9 c = drop_page_asked (members_view c.args.members.now.entries) c.in_ok-op.op.now c.in_ok-op.ensures c.if-eq.ensures c.if-eq-2.ensures c.if-eq-3.ensures c.if-eq-4.ensures c.if-eq-5.ensures c.if-eq-6.ensures c.if-eq-7.ensures c.if-eq-8.ensures c.if-eq-9.ensures

pub returns-else-eq-9 : goal.returns-else-eq-9
returns-else-eq-9 c = none_asked (members_view c.args.members.now.entries) c.in_ok-op.op.now c.in_ok-op.ensures c.if-eq.ensures c.if-eq-2.ensures c.if-eq-3.ensures c.if-eq-4.ensures c.if-eq-5.ensures c.if-eq-6.ensures c.if-eq-7.ensures c.if-eq-8.ensures c.if-eq-9.ensures

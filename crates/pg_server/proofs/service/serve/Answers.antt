use Rattle.std.proofs.Common.{arith, refl, ap, ◌∙◌}
use Rattle.pg_server.specs.Counts.{next_count}
use Rattle.pg_server.proofs.ServeLemmas.{none_served, all_done, done, cut, read_failed, too_long, too_long_failed, one_more, write_failed}
use Rattle.pg_server.proofs.service.serve.Goals as goal

pub loop-served-init : goal.loop-served-init
loop-served-init g c = record { so_far = none_served _ _ _ _; read_faults = refl; write_faults = refl }

pub returns-in-NoFrame-clause-serves : goal.returns-in-NoFrame-clause-serves
returns-in-NoFrame-clause-serves g c = done _ _ _ _ _ _ _ _ _ _ c.loop-served.invariant.so_far c.loop-served-test.true _ _ _ _ c.in-NoFrame.ensures

pub returns-in-NoFrame-clause-read_faults : goal.returns-in-NoFrame-clause-read_faults
returns-in-NoFrame-clause-read_faults g c = c.in-NoFrame.ensures.incoming.2 ∙ c.loop-served.invariant.read_faults

pub returns-in-Cut-clause-serves : goal.returns-in-Cut-clause-serves
returns-in-Cut-clause-serves g c = cut _ _ _ _ _ _ _ _ _ _ c.loop-served.invariant.so_far c.loop-served-test.true _ _ _ _ c.in-Cut.ensures

pub returns-in-Failed-clause-serves : goal.returns-in-Failed-clause-serves
returns-in-Failed-clause-serves g c = read_failed _ _ _ _ _ _ _ _ _ _ c.loop-served.invariant.so_far c.loop-served-test.true _ _ _ _ c.in-Failed.ensures

pub returns-in-Failed-clause-read_faults : goal.returns-in-Failed-clause-read_faults
returns-in-Failed-clause-read_faults g c = c.in-Failed.ensures.incoming.1 ∙ ap next_count c.loop-served.invariant.read_faults

pub returns-in-Ok-clause-serves : goal.returns-in-Ok-clause-serves
returns-in-Ok-clause-serves g c = too_long _ _ _ _ _ _ _ _ _ _ c.loop-served.invariant.so_far c.loop-served-test.true _ _ _ _ _ _ _ c.in-TooLong.ensures _ _ refl c.in-Ok.ensures

pub returns-in-Err-clause-serves : goal.returns-in-Err-clause-serves
returns-in-Err-clause-serves g c = too_long_failed _ _ _ _ _ _ _ _ _ _ c.loop-served.invariant.so_far c.loop-served-test.true _ _ _ _ _ _ _ c.in-TooLong.ensures _ _ refl c.in-Err.ensures

pub returns-in-Err-write_frame-clause-serves : goal.returns-in-Err-write_frame-clause-serves
returns-in-Err-write_frame-clause-serves g c =
    write_failed _ _ _ _ _ _ _ _ _ _ c.loop-served.invariant.so_far c.loop-served-test.true _ _ _ _ _ _ _ c.in-Body.length _ _ _ c.in-Body.ensures refl c.answer-reply.ensures _ c.as_slice.ensures.value _ c.in-Err-write_frame.ensures

pub returns-in-Err-write_frame-clause-write_faults : goal.returns-in-Err-write_frame-clause-write_faults
returns-in-Err-write_frame-clause-write_faults g c = c.in-Err-write_frame.ensures.err.1 ∙ ap next_count c.loop-served.invariant.write_faults

pub loop-served-preserved : goal.loop-served-preserved
loop-served-preserved g c = record {
  so_far = one_more _ _ _ _ _ _ _ _ _ _ c.loop-served.invariant.so_far c.loop-served-test.true _ _ _ _ _ _ _ c.in-Body.length _ _ _ c.in-Body.ensures refl c.answer-reply.ensures _ c.as_slice.ensures.value _ c.in-Ok-write_frame.ensures;
  read_faults = c.in-Body.ensures.incoming.2 ∙ c.loop-served.invariant.read_faults;
  write_faults = c.in-Ok-write_frame.ensures.ok.1 ∙ c.loop-served.invariant.write_faults;
}

pub returns-clause-serves : goal.returns-clause-serves
returns-clause-serves g c = all_done _ _ _ _ _ _ _ _ _ _ c.loop-served.invariant.so_far (omega arith)

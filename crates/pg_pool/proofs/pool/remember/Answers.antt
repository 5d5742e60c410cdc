use Rattle.pg_pool.proofs.pool.remember.Goals as goal

pub returns : goal.returns
returns c = λ j. record { marker = record {}; value = c.of.ensures j }

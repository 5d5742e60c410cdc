use Rattle.pg_meaning.specs.EntriesLaws.{put_keeps_rising, without_keeps_rising, set_keys_keeps_rising, put_is_read, without_is_read}
use Rattle.pg_meaning.proofs.laws.law_of_entries.Goals as goal

pub returns-clause-put : goal.returns-clause-put
returns-clause-put c = put_keeps_rising

pub returns-clause-without : goal.returns-clause-without
returns-clause-without c = without_keeps_rising

pub returns-clause-set : goal.returns-clause-set
returns-clause-set c = set_keys_keeps_rising

pub returns-clause-put_read : goal.returns-clause-put_read
returns-clause-put_read c = put_is_read

pub returns-clause-without_read : goal.returns-clause-without_read
returns-clause-without_read c = without_is_read

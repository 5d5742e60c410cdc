use Rattle.pg_server.proofs.TransactionInstances.{instances_of_exchanges, instances_of_keys_in_transactions, instances_of_transactions, instances_of_waiting}
use Rattle.pg_server.proofs.instances.instances_of_transactions.Goals as goal

pub returns-clause-runs : goal.returns-clause-runs
returns-clause-runs c = instances_of_transactions

pub returns-clause-exchanges : goal.returns-clause-exchanges
returns-clause-exchanges c = instances_of_exchanges

pub returns-clause-waiting : goal.returns-clause-waiting
returns-clause-waiting c = instances_of_waiting

pub returns-clause-keys : goal.returns-clause-keys
returns-clause-keys c = instances_of_keys_in_transactions

use Rattle.pg_cache.proofs.CacheInstances.{instances_of_keys_kept, instances_of_look_ups, instances_of_plans_kept}
use Rattle.pg_cache.proofs.instances.instances_of_caches.Goals as goal

pub returns-clause-plans : goal.returns-clause-plans
returns-clause-plans c = instances_of_plans_kept

pub returns-clause-keys : goal.returns-clause-keys
returns-clause-keys c = instances_of_keys_kept

pub returns-clause-look_ups : goal.returns-clause-look_ups
returns-clause-look_ups c = instances_of_look_ups

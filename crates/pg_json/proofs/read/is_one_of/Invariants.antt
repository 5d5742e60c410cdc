use Rattle.std.proofs.Common.{◌≡◌, map, drop}
use Rattle.pg_json.specs.Requests.{is_one_of}
use Rattle.pg_json.proofs.read.is_one_of.Given as goal

abbrev pub invariant-loop-name : goal.invariant-loop-name
invariant-loop-name l = is_one_of (map (λ n. n.now) l.names) l.key ≡ is_one_of (map (λ n. n.now) (drop l.name-index l.names)) l.key

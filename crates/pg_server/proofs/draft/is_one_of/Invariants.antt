use Rattle.std.proofs.Common.{◌≡◌, map, drop}
use Rattle.pg_json.specs.Requests.{is_one_of}
use Rattle.pg_server.proofs.draft.is_one_of.Given as goal

abbrev pub invariant-loop-one : goal.invariant-loop-one
invariant-loop-one l = is_one_of (map (λ k. k.now) l.keys) l.key ≡ is_one_of (map (λ k. k.now) (drop l.one-index l.keys)) l.key

use Rattle.std.proofs.Common.{◌≡◌, drop, map, string_bytes}
use Rattle.pg_tenant.specs.Outcomes.{all_given}
use Rattle.pg_value_core.specs.Given.{parameters_view}
use Rattle.pg_tenant.proofs.early.are_given.Given as goal

abbrev pub invariant-loop-name : goal.invariant-loop-name
invariant-loop-name l =
    all_given (map string_bytes l.names.items) (parameters_view l.parameters) ≡ all_given (map string_bytes (drop l.name-index l.names.items)) (parameters_view l.parameters)

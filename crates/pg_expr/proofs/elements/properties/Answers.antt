use Rattle.std.proofs.Common.{Ok, sym, ap, ◌∙◌}
use Rattle.pg_expr.proofs.ElementLemmas.{map_properties, element_given}
use Rattle.pg_expr.proofs.Turns.{fault_gives}
use Rattle.pg_expr.specs.Elements.{properties_given}
use Rattle.pg_expr.specs.Contexts.{found_view}
use Rattle.pg_meaning.specs.Answer.{◌>>=◌}
use Rattle.pg_meaning.specs.Value.{mapping}
use Rattle.pg_value_core.specs.Gives.{Gives}
use Rattle.pg_expr.proofs.elements.properties.Goals as goal

pub returns-in-Map : goal.returns-in-Map
returns-in-Map g c = record { ok = map_properties c.args.graph.now c.look.result.now (found_view c.args.found) c.look.ensures c.in-Map.field-0 c.in-Map.is; err = tt }

pub returns-in_err-entries-in_default : goal.returns-in_err-entries-in_default
returns-in_err-entries-in_default g c =
    let e = c.in_err-entries-in_default in
    let given : Gives c.from_residual.result (properties_given c.args.graph.now (found_view c.args.found)) found_view = fault_gives e.field-0.0 c.from_residual.result c.from_residual.ensures.1
    (λ n. element_given c.args.graph.now c.look.result.now (found_view c.args.found) c.look.ensures c.in_default.not-Map ∙ ap (λ r. r >>= λ es. Ok (mapping es)) (e.ensures.err n)) in
    record { ok = given.ok; err = given.err }

pub returns : goal.returns
returns g c =
    record {
      ok = element_given c.args.graph.now c.look.result.now (found_view c.args.found) c.look.ensures c.in_default.not-Map
          ∙ ap (λ r. r >>= λ es. Ok (mapping es)) c.in_ok-entries-in_default.ensures.ok
          ∙ ap Ok (sym c.in_ok-map-in_default.ensures);
      err = tt;
    }

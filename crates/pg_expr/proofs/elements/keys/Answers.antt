use Rattle.std.proofs.Common.{Ok, sym, ap, ◌∙◌}
use Rattle.pg_expr.proofs.ElementLemmas.{of_element, map_keys, keys_told}
use Rattle.pg_expr.proofs.Turns.{fault_gives}
use Rattle.pg_expr.specs.Elements.{keys_given}
use Rattle.pg_meaning.specs.Answer.{◌>>=◌}
use Rattle.pg_meaning.specs.Functions.{texts}
use Rattle.pg_meaning.specs.Order.{keys_of}
use Rattle.pg_value_core.specs.Gives.{Gives}
use Rattle.pg_value_core.specs.View.{view, entries_view}
use Rattle.pg_expr.proofs.elements.keys.Goals as goal

pub returns-in-Map : goal.returns-in-Map
returns-in-Map g c =
    let same = ap (λ m. Ok (texts (keys_of (entries_view m.entries)))) (sym c.as_ref.ensures) in
    let given = keys_told (texts (keys_of (entries_view c.as_ref.result.now.entries))) c.keys_of.result c.keys_of.ensures.ok c.keys_of.ensures.err (map_keys c.args.graph.now c.args.v.now c.in-Map.entries c.in-Map.is ∙ same) in
    record { ok = given.ok; err = given.err }

pub returns-in_err-element_properties-in_default : goal.returns-in_err-element_properties-in_default
returns-in_err-element_properties-in_default g c =
    let e = c.in_err-element_properties-in_default in
    let given : Gives c.from_residual.result (keys_given c.args.graph.now (view c.args.v.now)) view = fault_gives e.field-0.0 c.from_residual.result c.from_residual.ensures.1
    (λ n. ap (λ r. r >>= λ es. Ok (texts (keys_of es))) (of_element c.args.graph.now c.args.v.now c.in_default.not-Map ∙ e.ensures.err n)) in
    record { ok = given.ok; err = given.err }

pub returns-in_ok-element_properties-in_default : goal.returns-in_ok-element_properties-in_default
returns-in_ok-element_properties-in_default g c =
    let m = c.in_ok-element_properties-in_default in
    let given = keys_told (texts (keys_of (entries_view m.field-0.entries))) c.keys_of-in_default.result c.keys_of-in_default.ensures.ok c.keys_of-in_default.ensures.err
    (ap (λ r. r >>= λ es. Ok (texts (keys_of es))) (of_element c.args.graph.now c.args.v.now c.in_default.not-Map ∙ m.ensures.ok)) in
    record { ok = given.ok; err = given.err }

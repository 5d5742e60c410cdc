use Rattle.std.proofs.Common.{ap, ◌∙◌}
use Rattle.pg_meaning.specs.Graph.{Graph, has_relationship}
use Rattle.pg_store.proofs.ChangeLemmas.{marks_then, renamed, renamed_graph, renamed_fit, renamed_marks}
use Rattle.pg_store.proofs.store.Store.make_rel_places.Goals as goal

pub returns-in_err-keys-clause-graph : goal.returns-in_err-keys-clause-graph
returns-in_err-keys-clause-graph g c = renamed_graph g.T.Tables.seen c.args.self.now c.args.shared.now c.keys_of.new.names c.keys_of.ensures.keeps c.requires.fit

pub returns-in_err-keys-clause-marks : goal.returns-in_err-keys-clause-marks
returns-in_err-keys-clause-marks g c = renamed_marks g.T.Tables.seen c.args.self.now c.args.shared.now c.keys_of.new.names c.keys_of.ensures.keeps c.requires.fit

pub returns-in_err-keys-clause-fit : goal.returns-in_err-keys-clause-fit
returns-in_err-keys-clause-fit g c = renamed_fit g.T.Tables.seen c.args.self.now c.args.shared.now c.keys_of.new.names c.keys_of.ensures.keeps c.requires.fit c.keys_of.ensures.distinct

pub add_rel_places-requires-clause-fit : goal.add_rel_places-requires-clause-fit
add_rel_places-requires-clause-fit g c = renamed_fit g.T.Tables.seen c.args.self.now c.args.shared.now c.keys_of.new.names c.keys_of.ensures.keeps c.requires.fit c.keys_of.ensures.distinct

pub add_rel_places-requires-clause-there : goal.add_rel_places-requires-clause-there
add_rel_places-requires-clause-there g c =
    ap (λ (x : Graph). has_relationship x c.args.id.0) (renamed_graph g.T.Tables.seen c.args.self.now c.args.shared.now c.keys_of.new.names c.keys_of.ensures.keeps c.requires.fit) ∙ c.requires.there

pub returns-clause-graph : goal.returns-clause-graph
returns-clause-graph g c = c.add_rel_places.ensures.graph ∙ renamed_graph g.T.Tables.seen c.args.self.now c.args.shared.now c.keys_of.new.names c.keys_of.ensures.keeps c.requires.fit

pub returns-clause-marks : goal.returns-clause-marks
returns-clause-marks g c =
    let seen = g.T.Tables.seen in
    let store = c.args.self.now in
    let shared = c.args.shared.now in
    let names = c.keys_of.new.names in
    let keeps = c.keys_of.ensures.keeps in
    marks_then seen store store c.add_rel_places.new.self shared (renamed seen store shared names keeps c.requires.fit) c.add_rel_places.new.shared (renamed_marks seen store shared names keeps c.requires.fit) c.add_rel_places.ensures.marks

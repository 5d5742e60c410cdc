use Rattle.std.proofs.Common.{◌≡◌, List, Ok, sym, ap, ◌∙◌, refl}
use Rattle.pg_value_core.specs.declared.ids.NodeId.{NodeId}
use Rattle.pg_value_core.specs.declared.ids.RelId.{RelId}
use Rattle.pg_write_make.proofs.LoopLemmas.{err_onto, next_there, ok_onto}
use Rattle.pg_write_make.proofs.TrailLemmas.{none_there}
use Rattle.pg_write_make.specs.Makings.{node_ids, outcomes_view, relationship_ids, relationships_view}
use Rattle.pg_write_make.specs.Outcomes.{bonds_made, hops_made}
use Rattle.pg_write_make.proofs.hops.make_bonds.Goals as goal

pub make_hops-requires-clause-first : goal.make_hops-requires-clause-first
make_hops-requires-clause-first g c =
    (next_there c.args.live.now.graph c.args.ids.now.items c.in-Some.first.now c.in-Some.others.now (sym c.deref.ensures.value ∙ c.in-Some.ensures.cases.0) c.requires.there).0

pub make_hops-requires-clause-others : goal.make_hops-requires-clause-others
make_hops-requires-clause-others g c =
    (next_there c.args.live.now.graph c.args.ids.now.items c.in-Some.first.now c.in-Some.others.now (sym c.deref.ensures.value ∙ c.in-Some.ensures.cases.0) c.requires.there).1

pub returns-in-Some-clause-ok : goal.returns-in-Some-clause-ok
returns-in-Some-clause-ok g c =
    let ids = c.args.ids.now.items in
    let before = c.args.live.now.graph in
    let os = outcomes_view c.args.outcomes.items in
    let rs = relationships_view c.args.hops.now.items in
    let whole = bonds_made c.args.query.now.max_elements os rs (node_ids ids) before in
    let last = hops_made c.args.query.now.max_elements os rs c.in-Some.first.now.0 (node_ids c.in-Some.others.now) before in
    let same : whole ≡ last = ap (λ (ns : List NodeId). bonds_made c.args.query.now.max_elements os rs (node_ids ns) before) (sym c.deref.ensures.value ∙ c.in-Some.ensures.cases.0) in
    let after = c.make_hops.new.live.graph in
    ok_onto c.make_hops.result (λ made. Ok (after, relationship_ids made.items)) whole last same c.make_hops.ensures.ok

pub returns-in-Some-clause-err : goal.returns-in-Some-clause-err
returns-in-Some-clause-err g c =
    let ids = c.args.ids.now.items in
    let before = c.args.live.now.graph in
    let os = outcomes_view c.args.outcomes.items in
    let rs = relationships_view c.args.hops.now.items in
    let whole = bonds_made c.args.query.now.max_elements os rs (node_ids ids) before in
    let last = hops_made c.args.query.now.max_elements os rs c.in-Some.first.now.0 (node_ids c.in-Some.others.now) before in
    let same : whole ≡ last = ap (λ (ns : List NodeId). bonds_made c.args.query.now.max_elements os rs (node_ids ns) before) (sym c.deref.ensures.value ∙ c.in-Some.ensures.cases.0) in
    err_onto c.make_hops.result whole last same c.make_hops.ensures.err

pub returns-in-Some-clause-aside : goal.returns-in-Some-clause-aside
returns-in-Some-clause-aside g c = c.make_hops.ensures.aside

pub returns-in-Some-clause-grows : goal.returns-in-Some-clause-grows
returns-in-Some-clause-grows g c = c.make_hops.ensures.grows

pub returns-in-None-clause-ok : goal.returns-in-None-clause-ok
returns-in-None-clause-ok g c =
    let before = c.args.live.now.graph in
    let os = outcomes_view c.args.outcomes.items in
    let rs = relationships_view c.args.hops.now.items in
    ap (λ (ns : List NodeId). bonds_made c.args.query.now.max_elements os rs (node_ids ns) before) (sym c.deref.ensures.value ∙ none_there c.deref.result.now c.in-None.ensures.cases)
    ∙ ap (λ (ids : List RelId). Ok (before, relationship_ids ids)) (sym c.new.ensures.items)

pub returns-in-None-clause-err : goal.returns-in-None-clause-err
returns-in-None-clause-err g c = tt

pub returns-in-None-clause-aside : goal.returns-in-None-clause-aside
returns-in-None-clause-aside g c = refl

pub returns-in-None-clause-grows : goal.returns-in-None-clause-grows
returns-in-None-clause-grows g c = λ n there. there

use Rattle.std.proofs.Common.{◌≡◌, ◌<◌, true, length, arith, sym, ap, subst, ◌∙◌}
use Rattle.pg_graph.specs.IdRuns.{flattened, AreRuns, IsRunOf}
use Rattle.pg_graph.proofs.RunLists.{inside, run_found, run_in_rises, run_out, runs_out, runs_fewer, joined_removed, set_at, some_of, inside_set}
use Rattle.pg_graph.proofs.runs.remove_id.Goals as goal

pub index_mut-requires : goal.index_mut-requires
index_mut-requires c = let h = inside c.args.id c.as_slice.result.now c.in-Some.i c.in-Some.ensures.some in omega (arith, h, c.as_slice.ensures.len)

pub remove_id-requires : goal.remove_id-requires
remove_id-requires c =
    run_in_rises c.args.runs.now.items c.in-Some.i c.index_mut.result.now c.requires
    (inside c.args.id _ _ (run_found c.args.id c.args.runs.now.items _ c.in-Some.i c.as_slice.ensures.value c.in-Some.ensures.some)) c.index_mut.ensures.value

pub index-requires : goal.index-requires
index-requires c = let h = inside c.args.id c.as_slice.result.now c.in-Some.i c.in-Some.ensures.some in omega (arith, h, c.as_slice.ensures.len)

pub index-requires-then-is_sparse : goal.index-requires-then-is_sparse
index-requires-then-is_sparse c = let h = inside c.args.id c.as_slice.result.now c.in-Some.i c.in-Some.ensures.some in omega (arith, h, c.as_slice.ensures.len)

pub remove-requires : goal.remove-requires
remove-requires c = let h = inside c.args.id c.as_slice.result.now c.in-Some.i c.in-Some.ensures.some in omega (arith, h, c.as_slice.ensures.len)

pub returns-then-len-eq0-clause-removed : goal.returns-then-len-eq0-clause-removed
returns-then-len-eq0-clause-removed c =
    let rs = c.args.runs.now.items in
    let is : IsRunOf c.args.id rs c.in-Some.i = run_found c.args.id rs _ c.in-Some.i c.as_slice.ensures.value c.in-Some.ensures.some in
    let same : length c.index-then-is_sparse.result.now ≡ length c.remove_id.new.self = ap length (c.index-then-is_sparse.ensures ∙ set_at rs c.in-Some.i c.remove_id.new.self c.index-then-is_sparse.result.now (inside c.args.id _ _ is)) in
    let none : length c.remove_id.new.self ≡ 0 = sym same ∙ sym c.len.ensures ∙ c.if-len-eq0.true in
    ap flattened (c.shrink_list.ensures ∙ c.remove.ensures.items) ∙ joined_removed rs c.in-Some.i c.remove_id.new.self (inside c.args.id _ _ is) none
    ∙ run_out c.args.id rs c.in-Some.i c.index_mut.result.now c.remove_id.new.self is c.index_mut.ensures.value c.remove_id.ensures

pub returns-then-len-eq0-clause-runs : goal.returns-then-len-eq0-clause-runs
returns-then-len-eq0-clause-runs c =
    let rs = c.args.runs.now.items in
    let is : IsRunOf c.args.id rs c.in-Some.i = run_found c.args.id rs _ c.in-Some.i c.as_slice.ensures.value c.in-Some.ensures.some in
    let same : length c.index-then-is_sparse.result.now ≡ length c.remove_id.new.self = ap length (c.index-then-is_sparse.ensures ∙ set_at rs c.in-Some.i c.remove_id.new.self c.index-then-is_sparse.result.now (inside c.args.id _ _ is)) in
    let none : length c.remove_id.new.self ≡ 0 = sym same ∙ sym c.len.ensures ∙ c.if-len-eq0.true in
    subst AreRuns (sym (c.shrink_list.ensures ∙ c.remove.ensures.items))
    (runs_fewer c.args.id rs c.in-Some.i c.index_mut.result.now c.remove_id.new.self is c.index_mut.ensures.value c.remove_id.ensures none c.requires)

pub thin-requires-clause-inside : goal.thin-requires-clause-inside
thin-requires-clause-inside c =
    let rs = c.args.runs.now.items in
    let is : IsRunOf c.args.id rs c.in-Some.i = run_found c.args.id rs _ c.in-Some.i c.as_slice.ensures.value c.in-Some.ensures.some in
    inside_set rs c.in-Some.i c.in-Some.i c.remove_id.new.self (inside c.args.id _ _ is)

pub thin-requires-clause-runs : goal.thin-requires-clause-runs
thin-requires-clause-runs c =
    let rs = c.args.runs.now.items in
    let is : IsRunOf c.args.id rs c.in-Some.i = run_found c.args.id rs _ c.in-Some.i c.as_slice.ensures.value c.in-Some.ensures.some in
    let same : length c.index-then-is_sparse.result.now ≡ length c.remove_id.new.self = ap length (c.index-then-is_sparse.ensures ∙ set_at rs c.in-Some.i c.remove_id.new.self c.index-then-is_sparse.result.now (inside c.args.id _ _ is)) in
    let some : 0 < length c.remove_id.new.self = some_of _ (λ e. c.if-len-eq0.false (c.len.ensures ∙ same ∙ e)) in
    runs_out c.args.id rs c.in-Some.i c.index_mut.result.now c.remove_id.new.self is c.index_mut.ensures.value c.remove_id.ensures some c.requires

pub returns-else-len-eq0-clause-removed : goal.returns-else-len-eq0-clause-removed
returns-else-len-eq0-clause-removed c =
    c.thin.ensures.same
    ∙ run_out c.args.id c.args.runs.now.items c.in-Some.i c.index_mut.result.now c.remove_id.new.self
    (run_found c.args.id c.args.runs.now.items _ c.in-Some.i c.as_slice.ensures.value c.in-Some.ensures.some) c.index_mut.ensures.value c.remove_id.ensures

pub returns-else-is_sparse-clause-removed : goal.returns-else-is_sparse-clause-removed
returns-else-is_sparse-clause-removed c =
    run_out c.args.id c.args.runs.now.items c.in-Some.i c.index_mut.result.now c.remove_id.new.self
    (run_found c.args.id c.args.runs.now.items _ c.in-Some.i c.as_slice.ensures.value c.in-Some.ensures.some) c.index_mut.ensures.value c.remove_id.ensures

pub returns-else-is_sparse-clause-runs : goal.returns-else-is_sparse-clause-runs
returns-else-is_sparse-clause-runs c =
    let rs = c.args.runs.now.items in
    let is : IsRunOf c.args.id rs c.in-Some.i = run_found c.args.id rs _ c.in-Some.i c.as_slice.ensures.value c.in-Some.ensures.some in
    let same : length c.index.result.now ≡ length c.remove_id.new.self = ap length (c.index.ensures ∙ set_at rs c.in-Some.i c.remove_id.new.self c.index.result.now (inside c.args.id _ _ is)) in
    let some : 0 < length c.remove_id.new.self = some_of _ (λ e. let t : c.is_sparse.result ≡ true = c.is_sparse.ensures (same ∙ e) in absurd cc) in
    runs_out c.args.id rs c.in-Some.i c.index_mut.result.now c.remove_id.new.self is c.index_mut.ensures.value c.remove_id.ensures some c.requires

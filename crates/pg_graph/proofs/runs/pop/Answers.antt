use Rattle.std.proofs.Common.{◌≡◌, ◌<◌, suc, [], ◌∷◌, ◌++◌, length, arith, sym, ap, subst, ◌∙◌}
use Rattle.pg_graph.specs.IdRuns.{flattened, AreRuns}
use Rattle.pg_graph.proofs.RunLists.{run_popped, runs_popped, run_emptied, runs_emptied, set_at, some_of}
use Rattle.pg_graph.proofs.runs.pop.Goals as goal

pub returns-then-len-eq0-clause-some : goal.returns-then-len-eq0-clause-some
returns-then-len-eq0-clause-some c =
    let rs = c.args.runs.now.items in
    let i = c.in_ok-last.last in
    let last : suc i ≡ length rs = omega (arith, c.in_ok-last.ensures, c.len.ensures) in
    let none : length c.pop-id.new.self ≡ 0 = sym (ap length (c.index.ensures ∙ set_at rs i c.pop-id.new.self c.index.result.now (omega arith))) ∙ sym c.len-2.ensures ∙ c.if-len-eq0.true in
    run_popped c.pop-id.result rs i c.index_mut.result.now c.pop-id.new.self last c.index_mut.ensures.value c.pop-id.ensures
    ∙ ap (λ q. q ++ c.pop-id.result ∷ []) (sym (ap flattened (c.shrink_list.ensures ∙ c.truncate.ensures.items) ∙ run_emptied c.pop-id.result rs i c.index_mut.result.now c.pop-id.new.self last c.index_mut.ensures.value c.pop-id.ensures none))

pub returns-then-len-eq0-clause-runs : goal.returns-then-len-eq0-clause-runs
returns-then-len-eq0-clause-runs c =
    let rs = c.args.runs.now.items in
    let i = c.in_ok-last.last in
    let last : suc i ≡ length rs = omega (arith, c.in_ok-last.ensures, c.len.ensures) in
    let none : length c.pop-id.new.self ≡ 0 = sym (ap length (c.index.ensures ∙ set_at rs i c.pop-id.new.self c.index.result.now (omega arith))) ∙ sym c.len-2.ensures ∙ c.if-len-eq0.true in
    subst AreRuns (sym (c.shrink_list.ensures ∙ c.truncate.ensures.items)) (runs_emptied c.pop-id.result rs i c.index_mut.result.now c.pop-id.new.self last c.index_mut.ensures.value c.pop-id.ensures c.requires none)

pub returns-else-len-eq0-clause-some : goal.returns-else-len-eq0-clause-some
returns-else-len-eq0-clause-some c =
    let rs = c.args.runs.now.items in
    let i = c.in_ok-last.last in
    let last : suc i ≡ length rs = omega (arith, c.in_ok-last.ensures, c.len.ensures) in
    run_popped c.pop-id.result rs i c.index_mut.result.now c.pop-id.new.self last c.index_mut.ensures.value c.pop-id.ensures

pub returns-else-len-eq0-clause-runs : goal.returns-else-len-eq0-clause-runs
returns-else-len-eq0-clause-runs c =
    let rs = c.args.runs.now.items in
    let i = c.in_ok-last.last in
    let last : suc i ≡ length rs = omega (arith, c.in_ok-last.ensures, c.len.ensures) in
    let same : length c.index.result.now ≡ length c.pop-id.new.self = ap length (c.index.ensures ∙ set_at rs i c.pop-id.new.self c.index.result.now (omega arith)) in
    let some : 0 < length c.pop-id.new.self = some_of _ (λ e. c.if-len-eq0.false (c.len-2.ensures ∙ same ∙ e)) in
    runs_popped c.pop-id.result rs i c.index_mut.result.now c.pop-id.new.self last c.index_mut.ensures.value c.pop-id.ensures c.requires some

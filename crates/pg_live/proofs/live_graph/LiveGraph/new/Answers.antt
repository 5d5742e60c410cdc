use Rattle.std.proofs.Common.{◌≡◌, ℕ, get_or, subst, sym}
use Rattle.pg_live.proofs.HeldLemmas.{fit_of_parts}
use Rattle.pg_live.proofs.OpeningLemmas.{first_fits, opened_begins, opened_graphs, opened_live, opened_pairs}
use Rattle.pg_live.specs.Opening.{Opens}
use Rattle.pg_live.proofs.live_graph.LiveGraph.new.Goals as goal

pub mark-mark-requires : goal.mark-mark-requires
mark-mark-requires g c =
    let seen = g.T.Tables.seen in
    let is : c.swap.new.x ≡ get_or c.in_ok-others.others.items 0 c.swap.new.x = subst (λ s. s ≡ get_or c.in_ok-others.others.items 0 s) (sym c.swap.ensures.x_after) c.index_mut.ensures.value in
    let spare : Opens seen c.new-store.result c.args.count = record {
      own = c.new-store.ensures.owner;
      fit = λ shared distinct unused. fit_of_parts seen c.new-store.result (record { names = shared.names; tables = shared.tables }) (c.new-store.ensures.fit (record { names = shared.names; tables = shared.tables }) distinct unused);
      empty = λ shared unused. c.new-store.ensures.empty (record { names = shared.names; tables = shared.tables }) unused;
      indexes = c.new-store.ensures.indexes;
    } in
    let unused : (owner : ℕ) → seen.is_unused owner c.new-shared.result.tables = λ owner. subst (seen.is_unused owner) (sym c.new-shared.ensures.tables) (c.new_shared.ensures.unused owner) in
    record { fit = first_fits seen c.args.count c.in_ok-others.others.items c.in_ok-others.ensures c.requires.some c.new-store.result c.swap.new.x spare is c.new-shared.result c.new-shared.ensures.distinct unused }

pub invariant_of-result : goal.invariant_of-result
invariant_of-result g c =
    let seen = g.T.Tables.seen in
    let is : c.swap.new.x ≡ get_or c.in_ok-others.others.items 0 c.swap.new.x = subst (λ s. s ≡ get_or c.in_ok-others.others.items 0 s) (sym c.swap.ensures.x_after) c.index_mut.ensures.value in
    let spare : Opens seen c.swap.new.y c.args.count = subst (λ s. Opens seen s c.args.count) (sym c.swap.ensures.y_after) (record {
      own = c.new-store.ensures.owner;
      fit = λ shared distinct unused. fit_of_parts seen c.new-store.result (record { names = shared.names; tables = shared.tables }) (c.new-store.ensures.fit (record { names = shared.names; tables = shared.tables }) distinct unused);
      empty = λ shared unused. c.new-store.ensures.empty (record { names = shared.names; tables = shared.tables }) unused;
      indexes = c.new-store.ensures.indexes;
    }) in
    let unused : (owner : ℕ) → seen.is_unused owner c.new-shared.result.tables = λ owner. subst (seen.is_unused owner) (sym c.new-shared.ensures.tables) (c.new_shared.ensures.unused owner) in
    opened_live seen c.args.count c.in_ok-others.others.items c.in_ok-others.ensures c.requires.some c.swap.new.y c.swap.new.x spare is c.new-shared.result c.new-shared.ensures.distinct unused c.mark-mark.result c.mark-mark.ensures.names c.in_ok-begins.begins.items c.in_ok-begins.ensures c.mark-mark.ensures.there

pub returns-clause-graphs : goal.returns-clause-graphs
returns-clause-graphs g c =
    let seen = g.T.Tables.seen in
    let is : c.swap.new.x ≡ get_or c.in_ok-others.others.items 0 c.swap.new.x = subst (λ s. s ≡ get_or c.in_ok-others.others.items 0 s) (sym c.swap.ensures.x_after) c.index_mut.ensures.value in
    let spare : Opens seen c.swap.new.y c.args.count = subst (λ s. Opens seen s c.args.count) (sym c.swap.ensures.y_after) (record {
      own = c.new-store.ensures.owner;
      fit = λ shared distinct unused. fit_of_parts seen c.new-store.result (record { names = shared.names; tables = shared.tables }) (c.new-store.ensures.fit (record { names = shared.names; tables = shared.tables }) distinct unused);
      empty = λ shared unused. c.new-store.ensures.empty (record { names = shared.names; tables = shared.tables }) unused;
      indexes = c.new-store.ensures.indexes;
    }) in
    let unused : (owner : ℕ) → seen.is_unused owner c.new-shared.result.tables = λ owner. subst (seen.is_unused owner) (sym c.new-shared.ensures.tables) (c.new_shared.ensures.unused owner) in
    opened_graphs seen c.args.count c.in_ok-others.others.items c.in_ok-others.ensures c.requires.some c.swap.new.y c.swap.new.x spare is c.new-shared.result c.new-shared.ensures.distinct unused c.mark-mark.result c.mark-mark.ensures.names c.in_ok-begins.begins.items c.in_ok-begins.ensures

pub returns-clause-begins : goal.returns-clause-begins
returns-clause-begins g c =
    let seen = g.T.Tables.seen in
    let is : c.swap.new.x ≡ get_or c.in_ok-others.others.items 0 c.swap.new.x = subst (λ s. s ≡ get_or c.in_ok-others.others.items 0 s) (sym c.swap.ensures.x_after) c.index_mut.ensures.value in
    let spare : Opens seen c.swap.new.y c.args.count = subst (λ s. Opens seen s c.args.count) (sym c.swap.ensures.y_after) (record {
      own = c.new-store.ensures.owner;
      fit = λ shared distinct unused. fit_of_parts seen c.new-store.result (record { names = shared.names; tables = shared.tables }) (c.new-store.ensures.fit (record { names = shared.names; tables = shared.tables }) distinct unused);
      empty = λ shared unused. c.new-store.ensures.empty (record { names = shared.names; tables = shared.tables }) unused;
      indexes = c.new-store.ensures.indexes;
    }) in
    let unused : (owner : ℕ) → seen.is_unused owner c.new-shared.result.tables = λ owner. subst (seen.is_unused owner) (sym c.new-shared.ensures.tables) (c.new_shared.ensures.unused owner) in
    opened_begins seen c.args.count c.in_ok-others.others.items c.in_ok-others.ensures c.requires.some c.swap.new.y c.swap.new.x spare is c.new-shared.result c.new-shared.ensures.distinct unused c.mark-mark.result c.mark-mark.ensures.names c.in_ok-begins.begins.items c.in_ok-begins.ensures

pub returns-clause-pairs : goal.returns-clause-pairs
returns-clause-pairs g c =
    let seen = g.T.Tables.seen in
    let is : c.swap.new.x ≡ get_or c.in_ok-others.others.items 0 c.swap.new.x = subst (λ s. s ≡ get_or c.in_ok-others.others.items 0 s) (sym c.swap.ensures.x_after) c.index_mut.ensures.value in
    let spare : Opens seen c.swap.new.y c.args.count = subst (λ s. Opens seen s c.args.count) (sym c.swap.ensures.y_after) (record {
      own = c.new-store.ensures.owner;
      fit = λ shared distinct unused. fit_of_parts seen c.new-store.result (record { names = shared.names; tables = shared.tables }) (c.new-store.ensures.fit (record { names = shared.names; tables = shared.tables }) distinct unused);
      empty = λ shared unused. c.new-store.ensures.empty (record { names = shared.names; tables = shared.tables }) unused;
      indexes = c.new-store.ensures.indexes;
    }) in
    let unused : (owner : ℕ) → seen.is_unused owner c.new-shared.result.tables = λ owner. subst (seen.is_unused owner) (sym c.new-shared.ensures.tables) (c.new_shared.ensures.unused owner) in
    opened_pairs seen c.args.count c.in_ok-others.others.items c.in_ok-others.ensures c.requires.some c.swap.new.y c.swap.new.x spare is c.new-shared.result c.new-shared.ensures.distinct unused c.mark-mark.result c.mark-mark.ensures.names c.in_ok-begins.begins.items c.in_ok-begins.ensures

pub returns-clause-unused : goal.returns-clause-unused
returns-clause-unused g c = λ owner. subst (g.T.Tables.seen.is_unused owner) (sym c.new-shared.ensures.tables) (c.new_shared.ensures.unused owner)

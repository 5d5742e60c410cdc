use Rattle.std.proofs.Common.{[], ◌∷◌, map, option_map, subst}
use Rattle.std.specs.Prelude.{flat_map}
use Rattle.pg_meaning.specs.StaticFaults.{node_part, hop_parts, path_variable_part}
use Rattle.pg_meaning.specs.Tokens.{is_empty}
use Rattle.pg_scope.proofs.PartLemmas.{no_variable, passes_variable, then_passes}
use Rattle.pg_scope.specs.Modes.{mode_view}
use Rattle.pg_scope.specs.Names.{names_in, HasSame}
use Rattle.pg_scope.specs.Used.{used_in, Passes}
use Rattle.pg_syntax_tree.specs.View.{hop_view, name_view, node_view, path_view}
use Rattle.pg_scope.proofs.paths.pass_path.Goals as goal

pub returns : goal.returns
returns c =
    let p = c.args.path.now in
    let mode = mode_view c.args.mode in
    let outer = names_in c.args.outer.now in
    let begun = used_in c.args.used.now in
    let used = used_in c.pass_hops.new.used in
    let hops = flat_map hop_parts (map hop_view p.hops.items) in
    let variable : Passes mode outer (path_variable_part (option_map name_view p.variable)) begun c.args.first (used_in c.match-path.used) c.match-path.first = elim c.match-path.branch [
      | goal.in-Some+in_ok-add w ↦ rw w.used-is (rw w.first-is (rw w.in-Some.is (passes_variable mode w.fault_in_new-first.ensures
          (subst (λ t. HasSame (names_in w.add.new.names) (t ∷ begun.others)) w.as_str.ensures.value w.in_ok-add.ensures.names))))
      | goal.in_default w ↦ rw w.used-is (rw w.first-is (no_variable mode outer p.variable w.in_default.not-Some))
    ] in
    let node = subst (λ b. Passes mode outer (node_part b (node_view p.first) ∷ []) (used_in c.match-path.used) c.match-path.first (used_in c.pass_node.new.used) c.in_ok-first.first) c.is_one_node-is_whole.ensures c.in_ok-first.ensures in
    then_passes (node_part (is_empty (path_view p).hops) (node_view p.first) ∷ hops) used c.pass_hops.result variable (then_passes hops used c.pass_hops.result node c.pass_hops.ensures)

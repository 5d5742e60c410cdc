use Rattle.std.proofs.Common.{map, refl, ◌∙◌}
use Rattle.std.specs.Prelude.{flat_map}
use Rattle.pg_meaning.specs.StaticFaults.{path_parts}
use Rattle.pg_scope.proofs.PartLemmas.{passes_item, passes_all}
use Rattle.pg_scope.specs.Modes.{mode_view}
use Rattle.pg_scope.specs.Names.{names_in}
use Rattle.pg_scope.specs.Used.{used_in}
use Rattle.pg_syntax_tree.specs.View.{path_view}
use Rattle.pg_scope.proofs.paths.pass_paths.Goals as goal

pub loop-path-preserved : goal.loop-path-preserved
loop-path-preserved c = λ rest.
    c.loop-path.invariant rest
    ∙ passes_item (λ ys. flat_map path_parts (map path_view ys)) (λ ys. refl) c.loop-path-test.true c.path-item.is c.deref-path-items.ensures.value c.in_ok-first.ensures rest

pub loop-path-init : goal.loop-path-init
loop-path-init c = λ rest. refl

pub returns : goal.returns
returns c =
    let l = c.loop-path in
    passes_all (λ ys. flat_map path_parts (map path_view ys)) refl c.loop-path-test.false c.deref-path-items.ensures.value (mode_view c.args.mode) (names_in c.args.outer.now) (used_in c.args.used.now) (used_in l.used) c.args.first l.first l.invariant

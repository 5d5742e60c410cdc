use Rattle.std.proofs.Common.{rules, ◌≡◌, List, ◌∷◌, length, ap, ◌∙◌}
use Rattle.pg_syntax_tree.specs.View.{path_view}
use Rattle.pg_syntax_tree.specs.declared.patterns.PathPattern.{PathPattern}
use Rattle.pg_write_make.proofs.BareLemmas.{alone_fails, alone_leaves}
use Rattle.pg_write_make.proofs.TrailLemmas.{none_there}
use Rattle.pg_write_make.specs.Lent.{paths_view}
use Rattle.pg_write_make.specs.Scenes.{max_elements_in, parameters_in}
use Rattle.pg_write_make.proofs.bare.make_all.Goals as goal

pub returns-then-is_empty-clause-ok : goal.returns-then-is_empty-clause-ok
returns-then-is_empty-clause-ok g c =
    let scene = c.args.row.now.scene.now in
    let ps = paths_view c.args.paths.now in
    let few : length c.in-Some.others.now ≡ 0 = search rules in
    let none = none_there c.in-Some.others.now few in
    let alone = ap paths_view (c.in-Some.ensures.cases.0 ∙ ap (λ (os : List PathPattern). c.in-Some.path.now ∷ os) none) in
    alone_leaves (max_elements_in scene) scene.names.now c.args.row.now.values.now ps c.requires.bare.wide c.requires.bare.names (parameters_in scene) c.args.live.now.graph (path_view c.in-Some.path.now) alone c.make_lone.result c.make_lone.new.live.graph c.make_lone.ensures.ok

pub returns-then-is_empty-clause-err : goal.returns-then-is_empty-clause-err
returns-then-is_empty-clause-err g c =
    let scene = c.args.row.now.scene.now in
    let ps = paths_view c.args.paths.now in
    let few : length c.in-Some.others.now ≡ 0 = search rules in
    let none = none_there c.in-Some.others.now few in
    let alone = ap paths_view (c.in-Some.ensures.cases.0 ∙ ap (λ (os : List PathPattern). c.in-Some.path.now ∷ os) none) in
    alone_fails (max_elements_in scene) scene.names.now c.args.row.now.values.now ps c.requires.bare.wide c.requires.bare.names (parameters_in scene) c.args.live.now.graph (path_view c.in-Some.path.now) alone c.make_lone.result c.make_lone.ensures.err

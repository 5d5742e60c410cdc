use Rattle.std.proofs.Common.{rules, ◌≡◌, ◌++◌, ◌∷◌, [], true, false, map, Some, option_map, is_some, sym, ap, ◌∙◌}
use Rattle.std.proofs.lemmas.List.{map-append}
use Rattle.pg_meaning.specs.Patterns.{text_of}
use Rattle.pg_meaning.specs.Rows.{value_in}
use Rattle.pg_rows.specs.Named.{row_of}
use Rattle.pg_syntax_tree.specs.View.{name_view}
use Rattle.pg_value_core.specs.View.{view}
use Rattle.pg_write_make.proofs.ShortLemmas.{binds_last, binds_old}
use Rattle.pg_write_make.proofs.short.bind_new.Goals as goal

pub returns-then-is_some : goal.returns-then-is_some
returns-then-is_some c =
    let names = c.args.scene.now.names.now in
    let values = map view c.args.values.now.items in
    let text = c.as_str.result.now in
    let some : text_of (option_map name_view c.args.variable.now) ≡ Some text = ap (λ o. text_of (option_map name_view o)) c.in-Some.is ∙ ap Some (sym c.as_str.ensures.value) in
    let there : is_some (value_in text (row_of names values)) ≡ true = search rules in
    binds_old names values (text_of (option_map name_view c.args.variable.now)) (view c.args.value) text some there

pub returns : goal.returns
returns c =
    let names = c.args.scene.now.names.now in
    let values = map view c.args.values.now.items in
    let text = c.as_str.result.now in
    let some : text_of (option_map name_view c.args.variable.now) ≡ Some text = ap (λ o. text_of (option_map name_view o)) c.in-Some.is ∙ ap Some (sym c.as_str.ensures.value) in
    let free : is_some (value_in text (row_of names values)) ≡ false = search rules in
    let pushed : map view c.push.new.self.items ≡ values ++ view c.args.value ∷ [] = ap (map view) c.in_ok-push.ensures.items ∙ map-append view c.args.values.now.items (c.args.value ∷ []) in
    binds_last names values (text_of (option_map name_view c.args.variable.now)) (view c.args.value) text (map view c.push.new.self.items) some free pushed

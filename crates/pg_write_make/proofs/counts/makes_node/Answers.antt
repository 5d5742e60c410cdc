use Rattle.std.proofs.Common.{rules, ◌≡◌, true, false, List, ℕ, [], ◌∷◌, ◌++◌, Some, option_map, sym, ap, ◌∙◌}
use Rattle.std.proofs.lemmas.List.{map-append}
use Rattle.std.specs.Borrow.{Bor}
use Rattle.pg_meaning.specs.Names.{is_among}
use Rattle.pg_meaning.specs.Patterns.{node_name, text_of}
use Rattle.pg_meaning.specs.Updates.{count_nodes}
use Rattle.pg_store.specs.Stores.{texts_of}
use Rattle.pg_syntax_tree.specs.View.{name_view, node_view}
use Rattle.pg_write_make.proofs.CountLemmas.{new_counts}
use Rattle.pg_write_make.specs.Creations.{count_one}
use Rattle.pg_write_make.proofs.counts.makes_node.Goals as goal

pub returns : goal.returns
returns c = λ ns.
    let names = c.args.names.now in
    let seen = texts_of c.args.seen.now.items in
    let text = c.as_str-text.result.now in
    let is : node_name (node_view c.args.pattern.now) ≡ Some text = ap (λ o. text_of (option_map name_view o)) c.in-Some.is ∙ ap Some (sym c.as_str-text.ensures.value) in
    let new : is_among (seen ++ names) text ≡ false = search rules in
    let pushed : texts_of c.push.new.self.items ≡ seen ++ text ∷ [] = ap texts_of c.in_ok-push.ensures.items ∙ map-append (λ (t : Bor (List ℕ)). t.now) c.args.seen.now.items (c.as_str-text.result ∷ []) in
    new_counts seen names text (node_view c.args.pattern.now) ns is new ∙ ap (λ ts. count_one true (count_nodes (ts ++ names) ns)) (sym pushed)

use Rattle.std.proofs.Common.{◌≡◌, ◌==◌, Bool, true, false, not, cond, Option, Some, None, Bor, IsSome, is_some, [], ◌∷◌, ◌++◌, option_copied, lit<, refl, subst, sym, ap, ◌∙◌}
use Rattle.std.proofs.lemmas.Result.{on_ok_weaker, on_err_weaker}
use Rattle.std.specs.Option.{option_map_or}
use Rattle.std.specs.FinMap as map
use Rattle.pg_graph.specs.Links.{links_at, with_id, numbers}
use Rattle.pg_graph.specs.Sorted.{Rises}
use Rattle.pg_graph.proofs.Maps.{get_inserted}
use Rattle.pg_graph.proofs.Ids.{list_at_inserted, twice_at, at_node, at_node_same, numbers_put, rises_of_numbers}
use Rattle.pg_graph.proofs.links.Links.add.Goals as goal

nothing_read : {X : Type 0} (r : Option (Bor X)) (b : Bool) → is_some r ≡ not b → b ≡ true → option_copied r ≡ None
nothing_read None b h e = refl
nothing_read (Some x) true h e = absurd (cc)
nothing_read (Some x) false h e = absurd (cc)

pub returns-then-is_none-clause-ok : goal.returns-then-is_none-clause-ok
returns-then-is_none-clause-ok c =
    let none = sym c.get.ensures ∙ nothing_read _ _ c.is_none.ensures c.if-is_none.true in
    on_ok_weaker c.insert.result (λ e q.
    ap (λ m. option_map_or (λ v. numbers v.items) (map.get m q) []) e
    ∙ list_at_inserted (λ v. numbers v.items) c.args.self.now.lists c.args.node c.push.new.self q
    ∙ at_node (with_id c.args.id.0) (links_at c.args.self.now) c.args.node q _
    (ap numbers (c.in_ok-push.ensures.ok ∙ ap (λ xs. xs ++ c.args.id ∷ []) c.new-ids.ensures.items) ∙ ap (λ o. with_id c.args.id.0 (option_map_or (λ v. numbers v.items) o [])) (sym none)))
    c.insert.ensures.ok

pub replace-requires : goal.replace-requires
replace-requires c = subst IsSome (sym (ap (λ m. map.get m c.args.node) c.replace-ids.ensures.replaced ∙ get_inserted _ c.args.node _)) refl

pub put-added-requires : goal.put-added-requires
put-added-requires c = (
  lit< tt,
  rises_of_numbers (λ r. r.0) c.replace-ids.result.items
      (subst (Rises (λ n. n)) (ap (λ o. option_map_or (λ v. numbers v.items) o []) c.replace-ids.ensures.before) (c.requires c.args.node)),
)

pub returns-clause-ok : goal.returns-clause-ok
returns-clause-ok c = on_ok_weaker c.put-added.result (λ e q.
    let lists = c.args.self.now.lists in
    ap (λ m. option_map_or (λ v. numbers v.items) (map.get m q) []) (c.replace.ensures.replaced ∙ ap (λ m. map.insert m c.args.node c.put-added.new.items) c.replace-ids.ensures.replaced)
    ∙ list_at_inserted (λ v. numbers v.items) (map.insert lists c.args.node _) c.args.node c.put-added.new.items q
    ∙ ap (cond (q == c.args.node) (numbers c.put-added.new.items.items)) (list_at_inserted (λ v. numbers v.items) lists c.args.node _ q)
    ∙ twice_at (q == c.args.node) _ _ _
    ∙ at_node (with_id c.args.id.0) (links_at c.args.self.now) c.args.node q _
    (ap numbers e ∙ numbers_put (λ r. r.0) c.args.id c.replace-ids.result.items ∙ ap (λ o. with_id c.args.id.0 (option_map_or (λ v. numbers v.items) o [])) (sym c.replace-ids.ensures.before)))
    c.put-added.ensures.ok

pub returns-clause-err : goal.returns-clause-err
returns-clause-err c = on_err_weaker c.put-added.result (λ e q.
    let lists = c.args.self.now.lists in
    ap (λ m. option_map_or (λ v. numbers v.items) (map.get m q) []) (c.replace.ensures.replaced ∙ ap (λ m. map.insert m c.args.node c.put-added.new.items) c.replace-ids.ensures.replaced)
    ∙ list_at_inserted (λ v. numbers v.items) (map.insert lists c.args.node _) c.args.node c.put-added.new.items q
    ∙ ap (cond (q == c.args.node) (numbers c.put-added.new.items.items)) (list_at_inserted (λ v. numbers v.items) lists c.args.node _ q)
    ∙ twice_at (q == c.args.node) _ _ _
    ∙ at_node_same (links_at c.args.self.now) c.args.node q _
    (ap numbers e ∙ ap (λ o. option_map_or (λ v. numbers v.items) o []) (sym c.replace-ids.ensures.before)))
    c.put-added.ensures.err

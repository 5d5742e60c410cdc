use Rattle.std.proofs.Common.{◌≡◌, ◌==◌, ℕ, true, cond, List, [], ◌∷◌, length, arith, refl, sym, ap, ◌∙◌}
use Rattle.std.proofs.lemmas.Bool.Decides.{nat_tests}
use Rattle.std.specs.Option.{option_map_or}
use Rattle.std.specs.FinMap as map
use Rattle.pg_graph.specs.Links.{links_at, numbers}
use Rattle.pg_graph.proofs.Ids.{list_at_inserted, list_at_removed}
use Rattle.pg_graph.proofs.links.Links.keep.Goals as goal

nothing : {X : Type 0} (xs : List X) → (length xs == 0) ≡ true → xs ≡ []
nothing [] h = refl
nothing (x ∷ xs) h = absurd (omega (arith, zero_only (length (x ∷ xs)) h))
  where
    zero_only : (n : ℕ) → (n == 0) ≡ true → n ≡ 0
    zero_only n h = grind (arith, nat_tests)

pub returns-then-is_empty : goal.returns-then-is_empty
returns-then-is_empty c = λ q.
    ap (λ m. option_map_or (λ v. numbers v.items) (map.get m q) []) c.remove.ensures.removed
    ∙ list_at_removed (λ v. numbers v.items) c.args.self.now.lists c.args.node q
    ∙ ap (λ xs. cond (q == c.args.node) xs (links_at c.args.self.now q)) (sym (ap numbers (nothing c.args.ids.items (sym c.is_empty.ensures ∙ c.if-is_empty.true))))

pub returns : goal.returns
returns c = λ q.
    ap (λ m. option_map_or (λ v. numbers v.items) (map.get m q) []) c.replace.ensures.replaced
    ∙ list_at_inserted (λ v. numbers v.items) c.args.self.now.lists c.args.node c.args.ids q

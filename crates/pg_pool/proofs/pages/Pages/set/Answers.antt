use Rattle.std.proofs.Common.{◌≡◌, ℕ, List, IsSome, subst, sym, ap, ◌∙◌, length, slice_set}
use Rattle.std.proofs.lemmas.Option.{slice_get_within}
use Rattle.std.specs.Cmp.{nat_eq_equiv}
use Rattle.std.specs.FinMap as map
use Rattle.indexmap.proofs.CallerLemmas.{updates-with_value_at}
use Rattle.pg_pool.proofs.Hashed.{entries_inserted, get_of_entries, of_some, some_where}
use Rattle.pg_pool.proofs.SlotChanges.{same_some}
use Rattle.pg_pool.proofs.pages.Pages.set.Goals as goal

pub unwrap-index-requires : goal.unwrap-index-requires
unwrap-index-requires c =
    some_where _ _ c.index_of.ensures.none (subst IsSome (sym (ap (λ m. map.get m c.args.number) c.self.view_is) ∙ get_of_entries _ _) c.requires.present)

pub pair_mut-page-requires : goal.pair_mut-page-requires
pair_mut-page-requires c = slice_get_within _ _ _ (of_some _ _ _ c.index_of.ensures.some c.unwrap-index.ensures).1

pub returns-clause-long : goal.returns-clause-long
returns-clause-long c page there =
    let at = of_some _ _ _ c.index_of.ensures.some c.unwrap-index.ensures in
    let same : page ≡ at.0 = same_some _ _ (sym there ∙ ap (λ m. map.get m c.args.number) (sym c.self.view_is) ∙ get_of_entries _ _ ∙ at.2) in
    let pair = same_some _ _ (sym c.pair_mut-page.ensures.value ∙ at.1) in
    ap length (same ∙ sym (ap (λ p. p.1) pair)) ∙ c.write.ensures.long

pub returns-clause-written : goal.returns-clause-written
returns-clause-written c page there =
    let at = of_some _ _ _ c.index_of.ensures.some c.unwrap-index.ensures in
    let same : page ≡ at.0 = same_some _ _ (sym there ∙ ap (λ m. map.get m c.args.number) (sym c.self.view_is) ∙ get_of_entries _ _ ∙ at.2) in
    let pair = same_some _ _ (sym c.pair_mut-page.ensures.value ∙ at.1) in
    let new = c.write.new.page in
    entries_inserted c.self.inside.kept.entries _ c.args.number new
    (updates-with_value_at c.self.inside.kept c.unwrap-index.result new nat_eq_equiv c.pair_mut-page.ensures.unique c.args.number at.0 at.1).0
    ∙ ap (λ m. map.insert m c.args.number new) c.self.view_is
    ∙ ap (map.insert c.args.self.now c.args.number) (c.write.ensures.written ∙ ap (λ (p : List ℕ). slice_set p c.args.at c.args.place) (ap (λ p. p.1) pair ∙ sym same))

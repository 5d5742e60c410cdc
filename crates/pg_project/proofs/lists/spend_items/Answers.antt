use Rattle.std.proofs.Common.{◌≡◌, ◌+◌, ◌<◌, ◌≤◌, ◌∷◌, get_or, length, map, drop, sum, sym, ap, subst, ◌∙◌, arith}
use Rattle.std.proofs.lemmas.List.{drop_all, drop_more, length-map}
use Rattle.std.proofs.lemmas.List.Sums.{sum_by-cons}
use Rattle.pg_meaning.specs.Answer.{◌>>=◌}
use Rattle.pg_meaning.specs.Meters.{spend}
use Rattle.pg_project.proofs.Spending.{none_spent, spent_twice, refused_is}
use Rattle.pg_project.specs.Unwound.{lists_view}
use Rattle.pg_value_core.specs.View.{view}
use Rattle.pg_project.proofs.lists.spend_items.Goals as goal

pub loop-list-preserved : goal.loop-list-preserved
loop-list-preserved c =
    let l = c.loop-list in
    let items = c.args.lists.now.items in
    let item = c.list-item.result in
    let same = c.deref-list-items.ensures.value in
    let inside : l.list-index < length items = subst (λ n. l.list-index < n) (ap length same) c.loop-list-test.true in
    let is : item ≡ get_or items l.list-index item = c.list-item.is ∙ ap (λ xs. get_or xs l.list-index item) same in
    let rest = sum (map length (lists_view (drop (l.list-index + 1) items))) in
    let here : drop l.list-index items ≡ item ∷ drop (l.list-index + 1) items = drop_more items l.list-index item inside ∙ ap (λ y. y ∷ drop (l.list-index + 1) items) (sym is) in
    record {
      left = λ s q.
          l.invariant.left s q
          ∙ ap (λ ls. spend s l.meter.used (sum (map length (lists_view ls)))) here
          ∙ ap (spend s l.meter.used) (sum_by-cons (λ n. n) (length (map view item.items)) (map length (lists_view (drop (l.list-index + 1) items))))
          ∙ spent_twice s l.meter.used (length (map view item.items)) rest
          ∙ ap (λ a. a >>= λ v. spend s v rest) (ap (spend s l.meter.used) (length-map item.items view ∙ sym (c.len.ensures ∙ item.ok.0)) ∙ c.in_ok-spend.ensures.spends s (q ∙ sym l.invariant.limit));
      limit = c.in_ok-spend.ensures.limit ∙ l.invariant.limit;
    }

pub returns-in_err-spend-clause-spends : goal.returns-in_err-spend-clause-spends
returns-in_err-spend-clause-spends c =
    let l = c.loop-list in
    let items = c.args.lists.now.items in
    let item = c.list-item.result in
    let same = c.deref-list-items.ensures.value in
    let inside : l.list-index < length items = subst (λ n. l.list-index < n) (ap length same) c.loop-list-test.true in
    let is : item ≡ get_or items l.list-index item = c.list-item.is ∙ ap (λ xs. get_or xs l.list-index item) same in
    let rest = sum (map length (lists_view (drop (l.list-index + 1) items))) in
    let here : drop l.list-index items ≡ item ∷ drop (l.list-index + 1) items = drop_more items l.list-index item inside ∙ ap (λ y. y ∷ drop (l.list-index + 1) items) (sym is) in
    λ s q.
    l.invariant.left s q
    ∙ ap (λ ls. spend s l.meter.used (sum (map length (lists_view ls)))) here
    ∙ ap (spend s l.meter.used) (sum_by-cons (λ n. n) (length (map view item.items)) (map length (lists_view (drop (l.list-index + 1) items))))
    ∙ spent_twice s l.meter.used (length (map view item.items)) rest
    ∙ ap (λ a. a >>= λ v. spend s v rest) (ap (spend s l.meter.used) (length-map item.items view ∙ sym (c.len.ensures ∙ item.ok.0)) ∙ c.in_err-spend.ensures.spends s (q ∙ sym l.invariant.limit))
    ∙ sym (refused_is c.from_residual.result c.in_err-spend.field-0.0 c.spend.new.self.used c.from_residual.ensures.1)

pub returns-clause-spends : goal.returns-clause-spends
returns-clause-spends c =
    let l = c.loop-list in
    let items = c.args.lists.now.items in
    let same = c.deref-list-items.ensures.value in
    let ended : length items ≤ l.list-index = subst (λ n. n ≤ l.list-index) (ap length same) c.loop-list-test.false in
    λ s q.
    l.invariant.left s q
    ∙ ap (λ ls. spend s l.meter.used (sum (map length (lists_view ls)))) (drop_all l.list-index items ended)
    ∙ none_spent s l.meter.used (let within : l.meter.used ≤ l.meter.limit = omega (arith, c.left-left.ensures) in subst (λ n. l.meter.used ≤ n) (l.invariant.limit ∙ sym q) within)

use Rattle.std.proofs.Common.{◌≡◌, List, [], ◌∷◌, length, nat_cmp, Ordering, Less, Equal, Greater, sym, ap, ◌∙◌}
use Rattle.std.proofs.lemmas.List.{nil_from_length}
use Rattle.std.specs.Ordering.{match_ordering}
use Rattle.pg_graph.specs.Links.{numbers}
use Rattle.pg_store.proofs.incident.Merged.next.Goals as goal
use Rattle.pg_store.specs.Merged.{merged}
use Rattle.pg_value_core.specs.declared.ids.RelId.{RelId}

module _ (xs ys : List RelId) where
  module _ (x y : RelId) (later_xs later_ys : List RelId) (at_x : xs ≡ x ∷ later_xs) (at_y : ys ≡ y ∷ later_ys) where
    in_order : (o : Ordering) → nat_cmp x.0 y.0 ≡ o
        → merged (numbers xs) (numbers ys)
        ≡ match_ordering o (x.0 ∷ merged (numbers later_xs) (y.0 ∷ numbers later_ys)) (x.0 ∷ merged (numbers later_xs) (numbers later_ys)) (y.0 ∷ merged (x.0 ∷ numbers later_xs) (numbers later_ys))
    in_order o is =
        (λ k. merged (numbers (at_x k)) (numbers (at_y k)))
        ∙ ap (λ o. match_ordering o (x.0 ∷ merged (numbers later_xs) (y.0 ∷ numbers later_ys)) (x.0 ∷ merged (numbers later_xs) (numbers later_ys)) (y.0 ∷ merged (x.0 ∷ numbers later_xs) (numbers later_ys))) is

    first : nat_cmp x.0 y.0 ≡ Less → merged (numbers xs) (numbers ys) ≡ x.0 ∷ merged (numbers later_xs) (numbers ys)
    first is = in_order Less is ∙ ap (λ zs. x.0 ∷ merged (numbers later_xs) (numbers zs)) (sym at_y)

    both : nat_cmp x.0 y.0 ≡ Equal → merged (numbers xs) (numbers ys) ≡ x.0 ∷ merged (numbers later_xs) (numbers later_ys)
    both is = in_order Equal is

    second : nat_cmp x.0 y.0 ≡ Greater → merged (numbers xs) (numbers ys) ≡ y.0 ∷ merged (numbers xs) (numbers later_ys)
    second is = in_order Greater is ∙ ap (λ zs. y.0 ∷ merged (numbers zs) (numbers later_ys)) (sym at_x)

  only_first : (x : RelId) (later : List RelId) → xs ≡ x ∷ later → length ys ≡ 0 → merged (numbers xs) (numbers ys) ≡ x.0 ∷ merged (numbers later) (numbers ys)
  only_first x later at none =
      let end = nil_from_length ys none in
      (λ k. merged (numbers (at k)) (numbers (end k))) ∙ ap (λ zs. x.0 ∷ merged (numbers later) (numbers zs)) (sym end)

  only_second : (y : RelId) (later : List RelId) → length xs ≡ 0 → ys ≡ y ∷ later → merged (numbers xs) (numbers ys) ≡ y.0 ∷ merged (numbers xs) (numbers later)
  only_second y later none at =
      let end = nil_from_length xs none in
      (λ k. merged (numbers (end k)) (numbers (at k))) ∙ ap (λ zs. y.0 ∷ merged (numbers zs) (numbers later)) (sym end)

  neither : length xs ≡ 0 → length ys ≡ 0 → merged (numbers xs) (numbers ys) ≡ []
  neither no_xs no_ys = λ k. merged (numbers (nil_from_length xs no_xs k)) (numbers (nil_from_length ys no_ys k))

pub returns-in-Less-clause-some : goal.returns-in-Less-clause-some
returns-in-Less-clause-some c =
    let ids = c.in-Some-Some in
    let lists = c.self.inside in
    sym c.self.view_is
    ∙ first lists.outgoing.now lists.incoming.now ids.out.now ids.into.now ids.others.now ids.rest.now ids.ensures.cases.0 ids.ensures'.cases.0 (sym c.cmp.ensures ∙ c.in-Less.is)

pub returns-in-Equal-clause-some : goal.returns-in-Equal-clause-some
returns-in-Equal-clause-some c =
    let ids = c.in-Some-Some in
    let lists = c.self.inside in
    sym c.self.view_is
    ∙ both lists.outgoing.now lists.incoming.now ids.out.now ids.into.now ids.others.now ids.rest.now ids.ensures.cases.0 ids.ensures'.cases.0 (sym c.cmp.ensures ∙ c.in-Equal.is)

pub returns-in-Greater-clause-some : goal.returns-in-Greater-clause-some
returns-in-Greater-clause-some c =
    let ids = c.in-Some-Some in
    let lists = c.self.inside in
    sym c.self.view_is
    ∙ second lists.outgoing.now lists.incoming.now ids.out.now ids.into.now ids.others.now ids.rest.now ids.ensures.cases.0 ids.ensures'.cases.0 (sym c.cmp.ensures ∙ c.in-Greater.is)

pub returns-in-Some-None-clause-some : goal.returns-in-Some-None-clause-some
returns-in-Some-None-clause-some c =
    let one = c.in-Some-None in
    let lists = c.self.inside in
    sym c.self.view_is ∙ only_first lists.outgoing.now lists.incoming.now one.out.now one.others.now one.ensures.cases.0 one.ensures'.cases

pub returns-in-None-Some-clause-some : goal.returns-in-None-Some-clause-some
returns-in-None-Some-clause-some c =
    let one = c.in-None-Some in
    let lists = c.self.inside in
    sym c.self.view_is ∙ only_second lists.outgoing.now lists.incoming.now one.into.now one.rest.now one.ensures.cases one.ensures'.cases.0

pub returns-in-None-None-clause-none : goal.returns-in-None-None-clause-none
returns-in-None-None-clause-none c =
    let none = c.in-None-None in
    let lists = c.self.inside in
    sym c.self.view_is ∙ neither lists.outgoing.now lists.incoming.now none.ensures.cases none.ensures'.cases

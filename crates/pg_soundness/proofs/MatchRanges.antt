-- The relationships of a range: which lists a walk tries, and what a pattern says of them from left to right.
use Rattle.std.proofs.Common.{◌≡◌, ◌≢◌, ℕ, zero, suc, ◌≤◌, Bool, true, false, not, inl, List, [], ◌∷◌, length, Option, Some, None, reverse, refl, ap, subst, arith}
use Rattle.std.specs.Bool.{⊤}
use Rattle.pg_meaning.specs.Graph.{Graph, IsGraph, contains_id, incident, Way}
use Rattle.pg_meaning.specs.Lists.{IsIn}
use Rattle.pg_meaning.specs.Patterns.{Leads, way_of}
use Rattle.pg_meaning.specs.Rows.{Row}
use Rattle.pg_meaning.specs.Tree.{RelationshipPattern}
use Rattle.pg_meaning.specs.Value.{Entries}
use Rattle.pg_meaning.specs.Walks.{each_listing, HopWanted, relationship_fits, end_of, Stretch, extend, extensions, stretches, way_walked}
use Rattle.pg_soundness.proofs.MatchFits.{Walked, HopReady, hop_is, hop_again, incident_apart}
use Rattle.pg_soundness.proofs.MatchLists.{Listed, OrFirst, or_first, listed_from, listed_if, listed_members, listed_behind, rekeyed, pairs_right, onto, onto_is}
use Rattle.pg_soundness.proofs.MatchStates.{AreApart, unused_apart, apart_unused}

pub no_longer : {X : Type 0} (xs : List X) → length xs ≤ 0 → xs ≡ []
no_longer [] h = refl
no_longer (x ∷ xs) h = absurd (not_below h)
  where
    not_below : {n : ℕ} → suc n ≤ 0 → ⊥
    not_below h = omega arith

less_one : (a b : ℕ) → suc a ≤ suc b → a ≤ b
less_one a b h = omega arith

more_one : (a b : ℕ) → a ≤ b → suc a ≤ suc b
more_one a b h = omega arith

pub apart_behind : (rs used : List ℕ) → AreApart (onto rs used) → AreApart used
apart_behind rs used d = pairs_right (λ r s. r ≢ s) (reverse rs) used (subst AreApart (onto_is rs used) d)

module _ (parameters : Entries) (graph : Graph) (row : Row) where
  -- a walk over these relationships, the first one first
  abbrev pub Chain : (is_leftwards : Bool) → RelationshipPattern → ℕ → List ℕ → ℕ → Type 0
  Chain is_leftwards pattern at [] n = at ≡ n
  Chain is_leftwards pattern at (r ∷ rs) n = (next : ℕ) × Walked parameters graph row is_leftwards pattern at r next × Chain is_leftwards pattern next rs n

  pub chain_leads : (pattern : RelationshipPattern) (at : ℕ) (rs : List ℕ) (n : ℕ) → Chain false pattern at rs n → Leads parameters graph row pattern at rs n
  chain_leads pattern at [] n c = c
  chain_leads pattern at (r ∷ rs) n c = (c.0, c.1, chain_leads pattern c.0 rs n c.2)

  pub leads_chain : (pattern : RelationshipPattern) (at : ℕ) (rs : List ℕ) (n : ℕ) → Leads parameters graph row pattern at rs n → Chain false pattern at rs n
  leads_chain pattern at [] n c = c
  leads_chain pattern at (r ∷ rs) n c = (c.0, c.1, leads_chain pattern c.0 rs n c.2)

  -- walked leftwards, they lead back from left to right
  pub chain_back : (pattern : RelationshipPattern) (at : ℕ) (rs : List ℕ) (n : ℕ) (acc : List ℕ) (z : ℕ) → Chain true pattern at rs n → Leads parameters graph row pattern at acc z → Leads parameters graph row pattern n (onto rs acc) z
  chain_back pattern at [] n acc z c l = subst (λ k. Leads parameters graph row pattern k acc z) c l
  chain_back pattern at (r ∷ rs) n acc z c l = chain_back pattern c.0 rs n (r ∷ acc) z c.2 (at, c.1, l)

  pub leads_back : (pattern : RelationshipPattern) (left : ℕ) (rs : List ℕ) (right : ℕ) (acc : List ℕ) (z : ℕ) → Leads parameters graph row pattern left rs right → Chain true pattern left acc z → Chain true pattern right (onto rs acc) z
  leads_back pattern left [] right acc z l c = subst (λ k. Chain true pattern k acc z) l c
  leads_back pattern left (r ∷ rs) right acc z l c = leads_back pattern l.0 rs right (r ∷ acc) z l.2 (left, l.1, c)

  module _ (g : IsGraph graph) (is_leftwards : Bool) (w : HopWanted) (ready : HopReady parameters graph row w) where
    abbrev way : Way
    way = way_walked is_leftwards (way_of w.pattern)

    abbrev step : Stretch → ℕ → Stretch
    step s r = record { used = r ∷ s.used; at = end_of graph s.at r; rs = r ∷ s.rs }

    abbrev pub after : Stretch → List ℕ → Stretch
    after s [] = s
    after s (r ∷ rs) = after (step s r) rs

    abbrev pub StretchFits : ℕ → Stretch → List ℕ → Type 0
    StretchFits more s rs = (n : ℕ) × (length rs ≤ more) × AreApart (onto rs s.used) × Chain is_leftwards w.pattern s.at rs n × (n ≡ (after s rs).at)

    -- the candidates that fit
    abbrev Fitting : Stretch → ℕ × ⊤ → Type 0
    Fitting s k = IsIn k.0 (incident way s.at graph) × (relationship_fits graph s.used w k.0 ≡ true)

    abbrev stepped : Stretch → ℕ × ⊤ → Stretch
    stepped s k = step s k.0

    extended : (s : Stretch) → Listed (Fitting s) (stepped s) (extensions graph way w s).0
    extended s =
        listed_from (λ r. IsIn r (incident way s.at graph)) (λ r. r) (λ r u. relationship_fits graph s.used w r ≡ true) (λ r u. step s r) (λ r. (extend graph w s r, 1)) (incident way s.at graph)
        (listed_members (incident way s.at graph) (incident_apart parameters graph row g way s.at))
        (λ r i. listed_if (relationship_fits graph s.used w r) (step s r))

    step_apart : (s : Stretch) (r : ℕ) → AreApart s.used → not (contains_id s.used r) ≡ true → AreApart (r ∷ s.used)
    step_apart s r d e = (unused_apart s.used r e, d)

    pub stretched : (more : ℕ) (s : Stretch) → AreApart s.used → Listed (StretchFits more s) (after s) (stretches graph way w more s).0
    stretched zero s d = record {
      keys = [] ∷ [];
      are = record {
        each = ((s.at, omega arith, d, refl, refl), tt);
        every = λ rs f. inl (no_longer rs f.1);
        once = (tt, tt);
      };
      made = refl;
    }
    stretched (suc more) s d =
        rekeyed
        (OrFirst Longer longer) (or_first Longer longer s)
        (s ∷ (each_listing (λ t. stretches graph way w more t) (extensions graph way w s).0).0)
        (StretchFits (suc more) s) (after s) key
        (listed_behind Longer longer s (each_listing (λ t. stretches graph way w more t) (extensions graph way w s).0).0
        (listed_from (Fitting s) (stepped s) (λ k rs. StretchFits more (stepped s k) rs) (λ k rs. after (stepped s k) rs) (λ t. stretches graph way w more t) (extensions graph way w s).0
        (extended s)
        (λ k f. stretched more (stepped s k) (step_apart s k.0 d (hop_is parameters graph row g is_leftwards w s.used s.at k.0 ready f.0 f.1).1))))
        fits every apart made
      where
        Longer : (ℕ × ⊤) × List ℕ → Type 0
        Longer p = Fitting s p.0 × StretchFits more (stepped s p.0) p.1

        longer : (ℕ × ⊤) × List ℕ → Stretch
        longer p = after (stepped s p.0) p.1

        key : Option ((ℕ × ⊤) × List ℕ) → List ℕ
        key None = []
        key (Some p) = p.0.0 ∷ p.1

        fits : (o : Option ((ℕ × ⊤) × List ℕ)) → OrFirst Longer longer o → StretchFits (suc more) s (key o)
        fits None t = (s.at, omega arith, d, refl, refl)
        fits (Some p) f =
            let h = hop_is parameters graph row g is_leftwards w s.used s.at p.0.0 ready f.0.0 f.0.1 in
            (f.1.0, more_one (length p.1) more f.1.1, f.1.2, (end_of graph s.at p.0.0, h.0, f.1.3), f.1.4)

        every : (rs : List ℕ) → StretchFits (suc more) s rs → (o : Option ((ℕ × ⊤) × List ℕ)) × OrFirst Longer longer o × (rs ≡ key o)
        every [] f = (None, tt, refl)
        every (r ∷ rs) f =
            let a = hop_again parameters graph row is_leftwards w s.used s.at r f.3.0 ready f.3.1 (apart_unused s.used r (apart_behind rs (r ∷ s.used) f.2).0) in
            (Some ((r, tt), rs), ((a.among, a.tested), (f.0, less_one (length rs) more f.1, f.2, subst (λ k. Chain is_leftwards w.pattern k rs f.0) a.ends f.3.2, f.4)), refl)

        apart : (o p : Option ((ℕ × ⊤) × List ℕ)) → OrFirst Longer longer o → OrFirst Longer longer p → key o ≡ key p → o ≡ p
        apart None None f h e = refl
        apart None (Some q) f h e = cc
        apart (Some p) None f h e = cc
        apart (Some p) (Some q) f h e = λ i. Some ((head_of (p.0.0 ∷ p.1) (q.0.0 ∷ q.1) e i, tt), tail_of (p.0.0 ∷ p.1) (q.0.0 ∷ q.1) e i)
          where
            head_of : (xs ys : List ℕ) → xs ≡ ys → elim xs as (λ zs. ℕ) [ [] ↦ 0 | z ∷ zs ↦ z ] ≡ elim ys as (λ zs. ℕ) [ [] ↦ 0 | z ∷ zs ↦ z ]
            head_of xs ys e = ap (λ us. elim us as (λ zs. ℕ) [ [] ↦ 0 | z ∷ zs ↦ z ]) e

            tail_of : (xs ys : List ℕ) → xs ≡ ys → elim xs as (λ zs. List ℕ) [ [] ↦ [] | z ∷ zs ↦ zs ] ≡ elim ys as (λ zs. List ℕ) [ [] ↦ [] | z ∷ zs ↦ zs ]
            tail_of xs ys e = ap (λ us. elim us as (λ zs. List ℕ) [ [] ↦ [] | z ∷ zs ↦ zs ]) e

        made : (o : Option ((ℕ × ⊤) × List ℕ)) → OrFirst Longer longer o → or_first Longer longer s o ≡ after s (key o)
        made None f = refl
        made (Some p) f = refl

-- Calls in turn change nothing of other owners.
use Rattle.std.proofs.Common.{ℕ, refl, subst, ◌∙◌}
use Rattle.pg_graph.specs.Content.{OthersStay, Seen, Keeps}

module _ {T S : Type 0} {seen : Seen T S} (o : ℕ) where
  pub others_refl : (s : S) → OthersStay seen o s s
  others_refl s = record { fit = λ t apart f. f; same = λ t apart f. refl; unused = λ n apart u. u }

  pub others_trans : (a b c : S) → OthersStay seen o a b → OthersStay seen o b c → OthersStay seen o a c
  others_trans a b c p q = record {
    fit = λ t apart f. q.fit t apart (p.fit t apart f);
    same = λ t apart f. q.same t apart (p.fit t apart f) ∙ p.same t apart f;
    unused = λ n apart u. q.unused n apart (p.unused n apart u);
  }

module _ {T S : Type 0} {seen : Seen T S} where
  pub keeps_refl : (t : T) (s : S) → seen.fits t s → Keeps seen t s t s
  keeps_refl t s fits = record { fits = fits; owner = refl; others = others_refl (seen.owner t) s }

  pub keeps_trans : (a b c : T) (r s t : S) → Keeps seen a r b s → Keeps seen b s c t → Keeps seen a r c t
  keeps_trans a b c r s t p q = record {
    fits = q.fits;
    owner = q.owner ∙ p.owner;
    others = others_trans (seen.owner a) r s t p.others (subst (λ o. OthersStay seen o s t) p.owner q.others);
  }

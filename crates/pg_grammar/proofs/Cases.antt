-- CASE, behind its first token.
use Rattle.std.proofs.Common.{◌≡◌, ℕ, true, not, List, [], ◌∷◌, ◌++◌, map, Option, Some, None, refl, sym, ap, subst, ◌∙◌, append_assoc, arith}
use Rattle.std.proofs.lemmas.List.{append-nil}
use Rattle.std.specs.List.{AllByRecursion}
use Rattle.pg_meaning.specs.declared.lexemes.Keyword.TheVariants as k
use Rattle.pg_meaning.specs.Tokens.{Token}
use Rattle.pg_meaning.specs.Tree.{Expression, Perhaps, Whens}
use Rattle.pg_meaning.specs.Tree as tree
use Rattle.pg_meaning.specs.Grammar.{Mark, key, keyed, concatenated, marks, optional_marks, perhaps_marks, when_marks, Fit, HasWhens, IsWellFormed, MayBe, AreWhens, Each as EachOf}
use Rattle.pg_meaning.specs.Parse as parse
use Rattle.pg_meaning.specs.Parse.{Parser, ◌>>=◌, ◌>>◌, pure, sees_keyword, keyword, many, maybe, whens_of, perhaps_of, not_yet, one_when, case}
use Rattle.pg_grammar.specs.Rules.{Exactly, Anything, Ends, Exact}
use Rattle.pg_grammar.proofs.Combinators.{Fitting, Free, Only, Sequence, Behind, Made, After, fitting, restated, behind_exact, sequence_exact, pure_exact, maybe_exact, row_exact, step, behind, made, keyword_exact, keyword_begins, ending, no_tokens, sequence_fits, sequence_of, behind_fits, behind_of}
use Rattle.pg_grammar.proofs.Conditions.{MayHave, whole_exact, may_have_exact}
use Rattle.pg_grammar.proofs.FirstTokens.{keyword_other}
use Rattle.pg_grammar.proofs.Openings.{opened, keyword_closed, keyword_binds}

-- ---- WHEN

abbrev When : Type 0
When = Expression × Expression

abbrev from_then : When → List Mark
from_then p = key k.Then ∷ (marks p.1 ++ [])

abbrev when_mark : When → List Mark
when_mark p = key k.When ∷ (marks p.0 ++ from_then p)

abbrev IsWhen : When → Type 0
IsWhen p = IsWellFormed p.0 × (IsWellFormed p.1 × Free p)

whens_marks : (ps : List When) → concatenated (map when_mark ps) ≡ when_marks (whens_of ps)
whens_marks [] = refl
whens_marks (p ∷ ps) = rw (whens_marks ps, append-nil) (ap (λ (ms : List Mark). key k.When ∷ ms) (append_assoc (marks p.0) (key k.Then ∷ marks p.1) (when_marks (whens_of ps))))

whens_well : (ps : List When) → AllByRecursion IsWhen ps → AreWhens (whens_of ps)
whens_well [] all = tt
whens_well (p ∷ ps) all = (all.0.0, all.0.1.0, whens_well ps all.1)

well_whens : (ps : List When) → AreWhens (whens_of ps) → AllByRecursion IsWhen ps
well_whens [] are = tt
well_whens (p ∷ ps) are = ((are.0, (are.1, tt)), well_whens ps are.2)

list_of : Whens → List When
list_of tree.no_whens = []
list_of (tree.when x y ws) = (x, y) ∷ list_of ws

whens_again : (ws : Whens) → whens_of (list_of ws) ≡ ws
unfolding list_of
whens_again tree.no_whens = refl
whens_again (tree.when x y ws) = ap (tree.when x y) (whens_again ws)

-- ---- what may be lacking

abbrev option_of : Perhaps → Option Expression
option_of tree.absent = None
option_of (tree.present x) = Some x

perhaps_again : (p : Perhaps) → perhaps_of (option_of p) ≡ p
perhaps_again tree.absent = refl
perhaps_again (tree.present x) = refl

subject_marks : (o : Option Expression) → optional_marks marks o ≡ perhaps_marks [] (perhaps_of o)
subject_marks None = refl
subject_marks (Some x) = refl

else_marks : (o : Option Expression) → optional_marks (keyed k.Else) o ≡ perhaps_marks (key k.Else ∷ []) (perhaps_of o)
else_marks None = refl
else_marks (Some x) = refl

may_be : (o : Option Expression) → EachOf IsWellFormed o → MayBe (perhaps_of o)
may_be None h = tt
may_be (Some x) h = h

be_may : (o : Option Expression) → MayBe (perhaps_of o) → EachOf IsWellFormed o
be_may None h = tt
be_may (Some x) h = h

-- ---- the whole

pub record CaseSpelled (a : Expression) (front : List Token) : Type 0 where
  pub subject : Perhaps
  pub whens : Whens
  pub otherwise : Perhaps
  pub is : a ≡ tree.case subject whens otherwise
  pub well : MayBe subject × HasWhens whens × AreWhens whens × MayBe otherwise
  pub fits : Fit front (perhaps_marks [] subject ++ when_marks whens ++ perhaps_marks (key k.Else ∷ []) otherwise ++ key k.End ∷ [])

abbrev Subject : Option Expression → List Token → Type 0
Subject = Fitting (EachOf IsWellFormed) (optional_marks marks)

abbrev WhenSpelled : When → List Token → Type 0
WhenSpelled = Fitting IsWhen when_mark

abbrev Others : When → List When → List Token → Type 0
Others p = Made (λ ps. (p ∷ []) ++ ps) (Fitting (AllByRecursion IsWhen) (λ ps. concatenated (map when_mark ps)))

abbrev made_case : Option Expression → List When → Option Expression → Expression
made_case subject whens otherwise = tree.case (perhaps_of subject) (whens_of whens) (perhaps_of otherwise)

abbrev FromElse : Option Expression → List When → Expression → List Token → Type 0
FromElse subject whens = Sequence (MayHave k.Else) (λ otherwise. Behind (key k.End) (Only (made_case subject whens otherwise)))

abbrev FromWhens : Option Expression → When → Expression → List Token → Type 0
FromWhens subject p = Sequence (Others p) (FromElse subject)

abbrev Parts : Expression → List Token → Type 0
Parts = Sequence Subject (λ subject. Sequence WhenSpelled (FromWhens subject))

-- the marks, from each part on
abbrev from_else : Option Expression → List Mark
from_else otherwise = optional_marks (keyed k.Else) otherwise ++ key k.End ∷ []

abbrev from_others : List When → Option Expression → List Mark
from_others ps otherwise = concatenated (map when_mark ps) ++ from_else otherwise

same_marks : (subject otherwise : Option Expression) (p : When) (ps : List When)
    → optional_marks marks subject ++ (when_mark p ++ from_others ps otherwise) ≡ perhaps_marks [] (perhaps_of subject) ++ when_marks (whens_of (p ∷ ps)) ++ perhaps_marks (key k.Else ∷ []) (perhaps_of otherwise) ++ key k.End ∷ []
same_marks subject otherwise p ps = rw (← subject_marks subject, ← else_marks otherwise, ← whens_marks (p ∷ ps)) (simp append_assoc)

case_out : (a : Expression) (front : List Token) → Parts a front → CaseSpelled a front
case_out a front h =
    let w = h.second in let m = w.second in let e = m.second in let b = e.second in
    let v = m.first in let p = w.value in
    let end = behind_fits b [] (rw b.inner.1 tt) in
    let behind_whens = sequence_fits e (optional_marks (keyed k.Else) e.value) (key k.End ∷ []) e.first.fits end in
    let others = sequence_fits m (concatenated (map when_mark v.value)) (from_else e.value) v.inner.fits behind_whens in
    let fits = sequence_fits h (optional_marks marks h.value) (when_mark p ++ from_others v.value e.value) h.first.fits (sequence_fits w (when_mark p) (from_others v.value e.value) w.first.fits others) in
    record {
      subject = perhaps_of h.value;
      whens = whens_of (p ∷ v.value);
      otherwise = perhaps_of e.value;
      is = b.inner.0 ∙ ap (λ (ps : List When). made_case h.value ps e.value) v.is;
      well = (may_be h.value h.first.well, tt, whens_well (p ∷ v.value) (w.first.well, v.inner.well), may_be e.value e.first.well);
      fits = rw (← same_marks h.value e.value p v.value) fits;
    }

abbrev all_marks : Perhaps → Whens → Perhaps → List Mark
all_marks subject whens otherwise = perhaps_marks [] subject ++ when_marks whens ++ perhaps_marks (key k.Else ∷ []) otherwise ++ key k.End ∷ []

-- with the same parts
same_parts : {A : Type 0} (f : Perhaps → Whens → Perhaps → A) {x y : Perhaps} {v w : Whens} {o p : Perhaps} → x ≡ y → v ≡ w → o ≡ p → f x v o ≡ f y w p
same_parts f {x} {y} {v} {w} {o} {p} e g h = ap (λ (z : Perhaps). f z v o) e ∙ ap (λ (z : Whens). f y z o) g ∙ ap (λ (z : Perhaps). f y w z) h

case_into : (a : Expression) (front : List Token) → CaseSpelled a front → Parts a front
case_into a front h = by (option_of h.subject) (list_of h.whens) (option_of h.otherwise) (perhaps_again h.subject) (whens_again h.whens) (perhaps_again h.otherwise)
  where
    by : (s : Option Expression) (ws : List When) (o : Option Expression) → perhaps_of s ≡ h.subject → whens_of ws ≡ h.whens → perhaps_of o ≡ h.otherwise → Parts a front
    by s [] o subject whens otherwise = absurd (subst HasWhens (sym whens) h.well.1)
    by s (p ∷ ps) o subject whens otherwise =
        let all : AllByRecursion IsWhen (p ∷ ps) = well_whens (p ∷ ps) (subst AreWhens (sym whens) h.well.2) in
        let is : a ≡ made_case s (p ∷ ps) o = h.is ∙ sym (same_parts (λ x w y. tree.case x w y) subject whens otherwise) in
        let fits : Fit front (optional_marks marks s ++ (when_mark p ++ from_others ps o)) = subst (Fit front) (sym (same_marks s o p ps ∙ same_parts all_marks subject whens otherwise)) h.fits in
        sequence_of s (optional_marks marks s) (when_mark p ++ from_others ps o) fits (λ f q. fitting (be_may s (subst MayBe (sym subject) h.well.0)) q)
        (λ g q. sequence_of p (when_mark p) (from_others ps o) q (λ f q. fitting all.0 q)
        (λ g q. sequence_of (p ∷ ps) (concatenated (map when_mark ps)) (from_else o) q (λ f q. record { value = ps; is = refl; inner = fitting all.1 q })
        (λ g q. sequence_of o (optional_marks (keyed k.Else) o) (key k.End ∷ []) q (λ f q. fitting (be_may o (subst MayBe (sym otherwise) h.well.3)) q)
        (λ g q. behind_of q (λ g q. (is, no_tokens g q))))))

-- what stands behind the last WHEN
end_follows : (o : Option Expression) (y more : List Token) → Fit y (from_else o) → After (sees_keyword k.When) (Ends 1) (y ++ more)
unfolding parse.same_keyword
end_follows None [] more fits = absurd fits
end_follows None (t ∷ y) more fits = rw fits.0.spelled.1 (refl, omega arith)
end_follows (Some x) [] more fits = absurd fits
end_follows (Some x) (t ∷ y) more fits = rw fits.0.spelled.1 (refl, omega arith)

when_ends : (more : List Token) → sees_keyword k.When more ≡ true → Ends 1 more
when_ends more sees = let f = keyword_binds k.When more sees in omega (arith, f.1)

module _ (limit : ℕ) (whole : Parser Expression) (exact : Exact limit 1 whole) where
  abbrev made_when : Expression → Expression → When
  made_when x y = (x, y)

  when_exact : Exactly limit (one_when whole) WhenSpelled (Ends 1)
  unfolding one_when
  when_exact =
      behind (keyword_exact k.When) (step (λ (p : When). p.0) Free (whole_exact exact)
      (λ x. behind (keyword_exact k.Then) (step (λ (p : When). p.1) (λ (p : When). (p.0 ≡ x) × Free p) (whole_exact exact)
      (λ y. made (made_when x y) (λ (p : When). (p.1 ≡ y) × ((p.0 ≡ x) × Free p)) (refl, (refl, tt)) (λ p h. rw (← h.0, ← h.1.0) refl))
      (λ p y more well fits ends. ending (Ends 1) y more fits ends)))
      (λ p y more well fits ends. then_ends p y more fits))
    where
      then_ends : (p : When) (y more : List Token) → Fit y (from_then p) → Ends 1 (y ++ more)
      then_ends p [] more fits = absurd fits
      then_ends p (t ∷ y) more fits = rw fits.0.spelled.1 (omega arith)

  others_end : (subject : Option Expression) (p : When) (a : Expression) (y more : List Token) → FromWhens subject p a y → Ends 1 (y ++ more)
  others_end subject p a y more h =
      let e = h.second in
      let there : y ++ more ≡ h.f ++ (h.g ++ more) = ap (λ (l : List Token). l ++ more) h.whole ∙ append_assoc h.f h.g more in
      let fits = sequence_fits e (optional_marks (keyed k.Else) e.value) (key k.End ∷ []) e.first.fits (behind_fits e.second [] (rw e.second.inner.1 tt)) in
      rw there (by h.first.value h.f h.first.inner.fits (end_follows e.value h.g more fits).1)
    where
      by : (ps : List When) (f : List Token) → Fit f (concatenated (map when_mark ps)) → Ends 1 (h.g ++ more) → Ends 1 (f ++ (h.g ++ more))
      by [] f fits ends = ending (Ends 1) f (h.g ++ more) fits ends
      by (q ∷ ps) f fits ends = when_ends (f ++ (h.g ++ more)) (keyword_begins k.When _ f (h.g ++ more) fits)

  pub case_exact : Exactly limit (case whole) CaseSpelled Anything
  unfolding case parse.same_keyword
  case_exact =
      restated
      (sequence_exact (maybe_exact (not_yet k.When) (whole_exact exact) (λ x front more h. ap not (keyword_closed k.When front more (λ w. refl) (opened x front h.well h.fits))))
      (λ subject. sequence_exact when_exact
      (λ p. sequence_exact (row_exact (sees_keyword k.When) (p ∷ []) refl when_exact (λ q front more h. keyword_begins k.When _ front more h.fits) (λ more h. h) when_ends)
      (λ whens. sequence_exact (may_have_exact k.Else (whole_exact exact))
      (λ otherwise. behind_exact (keyword_exact k.End) (pure_exact (made_case subject whens otherwise)))
      (λ otherwise a y more h ends. (keyword_other k.End k.Else refl y more h, rw (h.whole, h.accepts.spelled.1) (omega arith))))
      (λ whens a y more h ends. end_follows h.value y more (sequence_fits h (optional_marks (keyed k.Else) h.value) (key k.End ∷ []) h.first.fits (behind_fits h.second [] (rw h.second.inner.1 tt)))))
      (λ p a y more h ends. others_end subject p a y more h))
      (λ subject a y more h ends. subject_ends subject a y more h))
      case_out case_into (λ more h. h)
    where
      subject_ends : (subject : Option Expression) (a : Expression) (y more : List Token) → Sequence WhenSpelled (FromWhens subject) a y → After (not_yet k.When) (Ends 1) (y ++ more)
      subject_ends subject a y more h =
          let there : y ++ more ≡ h.f ++ (h.g ++ more) = ap (λ (l : List Token). l ++ more) h.whole ∙ append_assoc h.f h.g more in
          let sees : sees_keyword k.When (h.f ++ (h.g ++ more)) ≡ true = keyword_begins k.When _ h.f (h.g ++ more) h.first.fits in
          rw there (ap not sees, when_ends (h.f ++ (h.g ++ more)) sees)

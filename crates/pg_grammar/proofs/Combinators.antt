-- Parsers in a row, the choice between two, what may be lacking, and several, whatever the grammar.
use Rattle.std.proofs.Common.{◌≡◌, ℕ, ◌+◌, ◌<◌, ◌≤◌, Bool, true, false, List, [], ◌∷◌, ◌++◌, length, map, Option, Some, None, refl, sym, ap, subst, ◌∙◌, ◌⊎◌, inl, inr, append_assoc, length-append, arith}
use Rattle.std.specs.List.{AllByRecursion}
use Rattle.pg_meaning.specs.declared.lexemes.Keyword.{Keyword}
use Rattle.pg_meaning.specs.declared.lexemes.Symbol.{Symbol}
use Rattle.pg_meaning.specs.declared.lexemes.Symbol.TheVariants as s
use Rattle.pg_meaning.specs.Tokens.{Token}
use Rattle.pg_meaning.specs.Grammar.{Mark, key, sign, begun, flag, further, commas, concatenated, optional_marks, Accepts, Fit, IsNonEmpty, Each as EachOf}
use Rattle.pg_meaning.specs.Grammar as grammar
use Rattle.pg_meaning.specs.Parse as parse
use Rattle.pg_meaning.specs.Parse.{Parser, Test, and_then, rest, ◌>>=◌, ◌>>◌, ◌<$>◌, pure, branch, maybe, many, comma_and, separated, sees_symbol, sees_keyword, here, start_of}
use Rattle.pg_grammar.specs.Rules.{Exactly, Anything}
use Rattle.pg_grammar.proofs.Fits.{fit_append, fit_split}
use Rattle.pg_grammar.proofs.Generic.{Each, Row, some, same_some, bind_some, pick, chosen, followed, branch_yes, branch_no, many_sound, many_complete}
use Rattle.pg_grammar.proofs.Terminals.{symbols_exact, symbol_seen, keyword_seen, keyword_takes, keyword_again, var_takes, var_again, name_takes, name_again, eat_takes, eat_yes, eat_no, eat_keyword_takes, eat_keyword_yes, eat_keyword_no}

-- ---- the same, said otherwise

pub fewer : {A : Type 0} {n m : ℕ} {p : Parser A} {S : A → List Token → Type 0} {E : List Token → Type 0} → m ≤ n → Exactly n p S E → Exactly m p S E
fewer less exact = record { sound = exact.sound; complete = λ a front more h ends short. exact.complete a front more h ends (omega arith) }

pub restated : {A : Type 0} {n : ℕ} {p : Parser A} {S T : A → List Token → Type 0} {E F : List Token → Type 0}
    → Exactly n p S E → ((a : A) (front : List Token) → S a front → T a front) → ((a : A) (front : List Token) → T a front → S a front) → ((more : List Token) → F more → E more) → Exactly n p T F
restated exact out into ends = record {
  sound = λ ts a more e. let r = exact.sound ts a more e in (r.0, r.1, out a r.0 r.2);
  complete = λ a front more h end less. exact.complete a front more (into a front h) (ends more end) less;
}

-- less may follow
pub narrowed : {A : Type 0} {n : ℕ} {p : Parser A} {S : A → List Token → Type 0} {E F : List Token → Type 0} → Exactly n p S E → ((more : List Token) → F more → E more) → Exactly n p S F
narrowed exact ends = restated exact (λ a front h. h) (λ a front h. h) ends

-- ---- one behind another

pub record Sequence {A B : Type 0} (S : A → List Token → Type 0) (T : A → B → List Token → Type 0) (b : B) (front : List Token) : Type 0 where
  pub value : A
  pub f : List Token
  pub g : List Token
  pub whole : front ≡ f ++ g
  pub first : S value f
  pub second : T value b g

-- behind a first part of so many tokens there are as many less
pub past_exact : {A B : Type 0} {limit : ℕ} {S : A → List Token → Type 0} {E : List Token → Type 0} {T : A → B → List Token → Type 0} {F : List Token → Type 0} {p : Parser A} {q : A → Parser B} (k : ℕ)
    → ((a : A) (front : List Token) → S a front → k ≤ length front) → Exactly (limit + k) p S E → ((a : A) → Exactly limit (q a) (T a) F) → ((a : A) (b : B) (front more : List Token) → T a b front → F more → E (front ++ more)) → Exactly (limit + k) (p >>= q) (Sequence S T) F
past_exact {A} {B} {limit} {S} {E} {T} {F} {p} {q} k taken one two follows = record {
  sound = λ ts b more e.
      let r = bind_some (p ts) q (b, more) e in
      let x = one.sound ts r.0 r.1 r.2 in
      let y = (two r.0).sound r.1 b more r.3 in
      (x.0 ++ y.0, x.1 ∙ ap (λ (l : List Token). x.0 ++ l) y.1 ∙ sym (append_assoc x.0 y.0 more), record { value = r.0; f = x.0; g = y.0; whole = refl; first = x.2; second = y.2 });
  complete = λ b front more h ends less.
      let there : front ++ more ≡ h.f ++ (h.g ++ more) = ap (λ (l : List Token). l ++ more) h.whole ∙ append_assoc h.f h.g more in
      let len : length (front ++ more) ≡ length h.f + length (h.g ++ more) = ap length there ∙ length-append h.f (h.g ++ more) in
      let some_tokens = taken h.value h.f h.first in
      let x : p (h.f ++ (h.g ++ more)) ≡ Some (h.value, h.g ++ more) = one.complete h.value h.f (h.g ++ more) h.first (follows h.value b h.g more h.second ends) (omega (arith, ap length there)) in
      rw (there, x) ((two h.value).complete b h.g more h.second ends (omega arith));
}

pub sequence_exact : {A B : Type 0} {limit : ℕ} {S : A → List Token → Type 0} {E : List Token → Type 0} {T : A → B → List Token → Type 0} {F : List Token → Type 0} {p : Parser A} {q : A → Parser B}
    → Exactly limit p S E → ((a : A) → Exactly limit (q a) (T a) F) → ((a : A) (b : B) (front more : List Token) → T a b front → F more → E (front ++ more)) → Exactly limit (p >>= q) (Sequence S T) F
sequence_exact one two follows = fewer (omega arith) (past_exact 0 (λ a front h. omega arith) (fewer (omega arith) one) two follows)

-- behind a token
pub record Behind {A : Type 0} (m : Mark) (S : A → List Token → Type 0) (a : A) (front : List Token) : Type 0 where
  pub token : Token
  pub others : List Token
  pub whole : front ≡ token ∷ others
  pub accepts : Accepts m token
  pub inner : S a others

-- reads a token of that mark
abbrev pub ReadsMark : Mark → Parser (Unit {0}) → Type 0
ReadsMark m p = (n : ℕ) → Exactly n p (λ u front. Fit front (m ∷ [])) Anything

pub symbol_exact : (x : Symbol) → ReadsMark (sign x) (parse.symbol x)
symbol_exact x n = symbols_exact n x

-- behind a token there is one less
pub leading_exact : {A : Type 0} {limit : ℕ} {m : Mark} {S : A → List Token → Type 0} {E : List Token → Type 0} {p : Parser (Unit {0})} {q : Parser A} → ReadsMark m p → Exactly limit q S E → Exactly (limit + 1) (p >> q) (Behind m S) E
leading_exact {A} {limit} {m} {S} {E} one exact = restated (past_exact 1 (λ u f h. taken f h) (one (limit + 1)) (λ u. exact) (λ u a front more h ends. tt)) (λ a front h. by a front h.f h.g h.whole h.first h.second)
    (λ a front h. record { value = tt; f = h.token ∷ []; g = h.others; whole = h.whole; first = (h.accepts, tt); second = h.inner }) (λ more ends. ends)
  where
    taken : (f : List Token) → Fit f (m ∷ []) → 1 ≤ length f
    taken [] fits = absurd fits
    taken (t ∷ f) fits = omega arith

    by : (a : A) (front f g : List Token) → front ≡ f ++ g → Fit f (m ∷ []) → S a g → Behind m S a front
    by a front [] g e fits h = absurd fits
    by a front (t ∷ []) g e fits h = record { token = t; others = g; whole = e; accepts = fits.0; inner = h }
    by a front (t ∷ u ∷ f) g e fits h = absurd fits.1

pub behind_exact : {A : Type 0} {limit : ℕ} {m : Mark} {S : A → List Token → Type 0} {E : List Token → Type 0} {p : Parser (Unit {0})} {q : Parser A} → ReadsMark m p → Exactly limit q S E → Exactly limit (p >> q) (Behind m S) E
behind_exact one exact = fewer (omega arith) (leading_exact one exact)

-- nothing is taken
abbrev pub Only : {A : Type 0} → A → A → List Token → Type 0
Only a b front = (b ≡ a) × (front ≡ [])

pub pure_exact : {A : Type 0} {limit : ℕ} (a : A) → Exactly limit (pure a) (Only a) Anything
pure_exact a = record {
  sound = λ ts b more e. let h = same_some a b ts more e in ([], h.1, (sym h.0, refl));
  complete = λ b front more h ends less. rw (h.0, h.1) refl;
}

-- what is made of what was read
pub record Made {A B : Type 0} (f : A → B) (S : A → List Token → Type 0) (b : B) (front : List Token) : Type 0 where
  pub value : A
  pub is : b ≡ f value
  pub inner : S value front

pub made_exact : {A B : Type 0} {limit : ℕ} {S : A → List Token → Type 0} {E : List Token → Type 0} {p : Parser A} (f : A → B) → Exactly limit p S E → Exactly limit (f <$> p) (Made f S) E
made_exact {A} {B} {limit} {S} {E} {p} f exact = record {
  sound = λ ts b more e.
      let r = bind_some (p ts) (λ x. pure (f x)) (b, more) e in
      let last = same_some (f r.0) b r.1 more r.3 in
      let x = exact.sound ts r.0 r.1 r.2 in
      (x.0, x.1 ∙ ap (λ (l : List Token). x.0 ++ l) last.1, record { value = r.0; is = sym last.0; inner = x.2 });
  complete = λ b front more h ends less. rw (exact.complete h.value front more h.inner ends less) (ap (λ b. some b more) (sym h.is));
}

-- ---- one or the other

abbrev pub Either : {A : Type 0} (S T : A → List Token → Type 0) → A → List Token → Type 0
Either S T a front = S a front ⊎ T a front

pub either_exact : {A : Type 0} {limit : ℕ} {S T : A → List Token → Type 0} {E : List Token → Type 0} {p q : Parser A} (begins : Test) → Exactly limit p S E → Exactly limit q T E
    → ((a : A) (front more : List Token) → S a front → begins (front ++ more) ≡ true) → ((a : A) (front more : List Token) → T a front → E more → begins (front ++ more) ≡ false)
    → Exactly limit (branch begins p q) (Either S T) E
either_exact {A} {limit} {S} {T} {E} {p} {q} begins one two seen unseen = record {
  sound = λ ts a more e. elim (chosen (begins ts) (p ts) (q ts) (Some (a, more)) e) [
    | inl h ↦ let r = one.sound ts a more h.1 in (r.0, r.1, inl r.2)
    | inr h ↦ let r = two.sound ts a more h.1 in (r.0, r.1, inr r.2)
  ];
  complete = λ a front more h ends less. by a front more h ends less;
}
  where
    by : (a : A) (front more : List Token) → Either S T a front → E more → length (front ++ more) < limit → branch begins p q (front ++ more) ≡ Some (a, more)
    by a front more (inl h) ends less = branch_yes begins p q (front ++ more) (seen a front more h) ∙ one.complete a front more h ends less
    by a front more (inr h) ends less = branch_no begins p q (front ++ more) (unseen a front more h ends) ∙ two.complete a front more h ends less

-- a symbol that may be lacking, and what its test decides
pub eat_exact : {A : Type 0} {limit : ℕ} {S T : A → List Token → Type 0} {E : List Token → Type 0} (x : Symbol) (f : Bool → Parser A) → Exactly limit (f true) S E → Exactly limit (f false) T E
    → ((a : A) (front more : List Token) → T a front → E more → sees_symbol x (front ++ more) ≡ false) → Exactly limit (parse.eat_symbol x >>= f) (Either (Behind (sign x) S) T) E
unfolding parse.eat_symbol parse.symbol
eat_exact {A} {limit} {S} {T} {E} x f one two unseen = record {
  sound = λ ts a more e. branched.sound ts a more (sym (same {u = tt} (sees_symbol x ts) ts) ∙ e);
  complete = λ a front more h ends less. same {u = tt} (sees_symbol x (front ++ more)) (front ++ more) ∙ branched.complete a front more h ends less;
}
  where
    branched : Exactly limit (branch (sees_symbol x) (parse.symbol x >> f true) (f false)) (Either (Behind (sign x) S) T) E
    branched = either_exact (sees_symbol x) (behind_exact (symbol_exact x) one) two (λ a front more h. rw h.whole (symbol_seen x h.token (h.others ++ more) h.accepts)) unseen

    same : {u : Unit {0}} (b : Bool) (ts : List Token) → and_then (pick b (some true (rest ts)) (some false ts)) f ≡ pick b (and_then (pick b (some u (rest ts)) None) (λ u. f true)) (f false ts)
    same true ts = refl
    same false ts = refl

-- where none begins any more
abbrev pub After : Test → (List Token → Type 0) → List Token → Type 0
After begins E more = (begins more ≡ false) × E more

abbrev pub Perhaps : {A : Type 0} (S : A → List Token → Type 0) → Option A → List Token → Type 0
Perhaps S None front = front ≡ []
Perhaps S (Some a) front = S a front

pub perhaps_exact : {A : Type 0} {limit : ℕ} {S : A → List Token → Type 0} {E : List Token → Type 0} {p : Parser A} (begins : Test) → Exactly limit p S E
    → ((a : A) (front more : List Token) → S a front → begins (front ++ more) ≡ true) → Exactly limit (maybe begins p) (Perhaps S) (After begins E)
perhaps_exact {A} {limit} {S} {E} begins exact seen =
    restated (either_exact begins (narrowed (made_exact Some exact) (λ more h. h.1)) (narrowed (pure_exact None) (λ more h. tt)) (λ a front more h. seen h.value front more h.inner) (λ a front more h ends. rw h.1 ends.0))
    out into (λ more h. h)
  where
    out : (a : Option A) (front : List Token) → Either (Made Some S) (Only None) a front → Perhaps S a front
    out a front (inl h) = subst (λ o. Perhaps S o front) (sym h.is) h.inner
    out a front (inr h) = subst (λ o. Perhaps S o front) (sym h.0) h.1

    into : (a : Option A) (front : List Token) → Perhaps S a front → Either (Made Some S) (Only None) a front
    into None front h = inr (refl, h)
    into (Some a) front h = inl (record { value = a; is = refl; inner = h })

-- ---- several

-- each begins so, and may be followed by the next or by what ends the row
pub many_exact : {A : Type 0} {limit : ℕ} {S : A → List Token → Type 0} {E F : List Token → Type 0} {piece : Parser A} (begins : Test) (found : List A) → begins [] ≡ false → Exactly limit piece S E
    → ((a : A) (front more : List Token) → S a front → begins (front ++ more) ≡ true) → ((more : List Token) → F more → After begins E more) → ((more : List Token) → begins more ≡ true → E more)
    → Exactly limit (many begins piece found) (Made (λ xs. found ++ xs) (Each S)) F
many_exact {A} {limit} {S} {E} {F} {piece} begins found none exact first ends goes = record {
  sound = λ ts all more e. let r = many_sound begins piece S exact.sound (length ts) found ts all more e in (r.1, r.3, record { value = r.0; is = r.2; inner = r.4 });
  complete = λ all front more h end less. many_complete row (length (front ++ more)) found h.value front more h.inner end less (omega arith) ∙ ap (λ (l : List A). some l more) (sym h.is);
}
  where
    taken : (a : A) (front : List Token) → S a front → 0 < length front
    taken a [] h = let bad : true ≡ false = sym (first a [] [] h) ∙ none in absurd cc
    taken a (t ∷ front) h = omega arith

    row : Row limit begins piece S E F
    row = record { read = exact.complete; first = first; some = taken; ends = ends; goes = goes }

pub pieces_exact : {A : Type 0} {limit : ℕ} {S : A → List Token → Type 0} {E F : List Token → Type 0} {piece : Parser A} (begins : Test) → begins [] ≡ false → Exactly limit piece S E
    → ((a : A) (front more : List Token) → S a front → begins (front ++ more) ≡ true) → ((more : List Token) → F more → After begins E more) → ((more : List Token) → begins more ≡ true → E more) → Exactly limit (many begins piece []) (Each S) F
pieces_exact {A} {limit} {S} begins none exact first ends goes =
    restated (many_exact begins [] none exact first ends goes) (λ all front h. subst (λ (xs : List A). Each S xs front) (sym h.is) h.inner) (λ all front h. record { value = all; is = refl; inner = h }) (λ more h. h)

-- a piece with a row behind it
pub tail_exact : {A B C : Type 0} {limit : ℕ} {P : A → List Token → Type 0} {S : B → List Token → Type 0} {E F : List Token → Type 0} {operand : Parser A} {piece : Parser B} (begins : Test) (build : A → List B → C) → begins [] ≡ false
    → Exactly limit operand P E → Exactly limit piece S E → ((b : B) (front more : List Token) → S b front → begins (front ++ more) ≡ true) → ((more : List Token) → F more → After begins E more) → ((more : List Token) → begins more ≡ true → E more)
    → Exactly limit (operand >>= λ x. many begins piece [] >>= λ ps. pure (build x ps)) (Sequence P (λ x. Made (build x) (Each S))) F
tail_exact begins build none one exact first ends goes =
    sequence_exact one (λ x. made_exact (build x) (pieces_exact begins none exact first ends goes)) (λ x c y more h after. followed first (λ more after. (ends more after).1) goes h.value y more h.inner after)

-- ---- from marks and to marks

pub no_tokens : (front : List Token) → Fit front [] → front ≡ []
no_tokens [] fits = refl
no_tokens (t ∷ front) fits = absurd fits

-- nothing stands before what follows
pub ending : (F : List Token → Type 0) (y more : List Token) → Fit y [] → F more → F (y ++ more)
ending F y more fits ends = rw (no_tokens y fits) ends

pub sequence_fits : {A B : Type 0} {S : A → List Token → Type 0} {T : A → B → List Token → Type 0} {b : B} {front : List Token} (h : Sequence S T b front) (ms ns : List Mark) → Fit h.f ms → Fit h.g ns → Fit front (ms ++ ns)
sequence_fits h ms ns x y = rw h.whole (fit_append h.f h.g ms ns x y)

pub sequence_of : {A B : Type 0} {S : A → List Token → Type 0} {T : A → B → List Token → Type 0} {b : B} {front : List Token} (a : A) (ms ns : List Mark) → Fit front (ms ++ ns)
    → ((f : List Token) → Fit f ms → S a f) → ((g : List Token) → Fit g ns → T a b g) → Sequence S T b front
sequence_of {A} {B} {S} {T} {b} {front} a ms ns fits first second =
    let r = fit_split front ms ns fits in
    record { value = a; f = r.0; g = r.1; whole = r.2; first = first r.0 r.3; second = second r.1 r.4 }

pub behind_fits : {A : Type 0} {m : Mark} {S : A → List Token → Type 0} {a : A} {front : List Token} (h : Behind m S a front) (ms : List Mark) → Fit h.others ms → Fit front (m ∷ ms)
behind_fits h ms x = rw h.whole (h.accepts, x)

pub behind_of : {A : Type 0} {m : Mark} {S : A → List Token → Type 0} {a : A} {ms : List Mark} {front : List Token} → Fit front (m ∷ ms) → ((g : List Token) → Fit g ms → S a g) → Behind m S a front
behind_of {A} {m} {S} {a} {ms} {front} fits inner = by front fits
  where
    by : (front : List Token) → Fit front (m ∷ ms) → Behind m S a front
    by [] fits = absurd fits
    by (t ∷ front) fits = record { token = t; others = front; whole = refl; accepts = fits.0; inner = inner front fits.1 }

-- ---- by marks

-- What is spelled by its marks. What is known of it was read before.
pub record Marked {A : Type 0} (Known Well : A → Type 0) (ms : A → List Mark) (a : A) (front : List Token) : Type 0 where
  pub known : Known a
  pub well : Well a
  pub fits : Fit front (ms a)

abbrev pub Free : {A : Type 0} → A → Type 0
Free a = Unit {0}

-- what its function says of it, and tokens of its marks
abbrev pub Fitting : {A : Type 0} → (A → Type 0) → (A → List Mark) → A → List Token → Type 0
Fitting = Marked Free

pub fitting : {A : Type 0} {ok : A → Type 0} {ms : A → List Mark} {a : A} {front : List Token} → ok a → Fit front (ms a) → Fitting ok ms a front
fitting well fits = record { known = tt; well = well; fits = fits }

-- a token of that mark
abbrev pub Is : {A : Type 0} → (A → Mark) → A → List Token → Type 0
Is m = Fitting Free (λ a. m a ∷ [])

pub each_free : {A : Type 0} (o : Option A) → EachOf Free o
each_free None = tt
each_free (Some a) = tt

pub all_free : {A : Type 0} (xs : List A) → AllByRecursion Free xs
all_free [] = tt
all_free (x ∷ xs) = (tt, all_free xs)

-- a part of the whole, and what is behind it
pub step : {A B : Type 0} {n : ℕ} {p : Parser A} {f : A → Parser B} {P : A → Type 0} {m : A → List Mark} {Well : B → Type 0} {k : B → List Mark} {E F : List Token → Type 0}
    → (part : B → A) (Known : B → Type 0)
    → Exactly n p (Fitting P m) E
    → ((a : A) → Exactly n (f a) (Marked (λ b. (part b ≡ a) × Known b) Well k) F)
    → ((b : B) (y more : List Token) → Well b → Fit y (k b) → F more → E (y ++ more))
    → Exactly n (p >>= f) (Marked Known (λ b. P (part b) × Well b) (λ b. m (part b) ++ k b)) F
step {A} {B} {n} {p} {f} {P} {m} {Well} {k} {E} {F} part Known one other follows =
    restated (sequence_exact one other (λ a b y more h ends. follows b y more h.well h.fits ends))
    (λ b front h.
    let is : h.value ≡ part b = sym h.second.known.0 in
    record { known = h.second.known.1; well = (subst P is h.first.well, h.second.well); fits = sequence_fits h (m (part b)) (k b) (subst (λ (c : A). Fit h.f (m c)) is h.first.fits) h.second.fits })
    (λ b front h. sequence_of (part b) (m (part b)) (k b) h.fits (λ x p. fitting h.well.0 p) (λ y p. record { known = (refl, h.known); well = h.well.1; fits = p }))
    (λ more h. h)

-- behind a token
pub leading : {A : Type 0} {n : ℕ} {m : Mark} {p : Parser (Unit {0})} {q : Parser A} {Known Well : A → Type 0} {k : A → List Mark} {F : List Token → Type 0}
    → ReadsMark m p → Exactly n q (Marked Known Well k) F → Exactly (n + 1) (p >> q) (Marked Known Well (λ a. m ∷ k a)) F
leading {A} {n} {m} {p} {q} {Known} {Well} {k} one exact =
    restated (leading_exact one exact)
    (λ a front h. record { known = h.inner.known; well = h.inner.well; fits = behind_fits h (k a) h.inner.fits })
    (λ a front h. behind_of h.fits (λ g p. record { known = h.known; well = h.well; fits = p }))
    (λ more h. h)

pub behind : {A : Type 0} {n : ℕ} {m : Mark} {p : Parser (Unit {0})} {q : Parser A} {Known Well : A → Type 0} {k : A → List Mark} {F : List Token → Type 0}
    → ReadsMark m p → Exactly n q (Marked Known Well k) F → Exactly n (p >> q) (Marked Known Well (λ a. m ∷ k a)) F
behind one exact = fewer (omega arith) (leading one exact)

-- nothing more: what is known determines the whole
pub made : {A : Type 0} {n : ℕ} {F : List Token → Type 0} (a : A) (Known : A → Type 0) → Known a → ((b : A) → Known b → a ≡ b) → Exactly n (pure a) (Marked Known Free (λ b. [])) F
made {A} {n} {F} a Known known determined =
    restated (pure_exact a) (λ b front h. record { known = subst Known (sym h.0) known; well = tt; fits = rw h.1 tt }) (λ b front h. (sym (determined b h.known), no_tokens front h.fits)) (λ more h. tt)

-- a piece that may be lacking
pub maybe_exact : {A : Type 0} {n : ℕ} {p : Parser A} {P : A → Type 0} {m : A → List Mark} {E : List Token → Type 0} (begins : Test)
    → Exactly n p (Fitting P m) E → ((a : A) (front more : List Token) → Fitting P m a front → begins (front ++ more) ≡ true)
    → Exactly n (maybe begins p) (Fitting (EachOf P) (optional_marks m)) (After begins E)
maybe_exact {A} {n} {p} {P} {m} begins exact seen = restated (perhaps_exact begins exact seen) out into (λ more h. h)
  where
    out : (o : Option A) (front : List Token) → Perhaps (Fitting P m) o front → Fitting (EachOf P) (optional_marks m) o front
    out None front h = rw h (fitting tt tt)
    out (Some a) front h = fitting h.well h.fits

    into : (o : Option A) (front : List Token) → Fitting (EachOf P) (optional_marks m) o front → Perhaps (Fitting P m) o front
    into None front h = no_tokens front h.fits
    into (Some a) front h = fitting h.well h.fits

-- a list that may be lacking
pub or_none_exact : {A : Type 0} {n : ℕ} {p : Parser (List A)} {P Q : List A → Type 0} {m : List A → List Mark} {E : List Token → Type 0} (begins : Test) → m [] ≡ [] → Q []
    → ((xs : List A) → P xs → Q xs) → ((x : A) (xs : List A) → Q (x ∷ xs) → P (x ∷ xs)) → Exactly n p (Fitting P m) E → ((xs : List A) (front more : List Token) → Fitting P m xs front → begins (front ++ more) ≡ true)
    → Exactly n (branch begins p (pure [])) (Fitting Q m) (After begins E)
or_none_exact {A} {n} {p} {P} {Q} {m} begins empty none weaker stronger exact seen =
    restated (either_exact begins (narrowed exact (λ more h. h.1)) (narrowed (pure_exact []) (λ more h. tt)) seen (λ xs front more h ends. rw h.1 ends.0)) out into (λ more h. h)
  where
    out : (xs : List A) (front : List Token) → Either (Fitting P m) (Only []) xs front → Fitting Q m xs front
    out xs front (inl h) = fitting (weaker xs h.well) h.fits
    out xs front (inr h) = subst (λ (l : List A). Fitting Q m l front) (sym h.0) (fitting none (rw (empty, h.1) tt))

    into : (xs : List A) (front : List Token) → Fitting Q m xs front → Either (Fitting P m) (Only []) xs front
    into [] front h = inr (refl, no_tokens front (rw empty at h.fits))
    into (x ∷ xs) front h = inl (fitting (stronger x xs h.well) h.fits)

-- any number, each with its marks, behind those found
pub row_exact : {A : Type 0} {n : ℕ} {piece : Parser A} {P : A → Type 0} {m : A → List Mark} {E F : List Token → Type 0} (begins : Test) (found : List A) → begins [] ≡ false → Exactly n piece (Fitting P m) E
    → ((a : A) (front more : List Token) → Fitting P m a front → begins (front ++ more) ≡ true) → ((more : List Token) → F more → After begins E more) → ((more : List Token) → begins more ≡ true → E more)
    → Exactly n (many begins piece found) (Made (λ xs. found ++ xs) (Fitting (AllByRecursion P) (λ xs. concatenated (map m xs)))) F
row_exact {A} {n} {piece} {P} {m} begins found none exact seen ends goes =
    restated (many_exact begins found none exact seen ends goes)
    (λ all front h. record { value = h.value; is = h.is; inner = out h.value front h.inner }) (λ all front h. record { value = h.value; is = h.is; inner = into h.value front h.inner.well h.inner.fits }) (λ more h. h)
  where
    out : (xs : List A) (front : List Token) → Each (Fitting P m) xs front → Fitting (AllByRecursion P) (λ xs. concatenated (map m xs)) xs front
    out [] front each = rw each (fitting tt tt)
    out (x ∷ xs) front each = let r = out xs each.1 each.4 in fitting (each.3.well, r.well) (rw each.2 (fit_append each.0 each.1 (m x) (concatenated (map m xs)) each.3.fits r.fits))

    into : (xs : List A) (front : List Token) → AllByRecursion P xs → Fit front (concatenated (map m xs)) → Each (Fitting P m) xs front
    into [] front well fits = no_tokens front fits
    into (x ∷ xs) front well fits = let r = fit_split front (m x) (concatenated (map m xs)) fits in (r.0, r.1, r.2, fitting well.0 r.3, into xs r.1 well.1 r.4)

pub rows_exact : {A : Type 0} {n : ℕ} {piece : Parser A} {P : A → Type 0} {m : A → List Mark} {E F : List Token → Type 0} (begins : Test) → begins [] ≡ false → Exactly n piece (Fitting P m) E
    → ((a : A) (front more : List Token) → Fitting P m a front → begins (front ++ more) ≡ true) → ((more : List Token) → F more → After begins E more) → ((more : List Token) → begins more ≡ true → E more)
    → Exactly n (many begins piece []) (Fitting (AllByRecursion P) (λ xs. concatenated (map m xs))) F
rows_exact {A} {n} {piece} {P} {m} begins none exact seen ends goes =
    restated (row_exact begins [] none exact seen ends goes)
    (λ all front h. subst (λ (xs : List A). Fitting (AllByRecursion P) (λ xs. concatenated (map m xs)) xs front) (sym h.is) h.inner) (λ all front h. record { value = all; is = refl; inner = h }) (λ more h. h)

-- ---- one token

pub one_exact : {A : Type 0} {n : ℕ} {p : Parser A} (m : A → Mark) → ((ts more : List Token) (a : A) → p ts ≡ Some (a, more) → (t : Token) × (ts ≡ t ∷ more) × Accepts (m a) t)
    → ((t : Token) (more : List Token) (a : A) → Accepts (m a) t → p (t ∷ more) ≡ Some (a, more)) → Exactly n p (Is m) Anything
one_exact {A} {n} {p} m takes again = record {
  sound = λ ts a more e. let t = takes ts more a e in (t.0 ∷ [], t.1, fitting tt (t.2, tt));
  complete = λ a front more h ends less. by a front more h.fits;
}
  where
    by : (a : A) (front more : List Token) → Fit front (m a ∷ []) → p (front ++ more) ≡ Some (a, more)
    by a [] more h = absurd h
    by a (t ∷ []) more h = again t more a h.0
    by a (t ∷ u ∷ front) more h = absurd h.1

pub keyword_exact : (x : Keyword) → ReadsMark (key x) (parse.keyword x)
keyword_exact x n = restated (one_exact (λ u. key x) (keyword_takes x) (λ t more u h. keyword_again x t more h)) (λ u front h. h.fits) (λ u front h. fitting tt h) (λ more h. h)

pub var_exact : (n : ℕ) → Exactly n parse.var (Is grammar.var) Anything
var_exact n = one_exact grammar.var var_takes var_again

pub name_exact : (n : ℕ) → Exactly n parse.name (Is grammar.name) Anything
name_exact n = one_exact grammar.name name_takes name_again

-- one of two
pub choice_exact : {n : ℕ} {p q : Parser (Unit {0})} (begins : Test) (m : Bool → Mark) → ReadsMark (m true) p → ReadsMark (m false) q → ((t : Token) (more : List Token) → Accepts (m true) t → begins (t ∷ more) ≡ true)
    → ((t : Token) (more : List Token) → Accepts (m false) t → begins (t ∷ more) ≡ false) → Exactly n (branch begins (p >> pure true) (q >> pure false)) (Is m) Anything
choice_exact begins m one two seen unseen = restated
    (either_exact begins (behind_exact one (pure_exact true)) (behind_exact two (pure_exact false)) (λ b front more h. rw h.whole (seen h.token (h.others ++ more) h.accepts)) (λ b front more h ends. rw h.whole (unseen h.token (h.others ++ more) h.accepts)))
    out into (λ more h. h)
  where
    out : (b : Bool) (front : List Token) → Either (Behind (m true) (Only true)) (Behind (m false) (Only false)) b front → Is m b front
    out b front (inl h) = subst (λ c. Is m c front) (sym h.inner.0) (fitting tt (behind_fits h [] (rw h.inner.1 tt)))
    out b front (inr h) = subst (λ c. Is m c front) (sym h.inner.0) (fitting tt (behind_fits h [] (rw h.inner.1 tt)))

    into : (b : Bool) (front : List Token) → Is m b front → Either (Behind (m true) (Only true)) (Behind (m false) (Only false)) b front
    into true front h = inl (behind_of h.fits (λ g p. (refl, no_tokens g p)))
    into false front h = inr (behind_of h.fits (λ g p. (refl, no_tokens g p)))

-- one that may be lacking
flag_exact : {n : ℕ} {p : Parser Bool} (m : Mark) (begins : Test) → ((ts more : List Token) (b : Bool) → p ts ≡ Some (b, more) → ((b ≡ true) × (t : Token) × (ts ≡ t ∷ more) × Accepts m t) ⊎ ((b ≡ false) × (ts ≡ more)))
    → ((t : Token) (more : List Token) → Accepts m t → p (t ∷ more) ≡ Some (true, more)) → ((ts : List Token) → begins ts ≡ false → p ts ≡ Some (false, ts)) → Exactly n p (Fitting Free (λ b. flag b m)) (λ more. begins more ≡ false)
flag_exact {n} {p} m begins takes given lacking = record {
  sound = λ ts b more e. elim (takes ts more b e) [
    | inl h ↦ (h.1 ∷ [], h.2, rw h.0 (fitting tt (h.3, tt)))
    | inr h ↦ ([], h.1, rw h.0 (fitting tt tt))
  ];
  complete = λ b front more h ends less. by b front more h.fits ends;
}
  where
    by : (b : Bool) (front more : List Token) → Fit front (flag b m) → begins more ≡ false → p (front ++ more) ≡ Some (b, more)
    by true [] more h ends = absurd h
    by true (t ∷ []) more h ends = given t more h.0
    by true (t ∷ w ∷ front) more h ends = absurd h.1
    by false [] more h ends = lacking more ends
    by false (t ∷ front) more h ends = absurd h

pub eat_symbol_exact : {n : ℕ} (x : Symbol) → Exactly n (parse.eat_symbol x) (Fitting Free (λ b. flag b (sign x))) (λ more. sees_symbol x more ≡ false)
eat_symbol_exact x = flag_exact (sign x) (sees_symbol x) (eat_takes x) (eat_yes x) (eat_no x)

pub eat_keyword_exact : {n : ℕ} (x : Keyword) → Exactly n (parse.eat_keyword x) (Fitting Free (λ b. flag b (key x))) (λ more. sees_keyword x more ≡ false)
eat_keyword_exact x = flag_exact (key x) (sees_keyword x) (eat_keyword_takes x) (eat_keyword_yes x) (eat_keyword_no x)

-- ---- with commas between

pub symbol_begins : (x : Symbol) (ms : List Mark) (front more : List Token) → Fit front (sign x ∷ ms) → sees_symbol x (front ++ more) ≡ true
symbol_begins x ms [] more fits = absurd fits
symbol_begins x ms (t ∷ front) more fits = symbol_seen x t (front ++ more) fits.0

pub keyword_begins : (x : Keyword) (ms : List Mark) (front more : List Token) → Fit front (key x ∷ ms) → sees_keyword x (front ++ more) ≡ true
keyword_begins x ms [] more fits = absurd fits
keyword_begins x ms (t ∷ front) more fits = keyword_seen x t (front ++ more) fits.0

-- what may follow the last item
abbrev pub AfterItems : (List Token → Type 0) → List Token → Type 0
AfterItems = After (sees_symbol s.Comma)

abbrev pub Items : {A : Type 0} (ok : A → Type 0) → List A → Type 0
Items ok xs = IsNonEmpty xs × AllByRecursion ok xs

-- items up to a closing symbol
abbrev pub ClosedItems : {A B : Type 0} → (A → Type 0) → (A → List Mark) → Symbol → (List A → B) → B → List Token → Type 0
ClosedItems ok ms close f = Sequence (Fitting (Items ok) (λ xs. commas (map ms xs))) (λ xs. Behind (sign close) (Only (f xs)))

pub closed_fits : {A B : Type 0} {ok : A → Type 0} {ms : A → List Mark} {close : Symbol} {f : List A → B} {a : B} {front : List Token} (h : ClosedItems ok ms close f a front) → Fit front (commas (map ms h.value) ++ sign close ∷ [])
closed_fits {A} {B} {ok} {ms} {close} h = sequence_fits h (commas (map ms h.value)) (sign close ∷ []) h.first.fits (behind_fits h.second [] (rw h.second.inner.1 tt))

pub closed_of : {A B : Type 0} {ok : A → Type 0} {ms : A → List Mark} {close : Symbol} {f : List A → B} {a : B} {front : List Token} (xs : List A) → a ≡ f xs → Items ok xs → Fit front (commas (map ms xs) ++ sign close ∷ []) → ClosedItems ok ms close f a front
closed_of {A} {B} {ok} {ms} {close} xs is all fits = sequence_of xs (commas (map ms xs)) (sign close ∷ []) fits (λ g p. fitting all p) (λ g p. behind_of p (λ g p. (is, no_tokens g p)))

-- the same, or none
abbrev pub Closing : {A B : Type 0} → (A → Type 0) → (A → List Mark) → Symbol → (List A → B) → B → List Token → Type 0
Closing ok ms close f = Made f (Fitting (AllByRecursion ok) (λ xs. commas (map ms xs) ++ sign close ∷ []))

module _ {A : Type 0} {limit : ℕ} {ok : A → Type 0} {ms : A → List Mark} {E : List Token → Type 0} {item : Parser A} (exact : Exactly limit item (Fitting ok ms) E) (goes : (more : List Token) → sees_symbol s.Comma more ≡ true → E more) where
  abbrev Behinds : List A → List Token → Type 0
  Behinds = Fitting (AllByRecursion ok) (λ xs. concatenated (map (λ x. sign s.Comma ∷ ms x) xs))

  further_is : (xs : List A) → concatenated (map (λ x. sign s.Comma ∷ ms x) xs) ≡ further (map ms xs)
  further_is [] = refl
  further_is (x ∷ xs) = ap (λ (ns : List Mark). sign s.Comma ∷ ms x ++ ns) (further_is xs)

  commas_exact : (found : List A) → Exactly limit (many (sees_symbol s.Comma) (comma_and item) found) (Made (λ xs. found ++ xs) Behinds) (AfterItems E)
  commas_exact found = row_exact (sees_symbol s.Comma) found refl (behind (symbol_exact s.Comma) exact) (λ x front more h. symbol_begins s.Comma (ms x) front more h.fits) (λ more h. h) goes

  pub further_exact : Exactly limit (many (sees_symbol s.Comma) (comma_and item) []) (Fitting (AllByRecursion ok) (λ xs. further (map ms xs))) (AfterItems E)
  further_exact =
      restated (commas_exact [])
      (λ xs front h. subst (λ (l : List A). Fitting (AllByRecursion ok) (λ xs. further (map ms xs)) l front) (sym h.is) (fitting h.inner.well (rw (← further_is h.value) h.inner.fits)))
      (λ xs front h. record { value = xs; is = refl; inner = fitting h.well (rw (further_is xs) h.fits) })
      (λ more h. h)

  pub items_exact : Exactly limit (separated item) (Fitting (Items ok) (λ xs. commas (map ms xs))) (AfterItems E)
  items_exact = restated (sequence_exact exact (λ x. commas_exact (x ∷ [])) follows) out into (λ more h. h)
    where
      follows : (x : A) (xs : List A) (front more : List Token) → Made (λ xs. (x ∷ []) ++ xs) Behinds xs front → AfterItems E more → E (front ++ more)
      follows x xs front more h ends = by h.value h.inner.fits
        where
          by : (ys : List A) → Fit front (concatenated (map (λ x. sign s.Comma ∷ ms x) ys)) → E (front ++ more)
          by [] fits = ending E front more fits ends.1
          by (y ∷ ys) fits = goes (front ++ more) (symbol_begins s.Comma _ front more fits)

      out : (xs : List A) (front : List Token) → Sequence (Fitting ok ms) (λ x. Made (λ xs. (x ∷ []) ++ xs) Behinds) xs front → Fitting (Items ok) (λ xs. commas (map ms xs)) xs front
      out xs front h =
          let v = h.second in
          subst (λ (l : List A). Fitting (Items ok) (λ xs. commas (map ms xs)) l front) (sym v.is) (fitting (tt, (h.first.well, v.inner.well)) (sequence_fits h (ms h.value) (further (map ms v.value)) h.first.fits (rw (← further_is v.value) v.inner.fits)))

      into : (xs : List A) (front : List Token) → Fitting (Items ok) (λ xs. commas (map ms xs)) xs front → Sequence (Fitting ok ms) (λ x. Made (λ xs. (x ∷ []) ++ xs) Behinds) xs front
      into [] front h = absurd h.well.0
      into (x ∷ xs) front h = sequence_of x (ms x) (further (map ms xs)) h.fits (λ f p. fitting h.well.1.0 p) (λ g p. record { value = xs; is = refl; inner = fitting h.well.1.1 (rw (further_is xs) p) })

  pub closed_exact : {B : Type 0} (close : Symbol) (f : List A → B) → ((t : Token) (more : List Token) → Accepts (sign close) t → AfterItems E (t ∷ more)) → Exactly limit (separated item >>= λ xs. parse.symbol close >> pure (f xs)) (ClosedItems ok ms close f) Anything
  closed_exact close f ends = sequence_exact items_exact (λ xs. behind_exact (symbol_exact close) (pure_exact (f xs))) (λ xs a y more h after. rw h.whole (ends h.token (h.others ++ more) h.accepts))

  pub closing_exact : {B : Type 0} (close : Symbol) (f : List A → B) → ((t : Token) (more : List Token) → Accepts (sign close) t → AfterItems E (t ∷ more))
      → ((x : A) (ns : List Mark) (front more : List Token) → ok x → Fit front (ms x ++ ns) → sees_symbol close (front ++ more) ≡ false)
      → Exactly limit (parse.eat_symbol close >>= λ b. elim b [ true ↦ pure (f []) | false ↦ separated item >>= λ xs. parse.symbol close >> pure (f xs) ]) (Closing ok ms close f) Anything
  closing_exact {B} close f ends opens = restated (eat_exact close (λ b. elim b [ true ↦ pure (f []) | false ↦ separated item >>= λ xs. parse.symbol close >> pure (f xs) ]) (pure_exact (f [])) (closed_exact close f ends) unseen) out into (λ more h. h)
    where
      unseen : (a : B) (front more : List Token) → ClosedItems ok ms close f a front → Anything more → sees_symbol close (front ++ more) ≡ false
      unseen a front more h after = by h.value h.first.well (closed_fits h)
        where
          by : (xs : List A) → Items ok xs → Fit front (commas (map ms xs) ++ sign close ∷ []) → sees_symbol close (front ++ more) ≡ false
          by [] all fits = absurd all.0
          by (x ∷ xs) all fits = opens x (further (map ms xs) ++ sign close ∷ []) front more all.1.0 (rw append_assoc at fits)

      out : (a : B) (front : List Token) → Either (Behind (sign close) (Only (f []))) (ClosedItems ok ms close f) a front → Closing ok ms close f a front
      out a front (inl h) = record { value = []; is = h.inner.0; inner = fitting tt (behind_fits h [] (rw h.inner.1 tt)) }
      out a front (inr h) = record { value = h.value; is = h.second.inner.0; inner = fitting h.first.well.1 (closed_fits h) }

      into : (a : B) (front : List Token) → Closing ok ms close f a front → Either (Behind (sign close) (Only (f []))) (ClosedItems ok ms close f) a front
      into a front h = by h.value h.is h.inner.well h.inner.fits
        where
          by : (xs : List A) → a ≡ f xs → AllByRecursion ok xs → Fit front (commas (map ms xs) ++ sign close ∷ []) → Either (Behind (sign close) (Only (f []))) (ClosedItems ok ms close f) a front
          by [] is all fits = inl (behind_of fits (λ g p. (is, no_tokens g p)))
          by (x ∷ xs) is all fits = inr (closed_of (x ∷ xs) is (tt, all) fits)

-- ---- where a piece begins

abbrev pub Starts : List Mark → Type 0
Starts [] = ⊥
Starts (m ∷ ms) = Unit {0}

pub here_then : {A : Type 0} {n : ℕ} {f : ℕ → Parser A} {T : ℕ → A → List Token → Type 0} {S : A → List Token → Type 0} {F : List Token → Type 0} → ((at : ℕ) → Exactly n (f at) (T at) F)
    → ((a : A) (front more : List Token) → T (start_of (front ++ more)) a front → S a front) → ((a : A) (front more : List Token) → S a front → T (start_of (front ++ more)) a front) → Exactly n (here >>= f) S F
unfolding here
here_then {A} {n} {f} {T} {S} {F} exact out into = record {
  sound = λ ts a more e. let r = (exact (start_of ts)).sound ts a more e in (r.0, r.1, out a r.0 more (subst (λ (l : List Token). T (start_of l) a r.0) r.1 r.2));
  complete = λ a front more h ends less. (exact (start_of (front ++ more))).complete a front more (into a front more h) ends less;
}

pub here_exact : {A : Type 0} {n : ℕ} {f : ℕ → Parser A} {Well : A → Type 0} {k : A → List Mark} {F : List Token → Type 0} (place : A → ℕ)
    → ((at : ℕ) → Exactly n (f at) (Marked (λ a. place a ≡ at) Well k) F) → ((a : A) → Starts (k a))
    → Exactly n (here >>= f) (Fitting Well (λ a. begun (place a) (k a))) F
here_exact {A} {n} {f} {Well} {k} {F} place exact starts = here_then exact
    (λ a front more h. fitting h.well (fit_begun (k a) (place a) front more (starts a) h.fits h.known))
    (λ a front more h. let b = fit_begins (k a) (place a) front more (starts a) h.fits in record { known = b.1; well = h.well; fits = b.0 })
  where
    fit_begun : (ms : List Mark) (at : ℕ) (front more : List Token) → Starts ms → Fit front ms → at ≡ start_of (front ++ more) → Fit front (begun at ms)
    fit_begun [] at front more some fits e = absurd some
    fit_begun (m ∷ ms) at [] more some fits e = absurd fits
    fit_begun (m ∷ ms) at (t ∷ front) more some fits e = let a = fits.0 in (record { spelled = a.spelled; starts = (sym e, a.starts); finishes = a.finishes }, fits.1)

    fit_begins : (ms : List Mark) (at : ℕ) (front more : List Token) → Starts ms → Fit front (begun at ms) → Fit front ms × (at ≡ start_of (front ++ more))
    fit_begins [] at front more some fits = absurd some
    fit_begins (m ∷ ms) at [] more some fits = absurd fits
    fit_begins (m ∷ ms) at (t ∷ front) more some fits = let a = fits.0 in ((record { spelled = a.spelled; starts = a.starts.1; finishes = a.finishes }, fits.1), sym a.starts.0)

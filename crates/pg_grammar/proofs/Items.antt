-- Items of WITH and RETURN: an expression, its source and its alias.
use Rattle.std.proofs.Common.{◌≡◌, ℕ, ◌+◌, ◌-◌, Bool, true, false, List, [], ◌∷◌, ◌++◌, length, Option, Some, None, refl, sym, ap, subst, ◌∙◌, append_assoc, length-append, arith}
use Rattle.std.proofs.lemmas.List.{append-nil}
use Rattle.std.specs.Prelude.{slice_get}
use Rattle.pg_meaning.specs.declared.lexemes.Keyword.TheVariants as k
use Rattle.pg_meaning.specs.declared.lexemes.Symbol.TheVariants as s
use Rattle.pg_meaning.specs.Tokens.{Token}
use Rattle.pg_meaning.specs.Tree.{Name, Expression, Item}
use Rattle.pg_meaning.specs.Tree as tree
use Rattle.pg_meaning.specs.Grammar.{Mark, begun, ended, marks, optional_marks, alias_marks, item_marks, Fit, IsWellFormed, IsNamed, Each as EachOf}
use Rattle.pg_meaning.specs.Parse as parse
use Rattle.pg_meaning.specs.Parse.{Parser, and_then, ◌>>=◌, pure, with_rest, sees_symbol, sees_keyword, start_of, finish_of, finish_between, cut, maybe, alias, item_with, return_item, with_item, may_stand}
use Rattle.pg_grammar.specs.Rules.{Sound, Complete, Exactly, Anything, Ends, Exact, Opened, ExpressionsOpen}
use Rattle.pg_grammar.proofs.Chains.{any_spelled}
use Rattle.pg_grammar.proofs.Combinators.{Fitting, Free, Only, Sequence, After, fitting, restated, behind, pure_exact, sequence_exact, maybe_exact, each_free, ending, var_exact, keyword_exact, keyword_begins}
use Rattle.pg_grammar.proofs.Fits.{fit_append, fit_split}
use Rattle.pg_grammar.proofs.Generic.{same_some, bind_some, pick}
use Rattle.pg_grammar.proofs.Openings.{opened_front}
use Rattle.pg_grammar.proofs.Spans.{cut_sound}
use Rattle.pg_grammar.proofs.Terminals.{symbol_is, with_rest_is}

-- ---- places

last_finish : List Token → ℕ
last_finish [] = 0
last_finish (t ∷ []) = t.finish
last_finish (t ∷ u ∷ ts) = last_finish (u ∷ ts)

last_is : (t : Token) (front more : List Token) → finish_of (slice_get (t ∷ front ++ more) (length front)) ≡ last_finish (t ∷ front)
unfolding last_finish
last_is t [] more = refl
last_is t (u ∷ front) more = last_is u front more

between_is : (t : Token) (front more : List Token) → finish_between (t ∷ front ++ more) more ≡ last_finish (t ∷ front)
unfolding finish_between
between_is t front more =
    let n : (length (t ∷ front ++ more) - length more) - 1 ≡ length front = omega (arith, length-append front more) in
    rw n (last_is t front more)

ended_made : (front : List Token) (ms : List Mark) → Fit front ms → Fit front (ended (last_finish front) ms)
unfolding last_finish
ended_made [] [] f = tt
ended_made [] (m ∷ ms) f = absurd f
ended_made (t ∷ front) [] f = absurd f
ended_made (t ∷ []) (m ∷ []) f = (record { spelled = f.0.spelled; starts = f.0.starts; finishes = (refl, f.0.finishes) }, tt)
ended_made (t ∷ u ∷ ts) (m ∷ []) f = absurd f.1
ended_made (t ∷ []) (m ∷ n ∷ ms) f = absurd f.1
ended_made (t ∷ u ∷ ts) (m ∷ n ∷ ms) f = (f.0, ended_made (u ∷ ts) (n ∷ ms) f.1)

ended_is : (at : ℕ) (t : Token) (front : List Token) (ms : List Mark) → Fit (t ∷ front) (ended at ms) → Fit (t ∷ front) ms × (last_finish (t ∷ front) ≡ at)
unfolding last_finish
ended_is at t front [] f = absurd f
ended_is at t [] (m ∷ []) f = ((record { spelled = f.0.spelled; starts = f.0.starts; finishes = f.0.finishes.1 }, tt), f.0.finishes.0)
ended_is at t (u ∷ ts) (m ∷ []) f = absurd f.1
ended_is at t [] (m ∷ n ∷ []) f = absurd f.1
ended_is at t [] (m ∷ n ∷ o ∷ ms) f = absurd f.1
ended_is at t (u ∷ ts) (m ∷ n ∷ ms) f = let r = ended_is at u ts (n ∷ ms) f.1 in ((f.0, r.0), r.1)

begun_made : (t : Token) (front : List Token) (ms : List Mark) → Fit (t ∷ front) ms → Fit (t ∷ front) (begun t.start ms)
begun_made t front [] f = absurd f
begun_made t front (m ∷ ms) f = (record { spelled = f.0.spelled; starts = (refl, f.0.starts); finishes = f.0.finishes }, f.1)

begun_is : (at : ℕ) (t : Token) (front : List Token) (ms : List Mark) → Fit (t ∷ front) (begun at ms) → Fit (t ∷ front) ms × (t.start ≡ at)
begun_is at t front [] f = absurd f
begun_is at t front (m ∷ ms) f = ((record { spelled = f.0.spelled; starts = f.0.starts.1; finishes = f.0.finishes }, f.1), f.0.starts.0)

-- ---- items

abbrev may_alias : Parser (Option Name)
may_alias = maybe (sees_keyword k.As) alias

alias_exact : {limit : ℕ} → Exactly limit may_alias (Fitting (EachOf Free) (optional_marks alias_marks)) (After (sees_keyword k.As) Anything)
alias_exact {limit} = maybe_exact (sees_keyword k.As) (behind (keyword_exact k.As) (var_exact limit)) (λ n front more h. keyword_begins k.As _ front more h.fits)

-- its source can be cut from the text
abbrev pub IsCut : List ℕ → Item → Type 0
IsCut text x = cut text x.start (x.start + length x.source) ≡ Some x.source

abbrev pub IsItem : List ℕ → Item → Type 0
IsItem text x = IsWellFormed x.value × IsCut text x

abbrev pub ItemEnds : List Token → Type 0
ItemEnds = After (sees_keyword k.As) (Ends 1)

pub comma_item_ends : (more : List Token) → sees_symbol s.Comma more ≡ true → ItemEnds more
unfolding parse.same_keyword
comma_item_ends more e = let i = symbol_is s.Comma more e in rw (i.1, i.2.spelled) (refl, omega arith)

-- of the value, with its places
abbrev value_marks : Item → List Mark
value_marks x = begun x.start (ended (x.start + length x.source) (marks x.value))

-- no expression is spelled by nothing
no_marks : ExpressionsOpen → (x : Expression) (start finish : ℕ) → IsWellFormed x → Fit [] (begun start (ended finish (marks x))) → ⊥
no_marks opened x start finish well fits = by (marks x) fits (opened x [] well)
  where
    by : (ms : List Mark) → Fit [] (begun start (ended finish ms)) → (Fit [] ms → Opened []) → ⊥
    by [] f none = let bad = (none tt).whole in absurd cc
    by (m ∷ []) f none = f
    by (m ∷ n ∷ ms) f none = f

module _ (text : List ℕ) {n : ℕ} {whole : Parser Expression} (exact : Exact n 1 whole) (opened : ExpressionsOpen) where
  item_made : (bytes : List ℕ) (x : Expression) (a : Option Name) (f more : List Token) → IsWellFormed x → Fit f (marks x)
      → cut text (start_of (f ++ more)) (finish_between (f ++ more) more) ≡ Some bytes
      → IsCut text (item_with (start_of (f ++ more)) bytes x a) × Fit f (value_marks (item_with (start_of (f ++ more)) bytes x a))
  item_made bytes x a [] more well p e = let bad = (opened x [] well p).whole in absurd cc
  item_made bytes x a (t ∷ f) more well p e =
      let c = cut_sound text bytes t.start (finish_between (t ∷ f ++ more) more) e in
      let finish : t.start + length bytes ≡ last_finish (t ∷ f) = c.0 ∙ between_is t f more in
      (subst (λ (b : ℕ). cut text t.start b ≡ Some bytes) (sym c.0) e, rw finish (begun_made t f _ (ended_made (t ∷ f) (marks x) p)))

  abbrev behind_value : List Token → Expression → Parser Item
  behind_value old x new = and_then (with_rest (cut text (start_of old) (finish_between old new)) new) (λ bytes. may_alias >>= λ a. pure (item_with (start_of old) bytes x a))

  item_sound : Sound (return_item text whole) (Fitting (IsItem text) item_marks)
  unfolding return_item
  item_sound ts a more e =
      let b = bind_some (whole ts) (behind_value ts) (a, more) e in
      let c = bind_some (with_rest (cut text (start_of ts) (finish_between ts b.1)) b.1) (λ bytes. may_alias >>= λ al. pure (item_with (start_of ts) bytes b.0 al)) (a, more) b.3 in
      let w = with_rest_is (cut text (start_of ts) (finish_between ts b.1)) b.1 c.0 c.1 c.2 in
      let d = bind_some (may_alias c.1) (λ al. pure (item_with (start_of ts) c.0 b.0 al)) (a, more) c.3 in
      let last = same_some (item_with (start_of ts) c.0 b.0 d.0) a d.1 more d.3 in
      let one = exact.sound ts b.0 b.1 b.2 in
      let two = (alias_exact {limit = 0}).sound c.1 d.0 d.1 d.2 in
      let cut_at : cut text (start_of (one.0 ++ b.1)) (finish_between (one.0 ++ b.1) b.1) ≡ Some c.0 = subst (λ (l : List Token). cut text (start_of l) (finish_between l b.1) ≡ Some c.0) one.1 w.0 in
      let made = item_made c.0 b.0 d.0 one.0 b.1 one.2.well one.2.fits cut_at in
      let x : Item = item_with (start_of (one.0 ++ b.1)) c.0 b.0 d.0 in
      let is : x ≡ a = ap (λ (old : List Token). item_with (start_of old) c.0 b.0 d.0) (sym one.1) ∙ last.0 in
      let spelled : Fitting (IsItem text) item_marks x (one.0 ++ two.0) = fitting {front = one.0 ++ two.0} (one.2.well, made.0) (fit_append one.0 two.0 (value_marks x) (optional_marks alias_marks d.0) made.1 two.2.fits) in
      let left : b.1 ≡ two.0 ++ more = ◌∙◌ {b = two.0 ++ d.1} {c = two.0 ++ more} (◌∙◌ {c = two.0 ++ d.1} w.1 two.1) (ap (λ (r : List Token). two.0 ++ r) last.1) in
      (one.0 ++ two.0, ◌∙◌ {b = one.0 ++ (two.0 ++ more)} {c = (one.0 ++ two.0) ++ more} (◌∙◌ {c = one.0 ++ (two.0 ++ more)} one.1 (ap (λ (r : List Token). one.0 ++ r) left)) (sym {a = (one.0 ++ two.0) ++ more} {b = one.0 ++ (two.0 ++ more)} (append_assoc one.0 two.0 more)), subst (λ (y : Item). Fitting (IsItem text) item_marks y (one.0 ++ two.0)) is spelled)

  alias_ends : (a : Option Name) (g more : List Token) → Fit g (optional_marks alias_marks a) → ItemEnds more → Ends 1 (g ++ more)
  alias_ends None g more fits ends = ending (Ends 1) g more fits ends.1
  alias_ends (Some n) [] more fits ends = absurd fits
  alias_ends (Some n) (t ∷ g) more fits ends = rw fits.0.spelled.1 (omega arith)

  item_complete : Complete n (return_item text whole) (Fitting (IsItem text) item_marks) ItemEnds
  unfolding return_item
  item_complete a front more h ends less =
      let parts = fit_split front (value_marks a) (optional_marks alias_marks a.alias) h.fits in
      by parts.0 parts.1 parts.2 parts.3 parts.4
    where
      by : (f g : List Token) → front ≡ f ++ g → Fit f (value_marks a) → Fit g (optional_marks alias_marks a.alias) → return_item text whole (front ++ more) ≡ Some (a, more)
      by [] g e fits others = absurd (no_marks opened a.value a.start (a.start + length a.source) h.well.0 fits)
      by (t ∷ f) g e fits others =
          let us = g ++ more in
          let b = begun_is a.start t f (ended (a.start + length a.source) (marks a.value)) fits in
          let l = ended_is (a.start + length a.source) t f (marks a.value) b.0 in
          let there : front ++ more ≡ t ∷ f ++ us = ap (λ (r : List Token). r ++ more) e ∙ append_assoc (t ∷ f) g more in
          let one : whole (t ∷ f ++ us) ≡ Some (a.value, us) = exact.complete a.value (t ∷ f) us (any_spelled a.value (t ∷ f) h.well.0 l.0) (alias_ends a.alias g more others ends) (omega (arith, ap length there)) in
          let two : may_alias us ≡ Some (a.alias, more) = (alias_exact {limit = length us + 1}).complete a.alias g more (fitting (each_free a.alias) others) (ends.0, tt) (omega arith) in
          let finish : finish_between (t ∷ f ++ us) us ≡ a.start + length a.source = between_is t f us ∙ l.1 in
          let cut_at : cut text t.start (finish_between (t ∷ f ++ us) us) ≡ Some a.source = rw (finish, b.1) h.well.1 in
          rw (there, one, cut_at, two, b.1) refl

  pub item_exact : Exactly n (return_item text whole) (Fitting (IsItem text) item_marks) ItemEnds
  item_exact = record { sound = item_sound; complete = item_complete }

-- an item begins with an expression
pub item_opens : ExpressionsOpen → (x : Item) (ms : List Mark) (front : List Token) → IsWellFormed x.value → Fit front (item_marks x ++ ms) → Opened front
item_opens opened x ms front well fits =
    let whole = fit_split front (item_marks x) ms fits in
    let parts = fit_split whole.0 (value_marks x) (optional_marks alias_marks x.alias) whole.3 in
    opened_front front whole.0 whole.1 whole.2 (opened_front whole.0 parts.0 parts.1 parts.2 (by parts.0 parts.3))
  where
    by : (f : List Token) → Fit f (value_marks x) → Opened f
    by [] fits = absurd (no_marks opened x.value x.start (x.start + length x.source) well fits)
    by (t ∷ f) fits =
        let b = begun_is x.start t f (ended (x.start + length x.source) (marks x.value)) fits in
        opened x.value (t ∷ f) well (ended_is (x.start + length x.source) t f (marks x.value) b.0).0

-- ---- items of WITH

stands : (x : Expression) (a : Option Name) → may_stand x a ≡ true → IsNamed x a
stands x (Some n) e = tt
stands (tree.variable n) None e = tt
stands _ None e = absurd cc

stands_again : (x : Expression) (a : Option Name) → IsNamed x a → may_stand x a ≡ true
stands_again x (Some n) h = refl
stands_again (tree.variable n) None h = refl
stands_again _ None h = absurd h

stood_exact : {limit : ℕ} (b : Bool) (i : Item) → Exactly limit (pick b (pure i) parse.refuse) (λ a front. (b ≡ true) × Only i a front) ItemEnds
stood_exact true i = restated (pure_exact i) (λ a front h. (refl, h)) (λ a front h. h.1) (λ more h. tt)
stood_exact false i = record { sound = λ ts a more e. absurd cc; complete = λ a front more h ends less. absurd (let bad = h.0 in cc) }

abbrev pub IsNamedItem : List ℕ → Item → Type 0
IsNamedItem text x = IsItem text x × IsNamed x.value x.alias

abbrev Stood : List ℕ → Item → List Token → Type 0
Stood text = Sequence (Fitting (IsItem text) item_marks) (λ i a front. (may_stand i.value i.alias ≡ true) × Only i a front)

pub named_exact : {n : ℕ} (text : List ℕ) (whole : Parser Expression) → Exactly n (return_item text whole) (Fitting (IsItem text) item_marks) ItemEnds → Exactly n (with_item text whole) (Fitting (IsNamedItem text) item_marks) ItemEnds
unfolding with_item
named_exact text whole exact = restated (sequence_exact exact (λ i. stood_exact (may_stand i.value i.alias) i) (λ i a front more h ends. rw h.1.1 ends)) out into (λ more h. h)
  where
    out : (a : Item) (front : List Token) → Stood text a front → Fitting (IsNamedItem text) item_marks a front
    out a front h =
        let whole : front ≡ h.f = h.whole ∙ ap (λ (r : List Token). h.f ++ r) h.second.1.1 ∙ append-nil h.f in
        rw (h.second.1.0, whole) (fitting (h.first.well, stands h.value.value h.value.alias h.second.0) h.first.fits)

    into : (a : Item) (front : List Token) → Fitting (IsNamedItem text) item_marks a front → Stood text a front
    into a front h = record { value = a; f = front; g = []; whole = sym (append-nil front); first = fitting h.well.0 h.fits; second = (stands_again a.value a.alias h.well.1, (refl, refl)) }

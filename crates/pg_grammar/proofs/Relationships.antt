-- Relationship patterns: their types, their range, what stands in their brackets, and the whole.
use Rattle.std.proofs.Common.{◌≡◌, ℕ, Bool, true, false, List, [], ◌∷◌, ◌++◌, map, Option, Some, None, is_some, refl, sym, subst, inl, inr, append_assoc}
use Rattle.std.proofs.lemmas.List.{append-nil}
use Rattle.std.specs.List.{AllByRecursion}
use Rattle.pg_meaning.specs.declared.lexemes.Symbol.TheVariants as s
use Rattle.pg_meaning.specs.Tokens.{Lexeme, Token}
use Rattle.pg_meaning.specs.Tokens as lexeme
use Rattle.pg_meaning.specs.Tree.{Name, Expression, Properties, Range, Detail, RelationshipPattern}
use Rattle.pg_meaning.specs.Grammar.{Mark, mark, sign, name, begun, flag, concatenated, integer as integer_what, var_marks, optional_marks, integer_marks, properties_marks, more_types_marks, types_marks, range_marks, detail_marks, relationship_marks, AreProperties, AreTypes, IsRange, IsDetail, IsSpelled, Accepts, Fit, Each as EachOf}
use Rattle.pg_meaning.specs.Grammar as grammar
use Rattle.pg_meaning.specs.Parse as parse
use Rattle.pg_meaning.specs.Parse.{Parser, ◌>>=◌, ◌>>◌, pure, branch, many, is_symbol, sees, sees_symbol, integer_of, with_rest, begins_var, begins_integer, symbol, eat_symbol, maybe, properties, other_type, types, range, detail, relationship}
use Rattle.pg_grammar.specs.Rules.{Exactly, Exact, Anything}
use Rattle.pg_grammar.proofs.Properties.{NoProperties, properties_exact, var_or_none, behind_properties}
use Rattle.pg_grammar.proofs.Combinators.{Marked, Fitting, Free, Is, Made, Only, Behind, Sequence, Starts, After, fitting, restated, pure_exact, behind_exact, sequence_exact, row_exact, step, behind, made, maybe_exact, or_none_exact, symbol_exact, eat_symbol_exact, one_exact, here_exact, ending, each_free, name_exact, no_tokens, sequence_fits, sequence_of, behind_fits, behind_of, symbol_begins}
use Rattle.pg_grammar.proofs.FirstTokens.{Shows, shown, shows_symbol}
use Rattle.pg_grammar.proofs.Terminals.{with_rest_is}

-- ---- types

abbrev made_type : Bool → Name → Bool × Name
made_type colon n = (colon, n)

abbrev from_name : Bool × Name → List Mark
from_name p = name p.1 ∷ []

abbrev from_colon : Bool × Name → List Mark
from_colon p = flag p.0 (sign s.Colon) ++ from_name p

abbrev type_mark : Bool × Name → List Mark
type_mark p = sign s.Bar ∷ from_colon p

other_type_exact : (limit : ℕ) → Exactly limit other_type (Fitting (λ p. Free p.0 × (Free p.1 × Free p)) type_mark) Anything
other_type_exact limit =
    behind (symbol_exact s.Bar) (step (λ (p : Bool × Name). p.0) Free (eat_symbol_exact s.Colon)
    (λ colon. step (λ (p : Bool × Name). p.1) (λ (p : Bool × Name). (p.0 ≡ colon) × Free p) (name_exact limit)
    (λ n. made (made_type colon n) (λ (p : Bool × Name). (p.1 ≡ n) × ((p.0 ≡ colon) × Free p)) (refl, (refl, tt)) (λ p h. rw (← h.0, ← h.1.0) refl))
    (λ p y more well fits ends. tt))
    (λ p y more well fits ends. names p y more fits))
  where
    names : (p : Bool × Name) (y more : List Token) → Fit y (from_name p) → sees_symbol s.Colon (y ++ more) ≡ false
    names p y more fits = shown (is_symbol s.Colon) (from_name p) y more (no_symbol p.1.quoted p.1.text) fits
      where
        no_symbol : (q : Bool) (w : List ℕ) (l : Lexeme) → IsSpelled (grammar.any_name q w) l → is_symbol s.Colon l ≡ false
        no_symbol true w l h = rw h refl
        no_symbol false w l (inl h) = rw h refl
        no_symbol false w l (inr h) = rw h.1 refl

abbrev Other : Bool × Name → Type 0
Other p = Free p.0 × (Free p.1 × Free p)

all_others : (ps : List (Bool × Name)) → AllByRecursion Other ps
all_others [] = tt
all_others (p ∷ ps) = ((tt, (tt, tt)), all_others ps)

more_types : (ps : List (Bool × Name)) → more_types_marks ps ≡ concatenated (map type_mark ps)
more_types [] = refl
more_types (p ∷ ps) = rw (more_types ps, append_assoc) refl

abbrev HasColon : List (Bool × Name) → Type 0
HasColon [] = ⊥
HasColon (p ∷ ps) = p.0 ≡ true

abbrev NoBar : List Token → Type 0
NoBar more = sees_symbol s.Bar more ≡ false

abbrev Typed : List (Bool × Name) → List Token → Type 0
Typed = Behind (sign s.Colon) (Sequence (Is name) (λ n. Made (λ ps. (made_type true n ∷ []) ++ ps) (Fitting (AllByRecursion Other) (λ ps. concatenated (map type_mark ps)))))

types_exact : (limit : ℕ) → Exactly limit types (Fitting HasColon types_marks) NoBar
unfolding types
types_exact limit =
    restated
    (behind_exact (symbol_exact s.Colon) (sequence_exact (name_exact limit)
    (λ n. row_exact (sees_symbol s.Bar) (made_type true n ∷ []) refl (other_type_exact limit) (λ p front more h. symbol_begins s.Bar (from_colon p) front more h.fits) (λ more h. (h, tt)) (λ more h. tt)) (λ n ps y more h ends. tt)))
    out into (λ more h. h)
  where
    out : (ps : List (Bool × Name)) (front : List Token) → Typed ps front → Fitting HasColon types_marks ps front
    out ps front h =
        let q = h.inner in let v = q.second in
        subst (λ (l : List (Bool × Name)). Fitting HasColon types_marks l front) (sym v.is)
        (fitting refl (behind_fits h (name q.value ∷ more_types_marks v.value) (sequence_fits q (name q.value ∷ []) (more_types_marks v.value) q.first.fits (rw (more_types v.value) v.inner.fits))))

    into : (ps : List (Bool × Name)) (front : List Token) → Fitting HasColon types_marks ps front → Typed ps front
    into [] front h = absurd h.well
    into ((true, n) ∷ ps) front h =
        behind_of h.fits (λ g p. sequence_of n (name n ∷ []) (more_types_marks ps) p (λ f p. fitting tt p) (λ g p. record { value = ps; is = refl; inner = fitting (all_others ps) (rw (← more_types ps) p) }))
    into ((false, n) ∷ ps) front h = absurd (let bad = h.well in cc)

abbrev NoTypes : List Token → Type 0
NoTypes = After (sees_symbol s.Colon) NoBar

types_or_none : (limit : ℕ) → Exactly limit (branch (sees_symbol s.Colon) types (pure [])) (Fitting AreTypes types_marks) NoTypes
types_or_none limit = or_none_exact (sees_symbol s.Colon) refl tt weaker (λ p ps h. h) (types_exact limit) seen
  where
    weaker : (ps : List (Bool × Name)) → HasColon ps → AreTypes ps
    weaker [] h = absurd h
    weaker (p ∷ ps) h = h

    seen : (ps : List (Bool × Name)) (front more : List Token) → Fitting HasColon types_marks ps front → sees_symbol s.Colon (front ++ more) ≡ true
    seen [] front more h = absurd h.well
    seen ((true, n) ∷ ps) front more h = symbol_begins s.Colon _ front more h.fits
    seen ((false, n) ∷ ps) front more h = absurd (let bad = h.well in cc)

-- ---- a range

integer_takes : (ts more : List Token) (n : ℕ) → parse.integer ts ≡ Some (n, more) → (t : Token) × (ts ≡ t ∷ more) × Accepts (mark (integer_what n)) t
unfolding parse.integer
integer_takes [] more n e = absurd cc
integer_takes (t ∷ ts) more n e =
    let h = with_rest_is (integer_of t.lexeme) ts n more e in
    (t, rw h.1 refl, record { spelled = spelled t.lexeme h.0; starts = tt; finishes = tt })
  where
    spelled : (l : Lexeme) → integer_of l ≡ Some n → IsSpelled (integer_what n) l
    spelled (lexeme.integer m) e = let same : m ≡ n = cc in rw same refl
    spelled _ e = absurd cc

integer_again : (t : Token) (more : List Token) (n : ℕ) → Accepts (mark (integer_what n)) t → parse.integer (t ∷ more) ≡ Some (n, more)
unfolding parse.integer
integer_again t more n h = rw h.spelled refl

integer_or_none : (limit : ℕ) → Exactly limit (maybe begins_integer parse.integer) (Fitting (EachOf Free) (optional_marks integer_marks)) (After begins_integer Anything)
integer_or_none limit = maybe_exact begins_integer (one_exact (λ n. mark (integer_what n)) integer_takes integer_again) (λ n front more h. shown _ (integer_marks n) front more (λ l h. rw h refl) h.fits)

abbrev is_integer : Lexeme → Bool
is_integer l = is_some (integer_of l)

abbrev made_range : Option ℕ → Bool → Option ℕ → Range
made_range low has_dots high = record { lower = low; dots = has_dots; upper = high }

abbrev from_upper : Range → List Mark
from_upper r = optional_marks integer_marks r.upper ++ []

abbrev from_dots : Range → List Mark
from_dots r = flag r.dots (sign s.TwoDots) ++ from_upper r

abbrev from_star : Range → List Mark
from_star r = sign s.Star ∷ (optional_marks integer_marks r.lower ++ from_dots r)

abbrev RangeEnds : List Token → Type 0
RangeEnds more = (begins_integer more ≡ false) × (sees_symbol s.TwoDots more ≡ false)

upper_exact : (limit : ℕ) (d : Bool) → Exactly limit (elim d [ true ↦ maybe begins_integer parse.integer | false ↦ pure None ]) (Fitting (EachOf (λ n. d ≡ true)) (optional_marks integer_marks)) RangeEnds
upper_exact limit true = restated (integer_or_none limit) out into (λ more h. (h.0, tt))
  where
    well : (o : Option ℕ) → EachOf (λ n. true ≡ true) o
    well None = tt
    well (Some n) = refl

    out : (o : Option ℕ) (front : List Token) → Fitting (EachOf Free) (optional_marks integer_marks) o front → Fitting (EachOf (λ n. true ≡ true)) (optional_marks integer_marks) o front
    out o front h = fitting (well o) h.fits

    into : (o : Option ℕ) (front : List Token) → Fitting (EachOf (λ n. true ≡ true)) (optional_marks integer_marks) o front → Fitting (EachOf Free) (optional_marks integer_marks) o front
    into o front h = fitting (each_free o) h.fits
upper_exact limit false = restated (pure_exact None) out into (λ more h. tt)
  where
    out : (o : Option ℕ) (front : List Token) → Only None o front → Fitting (EachOf (λ n. false ≡ true)) (optional_marks integer_marks) o front
    out o front h = rw (h.0, h.1) (fitting tt tt)

    into : (o : Option ℕ) (front : List Token) → Fitting (EachOf (λ n. false ≡ true)) (optional_marks integer_marks) o front → Only None o front
    into None front h = (refl, no_tokens front h.fits)
    into (Some n) front h = absurd (let bad = h.well in cc)

abbrev Bounds : Range → Type 0
Bounds r = IsRange r × Free r

pub range_exact : (limit : ℕ) → Exactly limit range (Fitting IsRange range_marks) RangeEnds
unfolding range
range_exact limit = restated (behind (symbol_exact s.Star) lower) out into (λ more h. h)
  where
    high : (low : Option ℕ) (d : Bool)
        → Exactly limit (elim d [ true ↦ maybe begins_integer parse.integer | false ↦ pure None ] >>= λ h. pure (made_range low d h)) (Marked (λ r. (r.dots ≡ d) × ((r.lower ≡ low) × Free r)) Bounds from_upper) RangeEnds
    high low d =
        restated
        (step (λ (r : Range). r.upper) (λ (r : Range). (r.dots ≡ d) × ((r.lower ≡ low) × Free r)) (upper_exact limit d)
        (λ h. made (made_range low d h) (λ (r : Range). (r.upper ≡ h) × ((r.dots ≡ d) × ((r.lower ≡ low) × Free r))) (refl, (refl, (refl, tt))) (λ r e. rw (← e.0, ← e.1.0, ← e.1.1.0) refl))
        (λ r y more well fits ends. ending RangeEnds y more fits ends))
        (λ r front h. record { known = h.known; well = (rw h.known.0 h.well.0, tt); fits = h.fits })
        (λ r front h. record { known = h.known; well = (rw (← h.known.0) h.well.0, tt); fits = h.fits })
        (λ more h. h)

    no_dots : (r : Range) (y more : List Token) → Fit y (from_upper r) → RangeEnds more → sees_symbol s.TwoDots (y ++ more) ≡ false
    no_dots r y more fits ends = by r.upper y fits
      where
        by : (o : Option ℕ) (l : List Token) → Fit l (optional_marks integer_marks o ++ []) → sees_symbol s.TwoDots (l ++ more) ≡ false
        by None l fits = ending (λ m. sees_symbol s.TwoDots m ≡ false) l more fits ends.1
        by (Some n) l fits = shown (is_symbol s.TwoDots) (integer_marks n) l more (λ x h. rw h refl) fits

    no_integer : (r : Range) (y more : List Token) → IsRange r → Fit y (from_dots r) → RangeEnds more → begins_integer (y ++ more) ≡ false
    no_integer r y more well fits ends = by r.dots r.upper y well fits
      where
        by : (d : Bool) (o : Option ℕ) (l : List Token) → EachOf (λ n. d ≡ true) o → Fit l (flag d (sign s.TwoDots) ++ (optional_marks integer_marks o ++ [])) → begins_integer (l ++ more) ≡ false
        by true o l well fits = shown is_integer (sign s.TwoDots ∷ (optional_marks integer_marks o ++ [])) l more (shows_symbol is_integer s.TwoDots (optional_marks integer_marks o ++ []) refl) fits
        by false None l well fits = ending (λ m. begins_integer m ≡ false) l more fits ends.0
        by false (Some n) l well fits = absurd (let bad = well in cc)

    lower : Exactly limit (maybe begins_integer parse.integer >>= λ low. eat_symbol s.TwoDots >>= λ d. elim d [ true ↦ maybe begins_integer parse.integer | false ↦ pure None ] >>= λ h. pure (made_range low d h))
        (Fitting (λ r. EachOf Free r.lower × (Free r.dots × Bounds r)) (λ r. optional_marks integer_marks r.lower ++ from_dots r)) RangeEnds
    lower =
        step (λ (r : Range). r.lower) Free (integer_or_none limit)
        (λ low. step (λ (r : Range). r.dots) (λ (r : Range). (r.lower ≡ low) × Free r) (eat_symbol_exact s.TwoDots)
        (λ d. high low d)
        (λ r y more well fits ends. no_dots r y more fits ends))
        (λ r y more well fits ends. (no_integer r y more well.1.0 fits ends, tt))

    same : (r : Range) → range_marks r ≡ from_star r
    same r = simp (append_assoc, append-nil)

    out : (r : Range) (front : List Token) → Fitting (λ r. EachOf Free r.lower × (Free r.dots × Bounds r)) from_star r front → Fitting IsRange range_marks r front
    out r front h = fitting h.well.1.1.0 (rw (same r) h.fits)

    into : (r : Range) (front : List Token) → Fitting IsRange range_marks r front → Fitting (λ r. EachOf Free r.lower × (Free r.dots × Bounds r)) from_star r front
    into r front h = fitting (each_free r.lower, (tt, (h.well, tt))) (rw (← same r) h.fits)

-- ---- what stands in the brackets

abbrev made_detail : Option Name → List (Bool × Name) → Option Range → Properties → Detail
made_detail n ts r ps = record { variable = n; types = ts; range = r; properties = ps }

abbrev closing : List Mark
closing = sign s.CloseBracket ∷ []

abbrev from_properties : Detail → List Mark
from_properties d = properties_marks d.properties ++ closing

abbrev from_range : Detail → List Mark
from_range d = optional_marks range_marks d.range ++ from_properties d

abbrev from_types : Detail → List Mark
from_types d = types_marks d.types ++ from_range d

abbrev from_bracket : Detail → List Mark
from_bracket d = sign s.OpenBracket ∷ (optional_marks var_marks d.variable ++ from_types d)

abbrev Inner : Detail → Type 0
Inner d = EachOf Free d.variable × (AreTypes d.types × (EachOf IsRange d.range × (AreProperties d.properties × Free d)))

behind_range : (p : Lexeme → Bool) (o : Option Range) (ms : List Mark) → p (lexeme.symbol s.Star) ≡ false → Shows p false ms → Shows p false (optional_marks range_marks o ++ ms)
behind_range p None ms star avoids = avoids
behind_range p (Some r) ms star avoids = λ l h. rw h star

behind_types : (p : Lexeme → Bool) (ts : List (Bool × Name)) (ms : List Mark) → AreTypes ts → p (lexeme.symbol s.Colon) ≡ false → Shows p false ms → Shows p false (types_marks ts ++ ms)
behind_types p [] ms well colon avoids = avoids
behind_types p ((true, n) ∷ ts) ms well colon avoids = λ l h. rw h colon
behind_types p ((false, n) ∷ ts) ms well colon avoids = absurd (let bad = well in cc)

past_properties : (p : Lexeme → Bool) (d : Detail) → p (lexeme.symbol s.OpenBrace) ≡ false → ((q : Bool) (w : List ℕ) → p (lexeme.parameter q w) ≡ false) → p (lexeme.symbol s.CloseBracket) ≡ false → Shows p false (from_properties d)
past_properties p d brace parameter bracket = behind_properties p d.properties closing brace parameter (shows_symbol p s.CloseBracket [] bracket)

no_properties : (y more : List Token) → Fit y closing → NoProperties (y ++ more)
unfolding parse.same_symbol
no_properties y more fits = (shown (is_symbol s.OpenBrace) closing y more (shows_symbol _ s.CloseBracket [] refl) fits, shown _ closing y more (shows_symbol _ s.CloseBracket [] refl) fits)

no_range : (d : Detail) (y more : List Token) → Fit y (from_properties d) → (sees_symbol s.Star (y ++ more) ≡ false) × RangeEnds (y ++ more)
unfolding parse.same_symbol
no_range d y more fits = (
  shown (is_symbol s.Star) (from_properties d) y more (past_properties _ d refl (λ q w. refl) refl) fits,
  (shown _ (from_properties d) y more (past_properties _ d refl (λ q w. refl) refl) fits, shown (is_symbol s.TwoDots) (from_properties d) y more (past_properties _ d refl (λ q w. refl) refl) fits),
)

no_types : (d : Detail) (y more : List Token) → Fit y (from_range d) → NoTypes (y ++ more)
unfolding parse.same_symbol
no_types d y more fits = (
  shown (is_symbol s.Colon) (from_range d) y more (behind_range _ d.range _ refl (past_properties _ d refl (λ q w. refl) refl)) fits,
  shown (is_symbol s.Bar) (from_range d) y more (behind_range _ d.range _ refl (past_properties _ d refl (λ q w. refl) refl)) fits,
)

no_var : (d : Detail) (y more : List Token) → AreTypes d.types → Fit y (from_types d) → begins_var (y ++ more) ≡ false
no_var d y more well fits = shown _ (from_types d) y more (behind_types _ d.types _ well refl (behind_range _ d.range _ refl (past_properties _ d refl (λ q w. refl) refl))) fits

range_or_none : (limit : ℕ) → Exactly limit (maybe (sees_symbol s.Star) range) (Fitting (EachOf IsRange) (optional_marks range_marks)) (After (sees_symbol s.Star) RangeEnds)
range_or_none limit = maybe_exact (sees_symbol s.Star) (range_exact limit) (λ r front more h. symbol_begins s.Star _ front more h.fits)

same_detail : (d : Detail) → detail_marks d ≡ from_bracket d
same_detail d = simp append_assoc

detail_exact : (limit : ℕ) (whole : Parser Expression) → Exact limit 1 whole → Exactly limit (detail whole) (Fitting IsDetail detail_marks) Anything
unfolding detail
detail_exact limit whole exact =
    restated
    (behind (symbol_exact s.OpenBracket) (step (λ (d : Detail). d.variable) Free (var_or_none limit)
    (λ n. step (λ (d : Detail). d.types) (λ (d : Detail). (d.variable ≡ n) × Free d) (types_or_none limit)
    (λ ts. step (λ (d : Detail). d.range) (λ (d : Detail). (d.types ≡ ts) × ((d.variable ≡ n) × Free d)) (range_or_none limit)
    (λ r. step (λ (d : Detail). d.properties) (λ (d : Detail). (d.range ≡ r) × ((d.types ≡ ts) × ((d.variable ≡ n) × Free d))) (properties_exact limit whole exact)
    (λ ps. behind (symbol_exact s.CloseBracket) (made (made_detail n ts r ps) (λ (d : Detail). (d.properties ≡ ps) × ((d.range ≡ r) × ((d.types ≡ ts) × ((d.variable ≡ n) × Free d)))) (refl, (refl, (refl, (refl, tt)))) (λ d h. rw (← h.0, ← h.1.0, ← h.1.1.0, ← h.1.1.1.0) refl)))
    (λ d y more well fits ends. no_properties y more fits))
    (λ d y more well fits ends. no_range d y more fits))
    (λ d y more well fits ends. no_types d y more fits))
    (λ d y more well fits ends. (no_var d y more well.0 fits, tt))))
    out into (λ more h. h)
  where
    out : (d : Detail) (front : List Token) → Fitting Inner from_bracket d front → Fitting IsDetail detail_marks d front
    out d front h = let w = h.well in fitting (w.1.0, w.1.1.0, w.1.1.1.0) (rw (same_detail d) h.fits)

    into : (d : Detail) (front : List Token) → Fitting IsDetail detail_marks d front → Fitting Inner from_bracket d front
    into d front h = let w = h.well in fitting (each_free d.variable, (w.0, (w.1, (w.2, tt)))) (rw (← same_detail d) h.fits)

-- ---- a relationship

abbrev made_relationship : ℕ → Bool → Option Detail → Bool → RelationshipPattern
made_relationship at left d right = record { place = at; left_head = left; detail = d; right_head = right }

abbrev from_right : RelationshipPattern → List Mark
from_right r = flag r.right_head (sign s.Greater) ++ []

abbrev from_second : RelationshipPattern → List Mark
from_second r = sign s.Minus ∷ from_right r

abbrev from_first : RelationshipPattern → List Mark
from_first r = sign s.Minus ∷ (optional_marks detail_marks r.detail ++ from_second r)

abbrev from_left : RelationshipPattern → List Mark
from_left r = flag r.left_head (sign s.Less) ++ from_first r

abbrev Arrow : RelationshipPattern → Type 0
Arrow r = Free r.left_head × (EachOf IsDetail r.detail × (Free r.right_head × Free r))

abbrev pub HasDetail : RelationshipPattern → Type 0
HasDetail r = EachOf IsDetail r.detail

abbrev pub NoHead : List Token → Type 0
NoHead more = sees_symbol s.Greater more ≡ false

detail_or_none : (limit : ℕ) (whole : Parser Expression) → Exact limit 1 whole
    → Exactly limit (maybe (sees_symbol s.OpenBracket) (detail whole)) (Fitting (EachOf IsDetail) (optional_marks detail_marks)) (After (sees_symbol s.OpenBracket) Anything)
detail_or_none limit whole exact = maybe_exact (sees_symbol s.OpenBracket) (detail_exact limit whole exact) (λ d front more h. symbol_begins s.OpenBracket _ front more h.fits)

same_relationship : (r : RelationshipPattern) → relationship_marks r ≡ begun r.place (from_left r)
same_relationship r = simp append-nil

pub relationship_exact : (limit : ℕ) (whole : Parser Expression) → Exact limit 1 whole → Exactly limit (relationship whole) (Fitting HasDetail relationship_marks) NoHead
unfolding relationship parse.same_symbol
relationship_exact limit whole exact = restated (here_exact (λ (r : RelationshipPattern). r.place) from (λ r. starts r.left_head _)) out into (λ more h. h)
  where
    starts : (b : Bool) (ms : List Mark) → Starts (flag b (sign s.Less) ++ sign s.Minus ∷ ms)
    starts true ms = tt
    starts false ms = tt

    from : (at : ℕ) → Exactly limit (eat_symbol s.Less >>= λ left. symbol s.Minus >> (maybe (sees_symbol s.OpenBracket) (detail whole) >>= λ d. symbol s.Minus >> (eat_symbol s.Greater >>= λ right. pure (made_relationship at left d right))))
        (Marked (λ r. r.place ≡ at) Arrow from_left) NoHead
    from at =
        step (λ (r : RelationshipPattern). r.left_head) (λ (r : RelationshipPattern). r.place ≡ at) (eat_symbol_exact s.Less)
        (λ left. behind (symbol_exact s.Minus) (step (λ (r : RelationshipPattern). r.detail) (λ (r : RelationshipPattern). (r.left_head ≡ left) × (r.place ≡ at)) (detail_or_none limit whole exact)
        (λ d. behind (symbol_exact s.Minus) (step (λ (r : RelationshipPattern). r.right_head) (λ (r : RelationshipPattern). (r.detail ≡ d) × ((r.left_head ≡ left) × (r.place ≡ at))) (eat_symbol_exact s.Greater)
        (λ right. made (made_relationship at left d right) (λ (r : RelationshipPattern). (r.right_head ≡ right) × ((r.detail ≡ d) × ((r.left_head ≡ left) × (r.place ≡ at)))) (refl, (refl, (refl, refl))) (λ r h. rw (← h.0, ← h.1.0, ← h.1.1.0, ← h.1.1.1) refl))
        (λ r y more well fits ends. ending NoHead y more fits ends)))
        (λ r y more well fits ends. (shown (is_symbol s.OpenBracket) (from_second r) y more (shows_symbol (is_symbol s.OpenBracket) s.Minus (from_right r) refl) fits, tt))))
        (λ r y more well fits ends. shown (is_symbol s.Less) (from_first r) y more (shows_symbol (is_symbol s.Less) s.Minus (optional_marks detail_marks r.detail ++ from_second r) refl) fits)

    out : (r : RelationshipPattern) (front : List Token) → Fitting Arrow (λ a. begun a.place (from_left a)) r front → Fitting HasDetail relationship_marks r front
    out r front h = fitting h.well.1.0 (rw (same_relationship r) h.fits)

    into : (r : RelationshipPattern) (front : List Token) → Fitting HasDetail relationship_marks r front → Fitting Arrow (λ a. begun a.place (from_left a)) r front
    into r front h = fitting (tt, (h.well, (tt, tt))) (rw (← same_relationship r) h.fits)

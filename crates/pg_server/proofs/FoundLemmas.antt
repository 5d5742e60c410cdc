-- Lists that are made item by item, of items that may be none, and what the exit of a `?` gives meanwhile.
use Rattle.std.proofs.Common.{◌≡◌, ◌≢◌, ℕ, ◌+◌, ◌<◌, ◌≤◌, List, [], ◌∷◌, ◌++◌, length, drop, get_or, map, Option, Some, None, option_map, Result, Ok, Err, IfErr, IsErrAnd, append_assoc, refl, sym, ap, subst, ◌∙◌}
use Rattle.std.specs.Prelude.{option_and_then}
use Rattle.std.proofs.lemmas.List.{append-nil, drop_all, drop_more, map-append}
use Rattle.pg_server.specs.declared.config_fault.ConfigFault.{ConfigFault}
use Rattle.pg_server.specs.declared.config_fault.ConfigFault.TheVariants.{Memory}

-- what is left, behind what was found
abbrev pub behind : {A : Type 0} → List A → Option (List A) → Option (List A)
behind found left = option_map (λ more. found ++ more) left

-- a first item, before what is left
abbrev pub before : {A : Type 0} → Option A → Option (List A) → Option (List A)
before first left = option_and_then (λ x. option_map (λ xs. x ∷ xs) left) first

pub none_found_yet : {A : Type 0} (all : Option (List A)) → all ≡ behind [] all
none_found_yet None = refl
none_found_yet (Some xs) = refl

joined : {A : Type 0} (found : List A) (x : A) (left : Option (List A)) → behind found (option_map (λ xs. x ∷ xs) left) ≡ behind (found ++ x ∷ []) left
joined found x None = refl
joined found x (Some xs) = ap Some (sym (append_assoc found (x ∷ []) xs))

pub one_more_found : {A : Type 0} (found now : List A) (x : A) (first : Option A) (left all : Option (List A)) → first ≡ Some x → now ≡ found ++ x ∷ [] → all ≡ behind found (before first left) → all ≡ behind now left
one_more_found found now x first left all is pushed so_far =
    so_far ∙ ap (λ o. behind found (before o left)) is ∙ joined found x left ∙ sym (ap (λ xs. behind xs left) pushed)

pub pushed : {X A : Type 0} (f : X → A) (old new : List X) (x : X) → new ≡ old ++ x ∷ [] → map f new ≡ map f old ++ f x ∷ []
pushed f old new x is = ap (map f) is ∙ map-append f old (x ∷ [])

pub none_of_all : {A : Type 0} (found : List A) (first : Option A) (left all : Option (List A)) → first ≡ None → all ≡ behind found (before first left) → all ≡ None
none_of_all found first left all is so_far = so_far ∙ ap (λ o. behind found (before o left)) is

pub all_found : {A : Type 0} (found : List A) (left all : Option (List A)) → left ≡ Some [] → all ≡ behind found left → all ≡ Some found
all_found found left all none so_far = so_far ∙ ap (behind found) none ∙ ap Some (append-nil found)

-- a list that was lent, at a place and past its end
pub item_here : {X : Type 0} (lent xs : List X) (i : ℕ) (x : X) → lent ≡ xs → i < length lent → x ≡ get_or lent i x → drop i xs ≡ x ∷ drop (i + 1) xs
item_here lent xs i x same below is =
    sym (ap (drop i) same) ∙ drop_more lent i x below ∙ ap (λ y. y ∷ drop (i + 1) lent) (sym is) ∙ ap (λ ys. x ∷ drop (i + 1) ys) same

pub none_left : {X : Type 0} (lent xs : List X) (i : ℕ) → lent ≡ xs → length lent ≤ i → drop i xs ≡ []
none_left lent xs i same past = sym (ap (drop i) same) ∙ drop_all i lent past

pub one_more_seen : {X A : Type 0} (f : X → A) (old new : List X) (x : X) (left all : List A) → new ≡ old ++ x ∷ [] → all ≡ map f old ++ f x ∷ left → all ≡ map f new ++ left
one_more_seen f old new x left all is so_far =
    so_far ∙ sym (append_assoc (map f old) (f x ∷ []) left) ∙ sym (ap (λ ts. ts ++ left) (pushed f old new x is))

pub fault_passed : {X : Type 0} (P : ConfigFault → Type 0) (e : ConfigFault) (result : Result X ConfigFault) → IsErrAnd result (λ f. f ≡ e) → P e → IfErr result P
fault_passed P e (Ok x) h given = absurd h
fault_passed P e (Err f) h given = subst P (sym h) given

pub memory_passed : {X : Type 0} (P : ConfigFault → Type 0) (result : Result X ConfigFault) → IsErrAnd result (λ f. f ≡ Memory) → IfErr result (λ e. e ≢ Memory → P e)
memory_passed P result h = fault_passed (λ e. e ≢ Memory → P e) Memory result h (λ other. absurd (other refl))

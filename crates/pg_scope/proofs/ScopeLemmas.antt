-- Names that are brought into scope.
use Rattle.std.proofs.Common.{◌≡◌, ℕ, Bool, true, false, not, cond, List, [], ◌∷◌, ◌++◌, Option, Some, None, refl, sym, ap, subst, ◌∙◌}
use Rattle.std.specs.Prelude.{◌||◌, bytes_eq}
use Rattle.std.proofs.lemmas.Slice.Eq.{bytes_eq-Decides}
use Rattle.pg_meaning.specs.Names.{Names, is_among, add_name}
use Rattle.pg_meaning.specs.Patterns.{text_of, node_name, relationship_name, add_if_named, add_hop_names, add_path_names}
use Rattle.pg_meaning.specs.StaticFaults.{with_variable, relationship_variable}
use Rattle.pg_meaning.specs.Tree.{Name, Detail, NodePattern, RelationshipPattern, PathPattern}
use Rattle.pg_scope.specs.Names.{HasSame}

pub same_self : (ns : Names) → HasSame ns ns
same_self ns = record { is = λ name. refl }

pub same_in_turn : {ns ms ls : Names} → HasSame ns ms → HasSame ms ls → HasSame ns ls
same_in_turn s t = record { is = λ name. s.is name ∙ t.is name }

pub among_both : (ns ms : Names) (n : List ℕ) → is_among (ns ++ ms) n ≡ (is_among ns n || is_among ms n)
among_both [] ms n = refl
among_both (x ∷ ns) ms n = ap (λ b. bytes_eq n x || b) (among_both ns ms n) ∙ or_assoc (bytes_eq n x) (is_among ns n) (is_among ms n)
  where
    or_assoc : (a b c : Bool) → (a || (b || c)) ≡ ((a || b) || c)
    or_assoc true b c = refl
    or_assoc false b c = refl

-- a name stood in one of two lists, by whether it is new in the first
pub stood_there : (ns ms : Names) (n : List ℕ) {new again : Bool} → new ≡ not (is_among ns n) → new ≡ false → again ≡ true → again ≡ is_among (ns ++ ms) n
stood_there ns ms n added old is = is ∙ ap (λ b. b || is_among ms n) (sym (there (is_among ns n) (sym added ∙ old))) ∙ sym (among_both ns ms n)
  where
    there : (b : Bool) → not b ≡ false → b ≡ true
    there true e = refl
    there false e = sym e

pub stood_or : (ns ms : Names) (n : List ℕ) {new again : Bool} → new ≡ not (is_among ns n) → new ≡ true → again ≡ is_among ms n → again ≡ is_among (ns ++ ms) n
stood_or ns ms n added fresh is = is ∙ ap (λ b. b || is_among ms n) (sym (absent (is_among ns n) (sym added ∙ fresh))) ∙ sym (among_both ns ms n)
  where
    absent : (b : Bool) → not b ≡ true → b ≡ false
    absent true e = sym e
    absent false e = refl

-- a name is there, or it is put at the end
pub among_added : (ns : Names) (x n : List ℕ) → is_among (add_name ns x) n ≡ (bytes_eq n x || is_among ns n)
among_added ns x n = by_case (is_among ns x) refl
  where
    or_comm : (a b : Bool) → (a || (b || false)) ≡ (b || a)
    or_comm true true = refl
    or_comm true false = refl
    or_comm false true = refl
    or_comm false false = refl

    by_equal : (b : Bool) → bytes_eq n x ≡ b → is_among ns x ≡ true → is_among ns n ≡ (b || is_among ns n)
    by_equal true e h = ap (is_among ns) ((bytes_eq-Decides n x).0 e) ∙ h
    by_equal false e h = refl

    by_case : (b : Bool) → is_among ns x ≡ b → is_among (cond b ns (ns ++ x ∷ [])) n ≡ (bytes_eq n x || is_among ns n)
    by_case true e = by_equal (bytes_eq n x) refl e
    by_case false e = among_both ns (x ∷ []) n ∙ or_comm (is_among ns n) (bytes_eq n x)

added_same : (new old ns : Names) (v : Option Name) → HasSame new (with_variable v old) → HasSame old ns → HasSame new (add_if_named (text_of v) ns)
added_same new old ns None s t = same_in_turn s t
added_same new old ns (Some v) s t = record { is = λ n. s.is n ∙ ap (λ b. bytes_eq n v.text || b) (t.is n) ∙ sym (among_added ns v.text n) }

pub variable_added : {new old ns : Names} (v : Option Name) → HasSame new (with_variable v old) → HasSame old ns → HasSame new (add_if_named (text_of v) ns)
variable_added {new} {old} {ns} v = added_same new old ns v

relationship_is : (r : RelationshipPattern) (ns : Names) → add_if_named (text_of (relationship_variable r)) ns ≡ add_if_named (relationship_name r) ns
relationship_is r ns = by_detail r.detail
  where
    by_detail : (d : Option Detail) → add_if_named (text_of (elim d [ None ↦ None | Some x ↦ x.variable ])) ns ≡ add_if_named (elim d [ None ↦ None | Some x ↦ text_of x.variable ]) ns
    by_detail None = refl
    by_detail (Some x) = refl

pub relationship_added : {new old ns : Names} (r : RelationshipPattern) → HasSame new (with_variable (relationship_variable r) old) → HasSame old ns → HasSame new (add_if_named (relationship_name r) ns)
relationship_added {new} {old} {ns} r s t = subst (HasSame new) (relationship_is r ns) (added_same new old ns (relationship_variable r) s t)

-- ---- the same names stay so

name_same : (v : Option (List ℕ)) (ns ms : Names) → HasSame ns ms → HasSame (add_if_named v ns) (add_if_named v ms)
name_same None ns ms s = s
name_same (Some v) ns ms s = record { is = λ n. among_added ns v n ∙ ap (λ b. bytes_eq n v || b) (s.is n) ∙ sym (among_added ms v n) }

hops_same : (hs : List (RelationshipPattern × NodePattern)) (ns ms : Names) → HasSame ns ms → HasSame (add_hop_names hs ns) (add_hop_names hs ms)
hops_same [] ns ms s = s
hops_same (h ∷ hs) ns ms s =
    hops_same hs (add_if_named (node_name h.1) (add_if_named (relationship_name h.0) ns)) (add_if_named (node_name h.1) (add_if_named (relationship_name h.0) ms))
    (name_same (node_name h.1) (add_if_named (relationship_name h.0) ns) (add_if_named (relationship_name h.0) ms) (name_same (relationship_name h.0) ns ms s))

path_names : PathPattern → Names → Names
path_names p ns = add_hop_names p.hops (add_if_named (node_name p.first) (add_if_named (text_of p.variable) ns))

path_same : (p : PathPattern) (ns ms : Names) → HasSame ns ms → HasSame (path_names p ns) (path_names p ms)
unfolding path_names
path_same p ns ms s =
    hops_same p.hops (add_if_named (node_name p.first) (add_if_named (text_of p.variable) ns)) (add_if_named (node_name p.first) (add_if_named (text_of p.variable) ms))
    (name_same (node_name p.first) (add_if_named (text_of p.variable) ns) (add_if_named (text_of p.variable) ms) (name_same (text_of p.variable) ns ms s))

all_paths_same : (ps : List PathPattern) (ns ms : Names) → HasSame ns ms → HasSame (add_path_names ps ns) (add_path_names ps ms)
unfolding path_names
all_paths_same [] ns ms s = s
all_paths_same (p ∷ ps) ns ms s = all_paths_same ps (path_names p ns) (path_names p ms) (path_same p ns ms s)

pub paths_same : (ps : List PathPattern) {ns ms : Names} → HasSame ns ms → HasSame (add_path_names ps ns) (add_path_names ps ms)
paths_same ps {ns} {ms} s = all_paths_same ps ns ms s

pub path_added : (p : PathPattern) (start : Names) {named begun new : Names} → HasSame named (with_variable p.variable start) → HasSame begun (with_variable p.first.variable named)
    → HasSame new (add_hop_names p.hops begun) → HasSame new (add_path_names (p ∷ []) start)
path_added p start {named} {begun} {new} v f h =
    same_in_turn h (hops_same p.hops begun (add_if_named (node_name p.first) (add_if_named (text_of p.variable) start)) (added_same begun named (add_if_named (text_of p.variable) start) p.first.variable f (added_same named start start p.variable v (same_self start))))

-- ---- columns

or_turned : (a b c : Bool) → ((a || b) || c) ≡ (b || (a || c))
or_turned true true c = refl
or_turned true false c = refl
or_turned false true c = refl
or_turned false false c = refl

-- a name more on the left
pub more_left : (rest : Names) {new old done : Names} {key text : List ℕ} → HasSame new (key ∷ old) → key ≡ text → HasSame (old ++ rest) done → HasSame (new ++ rest) (text ∷ done)
more_left rest {new} {old} {done} {key} {text} more is same = record {
  is = λ n. among_both new rest n ∙ ap (λ b. b || is_among rest n) (more.is n) ∙ ap (λ k. (bytes_eq n k || is_among old n) || is_among rest n) is
      ∙ or_left (bytes_eq n text) (is_among old n) (is_among rest n) ∙ ap (λ b. bytes_eq n text || b) (sym (among_both old rest n) ∙ same.is n);
}
  where
    or_left : (a b c : Bool) → ((a || b) || c) ≡ (a || (b || c))
    or_left true b c = refl
    or_left false b c = refl

-- a name goes from the right to the left
pub moves_left : (rest : Names) {new old all : Names} {key text : List ℕ} → HasSame new (key ∷ old) → key ≡ text → HasSame (old ++ (text ∷ rest)) all → HasSame (new ++ rest) all
moves_left rest {new} {old} {all} {key} {text} more is same = record {
  is = λ n. among_both new rest n ∙ ap (λ b. b || is_among rest n) (more.is n) ∙ ap (λ k. (bytes_eq n k || is_among old n) || is_among rest n) is
      ∙ or_turned (bytes_eq n text) (is_among old n) (is_among rest n) ∙ sym (among_both old (text ∷ rest) n) ∙ same.is n;
}

-- a name goes from the left to the right
pub moves_right : (rest : Names) {new old all : Names} {key text : List ℕ} → HasSame new (key ∷ old) → key ≡ text → HasSame ((text ∷ rest) ++ old) all → HasSame (rest ++ new) all
moves_right rest {new} {old} {all} {key} {text} more is same = record {
  is = λ n. among_both rest new n ∙ ap (λ b. is_among rest n || b) (more.is n) ∙ ap (λ k. is_among rest n || (bytes_eq n k || is_among old n)) is
      ∙ or_right (is_among rest n) (bytes_eq n text) (is_among old n) ∙ sym (ap (λ b. bytes_eq n text || b) (among_both rest old n)) ∙ same.is n;
}
  where
    or_right : (a b c : Bool) → (a || (b || c)) ≡ (b || (a || c))
    or_right true true c = refl
    or_right true false c = refl
    or_right false true c = refl
    or_right false false c = refl

pub nothing_right : {ns ms all : Names} → ms ≡ [] → HasSame (ns ++ ms) all → HasSame ns all
nothing_right {ns} {ms} {all} none s = record { is = λ n. sym (or_false (is_among ns n)) ∙ ap (λ xs. is_among ns n || is_among xs n) (sym none) ∙ sym (among_both ns ms n) ∙ s.is n }
  where
    or_false : (a : Bool) → (a || false) ≡ a
    or_false true = refl
    or_false false = refl

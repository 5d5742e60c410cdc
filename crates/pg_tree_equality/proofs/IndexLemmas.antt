-- Items under the bytes of their expressions.
use Rattle.std.proofs.Common.{◌≡◌, ℕ, ◌+◌, ◌<◌, ◌≤◌, length, get_or, drop, subst, Bool, true, false, List, [], ◌∷◌, ◌++◌, map, cond, filter, refl, sym, ap, ◌∙◌, append_assoc}
use Rattle.std.proofs.lemmas.List.{append-nil, drop_all, drop_more}
use Rattle.std.proofs.lemmas.Map.Views.{any-filter_same}
use Rattle.std.proofs.lemmas.Slice.Eq.{bytes_eq-Decides}
use Rattle.std.proofs.lemmas.Map.Text.{is_eq-slice_cmp}
use Rattle.std.specs.Borrow.{Bor}
use Rattle.std.specs.BTreeMap.{get_by, is_at, UpdatesBy, Updates}
use Rattle.std.specs.Cmp.Lexicographic.{slice_cmp}
use Rattle.std.specs.List.{list_any}
use Rattle.std.specs.Map.{lookup}
use Rattle.std.specs.Ordering.{nat_cmp}
use Rattle.std.specs.Prelude.{bytes_eq, ◌||◌, Vec, Some, None}
use Rattle.std.specs.declared.alloc.Global.{Global}
use Rattle.std.specs.declared.cmp.Ordering.{Ordering}
use Rattle.pg_syntax_tree.specs.View.{expression_view, item_view}
use Rattle.pg_syntax_tree.specs.declared.clauses.Item.{Item as ProgramItem}
use Rattle.pg_syntax_tree.specs.declared.expression.Expression.{Expression as ProgramExpression}
use Rattle.pg_tree_equality.proofs.CodeLemmas.{alike}
use Rattle.pg_tree_equality.specs.Index.{Index, IsIndex, group, listed, code_of}
use Rattle.pg_meaning.specs.Tree.{Item, Expression}
use Rattle.pg_meaning.specs.Trees.{same_expression}

-- keys in the order of their bytes
abbrev pub by_bytes : Vec ℕ Global → Vec ℕ Global → Ordering
by_bytes a b = slice_cmp nat_cmp a.items b.items

abbrev value_of : Item → Expression
value_of i = i.value

-- the expressions that have the bytes
abbrev of_code : List ℕ → List Item → List Expression
of_code code items = filter (λ x. bytes_eq (code_of x) code) (map value_of items)

-- What stands there, and behind it what is left, is all.
pub record Holds (index : Index) (left items : List Item) : Type 0 where
  pub is : (code : Vec ℕ Global) → group index code.items ++ of_code code.items left ≡ of_code code.items items

pub begins : (index : Index) (items : List Item) → index.entries ≡ [] → Holds index items items
begins index items none = record { is = λ code. ap (λ es. listed (lookup (is_at (λ k. slice_cmp nat_cmp code.items k.items)) es) ++ of_code code.items items) none }

moved : (b : Bool) (x : Expression) (xs ys : List Expression) → cond b (xs ++ x ∷ []) xs ++ ys ≡ xs ++ cond b (x ∷ ys) ys
moved true x xs ys = append_assoc xs (x ∷ []) ys
moved false x xs ys = refl

pub one_more : (old new : Index) (item : Item) (left items : List Item) (x : Expression) → x ≡ item.value
    → ((code : Vec ℕ Global) → group new code.items ≡ cond (bytes_eq (code_of x) code.items) (group old code.items ++ x ∷ []) (group old code.items)) → Holds old (item ∷ left) items → Holds new left items
one_more old new item left items x e added holds = record { is = λ code. by code code.items (added code) (holds.is code) }
  where
    by : (code : Vec ℕ Global) (bytes : List ℕ) → group new bytes ≡ cond (bytes_eq (code_of x) bytes) (group old bytes ++ x ∷ []) (group old bytes) → group old bytes ++ of_code bytes (item ∷ left) ≡ of_code bytes items
        → group new bytes ++ of_code bytes left ≡ of_code bytes items
    by code bytes added held =
        ap (λ xs. xs ++ of_code bytes left) added ∙ moved (bytes_eq (code_of x) bytes) x (group old bytes) (of_code bytes left)
        ∙ ap (λ y. group old bytes ++ cond (bytes_eq (code_of y) bytes) (y ∷ of_code bytes left) (of_code bytes left)) e ∙ held

pub all_there : (index : Index) (items : List Item) → Holds index [] items → IsIndex index items
all_there index items holds = record { is = λ code. sym (append-nil (group index code.items)) ∙ holds.is code }

abbrev pub viewed : List (Bor ProgramExpression) → List Expression
viewed xs = map (λ b. expression_view b.now) xs

more_viewed : (xs : List (Bor ProgramExpression)) (x : Bor ProgramExpression) → viewed (xs ++ x ∷ []) ≡ viewed xs ++ expression_view x.now ∷ []
more_viewed [] x = refl
more_viewed (y ∷ ys) x = ap (λ zs. expression_view y.now ∷ zs) (more_viewed ys x)

-- an expression put behind those that have its bytes
pub put : (old mid new : Index) (code : Vec ℕ Global) (found more : Vec (Bor ProgramExpression) Global) (x : Bor ProgramExpression)
    → UpdatesBy by_bytes (by_bytes code) old mid None → Updates by_bytes mid new code (Some more) → group old code.items ≡ viewed found.items → more.items ≡ found.items ++ x ∷ []
    → (k : Vec ℕ Global) → group new k.items ≡ cond (bytes_eq code.items k.items) (group old k.items ++ expression_view x.now ∷ []) (group old k.items)
put old mid new code found more x taken given was longer k = ap listed (given.0 k ∙ ap (cond (is_at (by_bytes code) k) (Some more)) (taken.0 k)) ∙ at (is_at (by_bytes code) k) (bytes_eq code.items k.items) (is_eq-slice_cmp code.items k.items) refl
  where
    at : (b d : Bool) → b ≡ d → bytes_eq code.items k.items ≡ d → listed (cond b (Some more) (cond b None (get_by (by_bytes k) old))) ≡ cond d (group old k.items ++ expression_view x.now ∷ []) (group old k.items)
    at true true e same =
        ap viewed longer ∙ more_viewed found.items x ∙ ap (λ xs. xs ++ expression_view x.now ∷ []) (sym was ∙ ap (group old) ((bytes_eq-Decides code.items k.items).0 same))
    at false false e same = refl
    at true false e same = absurd cc
    at false true e same = absurd cc

-- one item more, as the loop over the items comes past it
pub one_item : (old new : Index) (code : Vec ℕ Global) {xs items : List ProgramItem} {i : ℕ} {item : ProgramItem} → i < length xs → item ≡ get_or xs i item → xs ≡ items → code.items ≡ code_of (expression_view item.value)
    → ((k : Vec ℕ Global) → group new k.items ≡ cond (bytes_eq code.items k.items) (group old k.items ++ expression_view item.value ∷ []) (group old k.items))
    → Holds old (map item_view (drop i items)) (map item_view items) → Holds new (map item_view (drop (i + 1) items)) (map item_view items)
one_item old new code {xs} {items} {i} {item} within is same coded added holds =
    let here : drop i items ≡ item ∷ drop (i + 1) items = subst (λ (ys : List ProgramItem). drop i ys ≡ item ∷ drop (i + 1) ys) same (drop_more xs i item within ∙ ap (λ (y : ProgramItem). y ∷ drop (i + 1) xs) (sym is)) in
    one_more old new (item_view item) (map item_view (drop (i + 1) items)) (map item_view items) (expression_view item.value) refl
    (λ k. added k ∙ ap (λ (bytes : List ℕ). cond (bytes_eq bytes k.items) (group old k.items ++ expression_view item.value ∷ []) (group old k.items)) coded)
    (subst (λ (ys : List ProgramItem). Holds old (map item_view ys) (map item_view items)) here holds)

-- all items
pub all_items : (index : Index) {xs items : List ProgramItem} {i : ℕ} → length xs ≤ i → xs ≡ items → Holds index (map item_view (drop i items)) (map item_view items) → IsIndex index (map item_view items)
all_items index {xs} {items} {i} past same holds =
    all_there index (map item_view items) (subst (λ (ys : List ProgramItem). Holds index (map item_view ys) (map item_view items)) (subst (λ (ys : List ProgramItem). drop i ys ≡ []) same (drop_all i xs past)) holds)

-- an expression is found where its bytes are
pub found_there : (index : Index) (items : List Item) (key : Expression) (code : Vec ℕ Global) → code.items ≡ code_of key → IsIndex index items
    → list_any (λ x. same_expression x key) (group index code.items) ≡ list_any (λ (i : Item). same_expression i.value key) items
found_there index items key code e h =
    ap (list_any (λ x. same_expression x key)) (h.is code)
    ∙ ap (λ bytes. list_any (λ x. same_expression x key) (of_code bytes items)) e
    ∙ any-filter_same (λ x. same_expression x key) (λ x. bytes_eq (code_of x) (code_of key)) true (λ x e. (bytes_eq-Decides (code_of x) (code_of key)).1 (alike x key e [])) (map value_of items)
    ∙ mapped items
  where
    mapped : (is : List Item) → list_any (λ x. same_expression x key) (map value_of is) ≡ list_any (λ (i : Item). same_expression i.value key) is
    mapped [] = refl
    mapped (i ∷ is) = ap (λ b. same_expression i.value key || b) (mapped is)

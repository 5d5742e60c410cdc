-- One tree has the same bytes, however it is written.
use denote.Enum.Bare.{same_true}
use Rattle.std.proofs.Common.{◌≡◌, ℕ, pos, Bool, true, false, List, [], ◌∷◌, refl, ap, ◌∙◌}
use Rattle.std.proofs.lemmas.Bool.{eqb-true, false≢true}
use Rattle.std.proofs.lemmas.Slice.Eq.{bytes_eq-Decides}
use Rattle.std.specs.Prelude.{◌&&◌, ◌==◌, bytes_eq}
use Rattle.std.specs.Bool.{beq}
use Rattle.std.specs.Str.{str_eq_ignore_ascii_case, str_to_ascii_lowercase}
use Rattle.pg_tree_equality.specs.Codes.{with_byte, with_text, with_number, with_flag, with_flags, with_names, with_literal, byte_of_operator, byte_of_test, with_expression, with_expressions, with_pairs, with_perhaps, with_whens, with_operands, with_tests, with_suffixes}
use Rattle.pg_meaning.specs.contracts.operators.Operator.{the_type as operator_type}
use Rattle.pg_meaning.specs.contracts.operators.TextTest.{the_type as test_type}
use Rattle.pg_meaning.specs.declared.operators.Operator.{Operator}
use Rattle.pg_meaning.specs.declared.operators.TextTest.{TextTest}
use Rattle.pg_meaning.specs.Trees.{same_name, same_names, same_flags, same_literal, same_operator, same_test, same_expression, same_expressions, same_pairs, same_perhaps, same_whens, same_operands, same_tests, same_suffixes}
use Rattle.pg_meaning.specs.Tree.{Name, Expression, Expressions, Pairs, Perhaps, Whens, Operands, Tests, Suffixes}
use Rattle.pg_meaning.specs.Tree as tree
use Rattle.pg_meaning.specs.Value.{Value}
use Rattle.pg_meaning.specs.Value as value

both : (a b : Bool) → (a && b) ≡ true → (a ≡ true) × (b ≡ true)
both true true e = (refl, refl)
both true false e = absurd (false≢true e)
both false b e = absurd (false≢true e)

same_bytes : (a b : List ℕ) → bytes_eq a b ≡ true → a ≡ b
same_bytes a b e = (bytes_eq-Decides a b).0 e

same_flag : (a b : Bool) → beq a b ≡ true → a ≡ b
same_flag true true e = refl
same_flag false false e = refl
same_flag true false e = absurd (false≢true e)
same_flag false true e = absurd (false≢true e)

flags_alike : (bs cs : List Bool) → same_flags bs cs ≡ true → (code : List ℕ) → with_flags bs code ≡ with_flags cs code
flags_alike [] [] e code = refl
flags_alike [] (c ∷ cs) e code = absurd (false≢true e)
flags_alike (b ∷ bs) [] e code = absurd (false≢true e)
flags_alike (b ∷ bs) (c ∷ cs) e code =
    let h = both (beq b c) (same_flags bs cs) e in
    ap (λ b. with_flags bs (with_flag b code)) (same_flag b c h.0) ∙ flags_alike bs cs h.1 (with_flag c code)

names_alike : (ns ms : List Name) → same_names ns ms ≡ true → (code : List ℕ) → with_names ns code ≡ with_names ms code
names_alike [] [] e code = refl
names_alike [] (m ∷ ms) e code = absurd (false≢true e)
names_alike (n ∷ ns) [] e code = absurd (false≢true e)
names_alike (n ∷ ns) (m ∷ ms) e code =
    let h = both (same_name n m) (same_names ns ms) e in
    ap (λ t. with_names ns (with_text t (with_byte 1 code))) (same_bytes n.text m.text h.0) ∙ names_alike ns ms h.1 (with_text m.text (with_byte 1 code))

literal_alike : (v w : Value) → same_literal v w ≡ true → (code : List ℕ) → with_literal v code ≡ with_literal w code
literal_alike value.null value.null e code = refl
literal_alike (value.boolean b) (value.boolean c) e code = ap (λ b. with_literal (value.boolean b) code) (same_flag b c e)
literal_alike (value.integer (pos n)) (value.integer (pos m)) e code = ap (λ n. with_literal (value.integer (pos n)) code) (eqb-true n m e)
literal_alike (value.text t) (value.text u) e code = ap (λ t. with_literal (value.text t) code) (same_bytes t u e)
literal_alike v w e code = absurd (false≢true e)

operator_alike : (o p : Operator) → same_operator o p ≡ true → o ≡ p
operator_alike o p e = same_true operator_type tt o p e

test_alike : (t u : TextTest) → same_test t u ≡ true → t ≡ u
test_alike t u e = same_true test_type tt t u e

mutual
  pub alike : (x y : Expression) → same_expression x y ≡ true → (code : List ℕ) → with_expression x code ≡ with_expression y code
  alike (tree.literal v) (tree.literal w) e code = literal_alike v w e (with_byte 1 code)
  alike (tree.parameter n) (tree.parameter m) e code = ap (λ t. with_text t (with_byte 2 code)) (same_bytes n.text m.text e)
  alike (tree.variable n) (tree.variable m) e code = ap (λ t. with_text t (with_byte 3 code)) (same_bytes n.text m.text e)
  alike (tree.list_literal xs) (tree.list_literal ys) e code = all_alike xs ys e (with_byte 4 code)
  alike (tree.map_literal ps) (tree.map_literal qs) e code = pairs_alike ps qs e (with_byte 5 code)
  alike (tree.parentheses x) (tree.parentheses y) e code = alike x y e (with_byte 6 code)
  alike (tree.call n star distinct xs) (tree.call m star' distinct' ys) e code =
      let h = both (str_eq_ignore_ascii_case n.text m.text && beq star star' && beq distinct distinct') (same_expressions xs ys) e in
      let g = both (str_eq_ignore_ascii_case n.text m.text && beq star star') (beq distinct distinct') h.0 in
      let f = both (str_eq_ignore_ascii_case n.text m.text) (beq star star') g.0 in
      ap (λ t. with_expressions xs (with_flag distinct (with_flag star (with_text t (with_byte 7 code))))) (same_bytes (str_to_ascii_lowercase n.text) (str_to_ascii_lowercase m.text) f.0)
      ∙ ap (λ b. with_expressions xs (with_flag distinct (with_flag b (with_text (str_to_ascii_lowercase m.text) (with_byte 7 code))))) (same_flag star star' f.1)
      ∙ ap (λ b. with_expressions xs (with_flag b (with_flag star' (with_text (str_to_ascii_lowercase m.text) (with_byte 7 code))))) (same_flag distinct distinct' g.1)
      ∙ all_alike xs ys h.1 (with_flag distinct' (with_flag star' (with_text (str_to_ascii_lowercase m.text) (with_byte 7 code))))
  alike (tree.case x ws d) (tree.case y vs f) e code =
      let h = both (same_perhaps x y && same_whens ws vs) (same_perhaps d f) e in
      let g = both (same_perhaps x y) (same_whens ws vs) h.0 in
      ap (λ c. with_perhaps d (with_whens ws c)) (perhaps_alike x y g.0 (with_byte 8 code))
      ∙ ap (with_perhaps d) (whens_alike ws vs g.1 (with_perhaps y (with_byte 8 code)))
      ∙ perhaps_alike d f h.1 (with_whens vs (with_perhaps y (with_byte 8 code)))
  alike (tree.chain x os) (tree.chain y ps) e code =
      let h = both (same_expression x y) (same_operands os ps) e in
      ap (with_operands os) (alike x y h.0 (with_byte 9 code)) ∙ operands_alike os ps h.1 (with_expression y (with_byte 9 code))
  alike (tree.negation n x) (tree.negation m y) e code =
      let h = both (n == m) (same_expression x y) e in
      ap (λ n. with_expression x (with_number n (with_byte 10 code))) (eqb-true n m h.0) ∙ alike x y h.1 (with_number m (with_byte 10 code))
  alike (tree.signs bs x) (tree.signs cs y) e code =
      let h = both (same_flags bs cs) (same_expression x y) e in
      ap (with_expression x) (flags_alike bs cs h.0 (with_byte 11 code)) ∙ alike x y h.1 (with_flags cs (with_byte 11 code))
  alike (tree.tests x ts) (tree.tests y us) e code =
      let h = both (same_expression x y) (same_tests ts us) e in
      ap (with_tests ts) (alike x y h.0 (with_byte 12 code)) ∙ tests_alike ts us h.1 (with_expression y (with_byte 12 code))
  alike (tree.suffixes x xs ls) (tree.suffixes y ys ms) e code =
      let h = both (same_expression x y && same_suffixes xs ys) (same_names ls ms) e in
      let g = both (same_expression x y) (same_suffixes xs ys) h.0 in
      ap (λ c. with_names ls (with_suffixes xs c)) (alike x y g.0 (with_byte 13 code))
      ∙ ap (with_names ls) (suffixes_alike xs ys g.1 (with_expression y (with_byte 13 code)))
      ∙ names_alike ls ms h.1 (with_suffixes ys (with_expression y (with_byte 13 code)))
  alike x y e code = absurd (false≢true e)

  all_alike : (xs ys : Expressions) → same_expressions xs ys ≡ true → (code : List ℕ) → with_expressions xs code ≡ with_expressions ys code
  all_alike tree.no_expressions tree.no_expressions e code = refl
  all_alike (tree.expression x xs) (tree.expression y ys) e code =
      let h = both (same_expression x y) (same_expressions xs ys) e in
      ap (with_expressions xs) (alike x y h.0 code) ∙ all_alike xs ys h.1 (with_expression y code)
  all_alike xs ys e code = absurd (false≢true e)

  pairs_alike : (ps qs : Pairs) → same_pairs ps qs ≡ true → (code : List ℕ) → with_pairs ps code ≡ with_pairs qs code
  pairs_alike tree.no_pairs tree.no_pairs e code = refl
  pairs_alike (tree.pair n x ps) (tree.pair m y qs) e code =
      let h = both (same_name n m && same_expression x y) (same_pairs ps qs) e in
      let g = both (same_name n m) (same_expression x y) h.0 in
      ap (λ t. with_pairs ps (with_expression x (with_text t (with_byte 1 code)))) (same_bytes n.text m.text g.0)
      ∙ ap (with_pairs ps) (alike x y g.1 (with_text m.text (with_byte 1 code)))
      ∙ pairs_alike ps qs h.1 (with_expression y (with_text m.text (with_byte 1 code)))
  pairs_alike ps qs e code = absurd (false≢true e)

  perhaps_alike : (x y : Perhaps) → same_perhaps x y ≡ true → (code : List ℕ) → with_perhaps x code ≡ with_perhaps y code
  perhaps_alike tree.absent tree.absent e code = refl
  perhaps_alike (tree.present x) (tree.present y) e code = alike x y e code
  perhaps_alike x y e code = absurd (false≢true e)

  whens_alike : (ws vs : Whens) → same_whens ws vs ≡ true → (code : List ℕ) → with_whens ws code ≡ with_whens vs code
  whens_alike tree.no_whens tree.no_whens e code = refl
  whens_alike (tree.when c x ws) (tree.when d y vs) e code =
      let h = both (same_expression c d && same_expression x y) (same_whens ws vs) e in
      let g = both (same_expression c d) (same_expression x y) h.0 in
      ap (λ l. with_whens ws (with_expression x l)) (alike c d g.0 code)
      ∙ ap (with_whens ws) (alike x y g.1 (with_expression d code))
      ∙ whens_alike ws vs h.1 (with_expression y (with_expression d code))
  whens_alike ws vs e code = absurd (false≢true e)

  operands_alike : (os ps : Operands) → same_operands os ps ≡ true → (code : List ℕ) → with_operands os code ≡ with_operands ps code
  operands_alike tree.no_operands tree.no_operands e code = refl
  operands_alike (tree.operand o x os) (tree.operand p y ps) e code =
      let h = both (same_operator o p && same_expression x y) (same_operands os ps) e in
      let g = both (same_operator o p) (same_expression x y) h.0 in
      ap (λ q. with_operands os (with_expression x (with_byte (byte_of_operator q) code))) (operator_alike o p g.0)
      ∙ ap (with_operands os) (alike x y g.1 (with_byte (byte_of_operator p) code))
      ∙ operands_alike os ps h.1 (with_expression y (with_byte (byte_of_operator p) code))
  operands_alike os ps e code = absurd (false≢true e)

  tests_alike : (ts us : Tests) → same_tests ts us ≡ true → (code : List ℕ) → with_tests ts code ≡ with_tests us code
  tests_alike tree.no_tests tree.no_tests e code = refl
  tests_alike (tree.text_test t x ts) (tree.text_test u y us) e code =
      let h = both (same_test t u && same_expression x y) (same_tests ts us) e in
      let g = both (same_test t u) (same_expression x y) h.0 in
      ap (λ q. with_tests ts (with_expression x (with_byte (byte_of_test q) code))) (test_alike t u g.0)
      ∙ ap (with_tests ts) (alike x y g.1 (with_byte (byte_of_test u) code))
      ∙ tests_alike ts us h.1 (with_expression y (with_byte (byte_of_test u) code))
  tests_alike (tree.null_test b ts) (tree.null_test c us) e code =
      let h = both (beq b c) (same_tests ts us) e in
      ap (λ b. with_tests ts (with_flag b (with_byte 5 code))) (same_flag b c h.0) ∙ tests_alike ts us h.1 (with_flag c (with_byte 5 code))
  tests_alike ts us e code = absurd (false≢true e)

  suffixes_alike : (xs ys : Suffixes) → same_suffixes xs ys ≡ true → (code : List ℕ) → with_suffixes xs code ≡ with_suffixes ys code
  suffixes_alike tree.no_suffixes tree.no_suffixes e code = refl
  suffixes_alike (tree.property n xs) (tree.property m ys) e code =
      let h = both (same_name n m) (same_suffixes xs ys) e in
      ap (λ t. with_suffixes xs (with_text t (with_byte 1 code))) (same_bytes n.text m.text h.0) ∙ suffixes_alike xs ys h.1 (with_text m.text (with_byte 1 code))
  suffixes_alike (tree.index x xs) (tree.index y ys) e code =
      let h = both (same_expression x y) (same_suffixes xs ys) e in
      ap (with_suffixes xs) (alike x y h.0 (with_byte 2 code)) ∙ suffixes_alike xs ys h.1 (with_expression y (with_byte 2 code))
  suffixes_alike xs ys e code = absurd (false≢true e)

use Rattle.std.proofs.Common.{◌≡◌, ◌<◌, ℕ, length, get_or, List, [], ◌∷◌, ◌++◌, map, Vec, Global, refl, sym, subst, ap, ◌∙◌}
use Rattle.std.specs.Prelude.{OnOk}
use Rattle.std.specs.Str.{str_to_ascii_lowercase}
use Rattle.pg_tree_equality.specs.Codes.{byte_of_form, with_byte, with_text, with_number, with_flag, with_flags, with_literal, with_test, with_suffix, with_expression, with_expressions, with_pairs, with_perhaps, with_whens, with_operands, with_tests, with_suffixes, with_names}
use Rattle.pg_meaning.specs.Parse.{expressions_of, operands_of, pairs_of, whens_of}
use Rattle.pg_syntax_tree.specs.View.{expression_view, literal_view, name_view, names_view, operand_view, pair_view, suffixes_of, tests_of, when_view, suffix_view, test_view, perhaps_view}
use Rattle.pg_syntax_tree.specs.declared.expression.Expression.{Expression}
use Rattle.pg_syntax_tree.proofs.Views.{map_is, call_is, case_is, chain_is, negation_is, signs_is, tests_is, suffixes_is}
use Rattle.pg_tree_equality.proofs.CodeSteps as lemma
use Rattle.pg_tree_equality.proofs.codes.+codes.Goals as goal

pub add_expression-returns-in-Literal : goal.add_expression-returns-in-Literal
add_expression-returns-in-Literal t c =
    let x = c.in-Literal in
    let e = c.args.expression.now in
    let first = c.add_byte.new.code.items in
    let last = c.add_literal in
    subst (λ (code : List ℕ). OnOk last.result (last.new.code.items ≡ code))
    (lemma.form_written e c.args.code.now.items first c.byte_of_form.result _ (with_literal (literal_view x.literal)) (lemma.literal_seen x.literal x.is) c.byte_of_form.ensures c.in_ok-add_byte.ensures refl) last.ensures

pub add_expression-returns-in-Parameter : goal.add_expression-returns-in-Parameter
add_expression-returns-in-Parameter t c =
    let x = c.in-Parameter in
    let e = c.args.expression.now in
    let first = c.add_byte.new.code.items in
    let last = c.add_text in
    subst (λ (code : List ℕ). OnOk last.result (last.new.code.items ≡ code))
    (ap (λ (s : List ℕ). with_text s first) c.as_str.ensures.value ∙ lemma.form_written e c.args.code.now.items first c.byte_of_form.result _ (with_text (name_view x.name).text) (lemma.parameter_seen x.name x.is) c.byte_of_form.ensures c.in_ok-add_byte.ensures refl) last.ensures

pub add_expression-returns-in-Variable : goal.add_expression-returns-in-Variable
add_expression-returns-in-Variable t c =
    let x = c.in-Variable in
    let e = c.args.expression.now in
    let first = c.add_byte.new.code.items in
    let last = c.add_text-in-Variable in
    subst (λ (code : List ℕ). OnOk last.result (last.new.code.items ≡ code))
    (ap (λ (s : List ℕ). with_text s first) c.as_str-in-Variable.ensures.value ∙ lemma.form_written e c.args.code.now.items first c.byte_of_form.result _ (with_text (name_view x.name).text) (lemma.variable_seen x.name x.is) c.byte_of_form.ensures c.in_ok-add_byte.ensures refl) last.ensures

pub add_expression-returns-in-ListLiteral : goal.add_expression-returns-in-ListLiteral
add_expression-returns-in-ListLiteral t c =
    let x = c.in-ListLiteral in
    let e = c.args.expression.now in
    let first = c.add_byte.new.code.items in
    let last = c.add_all in
    subst (λ (code : List ℕ). OnOk last.result (last.new.code.items ≡ code))
    (lemma.form_written e c.args.code.now.items first c.byte_of_form.result _ (with_expressions (expressions_of (map expression_view x.items.items))) (lemma.list_literal_seen x.items x.is) c.byte_of_form.ensures c.in_ok-add_byte.ensures refl) last.ensures

pub add_expression-returns-in-Parentheses : goal.add_expression-returns-in-Parentheses
add_expression-returns-in-Parentheses t c =
    let x = c.in-Parentheses in
    let e = c.args.expression.now in
    let first = c.add_byte.new.code.items in
    let last = c.add_expression in
    subst (λ (code : List ℕ). OnOk last.result (last.new.code.items ≡ code))
    (ap (λ (y : Expression). with_expression (expression_view y) first) c.deref.ensures ∙ lemma.form_written e c.args.code.now.items first c.byte_of_form.result _ (with_expression (expression_view x.inner.value)) (lemma.parentheses_seen x.inner x.is) c.byte_of_form.ensures c.in_ok-add_byte.ensures refl) last.ensures

pub add_expression-returns-in_ok-add_whens-in-Case : goal.add_expression-returns-in_ok-add_whens-in-Case
add_expression-returns-in_ok-add_whens-in-Case t c =
    let x = c.in-Case in
    let last = c.add_perhaps-in-Case in
    let begun = c.in_ok-add_byte.ensures ∙ ap (λ (b : ℕ). with_byte b c.args.code.now.items) (c.byte_of_form.ensures ∙ ap (λ (e : Expression). byte_of_form (expression_view e)) x.is ∙ ap byte_of_form (case_is x.subject x.whens x.otherwise)) in
    let before = c.in_ok-add_whens-in-Case.ensures ∙ ap (with_whens (whens_of (map when_view x.whens.items))) (c.in_ok-add_perhaps-in-Case.ensures ∙ ap (with_perhaps (perhaps_view x.subject)) begun) in
    rw (x.is, case_is x.subject x.whens x.otherwise) (subst (λ (l : List ℕ). OnOk last.result (last.new.code.items ≡ with_perhaps (perhaps_view x.otherwise) l)) before last.ensures)

pub add_expression-returns-in_ok-add_suffixes-in-Suffixes : goal.add_expression-returns-in_ok-add_suffixes-in-Suffixes
add_expression-returns-in_ok-add_suffixes-in-Suffixes t c =
    let x = c.in-Suffixes in
    let last = c.add_names in
    let begun = c.in_ok-add_byte.ensures ∙ ap (λ (b : ℕ). with_byte b c.args.code.now.items) (c.byte_of_form.ensures ∙ ap (λ (e : Expression). byte_of_form (expression_view e)) x.is ∙ ap byte_of_form (suffixes_is x.first x.suffixes x.labels)) in
    let before = c.in_ok-add_suffixes-in-Suffixes.ensures ∙ ap (with_suffixes (suffixes_of (map suffix_view x.suffixes.items))) (c.in_ok-add_expression-in-Suffixes.ensures ∙ ap (with_expression (expression_view c.deref-in-Suffixes.result.now)) begun ∙ ap (λ (y : Expression). with_expression (expression_view y) (c.args.code.now.items ++ 13 ∷ [])) c.deref-in-Suffixes.ensures) in
    rw (x.is, suffixes_is x.first x.suffixes x.labels) (subst (λ (l : List ℕ). OnOk last.result (last.new.code.items ≡ with_names (names_view x.labels.items) l)) before last.ensures)

pub add_expression-returns-in-MapLiteral : goal.add_expression-returns-in-MapLiteral
add_expression-returns-in-MapLiteral t c =
    let x = c.in-MapLiteral in
    let last = c.add_pairs in
    let begun = c.in_ok-add_byte.ensures ∙ ap (λ (b : ℕ). with_byte b c.args.code.now.items) (c.byte_of_form.ensures ∙ ap (λ (e : Expression). byte_of_form (expression_view e)) x.is ∙ ap byte_of_form (map_is x.pairs)) in
    rw (x.is, map_is x.pairs) (subst (λ (l : List ℕ). OnOk last.result (last.new.code.items ≡ with_pairs (pairs_of (map pair_view x.pairs.items)) l)) begun last.ensures)

pub add_expression-returns-in_ok-add_expression-in-Chain : goal.add_expression-returns-in_ok-add_expression-in-Chain
add_expression-returns-in_ok-add_expression-in-Chain t c =
    let x = c.in-Chain in
    let last = c.add_operands in
    let begun = c.in_ok-add_byte.ensures ∙ ap (λ (b : ℕ). with_byte b c.args.code.now.items) (c.byte_of_form.ensures ∙ ap (λ (e : Expression). byte_of_form (expression_view e)) x.is ∙ ap byte_of_form (chain_is x.first x.operands)) in
    let before = c.in_ok-add_expression-in-Chain.ensures ∙ ap (with_expression (expression_view c.deref-in-Chain.result.now)) begun ∙ ap (λ (y : Expression). with_expression (expression_view y) (c.args.code.now.items ++ 9 ∷ [])) c.deref-in-Chain.ensures in
    rw (x.is, chain_is x.first x.operands) (subst (λ (l : List ℕ). OnOk last.result (last.new.code.items ≡ with_operands (operands_of (map operand_view x.operands.items)) l)) before last.ensures)

pub add_expression-returns-in_ok-add_expression-in-Tests : goal.add_expression-returns-in_ok-add_expression-in-Tests
add_expression-returns-in_ok-add_expression-in-Tests t c =
    let x = c.in-Tests in
    let last = c.add_tests in
    let begun = c.in_ok-add_byte.ensures ∙ ap (λ (b : ℕ). with_byte b c.args.code.now.items) (c.byte_of_form.ensures ∙ ap (λ (e : Expression). byte_of_form (expression_view e)) x.is ∙ ap byte_of_form (tests_is x.first x.tests)) in
    let before = c.in_ok-add_expression-in-Tests.ensures ∙ ap (with_expression (expression_view c.deref-in-Tests.result.now)) begun ∙ ap (λ (y : Expression). with_expression (expression_view y) (c.args.code.now.items ++ 12 ∷ [])) c.deref-in-Tests.ensures in
    rw (x.is, tests_is x.first x.tests) (subst (λ (l : List ℕ). OnOk last.result (last.new.code.items ≡ with_tests (tests_of (map test_view x.tests.items)) l)) before last.ensures)

pub add_expression-returns-in_ok-add_call-in-Call : goal.add_expression-returns-in_ok-add_call-in-Call
add_expression-returns-in_ok-add_call-in-Call t c =
    let x = c.in-Call in
    let last = c.add_all-in-Call in
    let begun = c.in_ok-add_byte.ensures ∙ ap (λ (b : ℕ). with_byte b c.args.code.now.items) (c.byte_of_form.ensures ∙ ap (λ (e : Expression). byte_of_form (expression_view e)) x.is ∙ ap byte_of_form (call_is x.name x.star x.distinct x.arguments)) in
    let before = c.in_ok-add_call-in-Call.ensures ∙ ap (λ (l : List ℕ). with_flag x.distinct (with_flag x.star (with_text (str_to_ascii_lowercase (name_view x.name).text) l))) begun in
    rw (x.is, call_is x.name x.star x.distinct x.arguments) (subst (λ (l : List ℕ). OnOk last.result (last.new.code.items ≡ with_expressions (expressions_of (map expression_view x.arguments.items)) l)) before last.ensures)

pub add_expression-returns-in_ok-add_number-in-Negation : goal.add_expression-returns-in_ok-add_number-in-Negation
add_expression-returns-in_ok-add_number-in-Negation t c =
    let x = c.in-Negation in
    let last = c.add_expression-in-Negation in
    let begun = c.in_ok-add_byte.ensures ∙ ap (λ (b : ℕ). with_byte b c.args.code.now.items) (c.byte_of_form.ensures ∙ ap (λ (e : Expression). byte_of_form (expression_view e)) x.is ∙ ap byte_of_form (negation_is x.count x.operand)) in
    let before = c.in_ok-add_number-in-Negation.ensures ∙ ap (with_number x.count) begun in
    let whole = subst (λ (l : List ℕ). OnOk last.result (last.new.code.items ≡ with_expression (expression_view c.deref-in-Negation.result.now) l)) before last.ensures in
    rw (x.is, negation_is x.count x.operand) (subst (λ (y : Expression). OnOk last.result (last.new.code.items ≡ with_expression (expression_view y) (with_number x.count (c.args.code.now.items ++ 10 ∷ [])))) c.deref-in-Negation.ensures whole)

pub add_expression-returns-in_ok-add_flags-in-Signs : goal.add_expression-returns-in_ok-add_flags-in-Signs
add_expression-returns-in_ok-add_flags-in-Signs t c =
    let x = c.in-Signs in
    let last = c.add_expression-in-Signs in
    let begun = c.in_ok-add_byte.ensures ∙ ap (λ (b : ℕ). with_byte b c.args.code.now.items) (c.byte_of_form.ensures ∙ ap (λ (e : Expression). byte_of_form (expression_view e)) x.is ∙ ap byte_of_form (signs_is x.signs x.operand)) in
    let before = c.in_ok-add_flags-in-Signs.ensures ∙ ap (with_flags x.signs.items) begun in
    let whole = subst (λ (l : List ℕ). OnOk last.result (last.new.code.items ≡ with_expression (expression_view c.deref-in-Signs.result.now) l)) before last.ensures in
    rw (x.is, signs_is x.signs x.operand) (subst (λ (y : Expression). OnOk last.result (last.new.code.items ≡ with_expression (expression_view y) (with_flags x.signs.items (c.args.code.now.items ++ 11 ∷ [])))) c.deref-in-Signs.ensures whole)

pub add_pairs-loop-pair-preserved : goal.add_pairs-loop-pair-preserved
add_pairs-loop-pair-preserved t c =
    let l = c.loop-pair in
    let xs = c.args.pairs.now.items in
    let items = c.deref-pair-items.ensures.value in
    let inside : l.pair-index < length xs = subst (λ ys. l.pair-index < length ys) items c.loop-pair-test.true in
    let x = c.pair-item.result in
    lemma.written_here lemma.pairs xs l.pair-index x inside (c.pair-item.is ∙ ap (λ ys. get_or ys l.pair-index x) items) (c.in_ok-add_expression.ensures ∙ ap (with_expression (expression_view x.1)) (c.in_ok-add_text.ensures ∙ ap (λ (s : List ℕ). with_text s c.add_byte.new.code.items) c.as_str.ensures.value ∙ ap (with_text (name_view x.0).text) c.in_ok-add_byte.ensures)) l.invariant

pub add_all-loop-expression-preserved : goal.add_all-loop-expression-preserved
add_all-loop-expression-preserved t c =
    let l = c.loop-expression in
    let xs = c.args.expressions.now.items in
    let items = c.deref-expression-items.ensures.value in
    let inside : l.expression-index < length xs = subst (λ ys. l.expression-index < length ys) items c.loop-expression-test.true in
    lemma.written_here lemma.expressions xs l.expression-index c.expression-item.result inside (c.expression-item.is ∙ ap (λ ys. get_or ys l.expression-index c.expression-item.result) items) c.in_ok-add_expression.ensures l.invariant

pub add_whens-loop-when-preserved : goal.add_whens-loop-when-preserved
add_whens-loop-when-preserved t c =
    let l = c.loop-when in
    let xs = c.args.whens.now.items in
    let items = c.deref-when-items.ensures.value in
    let inside : l.when-index < length xs = subst (λ ys. l.when-index < length ys) items c.loop-when-test.true in
    let x = c.when-item.result in
    lemma.written_here lemma.whens xs l.when-index x inside (c.when-item.is ∙ ap (λ ys. get_or ys l.when-index x) items) (c.in_ok-add_expression-2.ensures ∙ ap (with_expression (expression_view x.1)) c.in_ok-add_expression.ensures) l.invariant

pub add_operands-loop-operand-preserved : goal.add_operands-loop-operand-preserved
add_operands-loop-operand-preserved t c =
    let l = c.loop-operand in
    let xs = c.args.operands.now.items in
    let items = c.deref-operand-items.ensures.value in
    let inside : l.operand-index < length xs = subst (λ ys. l.operand-index < length ys) items c.loop-operand-test.true in
    let x = c.operand-item.result in
    lemma.written_here lemma.operands xs l.operand-index x inside (c.operand-item.is ∙ ap (λ ys. get_or ys l.operand-index x) items) (c.in_ok-add_expression.ensures ∙ ap (with_expression (expression_view x.1)) (c.in_ok-add_byte.ensures ∙ ap (λ b. with_byte b l.code.items) c.byte_of_operator.ensures)) l.invariant

pub add_tests-loop-test-preserved : goal.add_tests-loop-test-preserved
add_tests-loop-test-preserved t c =
    let l = c.loop-test in
    let xs = c.args.tests.now.items in
    let items = c.deref-test-items.ensures.value in
    let inside : l.test-index < length xs = subst (λ ys. l.test-index < length ys) items c.loop-test-test.true in
    let x = c.test-item.result in
    let written : c.match-test.code.items ≡ with_test x l.code.items = elim c.match-test.branch [
      | goal.add_tests-in-Text+in_ok-add_byte-in-Text+in_ok-add_expression-in-Text w ↦ ap (λ (v : Vec ℕ Global). v.items) w.code-is ∙ w.in_ok-add_expression-in-Text.ensures
          ∙ ap (with_expression (expression_view w.in-Text.operand)) (w.in_ok-add_byte-in-Text.ensures ∙ ap (λ b. with_byte b l.code.items) w.byte_of_test.ensures) ∙ ap (λ y. with_test y l.code.items) (sym w.in-Text.is)
      | goal.add_tests-in-IsNull+in_ok-add_byte-in-IsNull+in_ok-add_flag-in-IsNull w ↦ ap (λ (v : Vec ℕ Global). v.items) w.code-is ∙ w.in_ok-add_flag-in-IsNull.ensures
          ∙ ap (with_flag w.in-IsNull.negated) w.in_ok-add_byte-in-IsNull.ensures ∙ ap (λ y. with_test y l.code.items) (sym w.in-IsNull.is)
    ] in
    lemma.written_here lemma.tests xs l.test-index x inside (c.test-item.is ∙ ap (λ ys. get_or ys l.test-index x) items) written l.invariant

pub add_suffixes-loop-suffix-preserved : goal.add_suffixes-loop-suffix-preserved
add_suffixes-loop-suffix-preserved t c =
    let l = c.loop-suffix in
    let xs = c.args.suffixes.now.items in
    let items = c.deref-suffix-items.ensures.value in
    let inside : l.suffix-index < length xs = subst (λ ys. l.suffix-index < length ys) items c.loop-suffix-test.true in
    let x = c.suffix-item.result in
    let written : c.match-suffix.code.items ≡ with_suffix x l.code.items = elim c.match-suffix.branch [
      | goal.add_suffixes-in-Property+in_ok-add_byte-in-Property+in_ok-add_text-in-Property w ↦ ap (λ (v : Vec ℕ Global). v.items) w.code-is ∙ w.in_ok-add_text-in-Property.ensures
          ∙ ap (λ (s : List ℕ). with_text s w.add_byte.new.code.items) w.as_str.ensures.value ∙ ap (with_text (name_view w.in-Property.name).text) w.in_ok-add_byte-in-Property.ensures ∙ ap (λ y. with_suffix y l.code.items) (sym w.in-Property.is)
      | goal.add_suffixes-in-Index+in_ok-add_byte-in-Index+in_ok-add_expression-in-Index w ↦ ap (λ (v : Vec ℕ Global). v.items) w.code-is ∙ w.in_ok-add_expression-in-Index.ensures
          ∙ ap (with_expression (expression_view w.in-Index.index)) w.in_ok-add_byte-in-Index.ensures ∙ ap (λ y. with_suffix y l.code.items) (sym w.in-Index.is)
    ] in
    lemma.written_here lemma.suffixes xs l.suffix-index x inside (c.suffix-item.is ∙ ap (λ ys. get_or ys l.suffix-index x) items) written l.invariant

pub add_all-returns : goal.add_all-returns
add_all-returns t c =
    let l = c.loop-expression in
    let last = c.add_byte in
    subst (λ (code : List ℕ). OnOk last.result (last.new.code.items ≡ code))
    (lemma.written_all lemma.expressions c.deref-expression-items.result.now c.args.expressions.now.items l.expression-index c.deref-expression-items.ensures.value c.loop-expression-test.false l.invariant) last.ensures

pub add_pairs-returns : goal.add_pairs-returns
add_pairs-returns t c =
    let l = c.loop-pair in
    let last = c.add_byte-2 in
    subst (λ (code : List ℕ). OnOk last.result (last.new.code.items ≡ code))
    (lemma.written_all lemma.pairs c.deref-pair-items.result.now c.args.pairs.now.items l.pair-index c.deref-pair-items.ensures.value c.loop-pair-test.false l.invariant) last.ensures

pub add_whens-returns : goal.add_whens-returns
add_whens-returns t c =
    let l = c.loop-when in
    let last = c.add_byte in
    subst (λ (code : List ℕ). OnOk last.result (last.new.code.items ≡ code))
    (lemma.written_all lemma.whens c.deref-when-items.result.now c.args.whens.now.items l.when-index c.deref-when-items.ensures.value c.loop-when-test.false l.invariant) last.ensures

pub add_operands-returns : goal.add_operands-returns
add_operands-returns t c =
    let l = c.loop-operand in
    let last = c.add_byte-2 in
    subst (λ (code : List ℕ). OnOk last.result (last.new.code.items ≡ code))
    (lemma.written_all lemma.operands c.deref-operand-items.result.now c.args.operands.now.items l.operand-index c.deref-operand-items.ensures.value c.loop-operand-test.false l.invariant) last.ensures

pub add_tests-returns : goal.add_tests-returns
add_tests-returns t c =
    let l = c.loop-test in
    let last = c.add_byte-2 in
    subst (λ (code : List ℕ). OnOk last.result (last.new.code.items ≡ code))
    (lemma.written_all lemma.tests c.deref-test-items.result.now c.args.tests.now.items l.test-index c.deref-test-items.ensures.value c.loop-test-test.false l.invariant) last.ensures

pub add_suffixes-returns : goal.add_suffixes-returns
add_suffixes-returns t c =
    let l = c.loop-suffix in
    let last = c.add_byte-2 in
    subst (λ (code : List ℕ). OnOk last.result (last.new.code.items ≡ code))
    (lemma.written_all lemma.suffixes c.deref-suffix-items.result.now c.args.suffixes.now.items l.suffix-index c.deref-suffix-items.ensures.value c.loop-suffix-test.false l.invariant) last.ensures

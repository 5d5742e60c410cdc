use Rattle.std.proofs.Common.{◌<◌, ◌≤◌, ◌≡◌, length, refl, sym, subst, ◌∙◌}
use Rattle.pg_syntax_tree.proofs.Views.{map_is, case_is, chain_is, tests_is, suffixes_is}
use Rattle.pg_tree_equality.proofs.OtherForms as other
use Rattle.pg_tree_equality.proofs.TreeLemmas as lemma
use Rattle.pg_tree_equality.proofs.trees.+trees.Goals as goal

pub same_expression-returns-in-MapLiteral-b : goal.same_expression-returns-in-MapLiteral-b
same_expression-returns-in-MapLiteral-b t c = let x = c.in-MapLiteral in let y = c.in-MapLiteral-b in rw x.is (rw y.is (rw (map_is x.a) (rw (map_is y.b) c.same_pairs.ensures)))

pub same_expression-returns-then-same_expression : goal.same_expression-returns-then-same_expression
same_expression-returns-then-same_expression t c = let x = c.in-Chain in let y = c.in-Chain-b in rw x.is (rw y.is (rw (chain_is x.a x.xs) (rw (chain_is y.b y.ys) (lemma.and_then (sym (lemma.same_there c.if-same_expression.ensures c.deref-in-Chain-b.ensures c.deref-in-Chain-b-2.ensures)) c.same_operands.ensures))))

pub same_expression-returns-else-same_expression : goal.same_expression-returns-else-same_expression
same_expression-returns-else-same_expression t c =
    let x = c.in-Chain in
    let y = c.in-Chain-b in
    let other = lemma.same_there c.if-same_expression.ensures c.deref-in-Chain-b.ensures c.deref-in-Chain-b-2.ensures in
    let result = lemma.same_there c.same_expression-in-Chain-b.ensures c.deref-in-Chain-b.ensures c.deref-in-Chain-b-2.ensures in
    rw x.is (rw y.is (rw (chain_is x.a x.xs) (rw (chain_is y.b y.ys) (lemma.and_else _ (sym other) result))))

pub same_expression-returns-then-same_expression-2 : goal.same_expression-returns-then-same_expression-2
same_expression-returns-then-same_expression-2 t c =
    let x = c.in-Tests in
    let y = c.in-Tests-b in
    let same = lemma.same_there c.if-same_expression-2.ensures c.deref-in-Tests-b.ensures c.deref-in-Tests-b-2.ensures in
    rw x.is (rw y.is (rw (tests_is x.a x.xs) (rw (tests_is y.b y.ys) (lemma.and_then (sym same) c.same_tests.ensures))))

pub same_expression-returns-else-same_expression-2 : goal.same_expression-returns-else-same_expression-2
same_expression-returns-else-same_expression-2 t c =
    let x = c.in-Tests in
    let y = c.in-Tests-b in
    let other = lemma.same_there c.if-same_expression-2.ensures c.deref-in-Tests-b.ensures c.deref-in-Tests-b-2.ensures in
    let result = lemma.same_there c.same_expression-in-Tests-b.ensures c.deref-in-Tests-b.ensures c.deref-in-Tests-b-2.ensures in
    rw x.is (rw y.is (rw (tests_is x.a x.xs) (rw (tests_is y.b y.ys) (lemma.and_else _ (sym other) result))))

pub same_expression-returns-then-same_whens : goal.same_expression-returns-then-same_whens
same_expression-returns-then-same_whens t c =
    let x = c.in-Case in
    let y = c.in-Case-b in
    rw x.is (rw y.is (rw (case_is x.a x.whens x.x) (rw (case_is y.b y.others y.y) (elim c.if-same_perhaps.branch [
      | goal.same_expression-then-same_perhaps w ↦ lemma.and_then (sym (lemma.and_then (sym c.same_perhaps.ensures ∙ w.if-same_perhaps.true) (w.value-is ∙ w.same_whens.ensures)) ∙ c.if-same_whens.true) c.same_perhaps-then-same_whens.ensures
      | goal.same_expression-else-same_perhaps w ↦ lemma.and_then (sym (lemma.and_else _ (sym c.same_perhaps.ensures ∙ w.if-same_perhaps.false) (w.value-is ∙ c.same_perhaps.ensures)) ∙ c.if-same_whens.true) c.same_perhaps-then-same_whens.ensures
    ]))))

pub same_expression-returns-else-same_whens : goal.same_expression-returns-else-same_whens
same_expression-returns-else-same_whens t c =
    let x = c.in-Case in
    let y = c.in-Case-b in
    rw x.is (rw y.is (rw (case_is x.a x.whens x.x) (rw (case_is y.b y.others y.y) (elim c.if-same_perhaps.branch [
      | goal.same_expression-then-same_perhaps w ↦ lemma.and_else _ (sym (lemma.and_then (sym c.same_perhaps.ensures ∙ w.if-same_perhaps.true) (w.value-is ∙ w.same_whens.ensures)) ∙ c.if-same_whens.false) (lemma.and_then (sym c.same_perhaps.ensures ∙ w.if-same_perhaps.true) (w.value-is ∙ w.same_whens.ensures))
      | goal.same_expression-else-same_perhaps w ↦ lemma.and_else _ (sym (lemma.and_else _ (sym c.same_perhaps.ensures ∙ w.if-same_perhaps.false) (w.value-is ∙ c.same_perhaps.ensures)) ∙ c.if-same_whens.false) (lemma.and_else _ (sym c.same_perhaps.ensures ∙ w.if-same_perhaps.false) (w.value-is ∙ c.same_perhaps.ensures))
    ]))))

pub same_expression-returns-then-same_suffixes : goal.same_expression-returns-then-same_suffixes
same_expression-returns-then-same_suffixes t c =
    let x = c.in-Suffixes in
    let y = c.in-Suffixes-b in
    let first = lemma.same_there c.same_expression-in-Suffixes-b.ensures c.deref-in-Suffixes-b.ensures c.deref-in-Suffixes-b-2.ensures in
    rw x.is (rw y.is (rw (suffixes_is x.a x.xs x.ls) (rw (suffixes_is y.b y.ys y.ms) (elim c.if-same_expression-3.branch [
      | goal.same_expression-then-same_expression-3 w ↦ lemma.and_then (sym (lemma.and_then (sym first ∙ w.if-same_expression-3.true) (w.value-is ∙ w.same_suffixes.ensures)) ∙ c.if-same_suffixes.true) c.same_names.ensures
      | goal.same_expression-else-same_expression-3 w ↦ lemma.and_then (sym (lemma.and_else _ (sym first ∙ w.if-same_expression-3.false) (w.value-is ∙ first)) ∙ c.if-same_suffixes.true) c.same_names.ensures
    ]))))

pub same_expression-returns-else-same_suffixes : goal.same_expression-returns-else-same_suffixes
same_expression-returns-else-same_suffixes t c =
    let x = c.in-Suffixes in
    let y = c.in-Suffixes-b in
    let first = lemma.same_there c.same_expression-in-Suffixes-b.ensures c.deref-in-Suffixes-b.ensures c.deref-in-Suffixes-b-2.ensures in
    rw x.is (rw y.is (rw (suffixes_is x.a x.xs x.ls) (rw (suffixes_is y.b y.ys y.ms) (elim c.if-same_expression-3.branch [
      | goal.same_expression-then-same_expression-3 w ↦ lemma.and_else _ (sym (lemma.and_then (sym first ∙ w.if-same_expression-3.true) (w.value-is ∙ w.same_suffixes.ensures)) ∙ c.if-same_suffixes.false) (lemma.and_then (sym first ∙ w.if-same_expression-3.true) (w.value-is ∙ w.same_suffixes.ensures))
      | goal.same_expression-else-same_expression-3 w ↦ lemma.and_else _ (sym (lemma.and_else _ (sym first ∙ w.if-same_expression-3.false) (w.value-is ∙ first)) ∙ c.if-same_suffixes.false) (lemma.and_else _ (sym first ∙ w.if-same_expression-3.false) (w.value-is ∙ first))
    ]))))

pub same_all-loop-i-preserved : goal.same_all-loop-i-preserved
same_all-loop-i-preserved t c =
    let a = c.args.a.now.items in
    let b = c.args.b.now.items in
    let in_a : c.loop-i.i < length a = subst (λ n. c.loop-i.i < n) (c.len-i-end.ensures ∙ c.args.a.now.ok.0) c.loop-i-test.true in
    let in_b : c.loop-i.i < length b = subst (λ n. c.loop-i.i < n) (c.len-i-end.ensures ∙ sym c.len.ensures ∙ c.if-len.false ∙ c.len-2.ensures ∙ c.args.b.now.ok.0) c.loop-i-test.true in
    lemma.same_here lemma.expressions a b c.loop-i.i c.index.result.now c.index-in-loop-i.result.now in_a in_b c.index.ensures c.index-in-loop-i.ensures c.if-not-same_expression.ensures c.loop-i.invariant

pub same_all-returns-then-not-same_expression : goal.same_all-returns-then-not-same_expression
same_all-returns-then-not-same_expression t c =
    let a = c.args.a.now.items in
    let b = c.args.b.now.items in
    let in_a : c.loop-i.i < length a = subst (λ n. c.loop-i.i < n) (c.len-i-end.ensures ∙ c.args.a.now.ok.0) c.loop-i-test.true in
    let in_b : c.loop-i.i < length b = subst (λ n. c.loop-i.i < n) (c.len-i-end.ensures ∙ sym c.len.ensures ∙ c.if-len.false ∙ c.len-2.ensures ∙ c.args.b.now.ok.0) c.loop-i-test.true in
    lemma.other_here lemma.expressions a b c.loop-i.i c.index.result.now c.index-in-loop-i.result.now in_a in_b c.index.ensures c.index-in-loop-i.ensures c.if-not-same_expression.ensures c.loop-i.invariant

pub same_tests-loop-i-preserved : goal.same_tests-loop-i-preserved
same_tests-loop-i-preserved t c =
    let a = c.args.a.now.items in
    let b = c.args.b.now.items in
    let in_a : c.loop-i.i < length a = subst (λ n. c.loop-i.i < n) (c.len-i-end.ensures ∙ c.args.a.now.ok.0) c.loop-i-test.true in
    let in_b : c.loop-i.i < length b = subst (λ n. c.loop-i.i < n) (c.len-i-end.ensures ∙ sym c.len.ensures ∙ c.if-len.false ∙ c.len-2.ensures ∙ c.args.b.now.ok.0) c.loop-i-test.true in
    lemma.same_here lemma.tests a b c.loop-i.i c.index.result.now c.index-in-loop-i.result.now in_a in_b c.index.ensures c.index-in-loop-i.ensures c.if-not-same_test.ensures c.loop-i.invariant

pub same_tests-returns-then-not-same_test : goal.same_tests-returns-then-not-same_test
same_tests-returns-then-not-same_test t c =
    let a = c.args.a.now.items in
    let b = c.args.b.now.items in
    let in_a : c.loop-i.i < length a = subst (λ n. c.loop-i.i < n) (c.len-i-end.ensures ∙ c.args.a.now.ok.0) c.loop-i-test.true in
    let in_b : c.loop-i.i < length b = subst (λ n. c.loop-i.i < n) (c.len-i-end.ensures ∙ sym c.len.ensures ∙ c.if-len.false ∙ c.len-2.ensures ∙ c.args.b.now.ok.0) c.loop-i-test.true in
    lemma.other_here lemma.tests a b c.loop-i.i c.index.result.now c.index-in-loop-i.result.now in_a in_b c.index.ensures c.index-in-loop-i.ensures c.if-not-same_test.ensures c.loop-i.invariant

pub same_suffixes-loop-i-preserved : goal.same_suffixes-loop-i-preserved
same_suffixes-loop-i-preserved t c =
    let a = c.args.a.now.items in
    let b = c.args.b.now.items in
    let in_a : c.loop-i.i < length a = subst (λ n. c.loop-i.i < n) (c.len-i-end.ensures ∙ c.args.a.now.ok.0) c.loop-i-test.true in
    let in_b : c.loop-i.i < length b = subst (λ n. c.loop-i.i < n) (c.len-i-end.ensures ∙ sym c.len.ensures ∙ c.if-len.false ∙ c.len-2.ensures ∙ c.args.b.now.ok.0) c.loop-i-test.true in
    lemma.same_here lemma.suffixes a b c.loop-i.i c.index.result.now c.index-in-loop-i.result.now in_a in_b c.index.ensures c.index-in-loop-i.ensures c.if-not-same_suffix.ensures c.loop-i.invariant

pub same_suffixes-returns-then-not-same_suffix : goal.same_suffixes-returns-then-not-same_suffix
same_suffixes-returns-then-not-same_suffix t c =
    let a = c.args.a.now.items in
    let b = c.args.b.now.items in
    let in_a : c.loop-i.i < length a = subst (λ n. c.loop-i.i < n) (c.len-i-end.ensures ∙ c.args.a.now.ok.0) c.loop-i-test.true in
    let in_b : c.loop-i.i < length b = subst (λ n. c.loop-i.i < n) (c.len-i-end.ensures ∙ sym c.len.ensures ∙ c.if-len.false ∙ c.len-2.ensures ∙ c.args.b.now.ok.0) c.loop-i-test.true in
    lemma.other_here lemma.suffixes a b c.loop-i.i c.index.result.now c.index-in-loop-i.result.now in_a in_b c.index.ensures c.index-in-loop-i.ensures c.if-not-same_suffix.ensures c.loop-i.invariant

pub same_pairs-loop-i-preserved : goal.same_pairs-loop-i-preserved
same_pairs-loop-i-preserved t c =
    let a = c.args.a.now.items in
    let b = c.args.b.now.items in
    let in_a : c.loop-i.i < length a = subst (λ n. c.loop-i.i < n) (c.len-i-end.ensures ∙ c.args.a.now.ok.0) c.loop-i-test.true in
    let in_b : c.loop-i.i < length b = subst (λ n. c.loop-i.i < n) (c.len-i-end.ensures ∙ sym c.len.ensures ∙ c.if-len.false ∙ c.len-2.ensures ∙ c.args.b.now.ok.0) c.loop-i-test.true in
    let both : c.if-same_name.value ≡ lemma.pairs.same c.index.result.now c.index-in-loop-i.result.now = elim c.if-same_name.branch [
      | goal.same_pairs-then-same_name w ↦ lemma.and_then (sym c.same_name.ensures ∙ w.if-same_name.true) (w.value-is ∙ w.same_expression.ensures)
      | goal.same_pairs-else-same_name w ↦ lemma.and_else _ (sym c.same_name.ensures ∙ w.if-same_name.false) (w.value-is ∙ c.same_name.ensures)
    ] in
    lemma.same_here lemma.pairs a b c.loop-i.i c.index.result.now c.index-in-loop-i.result.now in_a in_b c.index.ensures c.index-in-loop-i.ensures (sym c.if-not-same_expression.false ∙ both) c.loop-i.invariant

pub same_pairs-returns-then-not-same_expression : goal.same_pairs-returns-then-not-same_expression
same_pairs-returns-then-not-same_expression t c =
    let a = c.args.a.now.items in
    let b = c.args.b.now.items in
    let in_a : c.loop-i.i < length a = subst (λ n. c.loop-i.i < n) (c.len-i-end.ensures ∙ c.args.a.now.ok.0) c.loop-i-test.true in
    let in_b : c.loop-i.i < length b = subst (λ n. c.loop-i.i < n) (c.len-i-end.ensures ∙ sym c.len.ensures ∙ c.if-len.false ∙ c.len-2.ensures ∙ c.args.b.now.ok.0) c.loop-i-test.true in
    let both : c.if-same_name.value ≡ lemma.pairs.same c.index.result.now c.index-in-loop-i.result.now = elim c.if-same_name.branch [
      | goal.same_pairs-then-same_name w ↦ lemma.and_then (sym c.same_name.ensures ∙ w.if-same_name.true) (w.value-is ∙ w.same_expression.ensures)
      | goal.same_pairs-else-same_name w ↦ lemma.and_else _ (sym c.same_name.ensures ∙ w.if-same_name.false) (w.value-is ∙ c.same_name.ensures)
    ] in
    lemma.other_here lemma.pairs a b c.loop-i.i c.index.result.now c.index-in-loop-i.result.now in_a in_b c.index.ensures c.index-in-loop-i.ensures (sym c.if-not-same_expression.true ∙ both) c.loop-i.invariant

pub same_whens-loop-i-preserved : goal.same_whens-loop-i-preserved
same_whens-loop-i-preserved t c =
    let a = c.args.a.now.items in
    let b = c.args.b.now.items in
    let in_a : c.loop-i.i < length a = subst (λ n. c.loop-i.i < n) (c.len-i-end.ensures ∙ c.args.a.now.ok.0) c.loop-i-test.true in
    let in_b : c.loop-i.i < length b = subst (λ n. c.loop-i.i < n) (c.len-i-end.ensures ∙ sym c.len.ensures ∙ c.if-len.false ∙ c.len-2.ensures ∙ c.args.b.now.ok.0) c.loop-i-test.true in
    let both : c.if-same_expression.value ≡ lemma.whens.same c.index.result.now c.index-in-loop-i.result.now = elim c.if-same_expression.branch [
      | goal.same_whens-then-same_expression w ↦ lemma.and_then (sym c.same_expression.ensures ∙ w.if-same_expression.true) (w.value-is ∙ w.same_expression-then-same_expression.ensures)
      | goal.same_whens-else-same_expression w ↦ lemma.and_else _ (sym c.same_expression.ensures ∙ w.if-same_expression.false) (w.value-is ∙ c.same_expression.ensures)
    ] in
    lemma.same_here lemma.whens a b c.loop-i.i c.index.result.now c.index-in-loop-i.result.now in_a in_b c.index.ensures c.index-in-loop-i.ensures (sym c.if-not-same_expression.false ∙ both) c.loop-i.invariant

pub same_whens-returns-then-not-same_expression : goal.same_whens-returns-then-not-same_expression
same_whens-returns-then-not-same_expression t c =
    let a = c.args.a.now.items in
    let b = c.args.b.now.items in
    let in_a : c.loop-i.i < length a = subst (λ n. c.loop-i.i < n) (c.len-i-end.ensures ∙ c.args.a.now.ok.0) c.loop-i-test.true in
    let in_b : c.loop-i.i < length b = subst (λ n. c.loop-i.i < n) (c.len-i-end.ensures ∙ sym c.len.ensures ∙ c.if-len.false ∙ c.len-2.ensures ∙ c.args.b.now.ok.0) c.loop-i-test.true in
    let both : c.if-same_expression.value ≡ lemma.whens.same c.index.result.now c.index-in-loop-i.result.now = elim c.if-same_expression.branch [
      | goal.same_whens-then-same_expression w ↦ lemma.and_then (sym c.same_expression.ensures ∙ w.if-same_expression.true) (w.value-is ∙ w.same_expression-then-same_expression.ensures)
      | goal.same_whens-else-same_expression w ↦ lemma.and_else _ (sym c.same_expression.ensures ∙ w.if-same_expression.false) (w.value-is ∙ c.same_expression.ensures)
    ] in
    lemma.other_here lemma.whens a b c.loop-i.i c.index.result.now c.index-in-loop-i.result.now in_a in_b c.index.ensures c.index-in-loop-i.ensures (sym c.if-not-same_expression.true ∙ both) c.loop-i.invariant

pub same_operands-loop-i-preserved : goal.same_operands-loop-i-preserved
same_operands-loop-i-preserved t c =
    let a = c.args.a.now.items in
    let b = c.args.b.now.items in
    let in_a : c.loop-i.i < length a = subst (λ n. c.loop-i.i < n) (c.len-i-end.ensures ∙ c.args.a.now.ok.0) c.loop-i-test.true in
    let in_b : c.loop-i.i < length b = subst (λ n. c.loop-i.i < n) (c.len-i-end.ensures ∙ sym c.len.ensures ∙ c.if-len.false ∙ c.len-2.ensures ∙ c.args.b.now.ok.0) c.loop-i-test.true in
    let both : c.if-operator-other.value ≡ lemma.operands.same c.index.result.now c.index-in-loop-i.result.now = elim c.if-operator-other.branch [
      | goal.same_operands-then-operator-other w ↦ lemma.and_then w.if-operator-other.true (w.value-is ∙ w.same_expression.ensures)
      | goal.same_operands-else-operator-other w ↦ lemma.and_else _ w.if-operator-other.false w.value-is
    ] in
    lemma.same_here lemma.operands a b c.loop-i.i c.index.result.now c.index-in-loop-i.result.now in_a in_b c.index.ensures c.index-in-loop-i.ensures (sym c.if-not-same_expression.false ∙ both) c.loop-i.invariant

pub same_operands-returns-then-not-same_expression : goal.same_operands-returns-then-not-same_expression
same_operands-returns-then-not-same_expression t c =
    let a = c.args.a.now.items in
    let b = c.args.b.now.items in
    let in_a : c.loop-i.i < length a = subst (λ n. c.loop-i.i < n) (c.len-i-end.ensures ∙ c.args.a.now.ok.0) c.loop-i-test.true in
    let in_b : c.loop-i.i < length b = subst (λ n. c.loop-i.i < n) (c.len-i-end.ensures ∙ sym c.len.ensures ∙ c.if-len.false ∙ c.len-2.ensures ∙ c.args.b.now.ok.0) c.loop-i-test.true in
    let both : c.if-operator-other.value ≡ lemma.operands.same c.index.result.now c.index-in-loop-i.result.now = elim c.if-operator-other.branch [
      | goal.same_operands-then-operator-other w ↦ lemma.and_then w.if-operator-other.true (w.value-is ∙ w.same_expression.ensures)
      | goal.same_operands-else-operator-other w ↦ lemma.and_else _ w.if-operator-other.false w.value-is
    ] in
    lemma.other_here lemma.operands a b c.loop-i.i c.index.result.now c.index-in-loop-i.result.now in_a in_b c.index.ensures c.index-in-loop-i.ensures (sym c.if-not-same_expression.true ∙ both) c.loop-i.invariant

pub same_all-returns-then-len : goal.same_all-returns-then-len
same_all-returns-then-len t c = lemma.others lemma.expressions c.args.a.now.items c.args.b.now.items (c.len.ensures ∙ c.args.a.now.ok.0) (c.len-2.ensures ∙ c.args.b.now.ok.0) c.if-len.true

pub same_all-loop-i-init : goal.same_all-loop-i-init
same_all-loop-i-init t c = refl

pub same_all-index-requires : goal.same_all-index-requires
same_all-index-requires t c = subst (λ n. c.loop-i.i < n) c.len-i-end.ensures c.loop-i-test.true

pub same_all-index-requires-in-loop-i : goal.same_all-index-requires-in-loop-i
same_all-index-requires-in-loop-i t c = subst (λ n. c.loop-i.i < n) (c.len-i-end.ensures ∙ sym c.len.ensures ∙ c.if-len.false ∙ c.len-2.ensures) c.loop-i-test.true

pub same_all-returns : goal.same_all-returns
same_all-returns t c =
    let same = sym c.args.a.now.ok.0 ∙ sym c.len.ensures ∙ c.if-len.false ∙ c.len-2.ensures ∙ c.args.b.now.ok.0 in
    lemma.all_gone lemma.expressions c.args.a.now.items c.args.b.now.items c.loop-i.i (subst (λ n. n ≤ c.loop-i.i) (c.len-i-end.ensures ∙ c.args.a.now.ok.0) c.loop-i-test.false) same c.loop-i.invariant

pub same_pairs-returns-then-len : goal.same_pairs-returns-then-len
same_pairs-returns-then-len t c = lemma.others lemma.pairs c.args.a.now.items c.args.b.now.items (c.len.ensures ∙ c.args.a.now.ok.0) (c.len-2.ensures ∙ c.args.b.now.ok.0) c.if-len.true

pub same_pairs-loop-i-init : goal.same_pairs-loop-i-init
same_pairs-loop-i-init t c = refl

pub same_pairs-index-requires : goal.same_pairs-index-requires
same_pairs-index-requires t c = subst (λ n. c.loop-i.i < n) c.len-i-end.ensures c.loop-i-test.true

pub same_pairs-index-requires-in-loop-i : goal.same_pairs-index-requires-in-loop-i
same_pairs-index-requires-in-loop-i t c = subst (λ n. c.loop-i.i < n) (c.len-i-end.ensures ∙ sym c.len.ensures ∙ c.if-len.false ∙ c.len-2.ensures) c.loop-i-test.true

pub same_pairs-returns : goal.same_pairs-returns
same_pairs-returns t c =
    let same = sym c.args.a.now.ok.0 ∙ sym c.len.ensures ∙ c.if-len.false ∙ c.len-2.ensures ∙ c.args.b.now.ok.0 in
    lemma.all_gone lemma.pairs c.args.a.now.items c.args.b.now.items c.loop-i.i (subst (λ n. n ≤ c.loop-i.i) (c.len-i-end.ensures ∙ c.args.a.now.ok.0) c.loop-i-test.false) same c.loop-i.invariant

pub same_whens-returns-then-len : goal.same_whens-returns-then-len
same_whens-returns-then-len t c = lemma.others lemma.whens c.args.a.now.items c.args.b.now.items (c.len.ensures ∙ c.args.a.now.ok.0) (c.len-2.ensures ∙ c.args.b.now.ok.0) c.if-len.true

pub same_whens-loop-i-init : goal.same_whens-loop-i-init
same_whens-loop-i-init t c = refl

pub same_whens-index-requires : goal.same_whens-index-requires
same_whens-index-requires t c = subst (λ n. c.loop-i.i < n) c.len-i-end.ensures c.loop-i-test.true

pub same_whens-index-requires-in-loop-i : goal.same_whens-index-requires-in-loop-i
same_whens-index-requires-in-loop-i t c = subst (λ n. c.loop-i.i < n) (c.len-i-end.ensures ∙ sym c.len.ensures ∙ c.if-len.false ∙ c.len-2.ensures) c.loop-i-test.true

pub same_whens-returns : goal.same_whens-returns
same_whens-returns t c =
    let same = sym c.args.a.now.ok.0 ∙ sym c.len.ensures ∙ c.if-len.false ∙ c.len-2.ensures ∙ c.args.b.now.ok.0 in
    lemma.all_gone lemma.whens c.args.a.now.items c.args.b.now.items c.loop-i.i (subst (λ n. n ≤ c.loop-i.i) (c.len-i-end.ensures ∙ c.args.a.now.ok.0) c.loop-i-test.false) same c.loop-i.invariant

pub same_operands-returns-then-len : goal.same_operands-returns-then-len
same_operands-returns-then-len t c = lemma.others lemma.operands c.args.a.now.items c.args.b.now.items (c.len.ensures ∙ c.args.a.now.ok.0) (c.len-2.ensures ∙ c.args.b.now.ok.0) c.if-len.true

pub same_operands-loop-i-init : goal.same_operands-loop-i-init
same_operands-loop-i-init t c = refl

pub same_operands-index-requires : goal.same_operands-index-requires
same_operands-index-requires t c = subst (λ n. c.loop-i.i < n) c.len-i-end.ensures c.loop-i-test.true

pub same_operands-index-requires-in-loop-i : goal.same_operands-index-requires-in-loop-i
same_operands-index-requires-in-loop-i t c = subst (λ n. c.loop-i.i < n) (c.len-i-end.ensures ∙ sym c.len.ensures ∙ c.if-len.false ∙ c.len-2.ensures) c.loop-i-test.true

pub same_operands-returns : goal.same_operands-returns
same_operands-returns t c =
    let same = sym c.args.a.now.ok.0 ∙ sym c.len.ensures ∙ c.if-len.false ∙ c.len-2.ensures ∙ c.args.b.now.ok.0 in
    lemma.all_gone lemma.operands c.args.a.now.items c.args.b.now.items c.loop-i.i (subst (λ n. n ≤ c.loop-i.i) (c.len-i-end.ensures ∙ c.args.a.now.ok.0) c.loop-i-test.false) same c.loop-i.invariant

pub same_tests-returns-then-len : goal.same_tests-returns-then-len
same_tests-returns-then-len t c = lemma.others lemma.tests c.args.a.now.items c.args.b.now.items (c.len.ensures ∙ c.args.a.now.ok.0) (c.len-2.ensures ∙ c.args.b.now.ok.0) c.if-len.true

pub same_tests-loop-i-init : goal.same_tests-loop-i-init
same_tests-loop-i-init t c = refl

pub same_tests-index-requires : goal.same_tests-index-requires
same_tests-index-requires t c = subst (λ n. c.loop-i.i < n) c.len-i-end.ensures c.loop-i-test.true

pub same_tests-index-requires-in-loop-i : goal.same_tests-index-requires-in-loop-i
same_tests-index-requires-in-loop-i t c = subst (λ n. c.loop-i.i < n) (c.len-i-end.ensures ∙ sym c.len.ensures ∙ c.if-len.false ∙ c.len-2.ensures) c.loop-i-test.true

pub same_tests-returns : goal.same_tests-returns
same_tests-returns t c =
    let same = sym c.args.a.now.ok.0 ∙ sym c.len.ensures ∙ c.if-len.false ∙ c.len-2.ensures ∙ c.args.b.now.ok.0 in
    lemma.all_gone lemma.tests c.args.a.now.items c.args.b.now.items c.loop-i.i (subst (λ n. n ≤ c.loop-i.i) (c.len-i-end.ensures ∙ c.args.a.now.ok.0) c.loop-i-test.false) same c.loop-i.invariant

pub same_suffixes-returns-then-len : goal.same_suffixes-returns-then-len
same_suffixes-returns-then-len t c = lemma.others lemma.suffixes c.args.a.now.items c.args.b.now.items (c.len.ensures ∙ c.args.a.now.ok.0) (c.len-2.ensures ∙ c.args.b.now.ok.0) c.if-len.true

pub same_suffixes-loop-i-init : goal.same_suffixes-loop-i-init
same_suffixes-loop-i-init t c = refl

pub same_suffixes-index-requires : goal.same_suffixes-index-requires
same_suffixes-index-requires t c = subst (λ n. c.loop-i.i < n) c.len-i-end.ensures c.loop-i-test.true

pub same_suffixes-index-requires-in-loop-i : goal.same_suffixes-index-requires-in-loop-i
same_suffixes-index-requires-in-loop-i t c = subst (λ n. c.loop-i.i < n) (c.len-i-end.ensures ∙ sym c.len.ensures ∙ c.if-len.false ∙ c.len-2.ensures) c.loop-i-test.true

pub same_suffixes-returns : goal.same_suffixes-returns
same_suffixes-returns t c =
    let same = sym c.args.a.now.ok.0 ∙ sym c.len.ensures ∙ c.if-len.false ∙ c.len-2.ensures ∙ c.args.b.now.ok.0 in
    lemma.all_gone lemma.suffixes c.args.a.now.items c.args.b.now.items c.loop-i.i (subst (λ n. n ≤ c.loop-i.i) (c.len-i-end.ensures ∙ c.args.a.now.ok.0) c.loop-i-test.false) same c.loop-i.invariant

pub same_expression-returns-in_default : goal.same_expression-returns-in_default
same_expression-returns-in_default t c = other.other_literal c.in-Literal.a c.in-Literal.is c.in_default.not-Literal

pub same_expression-returns-in_default-b : goal.same_expression-returns-in_default-b
same_expression-returns-in_default-b t c = other.other_parameter c.in-Parameter.a c.in-Parameter.is c.in_default-b.not-Parameter

pub same_expression-returns-in_default-b-2 : goal.same_expression-returns-in_default-b-2
same_expression-returns-in_default-b-2 t c = other.other_variable c.in-Variable.a c.in-Variable.is c.in_default-b-2.not-Variable

pub same_expression-returns-in_default-b-3 : goal.same_expression-returns-in_default-b-3
same_expression-returns-in_default-b-3 t c = other.other_list_literal c.in-ListLiteral.a c.in-ListLiteral.is c.in_default-b-3.not-ListLiteral

pub same_expression-returns-in_default-b-4 : goal.same_expression-returns-in_default-b-4
same_expression-returns-in_default-b-4 t c = other.other_map_literal c.in-MapLiteral.a c.in-MapLiteral.is c.in_default-b-4.not-MapLiteral

pub same_expression-returns-in_default-b-5 : goal.same_expression-returns-in_default-b-5
same_expression-returns-in_default-b-5 t c = other.other_parentheses c.in-Parentheses.a c.in-Parentheses.is c.in_default-b-5.not-Parentheses

pub same_expression-returns-in_default-b-6 : goal.same_expression-returns-in_default-b-6
same_expression-returns-in_default-b-6 t c = other.other_call c.in-Call.a c.in-Call.star c.in-Call.distinct c.in-Call.xs c.in-Call.is c.in_default-b-6.not-Call

pub same_expression-returns-in_default-b-7 : goal.same_expression-returns-in_default-b-7
same_expression-returns-in_default-b-7 t c = other.other_case c.in-Case.a c.in-Case.whens c.in-Case.x c.in-Case.is c.in_default-b-7.not-Case

pub same_expression-returns-in_default-b-8 : goal.same_expression-returns-in_default-b-8
same_expression-returns-in_default-b-8 t c = other.other_chain c.in-Chain.a c.in-Chain.xs c.in-Chain.is c.in_default-b-8.not-Chain

pub same_expression-returns-in_default-b-9 : goal.same_expression-returns-in_default-b-9
same_expression-returns-in_default-b-9 t c = other.other_negation c.in-Negation.n c.in-Negation.a c.in-Negation.is c.in_default-b-9.not-Negation

pub same_expression-returns-in_default-b-10 : goal.same_expression-returns-in_default-b-10
same_expression-returns-in_default-b-10 t c = other.other_signs c.in-Signs.xs c.in-Signs.a c.in-Signs.is c.in_default-b-10.not-Signs

pub same_expression-returns-in_default-b-11 : goal.same_expression-returns-in_default-b-11
same_expression-returns-in_default-b-11 t c = other.other_tests c.in-Tests.a c.in-Tests.xs c.in-Tests.is c.in_default-b-11.not-Tests

pub same_expression-returns-in_default-b-12 : goal.same_expression-returns-in_default-b-12
same_expression-returns-in_default-b-12 t c = other.other_suffixes c.in-Suffixes.a c.in-Suffixes.xs c.in-Suffixes.ls c.in-Suffixes.is c.in_default-b-12.not-Suffixes

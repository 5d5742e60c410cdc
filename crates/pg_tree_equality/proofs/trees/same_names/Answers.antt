use Rattle.std.proofs.Common.{◌<◌, ◌≤◌, length, refl, sym, subst, ◌∙◌}
use Rattle.pg_tree_equality.proofs.TreeLemmas as lemma
use Rattle.pg_tree_equality.proofs.trees.same_names.Goals as goal

pub returns-then-len : goal.returns-then-len
returns-then-len c = lemma.others lemma.names c.args.a.now.items c.args.b.now.items (c.len.ensures ∙ c.args.a.now.ok.0) (c.len-2.ensures ∙ c.args.b.now.ok.0) c.if-len.true

pub loop-i-init : goal.loop-i-init
loop-i-init c = refl

pub index-requires : goal.index-requires
index-requires c = subst (λ n. c.loop-i.i < n) c.len-i-end.ensures c.loop-i-test.true

pub index-requires-in-loop-i : goal.index-requires-in-loop-i
index-requires-in-loop-i c = subst (λ n. c.loop-i.i < n) (c.len-i-end.ensures ∙ sym c.len.ensures ∙ c.if-len.false ∙ c.len-2.ensures) c.loop-i-test.true

pub loop-i-preserved : goal.loop-i-preserved
loop-i-preserved c =
    let a = c.args.a.now.items in
    let b = c.args.b.now.items in
    let in_a : c.loop-i.i < length a = subst (λ n. c.loop-i.i < n) (c.len-i-end.ensures ∙ c.args.a.now.ok.0) c.loop-i-test.true in
    let in_b : c.loop-i.i < length b = subst (λ n. c.loop-i.i < n) (c.len-i-end.ensures ∙ sym c.len.ensures ∙ c.if-len.false ∙ c.len-2.ensures ∙ c.args.b.now.ok.0) c.loop-i-test.true in
    lemma.same_here lemma.names a b c.loop-i.i c.index.result.now c.index-in-loop-i.result.now in_a in_b c.index.ensures c.index-in-loop-i.ensures c.if-not-same_name.ensures c.loop-i.invariant

pub returns-then-not-same_name : goal.returns-then-not-same_name
returns-then-not-same_name c =
    let a = c.args.a.now.items in
    let b = c.args.b.now.items in
    let in_a : c.loop-i.i < length a = subst (λ n. c.loop-i.i < n) (c.len-i-end.ensures ∙ c.args.a.now.ok.0) c.loop-i-test.true in
    let in_b : c.loop-i.i < length b = subst (λ n. c.loop-i.i < n) (c.len-i-end.ensures ∙ sym c.len.ensures ∙ c.if-len.false ∙ c.len-2.ensures ∙ c.args.b.now.ok.0) c.loop-i-test.true in
    lemma.other_here lemma.names a b c.loop-i.i c.index.result.now c.index-in-loop-i.result.now in_a in_b c.index.ensures c.index-in-loop-i.ensures c.if-not-same_name.ensures c.loop-i.invariant

pub returns : goal.returns
returns c =
    let same = sym c.args.a.now.ok.0 ∙ sym c.len.ensures ∙ c.if-len.false ∙ c.len-2.ensures ∙ c.args.b.now.ok.0 in
    lemma.all_gone lemma.names c.args.a.now.items c.args.b.now.items c.loop-i.i (subst (λ n. n ≤ c.loop-i.i) (c.len-i-end.ensures ∙ c.args.a.now.ok.0) c.loop-i-test.false) same c.loop-i.invariant

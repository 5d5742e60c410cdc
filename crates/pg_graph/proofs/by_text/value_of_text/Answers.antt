use Rattle.std.proofs.Common.{◌≡◌, ◌+◌, ◌&&◌, not, ℕ, Bool, cond, List, ◌∷◌, drop, map as map_list, Some, arith, sym, ap, subst, ◌∙◌}
use Rattle.std.proofs.lemmas.List.{drop_more}
use Rattle.std.specs.Str.{bytes_eq}
use Rattle.pg_graph.proofs.Named.{entry_is_read}
use Rattle.pg_graph.proofs.by_text.value_of_text.Goals as goal
use Rattle.pg_graph.specs.Blank.{is_null}
use Rattle.pg_graph.specs.Records.{seen_entries}
use Rattle.pg_graph.specs.Refinement.{text_of, named_entries, AreNamed}
use Rattle.pg_meaning.specs.Entries.{at_key}
use Rattle.pg_value_core.specs.View.{view}
use Rattle.pg_value_core.specs.declared.value.Value.{Value}

-- what is read of the entries from a place on, by the one at the place
read_from : (names : List (List ℕ)) (text : List ℕ) (es : List (ℕ × Value)) (i : ℕ) (e : ℕ × Value) (b : Bool)
    → drop i es ≡ e ∷ drop (i + 1) es → b ≡ (bytes_eq text (text_of names e.0) && not (is_null (view e.1)))
    → at_key text (named_entries names (seen_entries (drop i es))) ≡ cond b (Some (view e.1)) (at_key text (named_entries names (seen_entries (drop (i + 1) es))))
read_from names text es i e b at is =
    ap (λ xs. at_key text (named_entries names (seen_entries xs))) at
    ∙ entry_is_read names text e.0 (view e.1) (seen_entries (drop (i + 1) es))
    ∙ ap (λ c. cond c (Some (view e.1)) (at_key text (named_entries names (seen_entries (drop (i + 1) es))))) (sym is)

pub returns-then-is_shown_at : goal.returns-then-is_shown_at
returns-then-is_shown_at g c =
    let es = c.args.entries.now in
    let i = c.loop-name.name-index in
    let e = c.loop-name-item.result in
    let at : drop i es ≡ e ∷ drop (i + 1) es = drop_more es i e (omega arith) ∙ ap (λ y. y ∷ drop (i + 1) es) (sym c.loop-name-item.is) in
    sym
    (c.loop-name.invariant.1
    ∙ read_from c.args.names.now c.args.key.now es i e c.is_shown_at.result at c.is_shown_at.ensures
    ∙ ap (λ b. cond b (Some (view e.1)) (at_key c.args.key.now (named_entries c.args.names.now (seen_entries (drop (i + 1) es))))) c.if-is_shown_at.true)

pub loop-name-preserved : goal.loop-name-preserved
loop-name-preserved g c =
    let es = c.args.entries.now in
    let i = c.loop-name.name-index in
    let e = c.loop-name-item.result in
    let at : drop i es ≡ e ∷ drop (i + 1) es = drop_more es i e (omega arith) ∙ ap (λ y. y ∷ drop (i + 1) es) (sym c.loop-name-item.is) in (
      (subst (λ (xs : List (ℕ × Value)). AreNamed c.args.names.now (map_list (λ e. e.0) (seen_entries xs))) at c.loop-name.invariant.0).1,
      c.loop-name.invariant.1
          ∙ read_from c.args.names.now c.args.key.now es i e c.is_shown_at.result at c.is_shown_at.ensures
          ∙ ap (λ b. cond b (Some (view e.1)) (at_key c.args.key.now (named_entries c.args.names.now (seen_entries (drop (i + 1) es))))) c.if-is_shown_at.false,
    )

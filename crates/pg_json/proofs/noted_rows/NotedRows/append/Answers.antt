use Rattle.std.proofs.Common.{◌≡◌, [], ◌∷◌, ◌++◌, length, arith, sym, ap, ◌∙◌}
use Rattle.pg_json.proofs.Writing.{cut_pushed}
use Rattle.pg_json.specs.Joined.{comma_behind}
use Rattle.pg_json.proofs.noted_rows.NotedRows.append.Goals as goal

pub invariant_of-self-2 : goal.invariant_of-self-2
invariant_of-self-2 c =
    let place : c.len.result ≡ length c.extend_from_slice.new.self.items = omega arith in
    cut_pushed c.self.inside.text.items c.self.inside.row_ends.items _ _ c.args.printed.now _ c.requires.0 c.in_ok-extend_from_slice.ensures.items
    (c.requires.1 ∙ ap (λ es. comma_behind es ++ c.requires.0) (sym (ap (λ q. q.row_ends) c.self.view_is)))
    (c.in_ok-push.ensures.items ∙ ap (λ es. es ++ c.len.result ∷ []) c.reserve.ensures.items ∙ ap (λ n. c.self.inside.row_ends.items ++ n ∷ []) place) c.self.invariant

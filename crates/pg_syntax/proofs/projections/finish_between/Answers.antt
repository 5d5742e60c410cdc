use Rattle.std.proofs.Common.{◌≡◌, ℕ, ◌-◌, ◌<◌, ◌≤◌, length, sym, ap, ◌∙◌, arith}
use Rattle.std.proofs.lemmas.Bool.Decides.{nat_tests}
use Rattle.std.proofs.lemmas.List.{length-map}
use Rattle.std.specs.Prelude.{slice_get}
use Rattle.pg_lex.specs.View.{token_view, tokens_view}
use Rattle.pg_meaning.specs.Parse.{finish_of, finish_between}
use Rattle.pg_syntax.proofs.Ends.{found_at, none_at}
use Rattle.pg_syntax.proofs.projections.finish_between.Goals as goal

pub returns-in-Some : goal.returns-in-Some
unfolding finish_between
returns-in-Some c =
    let within : c.saturating_sub.result < length c.args.old.now = grind (arith, nat_tests, c.in-Some.ensures.lookup.0) in
    let here : c.saturating_sub.result ≡ (length (tokens_view c.args.old.now) - length (tokens_view c.args.new.now)) - 1 =
    omega (arith, c.saturating_sub.ensures, c.saturating_sub-taken.ensures, length-map c.args.old.now token_view, length-map c.args.new.now token_view) in
    sym (found_at c.args.old.now c.saturating_sub.result c.in-Some.token.now within c.in-Some.ensures.lookup.1) ∙ ap (λ (i : ℕ). finish_of (slice_get (tokens_view c.args.old.now) i)) here

pub returns-in-None : goal.returns-in-None
unfolding finish_between
returns-in-None c =
    let past : length c.args.old.now ≤ c.saturating_sub.result = grind (arith, nat_tests, c.in-None.ensures.lookup.0) in
    let here : c.saturating_sub.result ≡ (length (tokens_view c.args.old.now) - length (tokens_view c.args.new.now)) - 1 =
    omega (arith, c.saturating_sub.ensures, c.saturating_sub-taken.ensures, length-map c.args.old.now token_view, length-map c.args.new.now token_view) in
    sym (none_at c.args.old.now c.saturating_sub.result past) ∙ ap (λ (i : ℕ). finish_of (slice_get (tokens_view c.args.old.now) i)) here

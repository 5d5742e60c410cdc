-- Function values that parse.
use Rattle.std.specs.Prelude.{ℕ, Result}
use Rattle.std.specs.declared.alloc.Global.{Global}
use denote.Ref.{MutBor}
use Rattle.pg_lex.specs.View.{tokens_view}
use Rattle.pg_syntax_tree.specs.View.{expression_view}
use Rattle.pg_syntax_tree.specs.declared.expression.Expression.{Expression}
use Rattle.pg_meaning.specs.Parse.{expr}
use Rattle.pg_syntax_tokens.specs.Gives.{Gives}
use Rattle.pg_syntax_tokens.specs.declared.cursor.Tokens.{Tokens}
use Rattle.pg_syntax_tokens.specs.declared.error.ParseError.{ParseError}

-- expressions to a depth
pub record Nests (depth : ℕ) (pre : Global → MutBor Tokens → ℕ → Type 0) (post : Global → MutBor Tokens → ℕ → Result Expression ParseError → MutBor Tokens → Type 0) : Type 0 where
  pub callable : (alloc : Global) (old : MutBor Tokens) → pre alloc old depth
  pub gives : (alloc : Global) (old new : MutBor Tokens) (r : Result Expression ParseError) → post alloc old depth r new → Gives expression_view (expr depth (tokens_view old.now.rest.now)) r new.now.rest.now

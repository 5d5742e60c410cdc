use Rattle.std.proofs.Common.{◌∙◌, ◌++◌, sym, ap, subst, map}
use Rattle.std.proofs.lemmas.List.{append-nil}
use Rattle.pg_meaning.specs.Scopes.{column_names}
use Rattle.pg_scope.proofs.ProjectionLemmas.{names_alone, names_with_star}
use Rattle.pg_scope.specs.Columns.{column_of}
use Rattle.pg_scope.specs.Names.{names_in, HasSame}
use Rattle.pg_syntax_tree.specs.View.{projection_view}
use Rattle.pg_scope.proofs.behind.behind_projection.Goals as goal

pub returns-then-is_some : goal.returns-then-is_some
returns-then-is_some c =
    names_with_star c.args.naming (names_in c.args.scope) (projection_view c.args.projection.now) (sym c.is_some.ensures ∙ c.if-is_some.true) c.in_ok-add_columns.ensures

pub returns : goal.returns
returns c =
    let p = projection_view c.args.projection.now in
    let own = column_names (map (column_of c.args.naming) p.items) in
    let none = ap (λ ks. own ++ map (λ k. k.now) ks) c.new-names.ensures.empty ∙ append-nil own in
    names_alone c.args.naming (names_in c.args.scope) p (sym c.is_some.ensures ∙ c.if-is_some.false) (subst (HasSame (names_in c.add_columns-2.new.names)) none c.in_ok-add_columns-2.ensures)

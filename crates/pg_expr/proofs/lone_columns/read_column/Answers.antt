use Rattle.std.proofs.Common.{◌≡◌, sym, ap, subst}
use Rattle.pg_expr.proofs.ColumnReads.{if_found, property_reads, variable_reads}
use Rattle.pg_expr.specs.LoneColumns.{ReadsColumn}
use Rattle.pg_expr.specs.Prepared.{form_tree, tree_of}
use Rattle.pg_expr.specs.Reads.{property_read}
use Rattle.pg_meaning.specs.Tree.{variable}
use Rattle.pg_syntax_tree.specs.View.{name_view}
use Rattle.pg_expr.proofs.lone_columns.read_column.Goals as goal

pub returns-in-Column : goal.returns-in-Column
returns-in-Column c =
    let names = c.args.names.now in
    let x = name_view c.in-Column.name.now in
    let e = tree_of names c.args.prepared.now in
    let is : e ≡ variable x = ap form_tree c.in-Column.is in
    if_found x.text c.as_str.result.now names e c.find_near.result c.as_str.ensures.value c.find_near.ensures
    (λ at first. subst (λ t. ReadsColumn names t at) (sym is) (variable_reads x names at first))

pub returns-in-Property : goal.returns-in-Property
returns-in-Property c =
    let names = c.args.names.now in
    let x = name_view c.in-Property.name.now in
    let key = name_view c.in-Property.field-1.now in
    let e = tree_of names c.args.prepared.now in
    let is : e ≡ property_read x key = ap form_tree c.in-Property.is in
    if_found x.text c.as_str-in-Property.result.now names e c.find_near-in-Property.result c.as_str-in-Property.ensures.value c.find_near-in-Property.ensures
    (λ at first. subst (λ t. ReadsColumn names t at) (sym is) (property_reads x names at first key))

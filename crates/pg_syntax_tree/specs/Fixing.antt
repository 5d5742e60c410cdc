-- What a conjunct fixes, part by part.
use Rattle.std.specs.Prelude.{ℕ, Bool, true, false, cond, ◌&&◌, List, [], Option, Some, None}
use Rattle.pg_meaning.specs.Plans.{is_constant}
use Rattle.pg_meaning.specs.Plans as plans
use Rattle.pg_meaning.specs.Tree.{Expression, variable, suffixes, Operands, operand, no_operands, Suffixes, property, no_suffixes}
use Rattle.pg_meaning.specs.declared.operators.Operator.{Operator}
use Rattle.pg_meaning.specs.declared.operators.Operator.TheVariants.{Equal}
use Rattle.pg_syntax_tree.specs.View.{expression_view}
use Rattle.pg_syntax_tree.specs.declared.fixing.Fixed.{Fixed}

abbrev pub fixed_view : Fixed → plans.Fixed
fixed_view f = record { name = f.name.now; key = f.key.now; value = expression_view f.value.now }

abbrev pub variable_in : Expression → Option (List ℕ)
variable_in (variable n) = Some n.text
variable_in e = None

abbrev pub key_in : Suffixes → Option (List ℕ)
key_in (property k no_suffixes) = Some k.text
key_in ss = None

abbrev pub of_both : Option (List ℕ) → Option (List ℕ) → Option (List ℕ × List ℕ)
of_both (Some n) (Some k) = Some (n, k)
of_both n k = None

abbrev pub property_in : Expression → Option (List ℕ × List ℕ)
property_in (suffixes e ss []) = of_both (variable_in e) (key_in ss)
property_in e = None

abbrev pub is_equality : Operator → Bool
is_equality Equal = true
is_equality op = false

abbrev pub constant_in : Operands → Option Expression
constant_in (operand op c no_operands) = cond (is_equality op && is_constant c) (Some c) None
constant_in os = None

abbrev pub fixing : Option (List ℕ × List ℕ) → Option Expression → Option plans.Fixed
fixing (Some p) (Some c) = Some (record { name = p.0; key = p.1; value = c })
fixing p c = None

-- Which variables an expression, and a projection, reads, and rows that agree on them.
use Rattle.std.specs.Prelude.{◌≡◌, ℕ, Bool, true, false, List, Option, Some, None, ◌||◌, bytes_eq}
use Rattle.std.specs.List.{AllZip, list_any}
use Rattle.pg_meaning.specs.Rows.{Row, value_in}
use Rattle.pg_meaning.specs.Tree.{Expression, literal, parameter, variable, list_literal, map_literal, parentheses, call, case, chain, negation, signs, tests, suffixes, Expressions, no_expressions, expression, Pairs, no_pairs, pair, Perhaps, absent, present, Whens, no_whens, when, Operands, no_operands, operand, Tests, no_tests, text_test, null_test, Suffixes, no_suffixes, property, index, Item, SortItem, Projection}

module _ (name : List ℕ) where
  abbrev mutual
    pub reads : Expression → Bool
    reads (variable x) = bytes_eq x.text name
    reads (list_literal es) = any_reads es
    reads (map_literal ps) = pairs_read ps
    reads (parentheses e) = reads e
    reads (call f star distinct es) = any_reads es
    reads (case subject ws otherwise) = perhaps_reads subject || (whens_read ws || perhaps_reads otherwise)
    reads (chain e os) = reads e || operands_read os
    reads (negation n e) = reads e
    reads (signs ss e) = reads e
    reads (tests e ts) = reads e || tests_read ts
    reads (suffixes e ss ls) = reads e || suffixes_read ss
    reads (literal v) = false
    reads (parameter p) = false

    pub any_reads : Expressions → Bool
    any_reads no_expressions = false
    any_reads (expression e es) = reads e || any_reads es

    pub pairs_read : Pairs → Bool
    pairs_read no_pairs = false
    pairs_read (pair k e ps) = reads e || pairs_read ps

    pub perhaps_reads : Perhaps → Bool
    perhaps_reads absent = false
    perhaps_reads (present e) = reads e

    pub whens_read : Whens → Bool
    whens_read no_whens = false
    whens_read (when c e ws) = reads c || (reads e || whens_read ws)

    pub operands_read : Operands → Bool
    operands_read no_operands = false
    operands_read (operand o e os) = reads e || operands_read os

    pub tests_read : Tests → Bool
    tests_read no_tests = false
    tests_read (text_test test e ts) = reads e || tests_read ts
    tests_read (null_test is_negated ts) = tests_read ts

    pub suffixes_read : Suffixes → Bool
    suffixes_read no_suffixes = false
    suffixes_read (property k ss) = suffixes_read ss
    suffixes_read (index e ss) = reads e || suffixes_read ss

  -- the items and the sorts; SKIP and LIMIT read no variable
  abbrev pub projection_reads : Projection → Bool
  projection_reads p = list_any (λ (i : Item). reads i.value) p.items || list_any (λ (o : SortItem). reads o.key) p.order

-- both rows have the same under each of these names
abbrev pub AgreeOn : (names : List ℕ → Bool) → Row → Row → Type 0
AgreeOn names row other = (name : List ℕ) → names name ≡ true → value_in name row ≡ value_in name other

-- as many rows, each of which agrees with its own on what a projection reads
abbrev pub ReadAlike : Projection → List Row → List Row → Type 0
ReadAlike p rows others = AllZip (AgreeOn (λ x. projection_reads x p)) rows others

-- a condition that may be missing
abbrev pub condition_reads : List ℕ → Option Expression → Bool
condition_reads name None = false
condition_reads name (Some e) = reads name e

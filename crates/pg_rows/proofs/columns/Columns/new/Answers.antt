use Rattle.std.proofs.Common.{map, string_bytes, sym, ap, subst}
use Rattle.pg_rows.proofs.FirstNames.{no_firsts}
use Rattle.pg_rows.proofs.Rising.{none_rise}
use Rattle.pg_rows.specs.Named.{AreFirsts}
use Rattle.pg_rows.specs.Rising.{FirstRise}
use Rattle.pg_rows.proofs.columns.Columns.new.Goals as goal

pub invariant_of-result : goal.invariant_of-result
invariant_of-result c = subst (λ names. FirstRise 0 names × AreFirsts 0 names) (sym (ap (map string_bytes) c.new.ensures.items)) (none_rise, no_firsts)

use Rattle.std.proofs.Common.{◌-◌, ℕ, List, map as map_list, arith, refl, sym, subst, ◌∙◌}
use Rattle.pg_graph.proofs.InOrder.{key_named, one_more}
use Rattle.pg_graph.proofs.NamedChanges.{text_is}
use Rattle.pg_graph.proofs.properties.Properties.by_text.Goals as goal
use Rattle.pg_graph.specs.Refinement.{AreNamed}
use Rattle.pg_meaning.specs.Value as meaning

pub text-requires : goal.text-requires
text-requires g c =
    let es = c.entries-entries.result.now in
    let i = c.loop-left.left - 1 in
    let named = subst (λ (xs : List (ℕ × meaning.Value)). AreNamed c.args.names.now (map_list (λ e. e.0) xs)) (sym c.entries-entries.ensures) c.requires in
    key_named c.args.names.now es i c.index-entries-left.result named (omega arith) c.index-entries-left.is

pub loop-left-preserved : goal.loop-left-preserved
loop-left-preserved g c =
    let e = c.index-entries-left.result in
    record {
      within = omega arith;
      found = c.in_ok-put_copy.ensures
          ∙ one_more c.args.names.now c.entries-entries.result.now (c.loop-left.left - 1) c.loop-left.left e _ _ _ (omega arith) (omega arith) c.index-entries-left.is
          (sym (text_is c.args.names.now e.0 _ c.text.ensures)) refl c.loop-left.invariant.found;
    }

use Rattle.std.proofs.Common.{◌≡◌, ◌<◌, ◌+◌, ◌-◌, ℕ, length, arith, refl, sym, ap, ◌∙◌}
use Rattle.pg_graph.proofs.InOrder.{key_named, one_more}
use Rattle.pg_graph.proofs.NamedChanges.{text_is}
use Rattle.pg_graph.proofs.in_order.all_in_order.Goals as goal

pub text-requires : goal.text-requires
text-requires g c = key_named c.args.names.now c.args.entries.now (c.loop-left.left - 1) c.index-entries-left.result c.requires (omega arith) c.index-entries-left.is

pub loop-left-preserved : goal.loop-left-preserved
loop-left-preserved g c =
    let e = c.index-entries-left.result in
    record {
      within = omega arith;
      found = c.in_ok-put_in_map.ensures
          ∙ one_more c.args.names.now c.args.entries.now (c.loop-left.left - 1) c.loop-left.left e _ _ _ (omega arith) (omega arith) c.index-entries-left.is
          (sym (text_is c.args.names.now e.0 _ c.text.ensures)) refl c.loop-left.invariant.found;
    }

use Rattle.std.proofs.Common.{refl}
use Rattle.std.specs.Prelude.{String, string_bytes}
use Rattle.std.specs.declared.alloc.Global.{Global}
use Rattle.pg_value_core.specs.View.{view}
use Rattle.pg_value_core.specs.declared.value.Value.{Value}
use Rattle.pg_write.proofs.MapLemmas.{moved_joined}
use Rattle.pg_write.proofs.MovedLemmas.{one_moved, all_moved}
use Rattle.pg_write.specs.Maps.{keys_of, values_of}
use Rattle.pg_write.proofs.maps.split.Goals as goal

pub loop-key-preserved : goal.loop-key-preserved
loop-key-preserved c =
    let l = c.loop-key in
    let entries = c.args.entries.entries in
    let steps = c.in-Some.ensures.steps in
    record {
      keys = one_moved string_bytes (λ (e : String Global × Value). string_bytes e.0) l.keys.items l.key-iterator (keys_of entries) l.invariant.keys c.push.new.self.items c.in-Some.key c.in_ok-push.ensures.items c.next.new.self (c.in-Some.key, c.in-Some.value) steps refl;
      values = one_moved view (λ (e : String Global × Value). view e.1) l.values.items l.key-iterator (values_of entries) l.invariant.values c.push-in-loop-key.new.self.items c.in-Some.value c.in_ok-push-2.ensures.items c.next.new.self (c.in-Some.key, c.in-Some.value) steps refl;
    }

pub returns : goal.returns
returns c =
    let l = c.loop-key in
    let entries = c.args.entries.entries in
    let none = c.in-None.ensures.steps.0 in
    moved_joined entries l.keys.items l.values.items
    (all_moved string_bytes (λ (e : String Global × Value). string_bytes e.0) l.keys.items l.key-iterator (keys_of entries) l.invariant.keys none)
    (all_moved view (λ (e : String Global × Value). view e.1) l.values.items l.key-iterator (values_of entries) l.invariant.values none)

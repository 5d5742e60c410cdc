use Rattle.std.proofs.Common.{arith}
use Rattle.pg_json.proofs.Held.{cut_held, cut_value, places_within}
use Rattle.pg_json.proofs.held_rows.HeldRows.cut.Goals as goal

pub places_from-requires : goal.places_from-requires
places_from-requires c =
    let r = c.requires.cut in
    places_within c.args.text.now c.args.row_ends.now c.args.begin _ r.0 r.1 r.2 (omega (arith, c.requires.within))

pub invariant_of-result : goal.invariant_of-result
invariant_of-result c =
    let r = c.requires.cut in
    cut_held c.args.text.now c.args.row_ends.now _ _ c.args.begin c.in_ok-from_slice.ensures.items c.in_ok-row_ends.ensures r.0 r.1 r.2 c.requires.within

pub returns : goal.returns
returns c = λ rows e f. cut_value c.args.text.now c.args.row_ends.now _ _ c.args.begin c.in_ok-from_slice.ensures.items c.in_ok-row_ends.ensures rows e f

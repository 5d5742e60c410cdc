use Rattle.std.proofs.Common.{◌+◌, ◌∷◌, [], drop, sym, ap, subst, ◌∙◌}
use Rattle.std.specs.List.Sorted.{IsStrictlySortedBy}
use Rattle.pg_meaning.specs.Names.{put_texts}
use Rattle.pg_meaning.specs.NamesLaws.{put_texts_rise}
use Rattle.pg_meaning.specs.Order.{text_order}
use Rattle.pg_project.proofs.ByteOrder.{none_rise}
use Rattle.pg_project.proofs.InTurn.{drop_here}
use Rattle.pg_project.specs.Columns.{texts_of}
use Rattle.pg_project.proofs.columns.in_byte_order.Goals as goal

pub loop-at-init : goal.loop-at-init
loop-at-init c =
    let none = c.in_ok-texts.ensures.items in
    (ap (λ ts. put_texts c.args.scope.now (texts_of ts)) none, subst (λ ts. IsStrictlySortedBy text_order (texts_of ts)) (sym none) none_rise)

pub loop-at-preserved : goal.loop-at-preserved
loop-at-preserved c =
    let l = c.loop-at in
    let scope = c.args.scope.now in
    let name = c.name.result.now in
    let rest = drop (l.at + 1) scope in
    let put = c.in_ok-put_in_order.ensures in (
      ap (put_texts rest) put ∙ sym (ap (λ ns. put_texts ns (texts_of l.texts.items)) (drop_here scope l.at name c.name.ensures)) ∙ l.invariant.0,
      subst (IsStrictlySortedBy text_order) (sym put) (put_texts_rise (name ∷ []) (texts_of l.texts.items) l.invariant.1),
    )

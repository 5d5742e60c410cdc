use Rattle.std.proofs.Common.{◌≡◌, [], ◌∷◌, ◌++◌, OnOk, sym, subst}
use Rattle.std.proofs.lemmas.Result.{on_ok_weaker}
use Rattle.pg_json.proofs.Writing.{noted_row}
use Rattle.pg_json.specs.Joined.{with_row}
use Rattle.pg_json.specs.Pages.{row_text}
use Rattle.pg_json.specs.Replies.{items_of, outs}
use Rattle.pg_json.specs.Telling.{AreTold, HasNoted}
use Rattle.pg_json.proofs.rows.RowsReply.end_row.Goals as goal

pub returns-in-Plain : goal.returns-in-Plain
returns-in-Plain c = λ notes columns rows row h.
    let w = subst (λ r. AreTold r notes columns rows row) c.in-Plain.is h.so_far in
    on_ok_weaker c.end_row.result (λ more. record { so_far = (w.0, more) }) (c.end_row.ensures columns rows row w.1)

pub returns-in-Noted : goal.returns-in-Noted
returns-in-Noted c = λ notes columns rows row h.
    let w = subst (λ r. AreTold r notes columns rows row) c.in-Noted.is h.so_far in
    let q = c.in-Noted.rows.value in
    let told = c.in-Noted.row.items in
    let new = c.push.new.self in
    on_ok_weaker c.push.result
    (λ more. record {
      so_far = (
        w.0,
        subst (λ ds. HasNoted new columns (rows ++ items_of ds ∷ [])) (sym w.1.1) (subst (λ r. HasNoted r columns (rows ++ outs told ∷ [])) (sym more) (noted_row q columns rows (outs told) w.1.0)),
      );
    })
    (subst (λ os. OnOk c.push.result (new ≡ with_row q (row_text (outs os)))) c.deref.ensures.value
    (subst (λ r. OnOk c.push.result (new ≡ with_row r (row_text (outs c.deref.result.now)))) c.deref_mut.ensures.value c.push.ensures))

use Rattle.std.proofs.Common.{◌∷◌, [], ◌++◌, map, ap, subst, sym, ◌∙◌}
use Rattle.std.proofs.lemmas.List.{map_push}
use Rattle.std.proofs.lemmas.Result.{on_ok_weaker}
use Rattle.serde_json.specs.Data.{string}
use Rattle.pg_json.proofs.Elements.{data_text}
use Rattle.pg_json.specs.Replies.{data_of}
use Rattle.pg_json.specs.Telling.{AreTold}
use Rattle.pg_json.proofs.rows.RowsReply.text.Goals as goal

pub returns-in-Plain : goal.returns-in-Plain
returns-in-Plain c = λ notes columns rows row h.
    let w = subst (λ r. AreTold r notes columns rows row) c.in-Plain.is h.so_far in
    on_ok_weaker c.text.result (λ more. record { so_far = (w.0, more) }) (c.text.ensures columns rows row w.1)

pub returns-in_ok-push-in-Noted : goal.returns-in_ok-push-in-Noted
returns-in_ok-push-in-Noted c = λ notes columns rows row h.
    let w = subst (λ r. AreTold r notes columns rows row) c.in-Noted.is h.so_far in
    let told = c.in-Noted.row.items in
    record {
      so_far = (
        w.0,
        (
          w.1.0,
          ap (λ ds. ds ++ string c.args.text.now ∷ []) w.1.1
              ∙ ap (λ s. map data_of told ++ string s ∷ []) (sym c.in_ok-text-in-Noted.ensures.ok)
              ∙ ap (λ d. map data_of told ++ d ∷ []) (sym (data_text c.in_ok-text-in-Noted.text))
              ∙ sym (map_push data_of told _)
              ∙ ap (map data_of) (sym c.in_ok-push-in-Noted.ensures.items),
        ),
      );
    }

use Rattle.std.proofs.Common.{string_bytes, rules, ◌-◌, arith, ap, sym, ◌∙◌, refl}
use Rattle.pg_json.specs.Replies.{data_of}
use Rattle.pg_meaning.specs.Queries.{test_output}
use Rattle.pg_meaning.specs.Value.{text}
use Rattle.pg_run.proofs.Tells.{none_of, one_fault, one_more, one_scalar, still_faulted}
use Rattle.pg_run.proofs.ValueLemmas.{bool_seen, bool_shown, int_put, int_seen, null_seen, null_shown, short_seen, text_put, text_seen}
use Rattle.pg_value_core.specs.View.{view}
use Rattle.pg_run.proofs.reply_writer.ReplyWriter.take.Goals as goal

pub returns-then-is_some-clause-telling : goal.returns-then-is_some-clause-telling
returns-then-is_some-clause-telling g c = λ notes columns rows row h. still_faulted c.args.graph.now notes columns rows row c.args.self.now (view c.args.value.now) h (sym c.is_some.ensures ∙ c.if-is_some.true)

pub returns-in-Err-clause-telling : goal.returns-in-Err-clause-telling
returns-in-Err-clause-telling g c = λ notes columns rows row h.
    let none = none_of c.args.self.now.fault (sym c.is_some.ensures ∙ c.if-is_some.false) in
    one_fault c.args.graph.now notes columns rows row c.args.self.now (view c.args.value.now) h _ c.in-Err.fault none refl c.in-Err.ensures.err

pub returns-in-Ok-clause-telling : goal.returns-in-Ok-clause-telling
returns-in-Ok-clause-telling g c = λ notes columns rows row h.
    let none = none_of c.args.self.now.fault (sym c.is_some.ensures ∙ c.if-is_some.false) in
    one_more c.args.graph.now notes columns rows row c.args.self.now (view c.args.value.now) h c.put.result _ _ (data_of c.in-Ok.out) 0 none none refl c.in-Ok.ensures.live
    (omega (arith, c.in-Ok.ensures.room, c.saturating_sub-self.ensures)) (λ some. c.in-Ok.ensures.shown (λ zero. some (c.put.ensures.room ∙ ap (λ r. r - 0) zero))) c.put.ensures

pub returns-in-Null-clause-telling : goal.returns-in-Null-clause-telling
returns-in-Null-clause-telling g c = λ notes columns rows row h.
    let graph = c.args.graph.now in
    let v = c.args.value.now in
    let none = none_of c.args.self.now.fault (sym c.is_some.ensures ∙ c.if-is_some.false) in
    one_scalar graph notes columns rows row c.args.self.now (view v) h c.put_scalar.result _ _ _ none none refl (ap (test_output graph) (null_seen v c.in-Null.is)) c.saturating_sub-self.ensures
    (null_shown graph v c.in-Null.is) c.put_scalar.ensures

pub returns-in-Bool-clause-telling : goal.returns-in-Bool-clause-telling
returns-in-Bool-clause-telling g c = λ notes columns rows row h.
    let graph = c.args.graph.now in
    let v = c.args.value.now in
    let none = none_of c.args.self.now.fault (sym c.is_some.ensures ∙ c.if-is_some.false) in
    one_scalar graph notes columns rows row c.args.self.now (view v) h c.put_scalar-in-Bool.result _ _ _ none none refl (ap (test_output graph) (bool_seen v c.in-Bool.b c.in-Bool.is)) c.saturating_sub-self.ensures
    (bool_shown graph v c.in-Bool.b c.in-Bool.is) c.put_scalar-in-Bool.ensures

pub returns-in-Int-clause-telling : goal.returns-in-Int-clause-telling
returns-in-Int-clause-telling g c = λ notes columns rows row h.
    let graph = c.args.graph.now in
    let v = c.args.value.now in
    let none = none_of c.args.self.now.fault (sym c.is_some.ensures ∙ c.if-is_some.false) in
    one_scalar graph notes columns rows row c.args.self.now (view v) h c.put_integer.result _ _ _ none none refl (ap (test_output graph) (int_seen v c.in-Int.i c.in-Int.is)) c.saturating_sub-self.ensures
    (int_put graph v c.in-Int.i _ c.in-Int.is (search rules)) c.put_integer.ensures

pub returns-in-Text-clause-telling : goal.returns-in-Text-clause-telling
returns-in-Text-clause-telling g c = λ notes columns rows row h.
    let graph = c.args.graph.now in
    let v = c.args.value.now in
    let none = none_of c.args.self.now.fault (sym c.is_some.ensures ∙ c.if-is_some.false) in
    let seen = text_seen v c.in-Text.text c.in-Text.is ∙ ap text (sym (c.as_str.ensures.value ∙ ap string_bytes c.as_ref.ensures)) in
    one_scalar graph notes columns rows row c.args.self.now (view v) h c.put_text.result _ _ _ none none refl (ap (test_output graph) seen) c.saturating_sub-self.ensures
    (text_put graph v c.as_str.result.now seen) c.put_text.ensures

pub returns-in-ShortText-clause-telling : goal.returns-in-ShortText-clause-telling
returns-in-ShortText-clause-telling g c = λ notes columns rows row h.
    let graph = c.args.graph.now in
    let v = c.args.value.now in
    let none = none_of c.args.self.now.fault (sym c.is_some.ensures ∙ c.if-is_some.false) in
    let seen = short_seen v c.in-ShortText.text c.in-ShortText.is ∙ ap text (sym c.as_str-in-ShortText.ensures.value) in
    one_scalar graph notes columns rows row c.args.self.now (view v) h c.put_text-in-ShortText.result _ _ _ none none refl (ap (test_output graph) seen) c.saturating_sub-self.ensures
    (text_put graph v c.as_str-in-ShortText.result.now seen) c.put_text-in-ShortText.ensures

use Rattle.std.proofs.Common.{◌≡◌, ◌<◌, ◌+◌, ℕ, List, [], ◌∷◌, ◌++◌, Bor, String, map, take, get_or, length, string_bytes, sym, ap, ◌∙◌}
use Rattle.std.proofs.lemmas.List.{map_more, map_push, take_all}
use Rattle.std.proofs.lemmas.Result.{IfOk-from_err}
use Rattle.std.specs.declared.alloc.Global.{Global}
use Rattle.pg_store.proofs.texts.strings_of.Goals as goal
use Rattle.pg_store.specs.Stores.{texts_of}

string_pushed : (strings more : List (String Global)) (s : String Global) (ts : List (Bor (List ℕ))) (i : ℕ) (d : Bor (List ℕ)) → map string_bytes strings ≡ texts_of (take i ts) → i < length ts
    → string_bytes s ≡ (get_or ts i d).now → more ≡ strings ++ s ∷ [] → map string_bytes more ≡ texts_of (take (i + 1) ts)
string_pushed strings more s ts i d so_far within same push =
    ap (map string_bytes) push
    ∙ map_push string_bytes strings s
    ∙ (λ k. so_far k ++ same k ∷ [])
    ∙ sym (map_more (λ (t : Bor (List ℕ)). t.now) ts i d within)

pub returns-in_err-strings : goal.returns-in_err-strings
returns-in_err-strings c = IfOk-from_err c.from_residual.result _ c.from_residual.ensures.0

pub returns-in_err-from_str : goal.returns-in_err-from_str
returns-in_err-from_str c = IfOk-from_err c.from_residual-in_err-from_str.result _ c.from_residual-in_err-from_str.ensures.0

pub returns-in_err-push : goal.returns-in_err-push
returns-in_err-push c = IfOk-from_err c.from_residual-in_err-push.result _ c.from_residual-in_err-push.ensures.0

pub loop-text-init : goal.loop-text-init
loop-text-init c = ap (map string_bytes) c.in_ok-strings.ensures.items

pub loop-text-preserved : goal.loop-text-preserved
loop-text-preserved c =
    let l = c.loop-text in
    string_pushed l.strings.items c.push.new.self.items c.in_ok-from_str.field-0 c.args.texts.now l.text-index _ l.invariant c.loop-text-test.true c.in_ok-from_str.ensures.ok c.in_ok-push.ensures.items

pub returns : goal.returns
returns c = c.loop-text.invariant ∙ ap texts_of (take_all c.loop-text.text-index c.args.texts.now c.loop-text-test.false)

use Rattle.std.proofs.Common.{◌≡◌, ◌<◌, Some, cond, length, get_or, string_bytes, bytes_eq, arith, ap, ◌∙◌}
use Rattle.std.proofs.lemmas.Map.Text.{btree_map_updates_text}
use Rattle.std.specs.BTreeMap.{get_by_text}
use Rattle.pg_server.specs.Tokens.{place_in}
use Rattle.pg_server.proofs.TokenLemmas.{put_more}
use Rattle.pg_server.proofs.tokens.TokenPlaces.put.Goals as goal

pub loop-token-preserved : goal.loop-token-preserved
loop-token-preserved c =
    let same : c.tokens-token-items.result.now ≡ c.args.tenant.now.tokens = c.tokens-token-items.ensures in
    let below : c.loop-token.token-index < length c.args.tenant.now.tokens = omega (arith, c.loop-token-test.true, ap length same) in
    let text_is : string_bytes c.in_ok-text.text ≡ c.token-item.result.text = c.in_ok-text.ensures.ok ∙ c.text.ensures in
    put_more c.args.tenant.now.tokens c.args.place (place_in c.args.self.now) (place_in c.loop-token.self) (get_by_text c.insert.new.self) c.loop-token.token-index c.token-item.result below
    (c.token-item.is ∙ ap (λ ts. get_or ts c.loop-token.token-index c.token-item.result) same)
    (λ text. btree_map_updates_text (string_bytes c.in_ok-text.text) c.loop-token.self.places c.insert.new.self (Some c.args.place) c.in_ok-insert.ensures.updates text
    ∙ ap (λ b. cond (bytes_eq b text) (Some c.args.place) (place_in c.loop-token.self text)) text_is)
    c.loop-token.invariant

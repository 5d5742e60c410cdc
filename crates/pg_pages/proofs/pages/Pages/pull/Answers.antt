use Rattle.std.proofs.Common.{ℕ, List, drop, Ok, sym, ap, ◌∙◌, arith}
use Rattle.pg_pages.specs.Held.{Held, with_rows}
use Rattle.pg_pages.specs.Kept.{shown}
use Rattle.pg_pages.proofs.Entries.{with_pages}
use Rattle.pg_pages.proofs.Replies.{pulled_more}
use Rattle.pg_pages.proofs.pages.Pages.pull.Goals as goal

pub returns : goal.returns
returns c =
    let page = c.in_ok-page.page.now in
    let h = c.args.self.now in
    pulled_more h c.args.token.now c.args.number page c.in_ok-page.ensures (omega (arith, c.len.ensures, c.if-len-page.false))
    ∙ ap (λ (bs : List ℕ). Ok (bs, with_pages (with_rows c.args.number (drop page.size page.rows) h.pages) h.next)) (sym c.in_ok-next.ensures)
    ∙ ap (λ (g : Held). Ok (c.in_ok-next.next, g)) (sym (c.skip.ensures c.args.token.now (shown (c.args.number, page)) c.in_ok-page.ensures))

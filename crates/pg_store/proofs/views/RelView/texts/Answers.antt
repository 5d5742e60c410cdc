use Rattle.std.proofs.Common.{◌≡◌, string_bytes, sym, ap, ◌∙◌}
use Rattle.pg_meaning.specs.Graph.{Relationship}
use Rattle.pg_store.proofs.views.RelView.texts.Goals as goal

pub returns : goal.returns
returns g c =
    let rel = c.self.inside.record.now in
    let kind : string_bytes c.in_ok-kind.kind ≡ c.args.self.now.type = c.in_ok-kind.ensures.ok ∙ c.kind.ensures in
    (λ i. record { type = (kind ∙ ap (λ (r : Relationship). r.type) (sym c.self.view_is)) i; source = rel.source.0; target = rel.target.0; properties = c.in_ok-properties.ensures i }) ∙ c.self.view_is

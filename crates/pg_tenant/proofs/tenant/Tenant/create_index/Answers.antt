use Rattle.std.specs.List.{list_any}
use Rattle.pg_store.specs.Indexed.{is_named, IsOneMore}
use Rattle.std.proofs.Common.{◌≡◌, true, Ok, rules, refl, ap, subst, ◌∙◌}
use Rattle.pg_json.specs.Requests.{create_index}
use Rattle.pg_meaning.specs.Answer.{◌>>◌}
use Rattle.pg_live.specs.Live.{pairs_at}
use Rattle.pg_tenant.proofs.ListedLemmas.{more_is, one_made}
use Rattle.pg_tenant.proofs.ServedLemmas.{index_done}
use Rattle.pg_tenant.specs.Listed.{AreListed}
use Rattle.pg_tenant.specs.Indexes.{index_tested, indexes_of, with_one_more}
use Rattle.pg_tenant.specs.Settings.{may_write}
use Rattle.pg_tenant.specs.Solo.{with_indexes}
use Rattle.pg_tenant.specs.State.{is_open}
use Rattle.pg_tenant.specs.TenantStates.{state_over}
use Rattle.pg_tenant.proofs.tenant.Tenant.create_index.Goals as goal

pub returns : goal.returns
returns g c =
    let s = state_over c.args.self.now c.args.live.now in
    let tested : index_tested (may_write c.args.self.now.settings c.args.token.now) (is_open s) c.args.label.now c.args.key.now ≡ Ok tt = search rules in
    let more : with_one_more (indexes_of c.args.self.now.indexes) c.args.label.now c.args.key.now ≡ Ok (indexes_of c.in_ok-indexes.indexes) = search rules in
    let made : list_any (is_named c.add_index.new.self.names c.args.label.now c.args.key.now) (pairs_at c.add_index.new.self.aside) ≡ true = search rules in
    let one_more : IsOneMore c.add_index.new.self.names c.args.label.now c.args.key.now (pairs_at c.args.live.now.aside) (pairs_at c.add_index.new.self.aside) = search rules in
    index_done c.args.self.now (record { settings = c.args.self.now.settings; indexes = c.in_ok-indexes.indexes; pages = c.args.self.now.pages }) c.args.live.now c.add_index.new.self c.add_index.ensures.graph c.add_index.ensures.begun
    (create_index c.args.token.now c.args.label.now c.args.key.now) c.done.result (indexes_of c.in_ok-indexes.indexes) c.done.ensures
    (ap (λ t. with_indexes s (t >> with_one_more s.indexes c.args.label.now c.args.key.now)) tested ∙ ap (with_indexes s) more) refl refl refl c.add_index.ensures.grown
    (λ lists. subst (λ is. AreListed c.add_index.new.self.names is (pairs_at c.add_index.new.self.aside))
    (more_is (indexes_of c.args.self.now.indexes) (indexes_of c.in_ok-indexes.indexes) c.args.label.now c.args.key.now more)
    (one_made c.args.live.now.names c.add_index.new.self.names c.add_index.ensures.grown (c.args.label.now, c.args.key.now) (indexes_of c.args.self.now.indexes)
    (pairs_at c.args.live.now.aside) (pairs_at c.add_index.new.self.aside) made one_more lists))

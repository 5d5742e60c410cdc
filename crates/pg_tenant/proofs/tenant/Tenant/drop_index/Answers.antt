use Rattle.std.proofs.Common.{◌≡◌, Ok, rules, refl, sym, ap, subst, ◌∙◌}
use Rattle.pg_json.specs.Requests.{drop_index}
use Rattle.pg_live.specs.Live.{begun_at, pairs_at, with_pairs}
use Rattle.pg_meaning.specs.Answer.{◌>>◌}
use Rattle.pg_names.specs.Names.{KeepsNames}
use Rattle.pg_tenant.proofs.ListedLemmas.{less_is, one_dropped}
use Rattle.pg_tenant.proofs.ServedLemmas.{index_done}
use Rattle.pg_tenant.specs.Listed.{AreListed}
use Rattle.pg_tenant.specs.Indexes.{index_tested, indexes_of, with_one_less}
use Rattle.pg_tenant.specs.Settings.{may_write}
use Rattle.pg_tenant.specs.Solo.{with_indexes}
use Rattle.pg_tenant.specs.State.{is_open}
use Rattle.pg_tenant.specs.TenantStates.{state_over}
use Rattle.pg_tenant.proofs.tenant.Tenant.drop_index.Goals as goal

pub returns : goal.returns
returns g c =
    let s = state_over c.args.self.now c.args.live.now in
    let names = c.drop_index.ensures.names in
    let tested : index_tested (may_write c.args.self.now.settings c.args.token.now) (is_open s) c.args.label.now c.args.key.now ≡ Ok tt = search rules in
    let less : with_one_less (indexes_of c.args.self.now.indexes) c.args.label.now c.args.key.now ≡ Ok (indexes_of c.in_ok-indexes.indexes) = search rules in
    index_done c.args.self.now (record { settings = c.args.self.now.settings; indexes = c.in_ok-indexes.indexes; pages = c.args.self.now.pages }) c.args.live.now c.drop_index.new.self c.drop_index.ensures.graph
    (c.drop_index.ensures.begun ∙ ap (λ ns. with_pairs (pairs_at c.drop_index.new.self.aside) (begun_at c.args.live.now.graph ns c.args.live.now.aside)) (sym names))
    (drop_index c.args.token.now c.args.label.now c.args.key.now) c.done.result (indexes_of c.in_ok-indexes.indexes) c.done.ensures
    (ap (λ t. with_indexes s (t >> with_one_less s.indexes c.args.label.now c.args.key.now)) tested ∙ ap (with_indexes s) less) refl refl refl
    (subst (KeepsNames c.args.live.now.names) (sym names) (λ n t h. h))
    (λ lists. subst (λ ns. AreListed ns (indexes_of c.in_ok-indexes.indexes) (pairs_at c.drop_index.new.self.aside)) (sym names)
    (subst (λ is. AreListed c.args.live.now.names is (pairs_at c.drop_index.new.self.aside))
    (less_is (indexes_of c.args.self.now.indexes) (indexes_of c.in_ok-indexes.indexes) c.args.label.now c.args.key.now less)
    (one_dropped c.args.live.now.names (c.args.label.now, c.args.key.now) (indexes_of c.args.self.now.indexes)
    (pairs_at c.args.live.now.aside) (pairs_at c.drop_index.new.self.aside) c.drop_index.ensures.less lists)))

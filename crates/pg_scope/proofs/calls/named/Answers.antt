use Rattle.std.proofs.Common.{map, refl, sym, ap, bytes_eq, ◌∙◌}
use Rattle.std.proofs.lemmas.Bool.{false≢true}
use Rattle.std.specs.Map.{lookup}
use Rattle.std.specs.Str.{str_to_ascii_lowercase}
use Rattle.pg_scope.proofs.CallLemmas.{found, passed}
use Rattle.pg_scope.proofs.FirstLemmas.{item_here, items_end}
use Rattle.pg_scope.proofs.calls.named.Goals as goal

pub loop-text-init : goal.loop-text-init
loop-text-init g c = refl

pub returns-then-eq_ignore_ascii_case : goal.returns-then-eq_ignore_ascii_case
returns-then-eq_ignore_ascii_case g c = record {
  is = sym (c.loop-text.invariant
      ∙ ap (λ ks. lookup (bytes_eq (str_to_ascii_lowercase c.args.name.now)) (map (λ p. (str_to_ascii_lowercase p.0.now, p.1)) ks)) (item_here c.loop-text-test.true c.loop-text-item.is refl)
      ∙ found c.loop-text-item.result.1 _ (c.eq_ignore_ascii_case.ensures.test.0 c.if-eq_ignore_ascii_case.true));
}

pub loop-text-preserved : goal.loop-text-preserved
loop-text-preserved g c =
    c.loop-text.invariant
    ∙ ap (λ ks. lookup (bytes_eq (str_to_ascii_lowercase c.args.name.now)) (map (λ p. (str_to_ascii_lowercase p.0.now, p.1)) ks)) (item_here c.loop-text-test.true c.loop-text-item.is refl)
    ∙ passed c.loop-text-item.result.1 _ (λ e. false≢true (sym c.if-eq_ignore_ascii_case.false ∙ c.eq_ignore_ascii_case.ensures.test.1 e))

pub returns : goal.returns
returns g c = record {
  is = sym (c.loop-text.invariant ∙ ap (λ ks. lookup (bytes_eq (str_to_ascii_lowercase c.args.name.now)) (map (λ p. (str_to_ascii_lowercase p.0.now, p.1)) ks)) (items_end c.loop-text-test.false refl));
}

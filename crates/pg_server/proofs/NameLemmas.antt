-- What becomes of the names that all tenants share.
use Rattle.std.proofs.Common.{ℕ, List, refl}
use Rattle.pg_tenant.specs.Step.{AddsNames}

pub names_stay : (reply : List ℕ) (names : List (List ℕ)) → AddsNames reply names names
names_stay reply names = record { kept = λ number text h. h; refused = λ fault is. refl }

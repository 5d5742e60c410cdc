-- Reading leaves a file as it was.
use Rattle.std.proofs.Common.{◌≡◌, ℕ, List, refl, sym, ◌∙◌, subst}
use Rattle.pg_journal.specs.Device.{Only, Elapses, LeavesOnly}
use Rattle.pg_journal.specs.Files.{Recovers}
use Rattle.pg_journal.specs.Reading.{IsRead, RecoversAlike}
use Rattle.pg_journal.proofs.Moments.{started, goes_on, then, wider}

module _ {D : Type 0} (seen : D → List ℕ) (may_leave : D → List ℕ → Type 0) (moment : D → ℕ) (left_since : D → ℕ → List ℕ → Type 0) (only_now : (file : D) (c : List ℕ) → left_since file (moment file) c → may_leave file c) where
  pub read_none : (old : D) → IsRead seen may_leave moment left_since old old
  read_none old = record { same = refl; fewer = λ c left. left; run = started moment left_since old (may_leave old) (only_now old) }

  pub read_call : (old new : D) → seen new ≡ seen old → ((c : List ℕ) → may_leave new c → may_leave old c) → Elapses (moment old) (moment new) (left_since old) (left_since new) (may_leave new) → IsRead seen may_leave moment left_since old new
  read_call old new same fewer time = record {
    same = same;
    fewer = fewer;
    run = goes_on moment left_since old old new (may_leave old) (may_leave new) (started moment left_since old (may_leave old) (only_now old)) time fewer;
  }

  pub read_then : (old mid new : D) → IsRead seen may_leave moment left_since old mid → IsRead seen may_leave moment left_since mid new → IsRead seen may_leave moment left_since old new
  read_then old mid new first second = record {
    same = second.same ∙ first.same;
    fewer = λ c left. first.fewer c (second.fewer c left);
    run = then moment left_since old mid new (may_leave old) (may_leave mid) first.run second.run first.fewer;
  }

  -- where a crash leaves what is seen, it leaves what stands for the same records
  pub read_alike : (old new : D) → Only (seen old) (may_leave old) → IsRead seen may_leave moment left_since old new → LeavesOnly moment left_since old new (RecoversAlike (seen old))
  read_alike old new only read = wider moment left_since old new (may_leave old) (RecoversAlike (seen old)) read.run (λ c left ks recovers. subst (Recovers ks) (sym (only c left)) recovers)

  pub read_only : (old new : D) → Only (seen old) (may_leave old) → IsRead seen may_leave moment left_since old new → Only (seen new) (may_leave new)
  read_only old new only read = λ c left. only c (read.fewer c left) ∙ sym read.same

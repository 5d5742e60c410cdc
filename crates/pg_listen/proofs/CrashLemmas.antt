-- What a crash leaves, event by event.
use Rattle.std.proofs.Common.{◌≡◌, ◌⊎◌, inl, inr, ℕ, ◌+◌, ◌≤◌, List, [], ◌∷◌, ◌++◌, refl, sym, ap, ◌∙◌, subst, append_assoc, append-nil, arith}
use Rattle.pg_journal.specs.Device.{LeavesOnly, part}
use Rattle.pg_journal.specs.Files.{IsJournalOf, first_record}
use Rattle.pg_journal.specs.Records.{Kept, records}
use Rattle.pg_journal.specs.Ready.{IsFile, IsBeforeOrAfter}
use Rattle.pg_listen.specs.Courses.{Course}
use Rattle.pg_listen.specs.Events.{Event, received, answered, sent, by_server, settling}
use Rattle.pg_listen.specs.Moments.{Moment, file_of, SettlesKept, IsWritten, AllIsKept, DoesKept, HasAtLeast, CrashesKeep}
use Rattle.std.specs.Prelude.{Bool, length}

-- the file of a journal is a journal
is_journal : (slot : Bool) (size digest : ℕ) (ks : List Kept) (file : List ℕ) → IsFile slot size digest ks file → IsJournalOf ks file
is_journal slot size digest ks file f =
    record {
      slot = slot;
      named = f.named;
      counts = f.counts;
      holds = subst (λ n. part first_record n file ≡ records ks) f.size_is f.holds;
      long = subst (λ n. first_record + n ≤ length file) f.size_is f.room;
    }

module _ {D : Type 0} (seen : D → List ℕ) (may_leave : D → List ℕ → Type 0) (moment : D → ℕ) (left_since : D → ℕ → List ℕ → Type 0) (only_now : (file : D) (c : List ℕ) → left_since file (moment file) c → may_leave file c) where
  abbrev Step : Moment D → Event → Moment D → Type 0
  Step = DoesKept seen may_leave moment left_since

  -- since a file these records are there
  pub record Since (base : List Kept) (begun : D) (now : Moment D) : Type 0 where
    pub left : LeavesOnly moment left_since begun (file_of now) (HasAtLeast base)
    pub more : List Kept
    pub kept : now.kept ≡ base ++ more

  at_first : (m : Moment D) → AllIsKept seen may_leave m → Since m.kept (file_of m) m
  at_first m all =
      let ready = all.1 in
      record {
        left = record {
          later = omega arith;
          each = λ c is. (
            [],
            subst (λ (l : List Kept). IsJournalOf l c) (sym (append-nil m.kept))
                (subst (IsJournalOf m.kept) (sym (ready.durable c (only_now (file_of m) c is))) (is_journal m.keeper.journal.slot m.keeper.journal.size m.keeper.journal.digest m.kept (seen (file_of m)) ready.file)),
          );
          before = λ t c earlier is. inl is;
        };
        more = [];
        kept = sym (append-nil m.kept);
      }

  -- the file is the same
  same_file : (base : List Kept) (begun : D) (old new : Moment D) → file_of new ≡ file_of old → new.kept ≡ old.kept → Since base begun old → Since base begun new
  same_file base begun old new file kept s =
      record { left = subst (λ (d : D). LeavesOnly moment left_since begun d (HasAtLeast base)) (sym file) s.left; more = s.more; kept = kept ∙ s.kept }

  -- what a batch leaves
  of_batch : (base more kept waiting : List Kept) (file : List ℕ) → kept ≡ base ++ more → IsBeforeOrAfter kept waiting file → HasAtLeast base file
  of_batch base more kept waiting file are (inl is) = (more, subst (λ (l : List Kept). IsJournalOf l file) are is)
  of_batch base more kept waiting file are (inr is) = (more ++ waiting, subst (λ (l : List Kept). IsJournalOf l file) (ap (λ (l : List Kept). l ++ waiting) are ∙ append_assoc base more waiting) is)

  module _ (base : List Kept) (begun : D) (old new : Moment D) (s : Since base begun old) (l : LeavesOnly moment left_since (file_of old) (file_of new) (IsBeforeOrAfter old.kept old.waiting)) where
    each_left : (c : List ℕ) → left_since (file_of old) (moment begun) c ⊎ IsBeforeOrAfter old.kept old.waiting c → HasAtLeast base c
    each_left c (inl earlier) = s.left.each c earlier
    each_left c (inr now) = of_batch base s.more old.kept old.waiting c s.kept now

    before_left : (t : ℕ) (c : List ℕ) → t ≤ moment begun → left_since (file_of old) t c ⊎ IsBeforeOrAfter old.kept old.waiting c → left_since begun t c ⊎ HasAtLeast base c
    before_left t c earlier (inl was) = s.left.before t c earlier was
    before_left t c earlier (inr now) = inr (of_batch base s.more old.kept old.waiting c s.kept now)

    through : LeavesOnly moment left_since begun (file_of new) (HasAtLeast base)
    through =
        record {
          later = omega (arith, s.left.later, l.later);
          each = λ c is. each_left c (l.before (moment begun) c s.left.later is);
          before = λ t c earlier is. before_left t c earlier (l.before t c (omega (arith, s.left.later, earlier)) is);
        }

    pub after_batch : IsWritten old new → Since base begun new
    after_batch (inl w) = record { left = through; more = s.more ++ old.waiting; kept = w.0 ∙ ap (λ (k : List Kept). k ++ old.waiting) s.kept ∙ append_assoc base s.more old.waiting }
    after_batch (inr lost) = record { left = through; more = s.more; kept = lost.1 ∙ s.kept }

  settled : (base : List Kept) (begun : D) (old new : Moment D) → SettlesKept moment left_since old new → Since base begun old → Since base begun new
  settled base begun old new (server, called, inl same) s = subst (Since base begun) (sym same) s
  settled base begun old new (server, called, inr p) s = after_batch base begun old new s p.0 p.1

  on : (base : List Kept) (begun : D) (old new : Moment D) (events : List Event) → Course Step old events new → Since base begun old → Since base begun new
  on base begun old new [] course s = subst (Since base begun) (sym course) s
  on base begun old new (received c bytes ∷ events) course s = on base begun course.0 new events course.2 (subst (Since base begun) (sym course.1) s)
  on base begun old new (answered c e ∷ events) course s = on base begun course.0 new events course.2 (same_file base begun old course.0 course.1.file course.1.kept s)
  on base begun old new (sent c bytes ∷ events) course s = on base begun course.0 new events course.2 (subst (Since base begun) (sym course.1.1) s)
  on base begun old new (by_server e ∷ events) course s = on base begun course.0 new events course.2 (same_file base begun old course.0 course.1.file course.1.kept s)
  on base begun old new (settling ∷ events) course s = on base begun course.0 new events course.2 (settled base begun old course.0 course.1 s)

  pub crashes_keep : CrashesKeep seen may_leave moment left_since
  crashes_keep old new [] back c bytes course =
      let now = at_first old course.1.0 in
      (old, refl, course.1.0, (on old.kept (file_of old) old new (sent c bytes ∷ back) course now).left.each)
  crashes_keep old new (event ∷ front) back c bytes course =
      let m = crashes_keep course.0 new front back c bytes course.2 in
      (m.0, (course.0, course.1, m.1), m.2, m.3)

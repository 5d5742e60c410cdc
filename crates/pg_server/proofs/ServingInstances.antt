-- The instances of frames, ends, runs of no frame and look-ups.
use Rattle.std.proofs.Common.{◌≡◌, ℕ, ◌<◌, ◌≤◌, List, [], ◌∷◌, ◌++◌, true, false, cond, Option, Some, None, arith, length, get_or, take, drop, refl, sym, ap, ◌∙◌, inl, inr, length-append}
use Rattle.std.specs.Prelude.{◌⊎◌, nat_le, codes}
use Rattle.std.proofs.lemmas.List.Elements.{All-nil}
use Rattle.std.proofs.lemmas.Nat.{from_be_bytes-to_be_bytes_4}
use Rattle.std.specs.Int.{w32, to_be_bytes, from_be_bytes}
use Rattle.pg_cache.specs.Cache.{CacheSeen, Key}
use Rattle.pg_json.proofs.Codes.{done_is_no_refusal}
use Rattle.pg_json.specs.Refusals.{done_text}
use Rattle.pg_meaning.specs.declared.fault.Fault.TheVariants.{OutOfMemory}
use Rattle.pg_server.specs.Exchange.{Exchange, Chain}
use Rattle.pg_server.specs.Frames.{frame, body_limit, IsPartial, IsTooLong}
use Rattle.pg_server.specs.Handles.{Handles}
use Rattle.pg_server.specs.InstancesOfServing.{transcript, InstancesOfFrames, InstancesOfEnds, InstancesOfFailedWrites, RunsOfNoFrame, InstancesOfKeys, InstancesOfLookUps, longest, once, written, has_more, key, cache_of}
use Rattle.pg_server.specs.Runs.{Runs}
use Rattle.pg_server.specs.Served.{Ends, Served, frames, untold}
use Rattle.pg_server.specs.State.{ServerState, fresh_cache}
use Rattle.pg_tenant.specs.LookUps.{LooksUp}
use Rattle.pg_server.specs.declared.end.End.TheVariants.{Done, WriteFailed}

nothing_is_something : {X : Type 0} (x : X) (xs : List X) → [] ≡ x ∷ xs → ⊥
nothing_is_something x xs e = cc

-- ---- frames

whole_is_partial : IsPartial (frame (codes "ab")) → ⊥
whole_is_partial (inl few) = absurd (omega (arith, few))
whole_is_partial (inr p) =
    let header : to_be_bytes w32 2 ≡ to_be_bytes w32 p.0 = ap (take 4) p.2 in
    let two : 2 ≡ p.0 = sym (from_be_bytes-to_be_bytes_4 2 (omega arith)) ∙ ap (from_be_bytes w32) header ∙ from_be_bytes-to_be_bytes_4 p.0 (omega (arith, p.3)) in
    let rest : codes "ab" ≡ p.1 = ap (drop 4) p.2 in
    absurd (omega (arith, p.4, two, ap length rest))

longest_is_too_long : IsTooLong longest → ⊥
longest_is_too_long t =
    let header : to_be_bytes w32 1048576 ≡ to_be_bytes w32 t.0 = t.1 in
    let is : 1048576 ≡ t.0 = sym (from_be_bytes-to_be_bytes_4 1048576 (omega arith)) ∙ ap (from_be_bytes w32) header ∙ from_be_bytes-to_be_bytes_4 t.0 t.3 in
    absurd (omega (arith, is, t.2))

pub instances_of_frames : InstancesOfFrames
instances_of_frames = (
  refl,
  inl (omega arith),
  inr (2, codes "a", refl, omega arith, omega arith),
  whole_is_partial,
  (1048577, refl, omega arith, omega arith),
  longest_is_too_long,
  (λ body long. ap (λ n. nat_le n body_limit) long),
  (λ body long. ap (λ n. nat_le n body_limit) long),
)

-- ---- ends

neither : has_more ⊎ (length once ≡ 2) → ⊥
neither (inl h) = nothing_is_something _ _ (sym h)
neither (inr h) = absurd (omega (arith, h))

no_header : (t : IsTooLong []) → ⊥
no_header t = nothing_is_something _ _ t.1

pub instances_of_ends : InstancesOfEnds
instances_of_ends = (
  (refl, refl, inr refl),
  (refl, refl, inl refl),
  (λ e. neither e.2),
  (λ e. nothing_is_something _ _ (sym e.0)),
  (λ e. nothing_is_something _ _ e.1),
  ((inl (omega arith), omega arith), refl, refl, omega arith),
  (λ e. absurd (omega (arith, e.0.1))),
  (λ e. nothing_is_something _ _ (sym e.2)),
  (λ e. absurd (omega (arith, e.3))),
  ((1048577, refl, omega arith, omega arith), refl, omega arith),
  (λ e. nothing_is_something _ _ e.1),
  (inl (omega arith), refl, omega arith),
  (λ e. nothing_is_something _ _ e.1),
)

-- what was written whole lacks nothing
module _ (last sent lacking : List ℕ) (last_is : frame last ≡ sent ++ lacking) (some : 0 < length lacking) where
  lacks_nothing : (before : List (List ℕ)) → codes "r" ∷ [] ≡ before ++ last ∷ [] → written ≡ frames before ++ sent → ⊥
  lacks_nothing [] is all =
      let same : codes "r" ≡ last = ap (λ bodies. get_or bodies 0 []) is in
      absurd (omega (arith, some, ap length same, ap length all, ap length last_is, length-append sent lacking))
  lacks_nothing (b ∷ bs) is all = absurd (omega (arith, ap length is, length-append bs (last ∷ [])))

whole_is_cut : Ends WriteFailed 1 has_more (transcript once [] written) → ⊥
whole_is_cut (inl p) = lacks_nothing p.1.last p.1.sent p.1.lacking p.1.last_is p.1.some p.1.before p.1.bodies_are p.1.output_is
whole_is_cut (inr p) = no_header p.0

none_is_cut : Ends WriteFailed 1 has_more (transcript [] [] []) → ⊥
none_is_cut (inl p) = absurd (omega (arith, ap length p.1.bodies_are, length-append p.1.before (p.1.last ∷ [])))
none_is_cut (inr p) = no_header p.0

pub instances_of_failed_writes : InstancesOfFailedWrites
instances_of_failed_writes = (
  inl (refl, record { before = []; last = codes "r"; sent = 0 ∷ []; lacking = 0 ∷ 0 ∷ 1 ∷ codes "r"; bodies_are = refl; output_is = refl; last_is = refl; some = omega arith }),
  whole_is_cut,
  none_is_cut,
  (refl, refl, refl),
  (λ e. nothing_is_something _ _ (sym e.1)),
  refl,
  refl,
)

-- ---- no frame

none_leaves : (old new : ServerState) (es : List Exchange) → length es ≤ 0 → Chain Handles old es new → new ≡ old
none_leaves old new [] few chain = chain
none_leaves old new (e ∷ es) few chain = absurd (omega (arith, few))

abbrev served_none : (s : ServerState) → Served Handles untold untold s s 0 Done
served_none s = record { transcript = transcript [] [] []; read = tt; wrote = tt; short = All-nil _; count = omega arith; ends = (refl, refl, inl tt); chain = refl }

ran_none : (s : ServerState) → Runs s [] s
ran_none s = record { cache = refl; settings = refl; strangers = tt; solo = λ t. refl }

pub runs_of_no_frame : RunsOfNoFrame
runs_of_no_frame old new end = ((served_none old, ran_none old), λ s. none_leaves old new s.0.transcript.exchanges s.0.count s.0.chain)

-- ---- look-ups

pub instances_of_keys : InstancesOfKeys
instances_of_keys = (refl, refl, refl, refl, refl, λ text long. let found : Option Key = Some (text, []) in ap (λ b. cond b found None) long)

uncounted : LooksUp (Some key) done_text (fresh_cache 1) (fresh_cache 1) → ⊥
uncounted (inl l) = by (l.miss refl)
  where
    by : {A : Type 0} → (fresh_cache 1 ≡ cache_of [] 0 1) ⊎ (A × (fresh_cache 1 ≡ cache_of (key ∷ []) 0 1)) → ⊥
    by (inl e) = absurd (omega (arith, ap (λ (c : CacheSeen). c.misses) e))
    by (inr p) = absurd (omega (arith, ap (λ (c : CacheSeen). c.misses) p.1))
uncounted (inr p) = done_is_no_refusal OutOfMemory p.0

hit_as_miss : LooksUp (Some key) done_text (cache_of (key ∷ []) 0 1) (cache_of (key ∷ []) 0 2) → ⊥
hit_as_miss (inl l) = absurd (omega (arith, ap (λ (c : CacheSeen). c.misses) (l.hit refl)))
hit_as_miss (inr p) = done_is_no_refusal OutOfMemory p.0

pub instances_of_look_ups : InstancesOfLookUps
instances_of_look_ups = (
  inl (record { hit = λ there. absurd (never there); miss = λ gone. inl refl }),
  uncounted,
  inr (refl, refl),
  (λ e. absurd (omega (arith, ap (λ (c : CacheSeen). c.misses) e))),
  inl (record { hit = λ there. refl; miss = λ gone. absurd (never (sym gone)) }),
  hit_as_miss,
)
  where
    never : false ≡ true → ⊥
    never e = cc

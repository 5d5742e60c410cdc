-- Where the items of chunks stand in the list of all.
use Rattle.std.proofs.Common.{◌≡◌, ℕ, zero, suc, ◌+◌, ◌-◌, ◌*◌, ◌/◌, ◌%◌, ◌<◌, ◌≤◌, min, List, [], ◌∷◌, ◌++◌, length, get_or, set, Option, Some, None, slice_get, vec_capacity, Bor, option_copied, Result, Ok, Err, OnOk, OnErr, inl, inr, refl, sym, ap, subst, ◌∙◌, arith}
use Rattle.std.proofs.lemmas.List.{append-nil, append_assoc, length-append, length-set, get_or-set_same, set-append_left}
use Rattle.std.proofs.lemmas.Option.{slice_get_within, slice_get_past, slice_get_cases, slice_get_read}
use Rattle.std.proofs.lemmas.List.Concat.{flat_map-append}
use Rattle.std.specs.Global.{Vec}
use Rattle.std.specs.Slice.{IsItemAt}
use Rattle.pg_pool.specs.Chunks.{items_of, spare_of, AreFull, AreAllFull, AreChunks, HasSpareChunk}

module _ {T : Type 0} where
  -- what a chunk has at a place, if there is such a chunk
  abbrev pub read : Option (Vec T) → ℕ → Option T
  read None r = None
  read (Some chunk) r = slice_get chunk.items r

  got_left : (xs ys : List T) (i : ℕ) → i < length xs → slice_get (xs ++ ys) i ≡ slice_get xs i
  got_left [] ys i h = absurd (omega arith)
  got_left (x ∷ xs) ys zero h = refl
  got_left (x ∷ xs) ys (suc i) h = got_left xs ys i (omega arith)

  got_right : (xs ys : List T) (i n : ℕ) → n ≡ length xs + i → slice_get (xs ++ ys) n ≡ slice_get ys i
  got_right [] ys i n e = ap (slice_get ys) (omega arith)
  got_right (x ∷ xs) ys i zero e = absurd (omega arith)
  got_right (x ∷ xs) ys i (suc n) e = got_right xs ys i n (omega arith)

  set_right : (xs ys : List T) (i n : ℕ) (y : T) → n ≡ length xs + i → set (xs ++ ys) n y ≡ xs ++ set ys i y
  set_right [] ys i n y e = ap (λ (k : ℕ). set ys k y) (omega arith)
  set_right (x ∷ xs) ys i zero y e = absurd (omega arith)
  set_right (x ∷ xs) ys i (suc n) y e = ap (λ zs. x ∷ zs) (set_right xs ys i n y (omega arith))

  got : (chunks : List (Vec T)) (q r n : ℕ) → n ≡ q * 1024 + r → AreFull chunks → r < 1024 → slice_get (items_of chunks) n ≡ read (slice_get chunks q) r
  unfolding AreFull
  got [] q r n e full small = refl
  got (chunk ∷ []) zero r n e full small = let same : n ≡ r = omega arith in ap (λ xs. slice_get xs n) (append-nil chunk.items) ∙ ap (slice_get chunk.items) same
  got (chunk ∷ []) (suc q) r n e full small = slice_get_past (chunk.items ++ []) n (omega (arith, full, length-append chunk.items []))
  got (chunk ∷ next ∷ chunks) zero r n e full small =
      let same : n ≡ r = omega arith in
      ap (slice_get (chunk.items ++ items_of (next ∷ chunks))) same ∙ got_left chunk.items _ r (omega (arith, full.0))
  got (chunk ∷ next ∷ chunks) (suc q) r n e full small =
      got_right chunk.items _ (q * 1024 + r) n (omega (arith, full.0)) ∙ got (next ∷ chunks) q r (q * 1024 + r) refl full.1 small

  -- the item at a place of all
  pub item_at : (chunks : List (Vec T)) (at : ℕ) → AreFull chunks → slice_get (items_of chunks) at ≡ read (slice_get chunks (at / 1024)) (at % 1024)
  item_at chunks at full = got chunks (at / 1024) (at % 1024) at (omega arith) full (omega arith)

  chunk_of : (o : Option (Vec T)) (r : ℕ) (x : T) → read o r ≡ Some x → (chunk : Vec T) × (o ≡ Some chunk) × (r < length chunk.items)
  chunk_of None r x found = absurd (cc)
  chunk_of (Some chunk) r x found = (chunk, refl, slice_get_within chunk.items _ x found)

  -- the chunk of a place
  pub chunk_at : (chunks : List (Vec T)) (at : ℕ) → AreFull chunks → at < length (items_of chunks)
      → (chunk : Vec T) × (slice_get chunks (at / 1024) ≡ Some chunk) × (at % 1024 < length chunk.items)
  chunk_at chunks at full within = elim (slice_get_cases (items_of chunks) at).1 [
    | inl there ↦ chunk_of (slice_get chunks (at / 1024)) (at % 1024) there.0 (sym (item_at chunks at full) ∙ there.2)
    | inr past ↦ absurd (omega (arith, past.0))
  ]

  put : (chunks : List (Vec T)) (q r n : ℕ) (old chunk : Vec T) (item : T) → n ≡ q * 1024 + r → AreFull chunks → slice_get chunks q ≡ Some old → r < length old.items
      → chunk.items ≡ set old.items r item → items_of (set chunks q chunk) ≡ set (items_of chunks) n item
  unfolding AreFull
  put [] q r n old chunk item e full there within is = absurd (cc)
  put (one ∷ []) zero r n old chunk item e full there within is =
      let same : one ≡ old = cc in
      let at : n ≡ r = omega arith in
      append-nil chunk.items ∙ is ∙ ap (λ (c : Vec T). set c.items r item) (sym same) ∙ (λ i. set (sym (append-nil one.items) i) (sym at i) item)
  put (one ∷ []) (suc q) r n old chunk item e full there within is = absurd (cc)
  put (one ∷ next ∷ chunks) zero r n old chunk item e full there within is =
      let same : one ≡ old = cc in
      let at : n ≡ r = omega arith in
      ap (λ xs. xs ++ items_of (next ∷ chunks)) (is ∙ ap (λ (c : Vec T). set c.items r item) (sym same))
      ∙ sym (set-append_left one.items _ r item (subst (λ (c : Vec T). r < length c.items) (sym same) within))
      ∙ ap (λ (k : ℕ). set (items_of (one ∷ next ∷ chunks)) k item) (sym at)
  put (one ∷ next ∷ chunks) (suc q) r n old chunk item e full there within is =
      ap (λ xs. one.items ++ xs) (put (next ∷ chunks) q r (q * 1024 + r) old chunk item refl full.1 there within is)
      ∙ sym (set_right one.items _ (q * 1024 + r) n item (omega (arith, full.0)))

  pub item_set : (chunks : List (Vec T)) (at : ℕ) (old chunk : Vec T) (item : T) → AreFull chunks → slice_get chunks (at / 1024) ≡ Some old → at % 1024 < length old.items
      → chunk.items ≡ set old.items (at % 1024) item → items_of (set chunks (at / 1024) chunk) ≡ set (items_of chunks) at item
  item_set chunks at old chunk item full there within is =
      put chunks (at / 1024) (at % 1024) at old chunk item (omega arith) full there within is

  -- one chunk is another of the same length
  pub full_set : (chunks : List (Vec T)) (q : ℕ) (old chunk : Vec T) → slice_get chunks q ≡ Some old → length chunk.items ≡ length old.items → AreFull chunks → AreFull (set chunks q chunk)
  unfolding AreFull
  full_set [] q old chunk there same full = absurd (cc)
  full_set (one ∷ []) zero old chunk there same full = let is : one ≡ old = cc in let long = ap (λ (c : Vec T). length c.items) is in omega arith
  full_set (one ∷ []) (suc q) old chunk there same full = absurd (cc)
  full_set (one ∷ next ∷ chunks) zero old chunk there same full = let is : one ≡ old = cc in let long = ap (λ (c : Vec T). length c.items) is in (omega (arith, full.0), full.1)
  full_set (one ∷ next ∷ []) (suc zero) old chunk there same full = (full.0, full_set (next ∷ []) zero old chunk there same full.1)
  full_set (one ∷ next ∷ []) (suc (suc q)) old chunk there same full = absurd (cc)
  full_set (one ∷ next ∷ third ∷ chunks) (suc zero) old chunk there same full = (full.0, full_set (next ∷ third ∷ chunks) zero old chunk there same full.1)
  full_set (one ∷ next ∷ third ∷ chunks) (suc (suc q)) old chunk there same full = (full.0, full_set (next ∷ third ∷ chunks) (suc q) old chunk there same full.1)

  pub spare_set : (chunks : List (Vec T)) (q : ℕ) (old chunk : Vec T) → slice_get chunks q ≡ Some old → length chunk.items ≡ length old.items → vec_capacity chunk ≡ vec_capacity old → spare_of (set chunks q chunk) ≡ spare_of chunks
  unfolding spare_of
  spare_set [] q old chunk there same room = absurd (cc)
  spare_set (one ∷ []) zero old chunk there same room = let is : one ≡ old = cc in λ i. min 1024 ((room ∙ ap vec_capacity (sym is)) i) - (same ∙ ap (λ (c : Vec T). length c.items) (sym is)) i
  spare_set (one ∷ []) (suc q) old chunk there same room = absurd (cc)
  spare_set (one ∷ next ∷ chunks) zero old chunk there same room = refl
  spare_set (one ∷ next ∷ []) (suc zero) old chunk there same room = spare_set (next ∷ []) zero old chunk there same room
  spare_set (one ∷ next ∷ []) (suc (suc q)) old chunk there same room = absurd (cc)
  spare_set (one ∷ next ∷ third ∷ chunks) (suc zero) old chunk there same room = spare_set (next ∷ third ∷ chunks) zero old chunk there same room
  spare_set (one ∷ next ∷ third ∷ chunks) (suc (suc q)) old chunk there same room = spare_set (next ∷ third ∷ chunks) (suc q) old chunk there same room

  pub items_kept : (chunks : List (Vec T)) (q : ℕ) (old chunk : Vec T) → slice_get chunks q ≡ Some old → chunk.items ≡ old.items → items_of (set chunks q chunk) ≡ items_of chunks
  items_kept [] q old chunk there same = absurd (cc)
  items_kept (one ∷ chunks) zero old chunk there same = let is : one ≡ old = cc in ap (λ xs. xs ++ items_of chunks) (same ∙ ap (λ (c : Vec T). c.items) (sym is))
  items_kept (one ∷ chunks) (suc q) old chunk there same = ap (λ xs. one.items ++ xs) (items_kept chunks q old chunk there same)

  -- what is said of the last chunk
  pub length_all : (chunks : List (Vec T)) (q : ℕ) (last : Vec T) → suc q ≡ length chunks → slice_get chunks q ≡ Some last → AreFull chunks → length (items_of chunks) ≡ q * 1024 + length last.items
  unfolding AreFull
  length_all [] q last end there full = absurd (cc)
  length_all (one ∷ []) zero last end there full = let is : one ≡ last = cc in let long = ap (λ (c : Vec T). length c.items) is in omega (arith, length-append one.items [])
  length_all (one ∷ []) (suc q) last end there full = absurd (cc)
  length_all (one ∷ next ∷ chunks) zero last end there full = absurd (omega arith)
  length_all (one ∷ next ∷ chunks) (suc q) last end there full =
      omega (arith, full.0, length-append one.items (items_of (next ∷ chunks)), length_all (next ∷ chunks) q last (omega arith) there full.1)

  pub length_most : (chunks : List (Vec T)) → AreFull chunks → length (items_of chunks) ≤ length chunks * 1024
  unfolding AreFull
  length_most [] full = omega arith
  length_most (one ∷ []) full = omega (arith, full, length-append one.items [])
  length_most (one ∷ next ∷ chunks) full = omega (arith, full.0, length-append one.items (items_of (next ∷ chunks)), length_most (next ∷ chunks) full.1)

  pub last_short : (chunks : List (Vec T)) (q : ℕ) (last : Vec T) → slice_get chunks q ≡ Some last → AreFull chunks → length last.items ≤ 1024
  unfolding AreFull
  last_short [] q last there full = absurd (cc)
  last_short (one ∷ []) zero last there full = let is : one ≡ last = cc in let long = ap (λ (c : Vec T). length c.items) is in omega arith
  last_short (one ∷ []) (suc q) last there full = absurd (cc)
  last_short (one ∷ next ∷ chunks) zero last there full = let is : one ≡ last = cc in let long = ap (λ (c : Vec T). length c.items) is in omega (arith, full.0)
  last_short (one ∷ next ∷ chunks) (suc q) last there full = last_short (next ∷ chunks) q last there full.1

  pub spare_last : (chunks : List (Vec T)) (q : ℕ) (last : Vec T) → suc q ≡ length chunks → slice_get chunks q ≡ Some last → spare_of chunks ≡ min 1024 (vec_capacity last) - length last.items
  unfolding spare_of
  spare_last [] q last end there = absurd (cc)
  spare_last (one ∷ []) zero last end there = let is : one ≡ last = cc in ap (λ (c : Vec T). min 1024 (vec_capacity c) - length c.items) is
  spare_last (one ∷ []) (suc q) last end there = absurd (cc)
  spare_last (one ∷ next ∷ chunks) zero last end there = absurd (omega arith)
  spare_last (one ∷ next ∷ chunks) (suc q) last end there = spare_last (next ∷ chunks) q last (omega arith) there

  pub full_last : (chunks : List (Vec T)) (q : ℕ) (last : Vec T) → suc q ≡ length chunks → length last.items ≤ 1024 → AreFull chunks → AreFull (set chunks q last)
  unfolding AreFull
  full_last [] q last end short full = absurd (omega arith)
  full_last (one ∷ []) zero last end short full = short
  full_last (one ∷ []) (suc q) last end short full = absurd (omega arith)
  full_last (one ∷ next ∷ chunks) zero last end short full = absurd (omega arith)
  full_last (one ∷ next ∷ []) (suc zero) last end short full = (full.0, short)
  full_last (one ∷ next ∷ []) (suc (suc q)) last end short full = absurd (omega arith)
  full_last (one ∷ next ∷ third ∷ chunks) (suc zero) last end short full = absurd (omega arith)
  full_last (one ∷ next ∷ third ∷ chunks) (suc (suc q)) last end short full = (full.0, full_last (next ∷ third ∷ chunks) (suc q) last (omega arith) short full.1)

  pub pushed : (chunks : List (Vec T)) (q : ℕ) (old last : Vec T) (item : T) → suc q ≡ length chunks → slice_get chunks q ≡ Some old → last.items ≡ old.items ++ item ∷ [] → items_of (set chunks q last) ≡ items_of chunks ++ item ∷ []
  pushed [] q old last item end there is = absurd (cc)
  pushed (one ∷ []) zero old last item end there is =
      let same : one ≡ old = cc in
      append-nil last.items ∙ is ∙ ap (λ (c : Vec T). c.items ++ item ∷ []) (sym same) ∙ ap (λ (xs : List T). xs ++ item ∷ []) (sym (append-nil one.items))
  pushed (one ∷ []) (suc q) old last item end there is = absurd (cc)
  pushed (one ∷ next ∷ chunks) zero old last item end there is = absurd (omega arith)
  pushed (one ∷ next ∷ chunks) (suc q) old last item end there is =
      ap (λ xs. one.items ++ xs) (pushed (next ∷ chunks) q old last item (omega arith) there is) ∙ sym (append_assoc one.items _ _)

  -- a chunk is added behind full ones
  pub all_full : (chunks : List (Vec T)) (q : ℕ) (last : Vec T) → suc q ≡ length chunks → slice_get chunks q ≡ Some last → 1024 ≤ length last.items → AreFull chunks → AreAllFull chunks
  unfolding AreFull
  all_full [] q last end there long full = tt
  all_full (one ∷ []) zero last end there long full = let is : one ≡ last = cc in let same = ap (λ (c : Vec T). length c.items) is in (omega arith, tt)
  all_full (one ∷ []) (suc q) last end there long full = absurd (cc)
  all_full (one ∷ next ∷ chunks) zero last end there long full = absurd (omega arith)
  all_full (one ∷ next ∷ chunks) (suc q) last end there long full = (full.0, all_full (next ∷ chunks) q last (omega arith) there long full.1)

  pub full_added : (chunks : List (Vec T)) (last : Vec T) → AreAllFull chunks → length last.items ≤ 1024 → AreFull (chunks ++ last ∷ [])
  unfolding AreFull
  full_added [] last all short = short
  full_added (one ∷ []) last all short = (all.0, short)
  full_added (one ∷ next ∷ chunks) last all short = (all.0, full_added (next ∷ chunks) last all.1 short)

  pub spare_added : (chunks : List (Vec T)) (last : Vec T) → spare_of (chunks ++ last ∷ []) ≡ min 1024 (vec_capacity last) - length last.items
  unfolding spare_of
  spare_added [] last = refl
  spare_added (one ∷ []) last = refl
  spare_added (one ∷ next ∷ chunks) last = spare_added (next ∷ chunks) last

  pub items_added : (chunks : List (Vec T)) (last : Vec T) → last.items ≡ [] → items_of (chunks ++ last ∷ []) ≡ items_of chunks
  items_added chunks last empty =
      flat_map-append (λ (c : Vec T). c.items) chunks (last ∷ []) ∙ ap (λ xs. items_of chunks ++ (xs ++ [])) empty ∙ append-nil (items_of chunks)

-- an item that is lent, if there is one
pub copied : {X : Type 0} (xs ys : List X) (i : ℕ) (r : Option (Bor X)) → xs ≡ ys → IsItemAt xs i r → option_copied r ≡ slice_get ys i
copied xs ys i None same h = sym (slice_get_past xs i h.3) ∙ ap (λ zs. slice_get zs i) same
copied xs ys i (Some x) same h = sym (slice_get_read xs (length xs) i x.now refl h.3.0 h.1) ∙ ap (λ zs. slice_get zs i) same

module _ {T : Type 0} where
  -- no chunk at all
  pub no_chunks : (chunks : List (Vec T)) → chunks ≡ [] → AreChunks chunks
  unfolding AreFull
  no_chunks chunks none = subst AreChunks (sym none) (record { full = tt; few = omega arith })

  -- chunks behind which one was added
  pub are_added : (old new : List (Vec T)) → AreAllFull old → HasSpareChunk old new → AreChunks new
  are_added old new all spare = record {
    full = subst AreFull (sym spare.added) (full_added old spare.chunk all (omega (arith, ap (λ (xs : List T). length xs) spare.empty)));
    few = spare.few;
  }

  pub items_stay : (old new : List (Vec T)) → HasSpareChunk old new → items_of new ≡ items_of old
  items_stay old new spare = ap items_of spare.added ∙ items_added old spare.chunk spare.empty

  pub has_spare : (old new : List (Vec T)) → HasSpareChunk old new → 0 < spare_of new
  has_spare old new spare =
      let is = ap spare_of spare.added ∙ spare_added old spare.chunk in
      omega (arith, is, spare.room, ap (λ (xs : List T). length xs) spare.empty)

  -- where there is room there is a chunk
  pub has_chunk : (chunks : List (Vec T)) → 0 < spare_of chunks → 0 < length chunks
  unfolding spare_of
  has_chunk [] room = absurd (omega (arith, room))
  has_chunk (one ∷ chunks) room = omega arith

  pub chunk_within : (chunks : List (Vec T)) (at : ℕ) → AreFull chunks → at < length (items_of chunks) → at / 1024 < length chunks
  chunk_within chunks at full within = let found = chunk_at chunks at full within in slice_get_within chunks (at / 1024) found.0 found.1

  -- the chunk that was read has the place
  pub in_chunk : (chunks : List (Vec T)) (at : ℕ) (chunk : Vec T) → AreFull chunks → at < length (items_of chunks) → chunk ≡ get_or chunks (at / 1024) chunk
      → (slice_get chunks (at / 1024) ≡ Some chunk) × (at % 1024 < length chunk.items)
  in_chunk chunks at chunk full within is =
      let found = chunk_at chunks at full within in
      let there : slice_get chunks (at / 1024) ≡ Some chunk = slice_get_read chunks (length chunks) (at / 1024) chunk refl (chunk_within chunks at full within) is in
      let first = found.1 in
      let same : found.0 ≡ chunk = cc in
      (there, subst (λ (v : Vec T). at % 1024 < length v.items) same found.2)

  pub no_chunk_full : (chunks : List (Vec T)) → length chunks ≡ 0 → AreAllFull chunks
  no_chunk_full [] none = tt
  no_chunk_full (one ∷ chunks) none = absurd (omega arith)

  pub spare_grown : (chunks : List (Vec T)) (q : ℕ) (last : Vec T) → suc q ≡ length chunks → spare_of (set chunks q last) ≡ min 1024 (vec_capacity last) - length last.items
  spare_grown chunks q last end =
      let long = length-set chunks q last in
      spare_last (set chunks q last) q last (omega arith)
      (slice_get_read (set chunks q last) (length (set chunks q last)) q last refl (omega arith) (sym (get_or-set_same chunks q last last (omega arith))))

  pub are_all_full : (chunks : List (Vec T)) (q : ℕ) (last : Vec T) → suc q ≡ length chunks → last ≡ get_or chunks q last → 1024 ≤ length last.items → AreFull chunks → AreAllFull chunks
  are_all_full chunks q last end is long full = all_full chunks q last end (slice_get_read chunks (length chunks) q last refl (omega arith) is) long full

-- what follows either way
pub either_way : {A E P Q R : Type 0} (r : Result A E) → OnOk r P → OnErr r Q → (P → R) → (Q → R) → R
either_way (Ok a) p q f g = f p
either_way (Err e) p q f g = g q

-- what is read twice at one place
pub same_read : {X : Type 0} (xs : List X) (i : ℕ) (x y : X) → i < length xs → x ≡ get_or xs i x → y ≡ get_or xs i y → x ≡ y
same_read xs i x y within one other =
    let first = slice_get_read xs (length xs) i x refl within one in
    let second = slice_get_read xs (length xs) i y refl within other in
    cc

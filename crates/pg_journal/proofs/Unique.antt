-- Bytes are those of one list of records at most.
use Rattle.std.proofs.Common.{◌≡◌, ℕ, ◌+◌, ◌-◌, ◌^◌, ◌<◌, ◌≤◌, List, [], ◌∷◌, ◌++◌, length, take, drop, refl, sym, ◌∙◌, ap, arith, append_assoc, length-append, length-drop}
use Rattle.std.specs.Int.{w64, from_be_bytes}
use Rattle.std.proofs.lemmas.Nat.{from_be_bytes-to_be_bytes_8}
use Rattle.std.proofs.lemmas.List.{take_at, drop_at, take_all, take-take, length-take-le, append-nil, take-append-le, drop-append-le}
use Rattle.pg_journal.specs.Device.{part}
use Rattle.pg_journal.specs.Digest.{digest_on, with_byte, digest_of_none}
use Rattle.pg_journal.specs.Records.{Kept, number, lengths, content, written, digest_after, all_written, digest_after_all, records, last_digest}
use Rattle.pg_journal.specs.Reading.{IsSized, IsFound}
use Rattle.pg_journal.proofs.Appended.{length-number, none_written}
use Rattle.pg_journal.proofs.Parts.{part_more}
use Rattle.pg_journal.proofs.Decoded.{digest_on-append}

pub number_same : (m n : ℕ) → m < 2 ^ 64 → n < 2 ^ 64 → number m ≡ number n → m ≡ n
unfolding number
number_same m n m_fits n_fits e = sym (from_be_bytes-to_be_bytes_8 m m_fits) ∙ ap (from_be_bytes w64) e ∙ from_be_bytes-to_be_bytes_8 n n_fits

pub digest_fits : (d : ℕ) (bytes : List ℕ) → d < 2 ^ 64 → digest_on d bytes < 2 ^ 64
digest_fits d [] fits = fits
digest_fits d (b ∷ bytes) fits = digest_fits (with_byte d b) bytes (omega arith)

pub last_fits : (d : ℕ) (ks : List Kept) → d < 2 ^ 64 → digest_after_all d ks < 2 ^ 64
last_fits d [] fits = fits
last_fits d (k ∷ ks) fits = last_fits (digest_after d k) ks (digest_fits d (content k) fits)

part_front : (p n : ℕ) (xs ys : List ℕ) → p + n ≤ length xs → part p n (xs ++ ys) ≡ part p n xs
part_front p n xs ys le = ap (take n) (drop-append-le p xs ys (omega (arith, le))) ∙ take-append-le n (drop p xs) ys (omega (arith, le, length-drop p xs))

module _ (k : Kept) where
  abbrev nt : List ℕ
  nt = number (length k.tenant)

  abbrev nb : List ℕ
  nb = number (length k.body)

  abbrev nl : List ℕ
  nl = number k.reply_length

  abbrev nd : List ℕ
  nd = number k.reply_digest

  two : length (nt ++ nb) ≡ 16
  two = omega (arith, length-append nt nb, length-number (length k.tenant), length-number (length k.body))

  three : length ((nt ++ nb) ++ nl) ≡ 24
  three = omega (arith, two, length-append (nt ++ nb) nl, length-number k.reply_length)

  pub length-lengths : length (lengths k) ≡ 32
  length-lengths = omega (arith, three, length-append ((nt ++ nb) ++ nl) nd, length-number k.reply_digest)

  pub front_tenant : part 0 8 (lengths k) ≡ number (length k.tenant)
  front_tenant = part_front 0 8 ((nt ++ nb) ++ nl) nd (omega (arith, three)) ∙ part_front 0 8 (nt ++ nb) nl (omega (arith, two)) ∙ take_at nt nb 8 (length-number (length k.tenant))

  pub front_body : part 8 8 (lengths k) ≡ number (length k.body)
  front_body = part_front 8 8 ((nt ++ nb) ++ nl) nd (omega (arith, three)) ∙ part_front 8 8 (nt ++ nb) nl (omega (arith, two)) ∙ ap (take 8) (drop_at nt nb 8 (length-number (length k.tenant))) ∙ take_all 8 nb (omega (arith, length-number (length k.body)))

  pub length-content : length (content k) ≡ 32 + (length k.tenant + length k.body)
  length-content = omega (arith, length-lengths, length-append (lengths k) k.tenant, length-append (lengths k ++ k.tenant) k.body)

  pub length-written : (d : ℕ) → length (written d k) ≡ 40 + (length k.tenant + length k.body)
  length-written d = omega (arith, length-content, length-append (content k) (number (digest_after d k)), length-number (digest_after d k))

  pub written_front : (d : ℕ) → take 32 (written d k) ≡ lengths k
  written_front d =
      take-append-le 32 (content k) (number (digest_after d k)) (omega (arith, length-content))
      ∙ take-append-le 32 (lengths k ++ k.tenant) k.body (omega (arith, length-lengths, length-append (lengths k) k.tenant))
      ∙ take_at (lengths k) k.tenant 32 length-lengths

  pub written_rest : (d : ℕ) → drop 32 (written d k) ≡ (k.tenant ++ k.body) ++ number (digest_after d k)
  written_rest d =
      drop-append-le 32 (content k) (number (digest_after d k)) (omega (arith, length-content))
      ∙ ap (λ (l : List ℕ). l ++ number (digest_after d k)) (
      drop-append-le 32 (lengths k ++ k.tenant) k.body (omega (arith, length-lengths, length-append (lengths k) k.tenant))
      ∙ ap (λ (l : List ℕ). l ++ k.body) (drop_at (lengths k) k.tenant 32 length-lengths)
      )

-- equal lengths in front
pub same_sizes : (k j : Kept) → IsSized k → IsSized j → lengths k ≡ lengths j → (length k.tenant ≡ length j.tenant) × (length k.body ≡ length j.body)
same_sizes k j sk sj e = (
  number_same (length k.tenant) (length j.tenant) sk.0 sj.0 (sym (front_tenant k) ∙ ap (part 0 8) e ∙ front_tenant j),
  number_same (length k.body) (length j.body) sk.1 sj.1 (sym (front_body k) ∙ ap (part 8 8) e ∙ front_body j),
)

pub same_first : (d : ℕ) (k j : Kept) (xs ys : List ℕ) → IsSized k → IsSized j → written d k ++ xs ≡ written d j ++ ys → (written d k ≡ written d j) × (xs ≡ ys)
same_first d k j xs ys sk sj e =
    let front : (x : Kept) (zs : List ℕ) → take 32 (written d x ++ zs) ≡ lengths x = λ x zs. take-append-le 32 (written d x) zs (omega (arith, length-written x d)) ∙ written_front x d in
    let sizes = same_sizes k j sk sj (sym (front k xs) ∙ ap (take 32) e ∙ front j ys) in
    let n = length (written d k) in
    let same : length (written d j) ≡ n = omega (arith, length-written k d, length-written j d, sizes.0, sizes.1) in (
      sym (take_at (written d k) xs n refl) ∙ ap (take n) e ∙ take_at (written d j) ys n same,
      sym (drop_at (written d k) xs n refl) ∙ ap (drop n) e ∙ drop_at (written d j) ys n same,
    )

pub same_digest : (d : ℕ) (k j : Kept) → written d k ≡ written d j → digest_after d k ≡ digest_after d j
same_digest d k j e =
    let n = length (content k) in
    let same : length (content j) ≡ n = omega (arith, ap length e, length-content k, length-content j, length-written k d, length-written j d) in
    ap (digest_on d) (sym (take_at (content k) (number (digest_after d k)) n refl) ∙ ap (take n) e ∙ take_at (content j) (number (digest_after d j)) n same)

-- what stands behind some of the records is the others
pub others : (d : ℕ) (ds ks : List Kept) (rest : List ℕ) → length (all_written d ks) < 2 ^ 64 → all_written d ds ++ rest ≡ all_written d ks
    → (more : List Kept) × (rest ≡ all_written (digest_after_all d ds) more) × (digest_after_all d ks ≡ digest_after_all (digest_after_all d ds) more)
others d [] ks rest fits e = (ks, e, refl)
others d (x ∷ ds) [] rest fits e = absurd (omega (arith, ap length e, length-append (written d x ++ all_written (digest_after d x) ds) rest, length-append (written d x) (all_written (digest_after d x) ds), length-written x d))
others d (x ∷ ds) (k ∷ ks) rest fits e =
    let total : length (written d k) + length (all_written (digest_after d k) ks) < 2 ^ 64 = omega (arith, fits, length-append (written d k) (all_written (digest_after d k) ks)) in
    let whole : written d x ++ (all_written (digest_after d x) ds ++ rest) ≡ written d k ++ all_written (digest_after d k) ks = sym (append_assoc (written d x) (all_written (digest_after d x) ds) rest) ∙ e in
    let long = ap length whole in
    let sx : IsSized x = (omega (arith, long, total, length-written x d, length-append (written d x) (all_written (digest_after d x) ds ++ rest), length-append (written d k) (all_written (digest_after d k) ks)), omega (arith, long, total, length-written x d, length-append (written d x) (all_written (digest_after d x) ds ++ rest), length-append (written d k) (all_written (digest_after d k) ks))) in
    let sk : IsSized k = (omega (arith, total, length-written k d), omega (arith, total, length-written k d)) in
    let parts = same_first d x k (all_written (digest_after d x) ds ++ rest) (all_written (digest_after d k) ks) sx sk whole in
    let same : digest_after d k ≡ digest_after d x = sym (same_digest d x k parts.0) in
    let behind : all_written (digest_after d x) ds ++ rest ≡ all_written (digest_after d x) ks = parts.1 ∙ ap (λ (n : ℕ). all_written n ks) same in
    let found = others (digest_after d x) ds ks rest (omega (arith, total, ap (λ (n : ℕ). length (all_written n ks)) same)) behind in
    (found.0, found.1, ap (λ (n : ℕ). digest_after_all n ks) same ∙ found.2)

-- the digest of a record that stands there is right
pub right_sum : (digest : ℕ) (front rest : List ℕ) (tenant body sum : ℕ) (k : Kept) → digest < 2 ^ 64 → tenant < 2 ^ 64 → body < 2 ^ 64 → sum < 2 ^ 64 → IsSized k
    → length front ≡ 32 → number tenant ≡ part 0 8 front → number body ≡ part 8 8 front → number sum ≡ part (tenant + body) 8 rest → front ++ rest ≡ written digest k
    → sum ≡ digest_on (digest_on digest front) (take (tenant + body) rest)
right_sum digest front rest tenant body sum k df tf bf sf sized long t b s e =
    let front_is : front ≡ lengths k = sym (take_at front rest 32 long) ∙ ap (take 32) e ∙ written_front k digest in
    let rest_is : rest ≡ (k.tenant ++ k.body) ++ number (digest_after digest k) = sym (drop_at front rest 32 long) ∙ ap (drop 32) e ∙ written_rest k digest in
    let tenant_is = number_same tenant (length k.tenant) tf sized.0 (t ∙ ap (part 0 8) front_is ∙ front_tenant k) in
    let body_is = number_same body (length k.body) bf sized.1 (b ∙ ap (part 8 8) front_is ∙ front_body k) in
    let both : length (k.tenant ++ k.body) ≡ tenant + body = omega (arith, length-append k.tenant k.body, tenant_is, body_is) in
    let start : take (tenant + body) rest ≡ k.tenant ++ k.body = ap (take (tenant + body)) rest_is ∙ take_at (k.tenant ++ k.body) (number (digest_after digest k)) (tenant + body) both in
    let last : part (tenant + body) 8 rest ≡ number (digest_after digest k) = ap (part (tenant + body) 8) rest_is ∙ ap (take 8) (drop_at (k.tenant ++ k.body) (number (digest_after digest k)) (tenant + body) both) ∙ take_all 8 (number (digest_after digest k)) (omega (arith, length-number (digest_after digest k))) in
    number_same sum (digest_after digest k) sf (digest_fits digest (content k) df) (s ∙ last)
    ∙ ap (digest_on digest) (append_assoc (lengths k) k.tenant k.body)
    ∙ sym (digest_on-append digest front (take (tenant + body) rest) ∙ (λ i. digest_on digest (front_is i ++ start i)))

-- the front of a record that stands there
pub front_of : (at d : ℕ) (file : List ℕ) (k : Kept) → part at (length (written d k)) file ≡ written d k → part at 32 file ≡ lengths k
front_of at d file k e = sym (take-take 32 (length (written d k)) (drop at file) (omega (arith, length-written k d))) ∙ ap (take 32) e ∙ written_front k d

-- the first of the records of which bytes are
first_of : (digest p room : ℕ) (file : List ℕ) (more : List Kept) → 0 < room → p + room ≤ length file → part p room file ≡ all_written digest more
    → (k : Kept) × (length (written digest k) ≤ room) × (part p (length (written digest k)) file ≡ written digest k)
first_of digest p room file [] some fits e = absurd (omega (arith, ap length e, length-take-le room (drop p file) (omega (arith, fits, length-drop p file)), some))
first_of digest p room file (k ∷ more) some fits e =
    let n = length (written digest k) in
    let small : n ≤ room = omega (arith, ap length e, length-take-le room (drop p file) (omega (arith, fits, length-drop p file)), length-append (written digest k) (all_written (digest_after digest k) more)) in
    (k, small, sym (take-take n room (drop p file) small) ∙ ap (take n) e ∙ take_at (written digest k) (all_written (digest_after digest k) more) n refl)

-- behind the records that were found stands one more
pub one_more : {R : Type 0} (replays : R → Kept → R → Type 0) (at size digest : ℕ) (file : List ℕ) (before after : R) (ds ks : List Kept) → at < size → 41 + size ≤ length file → size < 2 ^ 64 → IsFound replays at digest file before after ds → part 41 size file ≡ records ks
    → (k : Kept) × (length (written digest k) ≤ size - at) × (part (41 + at) (length (written digest k)) file ≡ written digest k)
one_more replays at size digest file before after ds ks lt fits small found is =
    let long : length (records ks) ≡ size = sym (ap length is) ∙ length-take-le size (drop 41 file) (omega (arith, fits, length-drop 41 file)) in
    let whole : part 41 (at + (size - at)) file ≡ part 41 size file = ap (λ (n : ℕ). part 41 n file) (omega (arith, lt)) in
    let split : records ds ++ part (41 + at) (size - at) file ≡ records ks = ap (λ (l : List ℕ). l ++ part (41 + at) (size - at) file) (sym found.bytes) ∙ sym (part_more 41 at (size - at) file) ∙ whole ∙ is in
    let rest = others digest_of_none ds ks (part (41 + at) (size - at) file) (omega (arith, long, small)) split in
    first_of digest (41 + at) (size - at) file rest.0 (omega (arith, lt)) (omega (arith, lt, fits)) (rest.1 ∙ ap (λ (d : ℕ). all_written d rest.0) (sym found.sums))

-- equal bytes have one digest
pub one_digest : {R : Type 0} (replays : R → Kept → R → Type 0) (size digest : ℕ) (file : List ℕ) (before after : R) (ds ks : List Kept) → 41 + size ≤ length file → size < 2 ^ 64 → IsFound replays size digest file before after ds → part 41 size file ≡ records ks → digest ≡ last_digest ks
one_digest replays size digest file before after ds ks fits small found is =
    let long : length (records ks) ≡ size = sym (ap length is) ∙ length-take-le size (drop 41 file) (omega (arith, fits, length-drop 41 file)) in
    let rest = others digest_of_none ds ks [] (omega (arith, long, small)) (append-nil (records ds) ∙ sym found.bytes ∙ is) in
    let none : rest.0 ≡ [] = none_written (last_digest ds) rest.0 (sym rest.1) in
    found.sums ∙ sym (rest.2 ∙ ap (digest_after_all (last_digest ds)) none)

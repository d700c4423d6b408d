-- Starts at the edges of what is lawful: B, the edition, the count of signals, widths and the lent lengths; and what a start leaves, computed.
-- Assumes nothing.
use Prim.Native.Nat.{ℕ, suc, ◌+◌, ◌*◌, ◌≤◌, ◌<◌}
use mathlib.Core.Path.{◌≡◌, refl, sym, ap}
use mathlib.Core.Bool.{true, false, or-true}
use mathlib.Core.List.{List, [], ◌∷◌, map}
use native.Mathlib.Omega.{arith}
use borrow.Author.Tests.{lt-ltb, ne_eqb}
use lib.ListN.{length, replicate, length-replicate}
use lib.Dec.{ltb}
use Rattle.lists.proofs.ChoiceLaws.{pick_same}
use Rattle.numbers.specs.LittleEndian.{le}
use Rattle.value.specs.declared.states.States.TheVariants.{Two}
use Rattle.signal.specs.declared.kind.SignalEncoding.{SignalEncoding}
use Rattle.signal.specs.declared.kind.SignalEncoding.TheVariants.{BitVector, Real, Absent}
use Rattle.image.specs.Block.{les}
use Rattle.image.specs.Head.{head_size, head_bytes, image_limit}
use Rattle.recording.specs.declared.Settings.{Settings}
use Rattle.recording.specs.Calls.{started}
use Rattle.recording.specs.Memory.{Memory, memory, After, after, record_of, refused}
use Rattle.recording.specs.Refusals.{outside, any_bad, start_tests}
use Rattle.recording.specs.State.{no_skips, settings_of}
use Rattle.recording.specs.Step.{start_of}
use Rattle.recording.specs.Runs.{stale_state, stale_of}
use Rattle.recording.proofs.StartLaws.{start_fits}

-- ---- what is not lawful is 1, whatever else is not

module _ (s : Settings) (m : Memory) where
  pub limit-low : s.limit < 2 → start_of s m ≡ refused m 1
  unfolding start_of start_tests
  limit-low h = rw (lt-ltb s.limit 2 h) refl

  pub limit-high : 65535 < s.limit → start_of s m ≡ refused m 1
  unfolding start_of start_tests
  limit-high h = rw (lt-ltb 65535 s.limit h, or-true (ltb s.limit 2)) refl

  pub edition-low : s.edition < 1 → start_of s m ≡ refused m 1
  unfolding start_of start_tests
  edition-low h = rw (lt-ltb s.edition 1 h) (pick_same (outside s.limit) _)

  pub edition-high : 2 < s.edition → start_of s m ≡ refused m 1
  unfolding start_of start_tests
  edition-high h = rw (lt-ltb 2 s.edition h, or-true (ltb s.edition 1)) (pick_same (outside s.limit) _)

  pub table-short : length m.times < s.limit → start_of s m ≡ refused m 1
  unfolding start_of start_tests
  table-short h = rw (lt-ltb (length m.times) s.limit h) (simp pick_same)

  pub signals-many : 65536 < s.signals → start_of s m ≡ refused m 1
  unfolding start_of start_tests
  signals-many h = rw (lt-ltb 65536 s.signals h) (simp pick_same)

  pub signals-other : (s.signals ≡ length m.records → ⊥) → start_of s m ≡ refused m 1
  unfolding start_of start_tests
  signals-other h = rw (ne_eqb s.signals (length m.records) h, or-true (ltb 65536 s.signals)) (simp pick_same)

  pub record-bad : any_bad m.records ≡ true → start_of s m ≡ refused m 1
  unfolding start_of start_tests
  record-bad h = rw h (simp pick_same)

  pub image-short : length m.image < head_size s.signals → start_of s m ≡ refused m 1
  unfolding start_of start_tests
  image-short h = rw (lt-ltb (length m.image) (head_size s.signals) h) (simp pick_same)

  pub image-long : image_limit < length m.image → start_of s m ≡ refused m 1
  unfolding start_of start_tests
  image-long h = rw (lt-ltb image_limit (length m.image) h, or-true (ltb (length m.image) (head_size s.signals))) (simp pick_same)

-- ---- the edges, for every memory: the last lawful number and the first that is not

-- B and the time buffer; the edition; the signals; the image buffer
pub record Limited (limit : ℕ) (m : Memory) : Type 0 where
  pub low : 2 ≤ limit
  pub high : limit ≤ 65535
  pub table : limit ≤ length m.times

pub record Chosen (edition : ℕ) : Type 0 where
  pub early : 1 ≤ edition
  pub late : edition ≤ 2

pub record Counted (signals : ℕ) (m : Memory) : Type 0 where
  pub few : signals ≤ 65536
  pub all : signals ≡ length m.records
  pub known : any_bad m.records ≡ false

pub record Roomy (signals : ℕ) (m : Memory) : Type 0 where
  pub room : 16 + 4 * signals ≤ length m.image
  pub short : length m.image ≤ 1073741824

module _ (limit signals edition : ℕ) (m : Memory) where
  abbrev pub Begins : Type 0
  Begins = (start_of (settings_of limit signals edition) m).reply ≡ started

  abbrev pub Refuses : Type 0
  Refuses = start_of (settings_of limit signals edition) m ≡ refused m 1

pub fits : (limit signals edition : ℕ) (m : Memory) → Limited limit m → Chosen edition → Counted signals m → Roomy signals m → Begins limit signals edition m
fits l s e m b t c r =
    ap (λ (a : After). a.reply)
    (start_fits (settings_of l s e) m
    (record {
      low = b.low;
      high = b.high;
      early = t.early;
      late = t.late;
      table = b.table;
      few = c.few;
      all = c.all;
      known = c.known;
      room = r.room;
      short = r.short;
    }))

pub limit-1 : (signals edition : ℕ) (m : Memory) → Refuses 1 signals edition m
limit-1 s e m = limit-low (settings_of 1 s e) m (omega arith)

pub limit-2 : (signals edition : ℕ) (m : Memory) → 2 ≤ length m.times → Chosen edition → Counted signals m → Roomy signals m → Begins 2 signals edition m
limit-2 s e m t = fits 2 s e m (record { low = omega arith; high = omega arith; table = t })

pub limit-65535 : (signals edition : ℕ) (m : Memory) → 65535 ≤ length m.times → Chosen edition → Counted signals m → Roomy signals m → Begins 65535 signals edition m
limit-65535 s e m t = fits 65535 s e m (record { low = omega arith; high = omega arith; table = t })

pub limit-65536 : (signals edition : ℕ) (m : Memory) → Refuses 65536 signals edition m
limit-65536 s e m = limit-high (settings_of 65536 s e) m (omega arith)

pub edition-0 : (limit signals : ℕ) (m : Memory) → Refuses limit signals 0 m
edition-0 l s m = edition-low (settings_of l s 0) m (omega arith)

pub edition-1 : (limit signals : ℕ) (m : Memory) → Limited limit m → Counted signals m → Roomy signals m → Begins limit signals 1 m
edition-1 l s m b = fits l s 1 m b (record { early = omega arith; late = omega arith })

pub edition-2 : (limit signals : ℕ) (m : Memory) → Limited limit m → Counted signals m → Roomy signals m → Begins limit signals 2 m
edition-2 l s m b = fits l s 2 m b (record { early = omega arith; late = omega arith })

pub edition-3 : (limit signals : ℕ) (m : Memory) → Refuses limit signals 3 m
edition-3 l s m = edition-high (settings_of l s 3) m (omega arith)

pub signals-65536 : (limit edition : ℕ) (m : Memory) → Limited limit m → Chosen edition → length m.records ≡ 65536 → any_bad m.records ≡ false → Roomy 65536 m
    → Begins limit 65536 edition m
signals-65536 l e m b t c k = fits l 65536 e m b t (record { few = omega arith; all = sym c; known = k })

pub signals-65537 : (limit edition : ℕ) (m : Memory) → Refuses limit 65537 edition m
signals-65537 l e m = signals-many (settings_of l 65537 e) m (omega arith)

-- the image buffer has exactly the head's bytes, and one fewer
pub image-exact : (limit signals edition : ℕ) (m : Memory) → Limited limit m → Chosen edition → Counted signals m → length m.image ≡ 16 + 4 * signals
    → Begins limit signals edition m
image-exact l s e m b t c i = fits l s e m b t c (record { room = omega arith; short = omega (arith, c.few) })

pub image-one-fewer : (limit signals edition : ℕ) (m : Memory) → suc (length m.image) ≡ 16 + 4 * signals → Refuses limit signals edition m
image-one-fewer l s e m i = image-short (settings_of l s e) m (omega arith)

-- the largest image buffer, and one byte more
pub image-1073741824 : (limit signals edition : ℕ) (m : Memory) → Limited limit m → Chosen edition → Counted signals m → length m.image ≡ 1073741824
    → Begins limit signals edition m
image-1073741824 l s e m b t c i = fits l s e m b t c (record { room = omega (arith, c.few); short = omega arith })

pub image-1073741825 : (limit signals edition : ℕ) (m : Memory) → length m.image ≡ 1073741825 → Refuses limit signals edition m
image-1073741825 l s e m i = image-long (settings_of l s e) m (omega arith)

-- ---- cases, on lent memory that holds nonsense

abbrev pub lent : List SignalEncoding → (times image : ℕ) → Memory
lent ks t i = memory stale_state (map (stale_of 0) ks) (replicate t 99) (99 ∷ []) (replicate i 99)

bit-fits : (t : ℕ) → 65535 ≤ t → Begins 65535 1 1 (lent (BitVector 1 ∷ []) t 20)
unfolding any_bad
bit-fits t h =
    limit-65535 1 1 (lent (BitVector 1 ∷ []) t 20) (rw (length-replicate {A = ℕ} t 99) h)
    (record { early = omega arith; late = omega arith })
    (record { few = omega arith; all = refl; known = refl })
    (record { room = omega arith; short = omega arith })

bit-short : (t : ℕ) → t < 65535 → Refuses 65535 1 1 (lent (BitVector 1 ∷ []) t 20)
bit-short t h = table-short (settings_of 65535 1 1) (lent (BitVector 1 ∷ []) t 20) (rw (length-replicate {A = ℕ} t 99) h)

-- B 65,535 with as many places for times, and with one fewer
pub largest-table : Begins 65535 1 1 (lent (BitVector 1 ∷ []) 65535 20)
largest-table = bit-fits 65535 (omega arith)

pub table-one-fewer : Refuses 65535 1 1 (lent (BitVector 1 ∷ []) 65534 20)
table-one-fewer = bit-short 65534 (omega arith)

-- an event, the widest vector, a real and an absent signal are known; a wider vector is not
pub width-65536 : Begins 2 4 1 (lent (BitVector 0 ∷ BitVector 65536 ∷ Real ∷ Absent ∷ []) 2 32)
unfolding any_bad start_tests start_of
width-65536 = refl

pub width-65537 : Refuses 2 4 1 (lent (BitVector 0 ∷ BitVector 65537 ∷ Real ∷ Absent ∷ []) 2 32)
unfolding any_bad start_tests start_of
width-65537 = refl

-- no signals: 16 bytes are enough, 15 are not
pub no-signals : Begins 2 0 1 (lent [] 2 16) × Refuses 2 0 1 (lent [] 2 15)
unfolding any_bad start_tests start_of
no-signals = (refl, refl)

-- one record more than S, and one fewer
pub other-count : Refuses 2 1 1 (lent (Real ∷ Real ∷ []) 2 24) × Refuses 2 3 1 (lent (Real ∷ Real ∷ []) 2 28)
unfolding any_bad start_tests start_of
other-count = (refl, refl)

-- widths 1 and 4 with B 4, as on the bench sheet, in edition 2: the head, which tells nothing of the edition, all records at 0, nothing past
-- the head, and the other buffers as they were
pub started-anew : start_of (settings_of 4 2 2) (lent (BitVector 1 ∷ BitVector 4 ∷ []) 5 26)
    ≡ after started
    (memory (record { closed = false; limit = 4; signals = 2; held = 0; work = 0; image = 24; blocks = 0; edition = 2; skips = no_skips })
    (record_of (BitVector 1) 0 Two 0 ∷ record_of (BitVector 4) 0 Two 0 ∷ [])
    (99 ∷ 99 ∷ 99 ∷ 99 ∷ 99 ∷ []) (99 ∷ [])
    (2 ∷ 0 ∷ 0 ∷ 0 ∷ 4 ∷ 0 ∷ 0 ∷ 0 ∷ 0 ∷ 0 ∷ 0 ∷ 0 ∷ 24 ∷ 0 ∷ 0 ∷ 0 ∷ 1 ∷ 0 ∷ 0 ∷ 0 ∷ 4 ∷ 0 ∷ 0 ∷ 0 ∷ 99 ∷ 99 ∷ []))
unfolding le les head_bytes any_bad start_tests start_of
started-anew = refl

-- The kind of a word, and the record that it becomes.
-- Assumes nothing.
use Prim.Native.Nat.{ℕ, min, ◌<◌, ◌≤◌}
use mathlib.Core.Path.{◌≡◌, refl, sym, ap, ◌∙◌}
use mathlib.Core.Bool.{Bool, true, false}
use mathlib.Core.List.{List}
use Rattle.std.specs.Prelude.{Option, Some, None}
use native.Mathlib.Omega.{arith}
use lib.ListN.{length, set, length-set}
use Rattle.digits.specs.Numbers.{bind}
use Rattle.lists.specs.Same.{same}
use Rattle.lists.specs.Choice.{pick}
use Rattle.ascii.specs.Ascii.{ascii}
use Rattle.signal.specs.declared.kind.SignalEncoding.{SignalEncoding}
use Rattle.signal.specs.declared.kind.SignalEncoding.TheVariants.{BitVector, Real, Absent}
use Rattle.recording.specs.declared.SignalRecord.{SignalRecord}
use Rattle.storage.specs.Storage.{Storable, records_of}
use Rattle.image.proofs.KindLaws.{kind-width}
use Rattle.storage.proofs.StorageLaws.{records-length}
use Rattle.line.specs.Line.{number32, vector, kind_of}
use Rattle.line.specs.Command.{record_for}

-- ---- one kind

module _ (w : List ℕ) where
  pub kind-event : same w (ascii "event") ≡ true → Some (BitVector 0) ≡ kind_of w
  unfolding kind_of
  kind-event a = rw a refl

  pub kind-real : same w (ascii "event") ≡ false → same w (ascii "real") ≡ true → Some Real ≡ kind_of w
  unfolding kind_of
  kind-real a b = rw (a, b) refl

  pub kind-absent : same w (ascii "event") ≡ false → same w (ascii "real") ≡ false → same w (ascii "absent") ≡ true → Some Absent ≡ kind_of w
  unfolding kind_of
  kind-absent a b d = rw (a, b, d) refl

  pub kind-number : same w (ascii "event") ≡ false → same w (ascii "real") ≡ false → same w (ascii "absent") ≡ false
      → kind_of w ≡ bind (number32 w) (λ n. Some (vector n))
  unfolding kind_of
  kind-number a b d = rw (a, b, d) refl

module _ (p : ℕ) (fits : p < 256) where
  Stored : SignalEncoding → Type 0
  Stored k = Storable (record_for k p)

  width-stored : (n : ℕ) → n ≤ 65537 → Storable (record_for (BitVector n) p)
  width-stored n h = (sym (kind-width n (λ e. omega arith) (λ e. omega arith)), omega arith, omega arith, fits)

  -- the record of any kind that a word can be, and of any probe of 8 bits, has a number
  pub kind-stored : (w : List ℕ) (k : SignalEncoding) → Some k ≡ kind_of w → Storable (record_for k p)
  unfolding kind_of Stored
  kind-stored w k e = by (same w (ascii "event")) (same w (ascii "real")) (same w (ascii "absent")) (number32 w) e
    where
      by : (t u v : Bool) (o : Option ℕ) → Some k ≡ pick t (Some (BitVector 0)) (pick u (Some Real) (pick v (Some Absent) (bind o (λ n. Some (vector n)))))
          → Storable (record_for k p)
      by true u v o e = let q : k ≡ BitVector 0 = cc in rw q (width-stored 0 (omega arith))
      by false true v o e = let q : k ≡ Real = cc in rw q (refl, omega arith, omega arith, fits)
      by false false true o e = let q : k ≡ Absent = cc in rw q (refl, omega arith, omega arith, fits)
      by false false false (Some n) e = let q : k ≡ vector n = cc in rw q (width-stored (min n 65537) (omega arith))
      by false false false None e = let z : ◌≡◌ {A = ℕ} 0 1 = cc in absurd (omega arith)

-- ---- records

-- storing a record keeps how many there are
pub put-length : (a b : List ℕ) (i : ℕ) (r : SignalRecord) → records_of b ≡ set (records_of a) i r → length b ≡ length a
put-length a b i r e = sym (records-length b) ∙ ap length e ∙ length-set (records_of a) i r ∙ records-length a

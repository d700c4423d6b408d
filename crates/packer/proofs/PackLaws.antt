-- A packed byte, by the symbols that lie in it: taken one after the other from the left, each is one more digit at the right.
-- Assumes nothing.
use Prim.Native.Nat.{ℕ, zero, suc, ◌+◌, ◌-◌, ◌*◌, ◌/◌, ◌^◌, ◌≤◌, ◌<◌}
use mathlib.Core.Path.{◌≡◌, refl, sym, ap, ap₂, ◌∙◌}
use mathlib.Core.List.{List}
use native.Mathlib.Nat.{add-zero, zero-add, suc-add, add-suc, sub_self, zero-mul, mod-lt, mod-one, zero-mod, mul_assoc, div-eq_of_lt, mul-le-mul_right, lt_of_lt_of_le}
use native.Mathlib.Numerals.{add-one}
use native.Mathlib.Omega.{arith}
use lib.ListN.{length, set, length-set, replicate}
use lib.Seq.{sets}
use lib.Pow.{pow_pos, pow_mono, mod-pow-add, shr-shr}
use Rattle.value.specs.Class.{bits_of}
use Rattle.packed.specs.Packed.{per_byte, packed_length, digit_at, digits}
use Rattle.packed.proofs.PackedLaws.{byte_full}
use Rattle.packer.specs.Number.{symbols_at}

-- the symbols of m bytes take 8 m bits
pub byte-bits : (c m : ℕ) → m * per_byte c * bits_of c ≡ m * 8
byte-bits c m = mul_assoc m (per_byte c) (bits_of c) ∙ ap (λ (n : ℕ). m * n) (byte_full c)

-- a byte of a packed value has a symbol
pub byte-in : (w c m : ℕ) → m < packed_length w c → m * per_byte c < w
byte-in w zero m h = omega arith
byte-in w (suc zero) m h = omega arith
byte-in w (suc (suc c)) m h = omega arith

-- bytes are fewer than their symbols
pub bytes-few : (c n : ℕ) → n ≤ n * per_byte c
bytes-few zero n = omega arith
bytes-few (suc zero) n = omega arith
bytes-few (suc (suc c)) n = omega arith

-- the whole bytes of x symbols, of the w that are packed
pub some-per-byte : (c : ℕ) → 0 < per_byte c
some-per-byte c = omega (arith, bytes-few c 1)

pub whole_in : (c x w : ℕ) → x ≤ w → (x / per_byte c * per_byte c ≤ x) × (x / per_byte c ≤ packed_length w c)
whole_in zero x w h = (omega arith, omega arith)
whole_in (suc zero) x w h = (omega arith, omega arith)
whole_in (suc (suc c)) x w h = (omega arith, omega arith)

-- and one more byte would have them all
pub whole-near : (c x : ℕ) → x ≤ (x / per_byte c + 1) * per_byte c
whole-near zero x = omega arith
whole-near (suc zero) x = omega arith
whole-near (suc (suc c)) x = omega arith

-- a byte before the end of n has room with them
pub byte-room : (k m : ℕ) {n left : ℕ} → 0 < left → left ≤ n → n * k ≤ m → (left - 1) * k + k ≤ m
byte-room k m {n} {left} h i r =
    let e : left ≡ suc (left - 1) = omega arith in
    let f : suc (left - 1) * k ≤ n * k = mul-le-mul_right k (rw e at i) in
    omega arith

-- ---- the loops that take symbols of a number: count of them with `after` behind, and i are left

-- working holds those taken
abbrev pub Taken : (b after count v i working : ℕ) → Type 0
Taken b after count v i working = (i ≤ count) × (working ≡ symbols_at b (after + i) (count - i) v)

module _ (b after count v : ℕ) where
  pub taken_none : Taken b after count v count 0
  taken_none = (omega arith, rw (sub_self count, zero-mul b) (sym (mod-one (v / 2 ^ ((after + count) * b)))))

  -- the places above the number have none
  pub taken-above : (i : ℕ) {w : ℕ} → i ≤ count → after + i ≡ w → v < 2 ^ (w * b) → Taken b after count v i 0
  taken-above i h e k = (h, rw (e, div-eq_of_lt k) (sym (zero-mod (2 ^ ((count - i) * b)))))

  one_more : (i n : ℕ) → symbols_at b (suc i) n v * 2 ^ b + digit_at b i v ≡ symbols_at b i (suc n) v
  one_more i n =
      let e : suc n * b ≡ n * b + b = omega arith in
      let f : suc i * b ≡ i * b + b = omega arith in
      rw (e, f, mod-pow-add (v / 2 ^ (i * b)) (n * b) b, shr-shr v (i * b) b) refl

  pub taken_more : (i : ℕ) {working symbol next : ℕ} → 0 < i → Taken b after count v i working
      → symbol ≡ digit_at b (after + (i - 1)) v → next ≡ working * 2 ^ b + symbol → Taken b after count v (i - 1) next
  taken_more i h t d r =
      let e : after + i ≡ suc (after + (i - 1)) = omega arith in
      let f : suc (count - i) ≡ count - (i - 1) = omega arith in (
        omega arith,
        r
            ∙ ap₂ (λ (x y : ℕ). x * 2 ^ b + y) (t.1 ∙ ap (λ (m : ℕ). symbols_at b m (count - i) v) e) d
            ∙ one_more (after + (i - 1)) (count - i)
            ∙ ap (λ (n : ℕ). symbols_at b (after + (i - 1)) n v) f,
      )

  -- they fit a byte
  pub taken-small : {i working : ℕ} → count * b ≤ 8 → Taken b after count v i working → working < 256
  taken-small {i} h t =
      let n : count - i ≤ count = omega arith in
      let j : (count - i) * b ≤ 8 = omega (arith, mul-le-mul_right b n) in
      rw t.1 (lt_of_lt_of_le (mod-lt (v / 2 ^ ((after + i) * b)) (pow_pos ((count - i) * b))) (pow_mono j))

  pub taken-all : {i working : ℕ} → i ≤ 0 → Taken b after count v i working → working ≡ symbols_at b after count v
  taken-all {i} h t =
      let e : after + i ≡ after = omega arith in
      let f : count - i ≡ count = omega arith in
      rw (e, f) at t.1

-- symbols that are the same at n places make the same
pub same-symbols : (b v i j n : ℕ) → ((t : ℕ) → t < n → digit_at b (i + t) v ≡ digit_at b (j + t) v) → symbols_at b i n v ≡ symbols_at b j n v
same-symbols b v i j zero h = rw (zero-mul b) (mod-one (v / 2 ^ (i * b)) ∙ sym (mod-one (v / 2 ^ (j * b))))
same-symbols b v i j (suc n) h =
    let more = same-symbols b v (suc i) (suc j) n (λ t k. rw (suc-add i t, suc-add j t, ← (add-suc i t), ← (add-suc j t)) (h (suc t) (omega arith))) in
    let first = rw (add-zero i, add-zero j) at (h 0 (omega arith)) in
    sym (one_more b 0 0 v i n)
    ∙ ap₂ (λ (x y : ℕ). x * 2 ^ b + y) more first
    ∙ one_more b 0 0 v j n

-- and are one where they fill it
pub taken-byte : (c m v : ℕ) → symbols_at (bits_of c) (m * per_byte c) (per_byte c) v ≡ digit_at 8 m v
taken-byte c m v = rw (byte-bits c m, byte_full c) refl

-- ---- the loops that write bytes of a number, n of them from `at` on, and `left` are left

-- what is still to be written, written, gives the final buffer
abbrev pub Written : (v : ℕ) → List ℕ → (at n : ℕ) → List ℕ → (o left : ℕ) → Type 0
Written v l at n out o left = (left ≤ n) × (length out ≡ length l) × (o + left ≡ at + n) × (sets out o (digits 8 left v) ≡ sets l at (digits 8 n v))

module _ (v : ℕ) (l : List ℕ) (at n : ℕ) where
  pub written_none : Written v l at n l at n
  written_none = (omega arith, refl, refl, refl)

  pub written-more : (out : List ℕ) (o left : ℕ) {y : ℕ} → 0 < left → Written v l at n out o left → y ≡ digit_at 8 (left - 1) v
      → Written v l at n (set out o y) (o + 1) (left - 1)
  unfolding digits
  written-more out o left {y} h w d =
      let e : left ≡ suc (left - 1) = omega arith in
      let step : sets out o (digits 8 left v) ≡ sets (set out o (digit_at 8 (left - 1) v)) (suc o) (digits 8 (left - 1) v) = ap (λ (m : ℕ). sets out o (digits 8 m v)) e in
      (omega arith, simp length-set w.1, omega arith, rw (add-one o, d) (sym step ∙ w.3))

  -- the same at an index, where i of them are written
  pub written-step : (out : List ℕ) (i : ℕ) {y : ℕ} → i < n → Written v l at n out (at + i) (n - i) → y ≡ digit_at 8 (n - 1 - i) v
      → Written v l at n (set out (at + i) y) (at + (i + 1)) (n - (i + 1))
  written-step out i {y} h w d =
      let e : at + i + 1 ≡ at + (i + 1) = omega arith in
      let f : n - i - 1 ≡ n - (i + 1) = omega arith in
      let k : n - 1 - i ≡ n - i - 1 = omega arith in
      rw (e, f) at (written-more out (at + i) (n - i) (omega arith) w (rw k at d))

  -- the same where those that are left are counted down
  pub written-down : (out : List ℕ) (left : ℕ) {y : ℕ} → 0 < left → Written v l at n out (at + (n - left)) left → y ≡ digit_at 8 (left - 1) v
      → Written v l at n (set out (at + (n - 1 - (left - 1))) y) (at + (n - (left - 1))) (left - 1)
  written-down out left {y} h w d =
      let e : at + (n - left) + 1 ≡ at + (n - (left - 1)) = omega (arith, w.0) in
      let f : at + (n - left) ≡ at + (n - 1 - (left - 1)) = omega (arith, w.0) in
      rw f at (rw e at (written-more out (at + (n - left)) left h w d))

  pub written_all : (out : List ℕ) (o : ℕ) {left : ℕ} → left ≤ 0 → Written v l at n out o left → (o ≡ at + n) × (out ≡ sets l at (digits 8 n v))
  unfolding digits
  written_all out o {left} h w = let e : left ≡ 0 = omega arith in (omega arith, rw e at w.3)

-- bytes that are alike, k of them before the `stop` last
pub alike-written : (v y stop k : ℕ) (l : List ℕ) (at : ℕ) → ((j : ℕ) → stop ≤ j → j < k + stop → y ≡ digit_at 8 j v)
    → sets (sets l at (replicate k y)) (at + k) (digits 8 stop v) ≡ sets l at (digits 8 (k + stop) v)
unfolding digits
alike-written v y stop zero l at h = rw (add-zero at, zero-add stop) refl
alike-written v y stop (suc k) l at h =
    let e : at + suc k ≡ suc at + k = omega arith in
    rw (e, suc-add k stop, ← (h (k + stop) (omega arith) (omega arith))) (alike-written v y stop k (set l at y) (suc at) (λ j p q. h j p (omega arith)))

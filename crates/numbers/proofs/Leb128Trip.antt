-- Reading and writing LEB128 are inverse, by induction on the bytes that may still be read: what stands at a place in its shortest form is
-- read there (get-put), and what is read stands there in that form, so that no longer form is read (put-get).
-- Assumes nothing.
use Prim.Native.Nat.{ℕ, zero, suc, ◌+◌, ◌-◌, ◌*◌, ◌/◌, ◌%◌, ◌^◌, ◌≤◌, ◌<◌}
use mathlib.Core.Path.{◌≡◌, refl, ap, ◌∙◌}
use mathlib.Core.Bool.{Bool, true, false}
use mathlib.Core.List.{List, [], ◌∷◌, ◌++◌}
use native.Mathlib.Nat.{pow-suc}
use native.Mathlib.Numerals.{sub-one}
use native.Mathlib.Omega.{arith}
use native.Mathlib.Decide.{dec_lt}
use borrow.Author.Tests.{lt-ltb, le-ltb, ne_eqb, ltb-true, ltb-false, eqb-false}
use lib.ListN.{length, drop, length-append, length-drop}
use lib.Seq.{drop-drop}
use lib.Dec.{ltb, eqb}
use Rattle.lists.specs.Bytes.{Bytes}
use Rattle.lists.specs.Choice.{pick}
use Rattle.lists.proofs.BytesLaws.{tail-bytes, drop-bytes}
use Rattle.numbers.specs.Leb128.{Leb128, leb_of, above, read_leb, leb_at}
use Rattle.std.specs.Prelude.{Some, None}
use Rattle.std.proofs.lemmas.Option.{some_pair_parts}
use Rattle.numbers.proofs.Leb128Laws.{leb_small, leb-big, leb-any, read_byte}

-- a byte with its top bit set, before a number that is not 0
above-value : (b h n : ℕ) → 0 < h → h < 33554432 → above b (Some (h, n)) ≡ Some (b - 128 + 128 * h, n)
above-value b h n p q = let ne : h ≡ 0 → ⊥ = λ e. omega arith in simp (ne_eqb h 0 ne, lt-ltb h 33554432)

-- v, written before other bytes, is read in at most k bytes
Reads : ℕ → ℕ → ℕ → List ℕ → Type 0
Reads k at v rest = read_leb k at (leb_of v ++ rest) ≡ Some (v, at + length (leb_of v))

read_small : (k at v : ℕ) (rest : List ℕ) → v < 128 → Reads (suc k) at v rest
unfolding Reads
read_small k at v rest l = rw (leb_small v l) (rw (read_byte (suc k) at v rest (omega arith), lt-ltb v 128) refl)

read-big : (k at v : ℕ) (rest : List ℕ) → v < 2 ^ 32 → 128 ≤ v → Reads k (at + 1) (v / 128) rest → Reads (suc k) at v rest
unfolding Reads
read-big k at v rest f l ih =
    let b : ℕ = v % 128 + 128 in
    let same : b - 128 + 128 * (v / 128) ≡ v = omega arith in
    let next : at + 1 + length (leb_of (v / 128)) ≡ at + suc (length (leb_of (v / 128))) = omega arith in
    rw (leb-big v l f)
    (read_byte (suc k) at b (leb_of (v / 128) ++ rest) (omega arith)
    ∙ rw (le-ltb b 128 (omega arith), sub-one, ih, above-value b (v / 128) (at + 1 + length (leb_of (v / 128))) (omega arith) (omega arith), same, next) refl)

-- what is written is read back, whatever stands after it
pub read_of : (j at v : ℕ) (rest : List ℕ) → v < 2 ^ 32 → v < 128 ^ suc j
    → read_leb (suc j) at (leb_of v ++ rest) ≡ Some (v, at + length (leb_of v))
unfolding Reads
read_of zero at v rest f h = read_small zero at v rest h
read_of (suc j) at v rest f h = by_size (dec_lt v 128) (λ l. read_of j (at + 1) (v / 128) rest (omega arith) (omega (arith, rw pow-suc at h)))
  where
    by_size : Dec (v < 128) → (128 ≤ v → Reads (suc j) (at + 1) (v / 128) rest) → Reads (suc (suc j)) at v rest
    by_size (yes l) ih = read_small (suc j) at v rest l
    by_size (no n) ih = let l : 128 ≤ v = omega arith in read-big (suc j) at v rest f l (ih l)

-- s starts with the shortest form of v, and n is the place after it, counted from at
pub record Written (at v n : ℕ) (s : List ℕ) : Type 0 where
  pub small : v < 2 ^ 32
  pub past : n ≡ at + length (leb_of v)
  pub form : s ≡ leb_of v ++ drop (length (leb_of v)) s

no_value : {A : Type 0} (v n : ℕ) → ◌≡◌ {A = Leb128} None (Some (v, n)) → A
no_value v n e = let z : ◌≡◌ {A = ℕ} 0 1 = cc in absurd (omega arith)

is-small : (at b v n : ℕ) (s : List ℕ) → b < 128 → ◌≡◌ {A = Leb128} (Some (b, at + 1)) (Some (v, n)) → Written at v n (b ∷ s)
is-small at b v n s l e =
    let p = some_pair_parts b v (at + 1) n e in
    rw (← p.0, ← p.1) (record { small = omega arith; past = rw (leb_small b l) refl; form = rw (leb_small b l) refl })

is-big : (at b v n h : ℕ) (s : List ℕ) → 128 ≤ b → b < 256 → 0 < h → h < 33554432 → Written (at + 1) h n s
    → ◌≡◌ {A = Leb128} (Some (b - 128 + 128 * h, n)) (Some (v, n)) → Written at v n (b ∷ s)
is-big at b v n h s l u p q w e =
    let v' = (some_pair_parts (b - 128 + 128 * h) v n n e).0 in
    let hi : v / 128 ≡ h = omega arith in
    let lo : v % 128 + 128 ≡ b = omega arith in
    let f : leb_of v ≡ b ∷ leb_of h = leb-big v (omega arith) (omega arith) ∙ rw (hi, lo) refl in
    record {
      small = omega arith;
      past = omega (arith, w.past, ap length f);
      form = rw f (ap (λ (t : List ℕ). b ∷ t) w.form);
    }

-- one byte more, by the tests of the definition and by what was read of the rest
by-rest : (at b v n : ℕ) (s : List ℕ) (r : Leb128) → 128 ≤ b → b < 256
    → ((h m : ℕ) → r ≡ Some (h, m) → Written (at + 1) h m s) → above b r ≡ Some (v, n) → Written at v n (b ∷ s)
by-rest at b v n s None l u ih e = no_value v n e
by-rest at b v n s (Some (h, m)) l u ih e = zero_or (eqb h 0) refl e
  where
    in-range : (t : Bool) → ltb h 33554432 ≡ t → 0 < h → ◌≡◌ {A = Leb128} (pick {A = Leb128} t (Some (b - 128 + 128 * h, m)) None) (Some (v, n)) → Written at v n (b ∷ s)
    in-range false t p e = no_value v n e
    in-range true t p e =
        let m' = (some_pair_parts (b - 128 + 128 * h) v m n e).1 in
        is-big at b v n h s l u p (ltb-true h 33554432 t) (rw m' at (ih h m refl)) (rw m' at e)

    zero_or : (t : Bool) → eqb h 0 ≡ t → pick {A = Leb128} t None (pick (ltb h 33554432) (Some (b - 128 + 128 * h, m)) None) ≡ Some (v, n) → Written at v n (b ∷ s)
    zero_or true t e = no_value v n e
    zero_or false t e = let ne = eqb-false h 0 t in in-range (ltb h 33554432) refl (omega arith) e

-- the same by the first byte
by_byte : (k at b v n : ℕ) (s : List ℕ) (t : Bool) → ltb b 128 ≡ t → b < 256
    → ((h m : ℕ) → read_leb k (at + 1) s ≡ Some (h, m) → Written (at + 1) h m s)
    → pick {A = Leb128} t (Some (b, at + 1)) (above b (read_leb k (at + 1) s)) ≡ Some (v, n) → Written at v n (b ∷ s)
by_byte k at b v n s true t u ih e = is-small at b v n s (ltb-true b 128 t) e
by_byte k at b v n s false t u ih e = by-rest at b v n s (read_leb k (at + 1) s) (ltb-false b 128 t) u ih e

-- what is read at the start of a list stands there in its shortest form
pub read_is : (k at v n : ℕ) (s : List ℕ) → Bytes s → read_leb k at s ≡ Some (v, n) → Written at v n s
unfolding read_leb
read_is zero at v n s y e = no_value v n e
read_is (suc k) at v n [] y e = no_value v n e
read_is (suc k) at v n (b ∷ s) y e =
    by_byte k at b v n s (ltb b 128) refl (y 0) (λ h m q. read_is k (at + 1) h m s (tail-bytes b s y) q) e

-- what stands at a place in its shortest form is read there
pub get-put : (s : List ℕ) (at v : ℕ) (rest : List ℕ) → v < 2 ^ 32 → drop at s ≡ leb_of v ++ rest
    → leb_at s at ≡ Some (v, at + length (leb_of v))
get-put s at v rest f e = rw e (read_of 4 at v rest f (omega arith))

-- the shortest form of v stands at a place of s, and n is the place after it
pub record WrittenAt (s : List ℕ) (at v n : ℕ) : Type 0 where
  pub small : v < 2 ^ 32
  pub past : n ≡ at + length (leb_of v)
  pub inside : n ≤ length s
  pub form : drop at s ≡ leb_of v ++ drop n s

-- what is read at a place stands there in its shortest form
pub put-get : (s : List ℕ) (at v n : ℕ) → Bytes s → leb_at s at ≡ Some (v, n) → WrittenAt s at v n
put-get s at v n y e =
    let w : Written at v n (drop at s) = read_is 5 at v n (drop at s) (drop-bytes at s y) e in
    let form : drop at s ≡ leb_of v ++ drop n s = rw (w.past, ← (drop-drop (length (leb_of v)) at s)) w.form in
    record {
      small = w.small;
      past = w.past;
      inside = omega (arith, leb-any v, simp (length-append, length-drop) at (ap length form));
      form = form;
    }

-- Two changes that say the same: a wider vector does where its class and its packed bytes are the same, since packing is injective.
-- Assumes nothing.
use Prim.Native.Nat.{ℕ, zero, suc, ◌+◌, ◌-◌, ◌≤◌, ◌<◌}
use mathlib.Core.Path.{◌≡◌, refl, sym, ap, ◌∙◌, subst}
use mathlib.Core.Bool.{Bool, true, false, ◌&&◌, and-true}
use mathlib.Core.List.{List, [], ◌∷◌}
use native.Mathlib.Omega.{arith}
use borrow.Author.Tests.{eq-eqb, ne_eqb}
use Rattle.lists.proofs.SetsLaws.{part-more}
use lib.Dec.{eqb}
use lib.Pointwise.{pointwise}
use lib.ListN.{length, get_or, take, drop}
use Rattle.std.proofs.lemmas.List.{get_or-take, get_or-drop}
use Rattle.lists.specs.Same.{same}
use Rattle.lists.proofs.SameLaws.{same_true, same_self}
use Rattle.value.specs.Class.{class_number, class_of_all}
use Rattle.packed.specs.Packed.{packed_length, packed, unpacked}
use Rattle.signal.specs.declared.kind.SignalEncoding.{SignalEncoding}
use Rattle.signal.specs.declared.kind.SignalEncoding.TheVariants.{BitVector, Real, Absent}
use Rattle.signal.specs.declared.decode.ChangeValue.{ChangeValue}
use Rattle.stream.specs.Entries.{repeats}
use Rattle.entry.specs.Read.{bit_in, states_in, bits_in, packed_before, wide_read, content_read, PackedThere}

-- what slices compared by `==` say
pub equal_same : (a b : List ℕ) → pointwise eqb a b ≡ same a b
unfolding same
equal_same [] [] = refl
equal_same [] (y ∷ b) = refl
equal_same (x ∷ a) [] = refl
equal_same (x ∷ a) (y ∷ b) = ap (λ (t : Bool). eqb x y && t) (equal_same a b)

-- ---- what a loop says of the bytes from two places on

same_step : (n p q : ℕ) (a b : List ℕ) → p < length a → q < length b
    → same (take (suc n) (drop p a)) (take (suc n) (drop q b)) ≡ eqb (get_or a p 0) (get_or b q 0) && same (take n (drop (suc p) a)) (take n (drop (suc q) b))
unfolding same
same_step n p q a b h k = rw (part-more n p a h, part-more n q b k) refl

pub same_none : (p q : ℕ) (a b : List ℕ) → same (take 0 (drop p a)) (take 0 (drop q b)) ≡ true
unfolding same
same_none p q a b = refl

pub same_next : (n m p q : ℕ) (a b : List ℕ) → n ≡ suc m → p < length a → q < length b → get_or a p 0 ≡ get_or b q 0
    → same (take n (drop p a)) (take n (drop q b)) ≡ same (take m (drop (suc p) a)) (take m (drop (suc q) b))
same_next n m p q a b f h k e = rw f (same_step m p q a b h k ∙ rw (eq-eqb (get_or a p 0) (get_or b q 0) e) refl)

pub same_differs : (n m p q : ℕ) (a b : List ℕ) → n ≡ suc m → p < length a → q < length b → (get_or a p 0 ≡ get_or b q 0 → ⊥)
    → same (take n (drop p a)) (take n (drop q b)) ≡ false
same_differs n m p q a b f h k e = rw f (same_step m p q a b h k ∙ rw (ne_eqb (get_or a p 0) (get_or b q 0) e) refl)

-- ---- symbols and their packed bytes

-- equal exactly where others are
same-where : (a b x y : List ℕ) → (a ≡ b → x ≡ y) → (x ≡ y → a ≡ b) → same a b ≡ same x y
same-where a b x y f g = by (same a b) (same x y) refl refl
  where
    by : (s t : Bool) → same a b ≡ s → same x y ≡ t → same a b ≡ same x y
    by true t p q = p ∙ sym (subst (λ (z : List ℕ). same x z ≡ true) (f (same_true a b p)) (same_self x))
    by false true p q = subst (λ (z : List ℕ). same a z ≡ true) (g (same_true x y q)) (same_self a) ∙ sym q
    by false false p q = p ∙ sym q

same_not : (a b : List ℕ) → (a ≡ b → ⊥) → false ≡ same a b
same_not a b f = by (same a b) refl
  where
    by : (s : Bool) → same a b ≡ s → false ≡ same a b
    by true p = absurd (f (same_true a b p))
    by false p = sym p

-- ---- the last of the bytes before two places

last-byte : (size m : ℕ) (s : List ℕ) → 0 < size → size ≤ m → get_or (take size (drop (m - size) s)) (size - 1) 0 ≡ get_or s (m - 1) 0
last-byte size m s h k =
    let e : m - size + (size - 1) ≡ m - 1 = omega arith in
    get_or-take size (drop (m - size) s) (size - 1) 0 (omega arith) ∙ get_or-drop (m - size) s (size - 1) 0 ∙ ap (λ (i : ℕ). get_or s i 0) e

pub last_differs : (size m n : ℕ) (s : List ℕ) → 0 < size → size ≤ m → size ≤ n → (get_or s (m - 1) 0 ≡ get_or s (n - 1) 0 → ⊥)
    → false ≡ same (take size (drop (m - size) s)) (take size (drop (n - size) s))
last_differs size m n s h k l d =
    same_not _ _ (λ e. d (sym (last-byte size m s h k) ∙ ap (λ (x : List ℕ). get_or x (size - 1) 0) e ∙ last-byte size n s h l))

pub one_same : (m n : ℕ) (s : List ℕ) → 0 < m → m ≤ length s → 0 < n → n ≤ length s → get_or s (m - 1) 0 ≡ get_or s (n - 1) 0
    → true ≡ same (take 1 (drop (m - 1) s)) (take 1 (drop (n - 1) s))
one_same m n s h i k j e = sym (same_next 1 0 (m - 1) (n - 1) s s refl (omega arith) (omega arith) e ∙ same_none (suc (m - 1)) (suc (n - 1)) s s)

module _ (w t c m n : ℕ) (a b : List ℕ) (there : PackedThere w t m a) (here : PackedThere w c n b) where
  -- symbols of two classes differ
  pub wide-differs : (t ≡ c → ⊥) → false ≡ same (wide_read w t m a) (wide_read w c n b)
  wide-differs h = same_not _ _ (λ e. h (sym there.class ∙ ap class_of_all e ∙ here.class))

  pub wide-same : t ≡ c → same (packed_before w c m a) (packed_before w c n b) ≡ same (wide_read w t m a) (wide_read w c n b)
  wide-same e =
      subst (λ (u : ℕ). same (packed_before w u m a) (packed_before w c n b) ≡ same (wide_read w t m a) (wide_read w c n b)) e
      (same-where (packed_before w t m a) (packed_before w c n b) (wide_read w t m a) (wide_read w c n b)
      (λ f. ap (unpacked w t) f ∙ ap (λ (u : ℕ). unpacked w u (packed_before w c n b)) e)
      (λ f. sym there.back ∙ ap (packed t) f ∙ ap (λ (u : ℕ). packed u (wide_read w c n b)) e ∙ here.back))

  pub both-inside : (size : ℕ) → t ≡ c → size ≡ packed_length w c → ((m - size + size ≤ length a) × (n - size + size ≤ length b)) × (size ≤ m) × (size ≤ n)
  both-inside size e f =
      let g : packed_length w c ≤ m = subst (λ (u : ℕ). packed_length w u ≤ m) e there.inside in
      ((omega (arith, there.within), omega (arith, here.within, here.inside)), omega arith, omega (arith, here.inside))

  pub parts_same : (size : ℕ) (r : Bool) → t ≡ c → size ≡ packed_length w c → r ≡ same (take size (drop (m - size) a)) (take size (drop (n - size) b))
      → r ≡ same (wide_read w t m a) (wide_read w c n b)
  parts_same size r e f g = g ∙ ap (λ (k : ℕ). same (take k (drop (m - k) a)) (take k (drop (n - k) b))) f ∙ wide-same e

-- ---- every kind

module _ (k : SignalEncoding) (w : ℕ) (a : List ℕ) (x : ChangeValue) (m : ℕ) (b : List ℕ) (y : ChangeValue) (n : ℕ) where
  pub event-repeats : k ≡ BitVector w → w ≡ 0 → false ≡ repeats (content_read k a x m) (content_read k b y n)
  unfolding content_read
  event-repeats e z = rw (e, z) refl

  pub bit-repeats : (i j : ℕ) → k ≡ BitVector w → w ≡ 1 → i ≡ bit_in x → j ≡ bit_in y → eqb i j ≡ repeats (content_read k a x m) (content_read k b y n)
  unfolding content_read same
  bit-repeats i j e z f g = rw (e, z, f, g) (sym (and-true (eqb (bit_in x) (bit_in y))))

  pub real-repeats : (i j : ℕ) → k ≡ Real → i ≡ bits_in x → j ≡ bits_in y → eqb i j ≡ repeats (content_read k a x m) (content_read k b y n)
  unfolding content_read
  real-repeats i j e f g = rw (e, f, g) refl

  pub absent-repeats : k ≡ Absent → false ≡ repeats (content_read k a x m) (content_read k b y n)
  unfolding content_read
  absent-repeats e = rw e refl

wide-content : (w : ℕ) (a : List ℕ) (x : ChangeValue) (m : ℕ) (b : List ℕ) (y : ChangeValue) (n : ℕ) → 1 < w
    → same (wide_read w (class_number (states_in x)) m a) (wide_read w (class_number (states_in y)) n b) ≡ repeats (content_read (BitVector w) a x m) (content_read (BitVector w) b y n)
unfolding content_read
wide-content zero a x m b y n h = absurd (omega arith)
wide-content (suc zero) a x m b y n h = absurd (omega arith)
wide-content (suc (suc w)) a x m b y n h = refl

pub wide-repeats : (k : SignalEncoding) (w t c : ℕ) (a : List ℕ) (x : ChangeValue) (m : ℕ) (b : List ℕ) (y : ChangeValue) (n : ℕ) → k ≡ BitVector w → (w ≡ 0 → ⊥) → (w ≡ 1 → ⊥)
    → t ≡ class_number (states_in x) → c ≡ class_number (states_in y)
    → same (wide_read w t m a) (wide_read w c n b) ≡ repeats (content_read k a x m) (content_read k b y n)
wide-repeats k w t c a x m b y n e z one f g = rw (e, f, g) (wide-content w a x m b y n (omega arith))

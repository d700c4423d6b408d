-- Bytes of pairs of digits, pair by pair.
-- Assumes nothing.
use Prim.Native.Nat.{ℕ, suc, ◌+◌, ◌*◌, ◌%◌, ◌<◌, ◌≤◌}
use mathlib.Core.Path.{◌≡◌, refl, sym, ap, ◌∙◌}
use mathlib.Core.Bool.{Bool, true, false, ◌&&◌}
use mathlib.Core.List.{List, [], ◌∷◌}
use Rattle.std.specs.Prelude.{Option, Some, None, is_some, unwrap_or}
use native.Mathlib.Omega.{arith}
use borrow.Author.Tests.{lt-ltb, le-ltb, ltb-true, ltb-false, eqb-true}
use lib.Dec.{ltb, eqb}
use Rattle.std.specs.Char.{is_ascii_hexdigit}
use Rattle.std.specs.List.{list_all}
use Rattle.lists.specs.Choice.{pick}
use Rattle.lists.proofs.ChoiceLaws.{both_hold}
use Rattle.digits.proofs.NumberLaws.{digit-hex}
use lib.ListN.{length, get_or, drop, drop_of_length-le}
use lib.Seq.{drop-cons}
use Rattle.line.proofs.MaybeLaws.{Some-there, None-there}
use Rattle.digits.specs.Numbers.{bind, digit_of, hex_bytes}
use Rattle.line.specs.Command.{bytes_in}

drop-two : (s : List ℕ) (i : ℕ) → suc i < length s → drop i s ≡ get_or s i 0 ∷ get_or s (suc i) 0 ∷ drop (suc (suc i)) s
drop-two s i h = drop-cons s i 0 (omega arith) ∙ rw (drop-cons s (suc i) 0 h) refl

module _ (s : List ℕ) (i : ℕ) where
  pub hex-end : length s ≤ i → hex_bytes (drop i s) ≡ Some []
  unfolding hex_bytes
  hex-end h = rw (drop_of_length-le s h) refl

  pub hex-odd : suc i ≡ length s → hex_bytes (drop i s) ≡ None
  unfolding hex_bytes
  hex-odd e =
      let h : length s ≤ suc i = omega arith in
      rw (drop-cons s i 0 (omega arith), drop_of_length-le s h) refl

  module _ (h : suc i < length s) where
    pub hex-high : 16 ≤ digit_of (get_or s i 0) → hex_bytes (drop i s) ≡ None
    unfolding hex_bytes
    hex-high d = rw (drop-two s i h, le-ltb (digit_of (get_or s i 0)) 16 d) refl

    pub hex-low : digit_of (get_or s i 0) < 16 → 16 ≤ digit_of (get_or s (suc i) 0) → hex_bytes (drop i s) ≡ None
    unfolding hex_bytes
    hex-low a d = rw (drop-two s i h, lt-ltb (digit_of (get_or s i 0)) 16 a, le-ltb (digit_of (get_or s (suc i) 0)) 16 d) refl

    hex-both : digit_of (get_or s i 0) < 16 → digit_of (get_or s (suc i) 0) < 16
        → hex_bytes (drop i s) ≡ bind (hex_bytes (drop (suc (suc i)) s)) (λ r. Some ((digit_of (get_or s i 0) * 16 + digit_of (get_or s (suc i) 0)) ∷ r))
    unfolding hex_bytes
    hex-both a b = rw (drop-two s i h, lt-ltb (digit_of (get_or s i 0)) 16 a, lt-ltb (digit_of (get_or s (suc i) 0)) 16 b) refl

-- they are pairs of digits where they are digits, and an even number
hex-there : (s : List ℕ) → is_some (hex_bytes s) ≡ (eqb (length s % 2) 0 && list_all is_ascii_hexdigit s)
unfolding hex_bytes
hex-there [] = refl
hex-there (a ∷ []) = refl
hex-there (a ∷ b ∷ l) =
    let even : suc (suc (length l)) % 2 ≡ length l % 2 = omega arith in
    rw (even, digit-hex a, digit-hex b) (by (ltb (digit_of a) 16) (ltb (digit_of b) 16) (hex_bytes l) (eqb (length l % 2) 0) (list_all is_ascii_hexdigit l) (hex-there l))
  where
    by : (x y : Bool) (o : Option (List ℕ)) (even all : Bool) → is_some o ≡ (even && all)
        → is_some (pick (x && y) (bind o (λ r. Some ((digit_of a * 16 + digit_of b) ∷ r))) None) ≡ (even && (x && (y && all)))
    by true true None even all e = e
    by true true (Some r) even all e = e
    by true false o true all e = refl
    by true false o false all e = refl
    by false y o true all e = refl
    by false y o false all e = refl

pub hex-even : (s : List ℕ) → is_some (hex_bytes s) ≡ true → length s % 2 ≡ 0
hex-even s e = eqb-true (length s % 2) 0 (both_hold (eqb (length s % 2) 0) (list_all is_ascii_hexdigit s) (sym (hex-there s) ∙ e)).0

pub hex-digits : (s : List ℕ) → eqb (length s % 2) 0 ≡ true → list_all is_ascii_hexdigit s ≡ is_some (hex_bytes s)
hex-digits s e = rw e at (sym (hex-there s))

pub hex-odd-length : (s : List ℕ) → eqb (length s % 2) 0 ≡ false → false ≡ is_some (hex_bytes s)
hex-odd-length s e = rw e at (sym (hex-there s))

-- what is known of the pair at i, where pairs from there on stand for the bytes bs
pub record Pair (s : List ℕ) (i : ℕ) (bs : List ℕ) : Type 0 where
  pub more : suc i < length s
  pub high : digit_of (get_or s i 0) < 16
  pub low : digit_of (get_or s (suc i) 0) < 16
  pub rest : List ℕ
  pub read : hex_bytes (drop (suc (suc i)) s) ≡ Some rest
  pub bytes : bs ≡ (digit_of (get_or s i 0) * 16 + digit_of (get_or s (suc i) 0)) ∷ rest

pub pair-at : (s : List ℕ) (i : ℕ) (bs : List ℕ) → i < length s → hex_bytes (drop i s) ≡ Some bs → Pair s i bs
pair-at s i bs h e =
    let m = is-more (ltb (suc i) (length s)) refl in
    let a = is-high m (ltb (digit_of (get_or s i 0)) 16) refl in
    let b = is-low m a (ltb (digit_of (get_or s (suc i) 0)) 16) refl in
    by m a b (hex_bytes (drop (suc (suc i)) s)) refl
  where
    never : {B : Type 0} → hex_bytes (drop i s) ≡ None → B
    never n = let z : ◌≡◌ {A = ℕ} 0 1 = cc in absurd (omega arith)

    is-more : (t : Bool) → ltb (suc i) (length s) ≡ t → suc i < length s
    is-more true q = ltb-true (suc i) (length s) q
    is-more false q = never (hex-odd s i (omega (arith, ltb-false (suc i) (length s) q)))

    is-high : suc i < length s → (t : Bool) → ltb (digit_of (get_or s i 0)) 16 ≡ t → digit_of (get_or s i 0) < 16
    is-high m true q = ltb-true (digit_of (get_or s i 0)) 16 q
    is-high m false q = never (hex-high s i m (ltb-false (digit_of (get_or s i 0)) 16 q))

    is-low : suc i < length s → digit_of (get_or s i 0) < 16 → (t : Bool) → ltb (digit_of (get_or s (suc i) 0)) 16 ≡ t → digit_of (get_or s (suc i) 0) < 16
    is-low m a true q = ltb-true (digit_of (get_or s (suc i) 0)) 16 q
    is-low m a false q = never (hex-low s i m a (ltb-false (digit_of (get_or s (suc i) 0)) 16 q))

    by : suc i < length s → digit_of (get_or s i 0) < 16 → digit_of (get_or s (suc i) 0) < 16
        → (o : Option (List ℕ)) → hex_bytes (drop (suc (suc i)) s) ≡ o → Pair s i bs
    by m a b None q = never (rw q at (hex-both s i m a b))
    by m a b (Some r) q =
        let t = rw q at (hex-both s i m a b) in
        record { more = m; high = a; low = b; rest = r; read = q; bytes = cc }

-- ---- the bytes

pub bytes-some : (s : List ℕ) → is_some (hex_bytes s) ≡ true → hex_bytes s ≡ Some (bytes_in s)
unfolding bytes_in
bytes-some s e = Some-there (hex_bytes s) e

pub bytes-none : (s : List ℕ) → is_some (hex_bytes s) ≡ false → bytes_in s ≡ []
unfolding bytes_in
bytes-none s e = ap (λ (o : Option (List ℕ)). unwrap_or o []) (None-there (hex_bytes s) e)

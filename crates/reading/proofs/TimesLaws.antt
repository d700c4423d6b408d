-- Option ℕ turn by turn.
-- Assumes nothing.
use Prim.Native.Nat.{ℕ, ◌+◌, ◌-◌, ◌*◌, ◌≤◌, ◌<◌}
use mathlib.Core.Path.{◌≡◌, refl, sym, ap, ap₂, ◌∙◌}
use mathlib.Core.Bool.{Bool, true, false}
use mathlib.Core.List.{List, [], ◌∷◌}
use native.Mathlib.Omega.{arith}
use borrow.Author.Tests.{lt-ltb, le-ltb}
use lib.Dec.{leb, ltb}
use lib.ListN.{length, take, drop, get_or}
use Rattle.lists.specs.Choice.{pick}
use Rattle.lists.specs.Got.{Got}
use Rattle.lists.specs.Last.{last_or}
use Rattle.numbers.specs.LittleEndian.{unle}
use Rattle.form.specs.Form.{and_then, got_if, if_yes}
use Rattle.form.specs.Decide.{le?, lt?, both}
use Rattle.codec.specs.Valid.{rising_from?, rising?, starts?}
use Rattle.reading.specs.Decided.{is_yes, uints}
use Rattle.reading.specs.Times.{end_of, last_time, times_at, starts_at, rise_from, rising_at}
use Rattle.std.specs.Prelude.{Option, Some, None}
use Rattle.reading.proofs.DecidedLaws.{yes_le, yes_lt, yes_both, pick-both}
use Rattle.reading.proofs.PlaceLaws.{uints-at, uints-more, uints-none}

-- ---- how a block starts

pub starts_first : (s : List ℕ) (at : ℕ) (end : Option ℕ) → end ≡ None → true ≡ starts_at s at end
unfolding starts_at starts?
starts_first s at end e = rw e refl

-- the first time of n, one at least
first_of : (n : ℕ) (s : List ℕ) (at : ℕ) → 0 < n → get_or (uints 8 n s at) 0 0 ≡ unle (take 8 (drop at s))
first_of n s at h = ap (λ (l : List ℕ). get_or l 0 0) (uints-more 8 n s at h)

pub starts_with : (s : List ℕ) (at : ℕ) (end : Option ℕ) (u t : ℕ) → end ≡ Some u → t ≡ unle (take 8 (drop at s)) → leb u t ≡ starts_at s at end
unfolding starts_at starts?
starts_with s at end u t e q = rw e (sym (yes_le u (get_or (uints 8 1 s at) 0 0) ∙ ap (leb u) (first_of 1 s at (omega arith) ∙ sym q)))

starts-all : (n : ℕ) (s : List ℕ) (at : ℕ) (end : Option ℕ) → 0 < n → is_yes (starts? (end_of end) (uints 8 n s at)) ≡ starts_at s at end
unfolding starts_at starts?
starts-all n s at None h = refl
starts-all n s at (Some u) h = ap (λ (t : ℕ). is_yes (le? u t)) (first_of n s at h ∙ sym (first_of 1 s at (omega arith)))

-- ---- all at once, and time by time

rise-is : (t : ℕ) (l : List ℕ) → pick (is_yes (rising_from? t l)) (Some (last_or t l)) None ≡ rise_from t l
unfolding rising_from? rise_from last_or
rise-is t [] = refl
rise-is t (u ∷ l) =
    ap (λ (b : Bool). pick b (Some (last_or u l)) None) (yes_both (lt? t u) (rising_from? u l)) ∙ pick-both (is_yes (lt? t u)) (is_yes (rising_from? u l)) (Some (last_or u l)) None
    ∙ ap₂ (λ (b : Bool) (x : Option ℕ). pick b x None) (yes_lt t u) (rise-is u l)

rising-from : (t : ℕ) (l : List ℕ) → pick (is_yes (rising? (t ∷ l))) (Some (last_or 0 (t ∷ l))) None ≡ rise_from t l
unfolding rising? last_or
rising-from t l = rise-is t l

pub rising-is : (n : ℕ) (s : List ℕ) (at t : ℕ) → 0 < n → t ≡ unle (take 8 (drop at s)) → rise_from t (uints 8 (n - 1) s (at + 8 * 1)) ≡ rising_at n s at
unfolding rising_at
rising-is n s at t h e =
    let q : at + 8 ≡ at + 8 * 1 = omega arith in
    sym (ap (λ (l : List ℕ). pick (is_yes (rising? l)) (Some (last_or 0 l)) None) (uints-more 8 n s at h ∙ ap₂ (λ (t p : ℕ). t ∷ uints 8 (n - 1) s p) (sym e) q)
    ∙ rising-from t (uints 8 (n - 1) s (at + 8 * 1)))

rise-next : (t u : ℕ) (l : List ℕ) → rise_from t (u ∷ l) ≡ pick (ltb t u) (rise_from u l) None
unfolding rise_from
rise-next t u l = refl

rise-none : (t : ℕ) → rise_from t [] ≡ Some t
unfolding rise_from
rise-none t = refl

rise-turn : (t n i : ℕ) (s : List ℕ) (at u : ℕ) → i < n → u ≡ unle (take 8 (drop (at + 8 * i) s))
    → rise_from t (uints 8 (n - i) s (at + 8 * i)) ≡ pick (ltb t u) (rise_from u (uints 8 (n - (i + 1)) s (at + 8 * (i + 1)))) None
rise-turn t n i s at u h e =
    let a : n - i - 1 ≡ n - (i + 1) = omega arith in
    let b : at + 8 * i + 8 ≡ at + 8 * (i + 1) = omega arith in
    ap (rise_from t) (uints-more 8 (n - i) s (at + 8 * i) (omega arith) ∙ ap₂ (λ (k p : ℕ). unle (take 8 (drop (at + 8 * i) s)) ∷ uints 8 k s p) a b
    ∙ ap (λ (v : ℕ). v ∷ uints 8 (n - (i + 1)) s (at + 8 * (i + 1))) (sym e))
    ∙ rise-next t u (uints 8 (n - (i + 1)) s (at + 8 * (i + 1)))

pub rise-bad : (t n i : ℕ) (s : List ℕ) (at u : ℕ) → i < n → u ≡ unle (take 8 (drop (at + 8 * i) s)) → u ≤ t → rise_from t (uints 8 (n - i) s (at + 8 * i)) ≡ None
rise-bad t n i s at u h e k = rise-turn t n i s at u h e ∙ ap (λ (b : Bool). pick b (rise_from u (uints 8 (n - (i + 1)) s (at + 8 * (i + 1)))) None) (le-ltb t u k)

pub rise-more : (t n i : ℕ) (s : List ℕ) (at u : ℕ) → i < n → u ≡ unle (take 8 (drop (at + 8 * i) s)) → t < u
    → rise_from t (uints 8 (n - i) s (at + 8 * i)) ≡ rise_from u (uints 8 (n - (i + 1)) s (at + 8 * (i + 1)))
rise-more t n i s at u h e k = rise-turn t n i s at u h e ∙ ap (λ (b : Bool). pick b (rise_from u (uints 8 (n - (i + 1)) s (at + 8 * (i + 1)))) None) (lt-ltb t u k)

pub rise-end : (t n i : ℕ) (s : List ℕ) (at : ℕ) → n ≡ i → rise_from t (uints 8 (n - i) s (at + 8 * i)) ≡ Some t
rise-end t n i s at e = ap (rise_from t) (uints-none 8 (n - i) s (at + 8 * i) (omega arith)) ∙ rise-none t

-- ---- both

last-yes : {P : Type 0} (d : Dec P) (q r : List ℕ) → last_time (got_if (if_yes d q) r) ≡ pick (is_yes d) (Some (last_or 0 q)) None
last-yes (yes p) q r = refl
last-yes (no p) q r = refl

-- all tests at once
pub times-yes : (n : ℕ) (s : List ℕ) (at : ℕ) (end : Option ℕ) → at + 8 * n ≤ length s
    → times_at n s at end ≡ pick (is_yes (both (starts? (end_of end) (uints 8 n s at)) (rising? (uints 8 n s at)))) (Some (last_or 0 (uints 8 n s at))) None
unfolding times_at
times-yes n s at end h =
    let l : List ℕ = uints 8 n s at in
    ap (λ (g : Got (List ℕ)). last_time (and_then g (λ x r. got_if (if_yes (both (starts? (end_of end) x) (rising? x)) x) r))) (uints-at 8 n s at h)
    ∙ last-yes (both (starts? (end_of end) l) (rising? l)) l (drop (at + 8 * n) s)

pub times-is : (n : ℕ) (s : List ℕ) (at : ℕ) (end : Option ℕ) → (0 < n) × (at + 8 * n ≤ length s) → times_at n s at end ≡ pick (starts_at s at end) (rising_at n s at) None
unfolding rising_at
times-is n s at end h =
    let l : List ℕ = uints 8 n s at in
    times-yes n s at end h.1
    ∙ ap (λ (t : Bool). pick t (Some (last_or 0 l)) None) (yes_both (starts? (end_of end) l) (rising? l))
    ∙ pick-both (is_yes (starts? (end_of end) l)) (is_yes (rising? l)) (Some (last_or 0 l)) None
    ∙ ap (λ (t : Bool). pick t (pick (is_yes (rising? l)) (Some (last_or 0 l)) None) None) (starts-all n s at end h.0)

pub times-starts : (n : ℕ) (s : List ℕ) (at : ℕ) (end : Option ℕ) (t : Bool) → (0 < n) × (at + 8 * n ≤ length s) → t ≡ starts_at s at end → t ≡ false → None ≡ times_at n s at end
times-starts n s at end t h e f = sym (times-is n s at end h ∙ ap (λ (t : Bool). pick t (rising_at n s at) None) (sym e ∙ f))

pub times-rising : (n : ℕ) (s : List ℕ) (at : ℕ) (end : Option ℕ) (t : Bool) (x : Option ℕ) → (0 < n) × (at + 8 * n ≤ length s) → t ≡ starts_at s at end → t ≡ true
    → x ≡ rising_at n s at → x ≡ times_at n s at end
times-rising n s at end t x h e f q = q ∙ sym (times-is n s at end h ∙ ap (λ (t : Bool). pick t (rising_at n s at) None) (sym e ∙ f))

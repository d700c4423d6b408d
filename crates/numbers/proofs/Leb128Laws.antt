-- The LEB128 form of a number, by its size: one group below 128, else one group and the form of the rest; hence its
-- length. The number at a place of a list, by the byte that stands there.
-- Assumes nothing.
use Prim.Native.Nat.{ℕ, zero, suc, ◌+◌, ◌-◌, ◌/◌, ◌%◌, ◌^◌, ◌≤◌, ◌<◌}
use mathlib.Core.Path.{◌≡◌, refl, sym, ap, ◌∙◌}
use mathlib.Core.List.{List, [], ◌∷◌}
use native.Mathlib.Nat.{pow-suc}
use native.Mathlib.Numerals.{sub-one, add-one}
use native.Mathlib.Omega.{arith}
use native.Mathlib.Decide.{dec_lt}
use borrow.Author.Tests.{lt-ltb, le-ltb}
use lib.ListN.{length, get_or, drop, drop_of_length-le}
use lib.Seq.{drop-cons}
use lib.Dec.{ltb}
use Rattle.lists.specs.Choice.{pick}
use Rattle.numbers.specs.Leb128.{groups, leb_of, above, read_leb}
use Rattle.std.specs.Prelude.{Some, None}

groups-small : (k v : ℕ) → v < 128 → groups k v ≡ v ∷ []
unfolding groups
groups-small zero v h = refl
groups-small (suc k) v h = simp (lt-ltb v 128)

groups-big : (k v : ℕ) → 128 ≤ v → groups (suc k) v ≡ (v % 128 + 128) ∷ groups k (v / 128)
unfolding groups
groups-big k v h = simp (le-ltb v 128)

-- one more group than is needed changes nothing
groups-more : (k v : ℕ) → v < 128 ^ suc k → groups (suc k) v ≡ groups k v
unfolding groups
groups-more zero v h = groups-small 1 v h
groups-more (suc k) v h =
    let h' : v / 128 < 128 ^ suc k = omega (arith, rw pow-suc at h) in
    ap (λ (l : List ℕ). pick (ltb v 128) (v ∷ []) ((v % 128 + 128) ∷ l)) (groups-more k (v / 128) h')

pub leb_small : (v : ℕ) → v < 128 → leb_of v ≡ v ∷ []
unfolding leb_of
leb_small v h = groups-small 4 v h

pub leb-big : (v : ℕ) → 128 ≤ v → v < 2 ^ 32 → leb_of v ≡ (v % 128 + 128) ∷ leb_of (v / 128)
unfolding leb_of
leb-big v h b =
    groups-big 3 v h ∙ ap (λ (l : List ℕ). (v % 128 + 128) ∷ l) (sym (groups-more 3 (v / 128) (omega arith)))

-- what holds of a last group, and of a group before the rest, holds of all groups
groups-by : (P : List ℕ → Type 0) (k v : ℕ) → (v < 128 → P (v ∷ [])) → P ((v % 128 + 128) ∷ groups k (v / 128)) → P (groups (suc k) v)
groups-by P k v last first = by_size (dec_lt v 128)
  where
    by_size : Dec (v < 128) → P (groups (suc k) v)
    by_size (yes l) = rw (groups-small (suc k) v l) (last l)
    by_size (no n) = rw (groups-big k v (omega arith)) first

length-groups : (k v : ℕ) → (0 < length (groups k v)) × (length (groups k v) ≤ suc k)
length-groups zero v = unfold groups in omega arith
length-groups (suc k) v =
    let ih = length-groups k (v / 128) in
    groups-by (λ (l : List ℕ). (0 < length l) × (length l ≤ suc (suc k))) k v (λ l. omega arith) (omega arith)

pub leb-any : (v : ℕ) → 0 < length (leb_of v)
unfolding leb_of
leb-any v = (length-groups 4 v).0

pub length-leb : (v : ℕ) → length (leb_of v) ≤ 5
unfolding leb_of
length-leb v = (length-groups 4 v).1

-- one byte more than the rest has
pub length-more : (n v : ℕ) → 128 ≤ v → v < 2 ^ 32 → length (leb_of (v / 128)) ≡ n → length (leb_of v) ≡ suc n
length-more n v h b e = ap length (leb-big v h b) ∙ ap suc e

-- nothing is read in no bytes, nor past the end
pub read-zero : (at : ℕ) (s : List ℕ) → read_leb 0 at s ≡ None
unfolding read_leb
read-zero at s = refl

pub read-end : (k at : ℕ) (s : List ℕ) → length s ≤ at → read_leb k at (drop at s) ≡ None
read-end k at s h = rw (drop_of_length-le s h) (none k)
  where
    none : (k : ℕ) → read_leb k at [] ≡ None
    none zero = unfold read_leb in refl
    none (suc k) = unfold read_leb in refl

-- what is read where a byte stands
pub read_byte : (k at b : ℕ) (s : List ℕ) → 0 < k
    → read_leb k at (b ∷ s) ≡ pick (ltb b 128) (Some (b, at + 1)) (above b (read_leb (k - 1) (at + 1) s))
unfolding read_leb
read_byte zero at b s h = absurd (omega arith)
read_byte (suc k) at b s h = simp sub-one

pub read_step : (k at : ℕ) (s : List ℕ) → 0 < k → at < length s
    → read_leb k at (drop at s)
    ≡ pick (ltb (get_or s at 0) 128) (Some (get_or s at 0, at + 1)) (above (get_or s at 0) (read_leb (k - 1) (at + 1) (drop (at + 1) s)))
read_step k at s h l = rw (drop-cons s at 0) (read_byte k at (get_or s at 0) (drop (suc at) s) h ∙ simp add-one)

-- Whether a start refuses one of the stored records: by a test of each, and by one record more.
-- Assumes nothing.
use mathlib.Core.Path.{◌≡◌, refl, sym, ◌∙◌, ap, subst}
use Prim.Native.Nat.{ℕ, zero, suc, ◌+◌, ◌<◌}
use native.Mathlib.Nat.{le_of_suc-le-suc, not-suc-le-zero}
use native.Mathlib.Numerals.{add-one}
use mathlib.Core.Bool.{Bool, false, ◌||◌, or_assoc, or-false}
use mathlib.Core.List.{List, [], ◌∷◌, map}
use lib.ListN.{length, take, get_or}
use lib.Seq.{take-length}
use Rattle.std.specs.List.{list_any}
use Rattle.recording.specs.declared.SignalRecord.{SignalRecord}
use Rattle.recording.specs.Refusals.{bad_record, any_bad}

pub any-bad : {T : Type 0} (stands_for : T → SignalRecord) (xs : List T) → list_any (λ x. bad_record (stands_for x)) xs ≡ any_bad (map stands_for xs)
unfolding any_bad
any-bad stands_for [] = refl
any-bad stands_for (x ∷ xs) = ap (λ (b : Bool). bad_record (stands_for x) || b) (any-bad stands_for xs)

-- of the first i records
abbrev pub bad_upto : List SignalRecord → ℕ → Bool
bad_upto ys i = any_bad (take i ys)

pub bad-none : (ys : List SignalRecord) → false ≡ bad_upto ys 0
unfolding any_bad
bad-none [] = refl
bad-none (y ∷ ys) = refl

pub bad-all : (ys : List SignalRecord) → bad_upto ys (length ys) ≡ any_bad ys
bad-all ys = ap any_bad (take-length ys)

suc-more : (d : SignalRecord) (ys : List SignalRecord) (i : ℕ) → i < length ys → (bad_upto ys i || bad_record (get_or ys i d)) ≡ bad_upto ys (suc i)
unfolding any_bad
suc-more d [] i l = absurd (not-suc-le-zero l)
suc-more d (y ∷ ys) zero l = sym (or-false (bad_record y))
suc-more d (y ∷ ys) (suc i) l =
    or_assoc (bad_record y) (bad_upto ys i) (bad_record (get_or ys i d))
    ∙ ap (λ (b : Bool). bad_record y || b) (suc-more d ys i (le_of_suc-le-suc l))

-- d is what stands past the records
pub bad_more : (d : SignalRecord) (ys : List SignalRecord) (i : ℕ) → i < length ys → (bad_upto ys i || bad_record (get_or ys i d)) ≡ bad_upto ys (i + 1)
bad_more d ys i l = subst (λ (j : ℕ). (bad_upto ys i || bad_record (get_or ys i d)) ≡ bad_upto ys j) (sym (add-one i)) (suc-more d ys i l)

-- Unsigned LEB128, as DWARF describes it: a number's bits in groups of seven, lowest group first, a byte each; every byte but the
-- last has its top bit set. Document 01 asks for the shortest form: no more groups than the number needs. Numbers have 32 bits, so at
-- most five bytes; a longer form, a larger number and bytes that end too early are refused.
-- Laws (proofs/Leb128Trip): what is written reads back, and what is read is the shortest form of its value.
-- Assumes nothing.
use Rattle.std.specs.Prelude.{ℕ, zero, suc, ◌+◌, ◌-◌, ◌*◌, ◌/◌, ◌%◌, List, [], ◌∷◌, drop, ltb, eqb, Option, Some, None}
use Rattle.lists.specs.Choice.{pick}

-- v in at most k + 1 groups
unfoldable pub groups : ℕ → ℕ → List ℕ
groups zero v = v ∷ []
groups (suc k) v = pick (ltb v 128) (v ∷ []) ((v % 128 + 128) ∷ groups k (v / 128))

-- the bytes of a 32-bit number (of larger ones it says nothing)
unfoldable pub leb_of : ℕ → List ℕ
unfolding groups
leb_of v = groups 4 v

-- a number that was read and the place after it; none where no shortest form of a 32-bit number stands
abbrev pub Leb128 : Type 0
Leb128 = Option (ℕ × ℕ)

-- a byte b with its top bit set, before a number h: no shortest form where h is 0, and more than 32 bits where h is 2^25 (33,554,432) or more
abbrev pub above : ℕ → Leb128 → Leb128
above b (Some (h, n)) = pick (eqb h 0) None (pick (ltb h 33554432) (Some (b - 128 + 128 * h, n)) None)
above b None = None

-- the number at the start of a list, in at most k bytes, and the place after it, counted from at
unfoldable pub read_leb : ℕ → ℕ → List ℕ → Leb128
read_leb zero at s = None
read_leb (suc k) at [] = None
read_leb (suc k) at (b ∷ s) = pick (ltb b 128) (Some (b, at + 1)) (above b (read_leb k (at + 1) s))

-- the number that stands at a place of a list
abbrev pub leb_at : List ℕ → ℕ → Leb128
leb_at s at = read_leb 5 at (drop at s)

-- a number h above groups that are v and weigh w together: `above` is this for one group (proofs/GroupLaws)
abbrev pub under : (v w : ℕ) → Leb128 → Leb128
under v w (Some (h, n)) = pick (eqb h 0) None (pick (ltb (v + h * w) 4294967296) (Some (v + h * w, n)) None)
under v w None = None

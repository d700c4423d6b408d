-- The opener's tests: those of the head, and the blocks up to the end of the bytes.
-- Assumes nothing.
use Rattle.std.specs.Prelude.{ℕ, zero, suc, ◌+◌, Bool, true, false, ◌&&◌, List, [], ◌∷◌, leb, eqb, length, take, drop}
use Rattle.std.proofs.Math.Option.{Option}
use Rattle.lists.specs.Got.{Got, bad, got}
use Rattle.numbers.specs.LittleEndian.{unle}
use Rattle.signal.specs.declared.kind.SignalEncoding.{SignalEncoding}
use Rattle.signal.specs.Kind.{known_kind}
use Rattle.stream.specs.Entries.{Entry}
use Rattle.image.specs.Block.{Block}
use Rattle.image.specs.Head.{head_size, image_limit, kind_from}
use Rattle.codec.specs.Walk.{walk_blocks}

-- a number of the head, by its place
abbrev pub number_in : List ℕ → (at : ℕ) → ℕ
number_in b at = unle (take 4 (drop at b))

unfoldable pub numbers_fit : (len signals limit total : ℕ) → Bool
numbers_fit n S limit total = leb 2 limit && (leb limit 65535 && (leb S 65536 && (leb total image_limit && (leb (head_size S) n && eqb total n))))

-- of count kinds at a place: all are known
unfoldable pub known_at : (count : ℕ) → List ℕ → (at : ℕ) → Bool
known_at zero s at = true
known_at (suc c) s at = known_kind (kind_from (number_in s at)) && known_at c s (at + 4)

-- S, B and the total stand at 0, 4 and 12, the kinds from 16 on
unfoldable pub is_head : List ℕ → Bool
is_head b = leb 16 (length b) && (numbers_fit (length b) (number_in b 0) (number_in b 4) (number_in b 12) && known_at (number_in b 0) b 16)

-- blocks after which nothing stands
abbrev pub at_end : Got (List (Block (List Entry))) → Bool
at_end bad = false
at_end (got x []) = true
at_end (got x (c ∷ r)) = false

unfoldable pub blocks_fill : (limit : ℕ) → List SignalEncoding → (number : ℕ) → (end : Option ℕ) → List ℕ → (at : ℕ) → Bool
blocks_fill limit ks n end s at = at_end ((walk_blocks limit ks n end).get (drop at s))

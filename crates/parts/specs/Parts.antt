-- The parts of a block as the code finds them, from the last signal to the first.
-- Assumes nothing.
use Rattle.std.specs.Prelude.{ℕ, zero, suc, ◌+◌, ◌-◌, Bool, false, List, [], ◌∷◌, leb, ltb, eqb, take, drop, Option, Some, None}
use Rattle.std.proofs.Math.Option as math
use Rattle.lists.specs.Choice.{pick, bind, is_some}
use Rattle.numbers.specs.LittleEndian.{unle}
use Rattle.signal.specs.declared.kind.SignalEncoding.{SignalEncoding}
use Rattle.signal.specs.Kind.{top_limit}
use Rattle.stream.specs.Entries.{Entry}
use Rattle.image.specs.Block.{Part, part}
use Rattle.image.specs.Head.{kind_from}
use Rattle.codec.specs.Walk.{walk_stream}

-- the part that takes up all bytes
unfoldable pub part_in : SignalEncoding → (n : ℕ) → List ℕ → math.Option (Part (List Entry))
part_in k n [] = math.none
part_in k n (x ∷ r) = pick (leb x (top_limit k)) (bind ((walk_stream k n x).read r) (λ l. math.some (part x l))) math.none

-- parts from a place of the data on, and the bytes after them
pub data Parts : Type 0 where
  ill : Parts
  parts : (from : ℕ) → List (math.Option (Part (List Entry))) → (rest : List ℕ) → Parts

abbrev pub add_part : math.Option (Part (List Entry)) → (from : ℕ) → List (math.Option (Part (List Entry))) → List ℕ → Parts
add_part math.none a ps r = ill
add_part (math.some p) a ps r = parts a (math.some p ∷ ps) r

-- one signal more, in front: its kind and its stored offset
abbrev pub placed : (d : List ℕ) (n : ℕ) → SignalEncoding → (offset : ℕ) → Parts → Parts
placed d n k zero ill = ill
placed d n k zero (parts e ps r) = parts e (math.none ∷ ps) r
placed d n k (suc a) ill = ill
placed d n k (suc a) (parts e ps r) = pick (ltb a e) (add_part (part_in k n (take (e - a) (drop a d))) a ps r) ill

-- the parts in data d of m bytes, in a block of n times
unfoldable pub parts_from : (d : List ℕ) (m n : ℕ) → List SignalEncoding → (offsets : List ℕ) → Parts
parts_from d m n [] [] = parts m [] (drop m d)
parts_from d m n [] (o ∷ os) = ill
parts_from d m n (k ∷ ks) [] = ill
parts_from d m n (k ∷ ks) (o ∷ os) = placed d n k o (parts_from d m n ks os)

-- ---- the code's answers

abbrev pub start_of : Parts → Option ℕ
start_of ill = None
start_of (parts e ps r) = Some e

unfoldable pub one_part : (d : List ℕ) (n : ℕ) → SignalEncoding → (offset from : ℕ) → Option ℕ
one_part d n k zero e = Some e
one_part d n k (suc a) e = pick (ltb a e) (pick (is_some (part_in k n (take (e - a) (drop a d)))) (Some a) None) None

abbrev pub at_zero : Option ℕ → Bool
at_zero None = false
at_zero (Some e) = eqb e 0

unfoldable pub are_parts : (d : List ℕ) (m n : ℕ) → List SignalEncoding → (offsets : List ℕ) → Bool
are_parts d m n ks os = at_zero (start_of (parts_from d m n ks os))

-- of count signals, kinds at a place
unfoldable pub kinds_at : (count : ℕ) → List ℕ → (at : ℕ) → List SignalEncoding
kinds_at zero s at = []
kinds_at (suc c) s at = kind_from (unle (take 4 (drop at s))) ∷ kinds_at c s (at + 4)

-- Document 01, 'Block and image': the head of an image.
-- Assumes nothing.
use Rattle.std.specs.Prelude.{ℕ, ◌+◌, ◌*◌, List, map, ◌++◌, eqb, length}
use Rattle.lists.specs.Choice.{pick}
use Rattle.numbers.specs.LittleEndian.{le}
use Rattle.signal.specs.declared.kind.SignalEncoding.{SignalEncoding}
use Rattle.signal.specs.declared.kind.SignalEncoding.TheVariants.{BitVector, Real, Absent}
use Rattle.image.specs.Block.{les}

-- a kind's number: its width; FFFFFFFE real; FFFFFFFF absent
abbrev pub kind_number : SignalEncoding → ℕ
kind_number (BitVector w) = w
kind_number Real = 0xfffffffe
kind_number Absent = 0xffffffff

-- the kind of a number of 32 bits: FFFFFFFF absent, FFFFFFFE real, else a width
abbrev pub kind_from : ℕ → SignalEncoding
kind_from n = pick (eqb n 0xffffffff) Absent (pick (eqb n 0xfffffffe) Real (BitVector n))

-- the head has four numbers and a number for each signal
abbrev pub head_size : ℕ → ℕ
head_size s = 16 + 4 * s

-- where in it a signal's kind stands
abbrev pub kind_place : (signal : ℕ) → ℕ
kind_place g = 16 + 4 * g

-- an image has at most 1,073,741,824 bytes
abbrev pub image_limit : ℕ
image_limit = 1073741824

-- signals S, B, blocks N, total bytes, then S kinds
unfoldable pub head_bytes : (limit blocks total : ℕ) → List SignalEncoding → List ℕ
head_bytes limit n total ks = le 4 (length ks) ++ (le 4 limit ++ (le 4 n ++ (le 4 total ++ les 4 (map kind_number ks))))

-- How few bytes a change takes in a stream, and how many all streams of a signal have.
-- Laws (proofs/LeastLaws, KeptLaws of the crate loader): no change takes fewer, so the kept entries are no more than the streams have room for.
-- Assumes nothing.
use Rattle.std.specs.Prelude.{ℕ, zero, suc, ◌+◌, List, [], ◌∷◌, length}
use Rattle.packed.specs.Packed.{packed_length}
use Rattle.signal.specs.declared.kind.SignalEncoding.{SignalEncoding}
use Rattle.signal.specs.declared.kind.SignalEncoding.TheVariants.{BitVector, Real, Absent}
use Rattle.stream.specs.Entries.{Entry}
use Rattle.image.specs.Block.{Block}
use Rattle.loaded.specs.Opener.{part_at, stream_in}

-- a change of a signal takes so many bytes at least; an absent signal has none
abbrev pub least_length : SignalEncoding → ℕ
least_length (BitVector zero) = 1
least_length (BitVector (suc zero)) = 1
least_length (BitVector (suc (suc w))) = 1 + packed_length (suc (suc w)) 0
least_length Real = 9
least_length Absent = 1

-- the bytes of a signal's streams in all blocks
unfoldable pub streams_length : SignalEncoding → (signal : ℕ) → List (Block (List Entry)) → ℕ
streams_length k g [] = 0
streams_length k g (y ∷ bs) = length (stream_in k (part_at y g)) + streams_length k g bs

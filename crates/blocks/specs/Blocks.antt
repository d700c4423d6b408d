-- A block at a place, as the code answers it: the place after it and its last time; its front and its body by tests.
-- Assumes nothing.
use Rattle.std.specs.Prelude.{ℕ, ◌+◌, ◌-◌, ◌≤◌, Bool, List, leb, eqb, length, take, drop, Option, Some, None}
use Rattle.std.proofs.Math.Option as math
use Rattle.lists.specs.Choice.{pick}
use Rattle.lists.specs.Got.{Got, bad, got}
use Rattle.lists.specs.Last.{last_or}
use Rattle.numbers.specs.LittleEndian.{unle}
use Rattle.signal.specs.declared.kind.SignalEncoding.{SignalEncoding}
use Rattle.stream.specs.Entries.{Entry}
use Rattle.image.specs.Block.{Block, block_size, times_place}
use Rattle.form.specs.Decide.{le?, both}
use Rattle.codec.specs.Walk.{walk_block}
use Rattle.reading.specs.Decided.{is_yes, uints}
use Rattle.reading.specs.Times.{times_at}
use Rattle.parts.specs.Parts.{are_parts, kinds_at}
use Rattle.blocks.specs.declared.BlockFront.{BlockFront}
use Rattle.blocks.specs.declared.NextBlock.{NextBlock}

abbrev pub block_to : (next last : ℕ) → NextBlock
block_to p u = record { next = p; last = u }

-- of a list of n bytes: the place after the block is n less the rest
abbrev pub next_block : (n : ℕ) → Got (Block (List Entry)) → Option NextBlock
next_block n bad = None
next_block n (got b r) = Some (block_to (n - length r) (last_or 0 b.times))

unfoldable pub next_block_at : (limit : ℕ) → List SignalEncoding → (end : math.Option ℕ) → List ℕ → (at : ℕ) → Option NextBlock
next_block_at limit ks end s at = next_block (length s) ((walk_block limit ks end).get (drop at s))

-- the numbers in front of a block's offsets
abbrev pub size_in : List ℕ → (at : ℕ) → ℕ
size_in s at = unle (take 4 (drop at s))

abbrev pub times_in : List ℕ → (at : ℕ) → ℕ
times_in s at = unle (take 4 (drop (at + 4) s))

abbrev pub signals_in : List ℕ → (at : ℕ) → ℕ
signals_in s at = unle (take 4 (drop (at + 8) s))

-- as many times as a block must have: one at least, and up to B
abbrev pub times_fit? : (limit n : ℕ) → Dec ((1 ≤ n) × (n ≤ limit))
times_fit? limit n = both (le? 1 n) (le? n limit)

-- tests one after the other
abbrev pub tests : {A : Type 0} → (a b c d e : Bool) → A → A → A
tests a b c d e x y = pick a (pick b (pick c (pick d (pick e x y) y) y) y) y

-- room for the front, the same signals, room for the times in the block, enough times, room for the block
abbrev pub front_tests : {A : Type 0} → (signals limit : ℕ) → List ℕ → (at : ℕ) → A → A → A
front_tests S limit s at x y =
    tests (leb (at + times_place S) (length s)) (eqb S (signals_in s at)) (leb (block_size S (times_in s at) 0) (size_in s at)) (is_yes (times_fit? limit (times_in s at)))
    (leb (at + size_in s at) (length s)) x y

abbrev pub front_of : (size times : ℕ) → BlockFront
front_of z n = record { size = z; times = n }

unfoldable pub front_at : (signals limit : ℕ) → List ℕ → (at : ℕ) → Option BlockFront
front_at S limit s at = front_tests S limit s at (Some (front_of (size_in s at) (times_in s at))) None

-- by the last time, where the times are a block's
abbrev pub after_times : (last : Option ℕ) → (parts : Bool) → (next : ℕ) → Option NextBlock
after_times None t p = None
after_times (Some u) t p = pick t (Some (block_to p u)) None

unfoldable pub body_at : (signals size times : ℕ) → List ℕ → (at : ℕ) → (end : Option ℕ) → Option NextBlock
body_at S z n s at end =
    after_times (times_at n s (at + times_place S) end)
    (are_parts (drop (at + block_size S n 0) s) (z - block_size S n 0) n (kinds_at S s 16) (uints 4 S s (at + 12))) (at + z)

-- How the block writer fills the part of the image that it is lent: what each of its passes does to the bytes t of that part. The
-- offsets stand from byte 12 on; while the block is made, the number there is first how many stream bytes a signal has, then where the
-- next of them goes, counted from the start of the data; at the end it is the offset.
-- proofs/Passes: from work that divides into records, the passes leave `block_bytes`.
-- Assumes nothing.
use Rattle.std.specs.Prelude.{ℕ, zero, suc, ◌+◌, ◌≤◌, ◌<◌, List, [], ◌∷◌, length, take, drop, eqb}
use Rattle.std.proofs.lemmas.List.Edits.{sets}
use Rattle.lists.specs.Choice.{pick}
use Rattle.numbers.specs.LittleEndian.{le, unle}
use Rattle.image.specs.Block.{offset_place}
use Rattle.recording.specs.Work.{Item}

-- the number kept for a signal, and the bytes with another one kept
abbrev pub kept_at : ℕ → List ℕ → ℕ
kept_at g t = unle (take 4 (drop (offset_place g) t))

abbrev pub keep : ℕ → ℕ → List ℕ → List ℕ
keep g v t = sets t (offset_place g) (le 4 v)

-- 0 kept for n signals from g on
unfoldable pub clear : (g n : ℕ) → List ℕ → List ℕ
clear g zero t = t
clear g (suc n) t = clear (suc g) n (keep g 0 t)

-- each signal's stream bytes are counted
unfoldable pub count : List Item → List ℕ → List ℕ
count [] t = t
count (r ∷ rs) t = count rs (keep r.signal (kept_at r.signal t + length r.bytes) t)

-- the part of a signal with stream bytes begins at place o of the data (which starts at byte d): its class byte is written, and the
-- place after it kept; the next part's place
abbrev pub begun : (d o g top : ℕ) → List ℕ → List ℕ
begun d o g top t = pick (eqb (kept_at g t) 0) t (keep g (o + 1) (sets t (d + o) (top ∷ [])))

abbrev pub next_part : (o g : ℕ) → List ℕ → ℕ
next_part o g t = pick (eqb (kept_at g t) 0) o (o + 1 + kept_at g t)

unfoldable pub begin : (d o g : ℕ) → (tops : List ℕ) → List ℕ → List ℕ
begin d o g [] t = t
begin d o g (x ∷ xs) t = begin d (next_part o g t) (suc g) xs (begun d o g x t)

-- each record's bytes go to its signal's next place
unfoldable pub scatter : (d : ℕ) → List Item → List ℕ → List ℕ
scatter d [] t = t
scatter d (r ∷ rs) t =
    scatter d rs (keep r.signal (kept_at r.signal t + length r.bytes) (sets t (d + kept_at r.signal t) r.bytes))

-- a part ends where the next one begins: its offset is the end of the one before it plus one
abbrev pub settled : (o g : ℕ) → List ℕ → List ℕ
settled o g t = pick (eqb (kept_at g t) 0) t (keep g (o + 1) t)

abbrev pub end_of : (o g : ℕ) → List ℕ → ℕ
end_of o g t = pick (eqb (kept_at g t) 0) o (kept_at g t)

unfoldable pub settle : (o g n : ℕ) → List ℕ → List ℕ
settle o g zero t = t
settle o g (suc n) t = settle (end_of o g t) (suc g) n (settled o g t)

-- ---- what keeps each pass inside t and its numbers inside 32 bits

unfoldable pub Counts : List Item → List ℕ → Type 0
Counts [] t = Unit {0}
Counts (r ∷ rs) t =
    (kept_at r.signal t + length r.bytes < 4294967296)
    × Counts rs (keep r.signal (kept_at r.signal t + length r.bytes) t)

unfoldable pub Begins : (d o g : ℕ) → (tops : List ℕ) → List ℕ → Type 0
Begins d o g [] t = Unit {0}
Begins d o g (x ∷ xs) t =
    (d + next_part o g t ≤ length t) × (next_part o g t < 4294967296) × Begins d (next_part o g t) (suc g) xs (begun d o g x t)

unfoldable pub Scatters : (d : ℕ) → List Item → List ℕ → Type 0
Scatters d [] t = Unit {0}
Scatters d (r ∷ rs) t =
    (d + kept_at r.signal t + length r.bytes ≤ length t)
    × (kept_at r.signal t + length r.bytes < 4294967296)
    × Scatters d rs (keep r.signal (kept_at r.signal t + length r.bytes) (sets t (d + kept_at r.signal t) r.bytes))

-- a part's place plus one is a number of 32 bits
unfoldable pub Settles : (o g n : ℕ) → List ℕ → Type 0
Settles o g zero t = Unit {0}
Settles o g (suc n) t = (o + 1 < 4294967296) × Settles (end_of o g t) (suc g) n (settled o g t)

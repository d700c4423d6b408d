-- The groups of refusals that a table of crate recording tells by one number, as one test each (proofs/StateLaws: the tables say the same).
-- Assumes nothing.
use Rattle.std.specs.Prelude.{ℕ, ◌||◌, ◌&&◌, Bool, not, ltb, eqb}
use Rattle.image.specs.Head.{head_size, image_limit}
use Rattle.recording.specs.declared.Encoder.{Encoder}
use Rattle.recording.specs.declared.Settings.{Settings}
use Rattle.recording.specs.Refusals.{outside, no_edition}

-- 1, of a start
abbrev pub bad_start : Settings → (records : ℕ) → (bad : Bool) → (times image : ℕ) → Bool
bad_start s records bad times image =
    outside s.limit
    || (no_edition s.edition
    || (ltb times s.limit
    || ((ltb 65536 s.signals || not (eqb s.signals records))
    || (bad
    || (ltb image (head_size s.signals) || ltb image_limit image)))))

-- 10, the first group, of a state
abbrev pub altered : Encoder → (records times work image : ℕ) → Bool
altered s records times work image =
    outside s.limit
    || (no_edition s.edition
    || (ltb s.limit s.held
    || (ltb times s.limit
    || ((ltb work s.work || ltb image s.image)
    || (ltb image_limit image
    || (ltb s.image s.blocks
    || (not (eqb s.signals records)
    || (ltb 0 s.work && eqb s.held 0))))))))

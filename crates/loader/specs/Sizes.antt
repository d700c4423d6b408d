-- When the outputs are too short for the kept entries, and the class that is answered.
-- Assumes nothing.
use Rattle.std.specs.Prelude.{ℕ, zero, suc, Bool, ◌||◌, ltb}

-- 9: there are more entries than indices fit, or more bytes of entries than bytes fit
abbrev pub too_short : (count used index bytes : ℕ) → Bool
too_short n u i b = ltb i n || ltb b u

-- Nine where there is no entry
abbrev pub class_answered : (count top : ℕ) → ℕ
class_answered zero t = 2
class_answered (suc n) t = t

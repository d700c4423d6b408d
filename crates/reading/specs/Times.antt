-- What the code answers of the times of a block: the last one.
-- Assumes nothing.
use Rattle.std.specs.Prelude.{ℕ, Bool, List, [], ◌∷◌, ltb, drop, Option, Some, None}
use Rattle.std.proofs.Math.Option as math
use Rattle.lists.specs.Choice.{pick}
use Rattle.lists.specs.Got.{Got, bad, got}
use Rattle.lists.specs.Last.{last_or}
use Rattle.codec.specs.Valid.{starts?, rising?}
use Rattle.codec.specs.Walk.{walk_times}
use Rattle.reading.specs.Decided.{is_yes, uints}

-- the end before a block as the code has it
abbrev pub end_of : Option ℕ → math.Option ℕ
end_of None = math.none
end_of (Some t) = math.some t

abbrev pub last_time : Got (List ℕ) → Option ℕ
last_time bad = None
last_time (got ts r) = Some (last_or 0 ts)

unfoldable pub times_at : (n : ℕ) → List ℕ → (at : ℕ) → (end : Option ℕ) → Option ℕ
times_at n s at end = last_time ((walk_times (end_of end) n).get (drop at s))

-- by the first time alone
unfoldable pub starts_at : List ℕ → (at : ℕ) → (end : Option ℕ) → Bool
starts_at s at end = is_yes (starts? (end_of end) (uints 8 1 s at))

-- time by time, after a time t
unfoldable pub rise_from : ℕ → List ℕ → Option ℕ
rise_from t [] = Some t
rise_from t (u ∷ l) = pick (ltb t u) (rise_from u l) None

unfoldable pub rising_at : (n : ℕ) → List ℕ → (at : ℕ) → Option ℕ
rising_at n s at = pick (is_yes (rising? (uints 8 n s at))) (Some (last_or 0 (uints 8 n s at))) None

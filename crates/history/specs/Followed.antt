-- Document 02, 'Joining two recordings': one history after the other.
-- Assumes nothing.
use Rattle.std.specs.Prelude.{ℕ, ◌+◌, ◌-◌, Bool, false, List, [], ◌∷◌, ◌++◌, length, drop, eqb}
use Rattle.lists.specs.Choice.{pick}
use Rattle.lists.specs.Last.{last_or}
use Rattle.history.specs.History.{Change, History, history, all_off}

-- the second starts at the time that ends the first
abbrev pub meets : (first second : List ℕ) → Bool
meets [] us = false
meets (t ∷ ts) [] = false
meets (t ∷ ts) (u ∷ us) = eqb u (last_or t ts)

-- "if the times are equal, the combined table has that time once"
abbrev pub times_after : (first second : List ℕ) → List ℕ
times_after ts us = ts ++ pick (meets ts us) (drop 1 us) us

-- where the second's first time stands in that table
abbrev pub start_after : (first second : List ℕ) → ℕ
start_after ts us = pick (meets ts us) (length ts - 1) (length ts)

-- changes whose places count from n on
unfoldable pub placed_from : (n : ℕ) → List Change → List Change
placed_from n [] = []
placed_from n (c ∷ cs) = record { signal = c.signal; place = n + c.place; content = c.content; class = c.class } ∷ placed_from n cs

-- the first's changes, then the second's, each at its own time. An image tells nothing of skips and counts: off, 0
abbrev pub followed : (first second : History) → History
followed h k =
    history (times_after h.times k.times) (h.changes ++ placed_from (start_after h.times k.times) k.changes) all_off

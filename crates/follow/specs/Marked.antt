-- A change of the history by its parts.
-- Assumes nothing.
use Rattle.std.specs.Prelude.{ℕ}
use Rattle.signal.specs.Content.{Content}
use Rattle.history.specs.History.{Change}

abbrev pub marked : (signal place : ℕ) → Content → (class : ℕ) → Change
marked g m a c = record { signal = g; place = m; content = a; class = c }

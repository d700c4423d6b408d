-- What reading finds at the front of a list: nothing that fits, or a value and the elements after it.
-- Assumes nothing.
use Rattle.std.specs.Prelude.{ℕ, List}

pub data Got (A : Type 0) : Type 0 where
  bad : Got A
  got : A → List ℕ → Got A

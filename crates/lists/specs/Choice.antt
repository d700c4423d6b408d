-- A choice by a test, and a value that may be missing.
-- Assumes nothing.
use Rattle.std.specs.Prelude.{Bool, true, false, List, []}
use Rattle.std.proofs.Math.Option.{Option, some, none}

-- the first where the test holds, else the second
abbrev pub pick : {A : Type 0} → Bool → A → A → A
pick true a b = a
pick false a b = b

-- what k makes of a value, where there is one
abbrev pub bind : {A B : Type 0} → Option A → (A → Option B) → Option B
bind none k = none
bind (some x) k = k x

abbrev pub is_some : {A : Type 0} → Option A → Bool
is_some none = false
is_some (some x) = true

-- a list that may be missing; none is empty
abbrev pub or_empty : {A : Type 0} → Option (List A) → List A
or_empty none = []
or_empty (some l) = l

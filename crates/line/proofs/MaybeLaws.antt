-- What a test of a value that may be missing tells of it.
-- Assumes nothing.
use mathlib.Core.Path.{◌≡◌, refl}
use mathlib.Core.Bool.{true, false}
use mathlib.Core.List.{List, []}
use Rattle.std.specs.Prelude.{Option, Some, None, is_some, unwrap_or}

pub Some-there : {A : Type 0} (o : Option (List A)) → is_some o ≡ true → o ≡ Some (unwrap_or o [])
Some-there None e = cc
Some-there (Some l) e = refl

pub None-there : {A : Type 0} (o : Option A) → is_some o ≡ false → o ≡ None
None-there None e = refl
None-there (Some x) e = cc

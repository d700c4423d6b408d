-- The last of the kept entries, and one entry more.
-- Assumes nothing.
use Prim.Native.Nat.{suc}
use mathlib.Core.Path.{◌≡◌, refl, ap}
use mathlib.Core.List.{List, [], ◌∷◌, ◌++◌}
use mathlib.Core.Option.{some}
use lib.ListN.{length}
use Rattle.signal.specs.Content.{Content}
use Rattle.stream.specs.Entries.{Entry}
use Rattle.loaded.specs.Loading.{repeats_last}
use Rattle.entry_same.specs.Kept.{repeats_kept, last_content}

pub repeats-last : (es : List Entry) (c : Content) → repeats_kept (last_content es) c ≡ repeats_last es c
unfolding repeats_last
repeats-last [] c = refl
repeats-last (a ∷ []) c = refl
repeats-last (a ∷ b ∷ es) c = repeats-last (b ∷ es) c

pub last_more : (es : List Entry) (e : Entry) → last_content (es ++ e ∷ []) ≡ some e.content
last_more [] e = refl
last_more (a ∷ []) e = refl
last_more (a ∷ b ∷ es) e = last_more (b ∷ es) e

pub count-more : (es : List Entry) (e : Entry) → length (es ++ e ∷ []) ≡ suc (length es)
count-more [] e = refl
count-more (a ∷ es) e = ap suc (count-more es e)

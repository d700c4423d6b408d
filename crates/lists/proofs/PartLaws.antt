-- A part of a list, written whole (`put_mid` is the form that the goals have after a write to `s[a..e]`), and an element that was got.
-- Assumes nothing.
use Prim.Native.Nat.{ℕ, ◌+◌, ◌-◌, ◌≤◌, ◌<◌}
use mathlib.Core.Path.{◌≡◌, refl, sym, ◌∙◌}
use mathlib.Core.Bool.{true}
use mathlib.Core.List.{List, append_assoc}
use native.Mathlib.Omega.{arith}
use borrow.Author.Tests.{ltb-true}
use lib.Dec.{ltb}
use lib.ListN.{length, get_or}
use Rattle.std.proofs.lemmas.List.{get_or_read_under}
use lib.Seq.{sets, sets-eq, drop-drop}
use borrow.Rule.Slice.PartMut.{put_mid}

pub put-whole : (xs vs ys : List ℕ) (a e : ℕ) → ys ≡ vs → a + length vs ≡ e → e ≤ length xs → put_mid a (e - a) xs ys ≡ sets xs a vs
put-whole xs vs ys a e y w h =
    let n : e - a ≡ length vs = omega arith in
    rw (n, y, sets-eq vs xs a (omega arith), drop-drop (length vs) a xs) (simp append_assoc)

-- what `s.get(i)?` gives, and a number that is said to be that element
pub got-element : (s : List ℕ) (i x r : ℕ) → true ≡ ltb i (length s) → x ≡ get_or s i x → r ≡ x → (i < length s) × (r ≡ get_or s i 0)
got-element s i x r t e h =
    let l = ltb-true i (length s) (sym t) in
    (l, h ∙ get_or_read_under s i (length s) x 0 e l refl)

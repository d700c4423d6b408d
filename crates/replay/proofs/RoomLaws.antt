-- Where the length that was computed for a change is within a buffer, its bytes are too.
-- Assumes nothing.
use Prim.Native.Nat.{ℕ, ◌+◌, ◌≤◌, ◌<◌, ◌^◌}
use mathlib.Core.Path.{◌≡◌, refl, sym, ap, ◌∙◌}
use native.Mathlib.Omega.{arith}
use lib.ListN.{length}
use Rattle.signal.specs.Kind.{width_of}
use Rattle.signal.specs.Content.{Given, GivenFits}
use Rattle.signal.specs.declared.kind.SignalEncoding.{SignalEncoding}
use Rattle.signal.specs.declared.decode.ChangeValue.{ChangeValue}
use Rattle.stream.specs.Stream.{change_bytes}
use Rattle.stream.specs.Answer.{Says, said_bytes, change_length}
use Rattle.stream.proofs.LengthLaws.{says-length}

pub room : (k : SignalEncoding) (d : ℕ) (g : Given) (v : ChangeValue) (w l n : ℕ) → GivenFits g → Says k g v → w ≡ width_of k → l ≡ change_length w d v
    → l ≤ n → 0 + length (said_bytes k d g) ≤ n
room k d g v w l n f s e m h =
    let q : length (said_bytes k d g) ≡ l = says-length k d g v f s ∙ ap (λ (w : ℕ). change_length w d v) (sym e) ∙ sym m in
    omega arith

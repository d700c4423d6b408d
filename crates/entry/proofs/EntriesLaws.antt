-- The entries of a signal one after the other: how long they are, and where each stands.
-- Assumes nothing.
use Prim.Native.Nat.{ℕ, zero, suc, ◌+◌, ◌*◌, ◌≤◌, ◌<◌}
use mathlib.Core.Path.{◌≡◌, sym, ap, ap₂, ◌∙◌}
use mathlib.Core.List.{List, [], ◌∷◌, ◌++◌}
use native.Mathlib.Nat.{zero-mul}
use native.Mathlib.Omega.{arith}
use lib.ListN.{length, take, drop, get_or, length-append}
use lib.Seq.{take_at, drop_at, drop-drop}
use Rattle.value.specs.Class.{class_of_all}
use Rattle.signal.specs.declared.kind.SignalEncoding.{SignalEncoding}
use Rattle.signal.specs.Content.{symbols_of, ContentFits}
use Rattle.stream.specs.Entries.{Entry}
use Rattle.loaded.specs.EntryBytes.{entry_bytes, entries_bytes}
use Rattle.entry.specs.Length.{entry_length}
use Rattle.entry.proofs.LengthLaws.{entry_length_lem}

-- contents that fit, of classes up to c
abbrev pub EachFits : SignalEncoding → (c : ℕ) → List Entry → Type 0
EachFits k c [] = Unit {0}
EachFits k c (e ∷ es) = (ContentFits k e.content × (class_of_all (symbols_of e.content) ≤ c)) × EachFits k c es

pub entries-length : (k : SignalEncoding) (c : ℕ) (es : List Entry) → EachFits k c es → c ≤ 2 → length (entries_bytes k c es) ≡ length es * entry_length k c
unfolding entries_bytes
entries-length k c [] f h = omega arith
entries-length k c (e ∷ es) f h =
    let i = entries-length k c es f.1 h in
    let n = entry_length_lem k c e.content f.0.0 f.0.1 h in
    length-append (entry_bytes k c e.content) (entries_bytes k c es) ∙ ap₂ ◌+◌ n i ∙ one_more (length es) (entry_length k c)
  where
    one_more : (m n : ℕ) → n + m * n ≡ suc m * n
    one_more m n = omega arith

-- the bytes of the entry at a number
pub entry_at : (k : SignalEncoding) (c : ℕ) (es : List Entry) (i : ℕ) (none : Entry) → EachFits k c es → c ≤ 2 → i < length es
    → take (entry_length k c) (drop (i * entry_length k c) (entries_bytes k c es)) ≡ entry_bytes k c (get_or es i none).content
unfolding entries_bytes
entry_at k c [] i none f h z = absurd (omega arith)
entry_at k c (e ∷ es) zero none f h z =
    rw (zero-mul (entry_length k c))
    (take_at (entry_bytes k c e.content) (entries_bytes k c es) (entry_length k c) (entry_length_lem k c e.content f.0.0 f.0.1 h))
entry_at k c (e ∷ es) (suc i) none f h z =
    let n : ℕ = entry_length k c in
    let b : List ℕ = entry_bytes k c e.content in
    let m : suc i * n ≡ n + i * n = one_more i n in
    let past : drop (suc i * n) (b ++ entries_bytes k c es) ≡ drop (i * n) (entries_bytes k c es) =
    ap (λ (j : ℕ). drop j (b ++ entries_bytes k c es)) m ∙ sym (drop-drop (i * n) n (b ++ entries_bytes k c es))
    ∙ ap (drop (i * n)) (drop_at b (entries_bytes k c es) n (entry_length_lem k c e.content f.0.0 f.0.1 h)) in
    ap (take n) past ∙ entry_at k c es i none f.1 h (omega arith)
  where
    one_more : (m n : ℕ) → suc m * n ≡ n + m * n
    one_more m n = omega arith

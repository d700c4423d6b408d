-- The kinds in a head, one record's after the other, and the head by its four numbers and the kinds.
-- Assumes nothing.
use Prim.Native.Nat.{ℕ, zero, suc, ◌+◌, ◌*◌, ◌≤◌, ◌<◌}
use mathlib.Core.Path.{◌≡◌, refl, sym, ap, ◌∙◌}
use mathlib.Core.List.{List, [], ◌++◌, map}
use native.Mathlib.Numerals.{add-one}
use native.Mathlib.Omega.{arith}
use lib.ListN.{length, get_or, drop, drop_of_length-le, length-map}
use lib.Seq.{sets, length-sets, drop-cons}
use Rattle.lists.proofs.SetsLaws.{sets-append}
use Rattle.numbers.specs.LittleEndian.{le}
use Rattle.numbers.proofs.LittleEndianLaws.{length-le}
use Rattle.value.specs.declared.states.States.TheVariants.{Two}
use Rattle.signal.specs.declared.kind.SignalEncoding.TheVariants.{Absent}
use Rattle.image.specs.Block.{les}
use Rattle.image.specs.Head.{kind_number, head_size, head_bytes}
use Rattle.recording.specs.declared.SignalRecord.{SignalRecord}
use Rattle.recording.specs.Memory.{record_of}
use Rattle.recording.specs.Step.{kind_in}
use Rattle.head.specs.Kinds.{head_numbers, kind_put, kinds_put}

-- ---- turn by turn

pub kinds-none : (rs : List SignalRecord) (i : List ℕ) → kinds_put 0 rs i ≡ i
unfolding kinds_put
kinds-none rs i = refl

pub kinds-next : (n : ℕ) (rs : List SignalRecord) (i : List ℕ)
    → kinds_put (n + 1) rs i ≡ kind_put n (get_or rs n (record_of Absent 0 Two 0)) (kinds_put n rs i)
unfolding kinds_put
kinds-next n rs i = rw (add-one n) refl

pub kinds-length : (n : ℕ) (rs : List SignalRecord) (i : List ℕ) → length (kinds_put n rs i) ≡ length i
unfolding kinds_put
kinds-length zero rs i = refl
kinds-length (suc n) rs i =
    length-sets (kinds_put n rs i) (16 + 4 * n) (le 4 (kind_number (get_or rs n (record_of Absent 0 Two 0)).kind)) ∙ kinds-length n rs i

-- ---- all of them

-- the kinds, a number of four bytes each
unfoldable kind_bytes : List SignalRecord → List ℕ
kind_bytes rs = les 4 (map kind_number (map kind_in rs))

bytes-none : kind_bytes [] ≡ []
unfolding kind_bytes les
bytes-none = refl

bytes_next : (n : ℕ) (rs : List SignalRecord) → n < length rs
    → kind_bytes (drop n rs) ≡ le 4 (kind_number (get_or rs n (record_of Absent 0 Two 0)).kind) ++ kind_bytes (drop (suc n) rs)
unfolding kind_bytes les
bytes_next n rs h = rw (drop-cons rs n (record_of Absent 0 Two 0) h) refl

-- the kinds that are left, written, give all of them written
left : (n : ℕ) (rs : List SignalRecord) (i : List ℕ) → n ≤ length rs
    → sets (kinds_put n rs i) (16 + 4 * n) (kind_bytes (drop n rs)) ≡ sets i 16 (kind_bytes rs)
unfolding kinds_put
left zero rs i h = refl
left (suc n) rs i h =
    let r : ℕ = kind_number (get_or rs n (record_of Absent 0 Two 0)).kind in
    let x : List ℕ = kinds_put n rs i in
    let rest : List ℕ = kind_bytes (drop (suc n) rs) in
    let p : 16 + 4 * suc n ≡ 16 + 4 * n + length (le 4 r) = rw (length-le 4 r) (omega arith) in
    ap (λ (q : ℕ). sets (sets x (16 + 4 * n) (le 4 r)) q rest) p
    ∙ sym (sets-append (le 4 r) rest x (16 + 4 * n))
    ∙ ap (λ (l : List ℕ). sets x (16 + 4 * n) l) (sym (bytes_next n rs (omega arith)))
    ∙ left n rs i (omega arith)

kinds-all : (rs : List SignalRecord) (i : List ℕ) → kinds_put (length rs) rs i ≡ sets i 16 (kind_bytes rs)
kinds-all rs i =
    rw (drop_of_length-le rs {i = length rs} (omega arith), bytes-none) at (left (length rs) rs i (omega arith))

-- the head at the start of a recording
pub head-written : (rs : List SignalRecord) (i : List ℕ) (limit signals : ℕ) → length rs ≡ signals
    → kinds_put (length rs) rs (head_numbers limit signals i) ≡ sets i 0 (head_bytes limit 0 (head_size signals) (map kind_in rs))
unfolding head_bytes kind_bytes
head-written rs i limit signals e =
    kinds-all rs (head_numbers limit signals i) ∙ rw (length-map rs kind_in, e) (simp (sets-append, length-le))

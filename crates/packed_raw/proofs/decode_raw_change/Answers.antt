-- The two tests are those of `raw_symbols`; past them its last bytes are decoded in the claimed class.
use Prim.Native.Nat.{◌-◌}
use mathlib.Core.Path.{◌≡◌, refl, ap, ◌∙◌}
use native.Mathlib.Omega.{arith}
use lib.ListN.{length, length-drop}
use Rattle.value.specs.Class.{class_number}
use Rattle.value.proofs.ClassLaws.{number-states}
use Rattle.packed.specs.Packed.{packed_length}
use Rattle.packed.proofs.RawLaws.{raw-claim, raw-short, raw-last}
use Rattle.packed_raw.proofs.decode_raw_change.Goals as goal
use Rattle.packed_raw.proofs.decode_raw_change.Goals.{After-from_number-states, After-bytes_required-count}

pub returns-then-claim-gt2 : goal.returns-then-claim-gt2
returns-then-claim-gt2 c = let a = c.args in rw (raw-claim a.width a.claim a.value.now (omega arith)) refl

-- the class that the code goes by is the claim, and so are its bytes
claimed : (c : goal.After-from_number-states) → class_number c.from_number-states.result ≡ c.args.claim
claimed c = ap class_number c.from_number-states.ensures ∙ number-states c.args.claim (omega arith)

counted : (c : goal.After-bytes_required-count) → c.bytes_required-count.result ≡ packed_length c.args.width c.args.claim
counted c = c.bytes_required-count.ensures ∙ ap (packed_length c.args.width) (ap class_number c.from_number-states.ensures ∙ number-states c.args.claim (omega arith))

pub returns-then-value-count : goal.returns-then-value-count
returns-then-value-count c =
    let a = c.args in
    rw (raw-short a.width a.claim a.value.now (omega (arith, counted (goal.at.returns-then-value-count c).After-bytes_required-count))) refl

pub decode_packed-requires : goal.decode_packed-requires
decode_packed-requires c =
    let v = c.args.value.now in
    omega (arith, ap length c.raw_part.ensures, length-drop (length v - c.bytes_required-count.result) v)

pub returns : goal.returns
returns c =
    let r = c in
    let a = r.args in
    let e = raw-last a.width a.claim a.value.now (omega arith) (omega (arith, counted (goal.at.returns c).After-bytes_required-count)) in
    c.decode_packed.ensures ∙ rw (c.raw_part.ensures, counted (goal.at.returns c).After-bytes_required-count, claimed (goal.at.returns c).After-from_number-states, e) refl

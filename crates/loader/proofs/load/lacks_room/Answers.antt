-- By whether there is room for as many entries as there can be.
use Prim.Native.Nat.{ℕ}
use mathlib.Core.Path.{◌≡◌, refl, sym, ap, ◌∙◌}
use mathlib.Core.Bool.{true}
use native.Mathlib.Omega.{arith}
use lib.ListN.{length}
use Rattle.value.specs.Class.{class_number}
use Rattle.value.proofs.ClassLaws.{number_small}
use Rattle.signal.specs.Kind.{known_kind}
use Rattle.loader.proofs.LoadLaws.{sized, known, size_small, room_most, counted-short}
use Rattle.loader.proofs.load.lacks_room.Goals as goal
use Rattle.loader.proofs.load.lacks_room.Goals.{After-entry_len-size}

kind-known : (c : goal.After-entry_len-size) → known_kind c.args.kind ≡ true
kind-known c =
    let i = c.args.image in
    ap known_kind c.requires.known.0 ∙ known i.bytes.now c.args.signal i.fits i.opened

pub overflow_mul-most : goal.overflow_mul-most
overflow_mul-most c =
    let p = c in
    let a = p.args in
    let e = c.entry_len-size.ensures in
    let m = size_small a.kind (class_number a.class) a.most (kind-known (goal.at.overflow_mul-most c).After-entry_len-size) (number_small a.class) p.requires.image_len_bound.1 in
    rw e (omega arith)

pub returns-then-not-too_short : goal.returns-then-not-too_short
returns-then-not-too_short c =
    let t = c in
    let p = t in
    let a = p.args in
    let z = sized a.image.bytes.now a.signal a.image.fits a.image.opened in (
      room_most a.image.bytes.now a.signal a.kind (class_number a.class) a.most t.entry_len-size.result (length a.index.now) (length a.bytes.now)
          z p.requires.known.0 p.requires.known.1 t.entry_len-size.ensures p.requires.image_len_bound.0 (sym c.too_short.ensures ∙ c.if-not-too_short.true),
      refl,
      refl,
    )

pub load_blocks-counted-requires : goal.load_blocks-counted-requires
load_blocks-counted-requires c =
    let p = c in
    (omega (arith, p.requires.known.1), λ f. let o : ◌≡◌ {A = ℕ} 0 1 = cc in absurd (omega arith))

pub returns : goal.returns
returns c =
    let l = c in
    let a = l.args in
    counted-short a.image.bytes.now a.signal (class_number a.class) a.index.now a.bytes.now l.load_blocks-counted.result _ _ _ l.load_blocks-counted.ensures c.too_short-2.ensures

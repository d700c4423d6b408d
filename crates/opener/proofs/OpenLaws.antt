-- The opener, by its tests.
-- Assumes nothing.
use Prim.Native.Nat.{ℕ, ◌+◌, ◌*◌, ◌≤◌, ◌<◌}
use mathlib.Core.Path.{◌≡◌, refl, sym, ap, ap₂, ◌∙◌}
use mathlib.Core.Bool.{Bool, true, false, ◌&&◌}
use mathlib.Core.List.{List}
use mathlib.Core.Option.{none}
use borrow.Author.Tests.{le-leb, lt-leb, leb-true}
use lib.Dec.{leb}
use lib.ListN.{length}
use Rattle.lists.specs.Bytes.{Bytes}
use Rattle.lists.specs.Choice.{is_some}
use Rattle.lists.proofs.ChoiceLaws.{both_hold}
use Rattle.image.specs.Head.{head_size, image_limit}
use Rattle.codec.proofs.WalkLaws.{walk-parse}
use Rattle.loaded.specs.Opener.{open_of}
use Rattle.parts.specs.Parts.{kinds_at}
use Rattle.opener.specs.Opening.{number_in, numbers_fit, known_at, is_head, blocks_fill}
use Rattle.opener.proofs.HeadLaws.{walk_is}

-- ---- the numbers

-- what the numbers then say
pub record Sizes (n S limit : ℕ) : Type 0 where
  pub limit-small : limit ≤ 65535
  pub signals-small : S ≤ 65536
  pub head-room : 16 + 4 * S ≤ n

pub numbers-say : (n S limit total : ℕ) → numbers_fit n S limit total ≡ true → Sizes n S limit
unfolding numbers_fit
numbers-say n S limit total e =
    let e1 = both_hold (leb 2 limit) _ e in
    let e2 = both_hold (leb limit 65535) _ e1.1 in
    let e3 = both_hold (leb S 65536) _ e2.1 in
    let e4 = both_hold (leb total image_limit) _ e3.1 in
    let e5 = both_hold (leb (head_size S) n) _ e4.1 in
    record { limit-small = leb-true limit 65535 e2.0; signals-small = leb-true S 65536 e3.0; head-room = leb-true (head_size S) n e5.0 }

-- ---- the head

module _ (b : List ℕ) where
  pub head-short : length b < 16 → false ≡ is_head b
  unfolding is_head
  head-short h = rw (lt-leb 16 (length b) h) refl

  module _ (long : 16 ≤ length b) (S limit total : ℕ) (p : S ≡ number_in b 0) (q : limit ≡ number_in b 4) (r : total ≡ number_in b 12) (t : Bool) (e : t ≡ numbers_fit (length b) S limit total) where
    pub head-wrong : t ≡ false → false ≡ is_head b
    unfolding is_head
    head-wrong f = rw (le-leb 16 (length b) long, ← p, ← q, ← r, ← e, f) refl

    pub head-kinds : (u : Bool) → t ≡ true → u ≡ known_at S b 16 → u ≡ is_head b
    unfolding is_head
    head-kinds u f g = rw (le-leb 16 (length b) long, ← p, ← q, ← r, ← e, f, ← g) refl

  pub head-says : is_head b ≡ true → (16 ≤ length b) × Sizes (length b) (number_in b 0) (number_in b 4)
  unfolding is_head
  head-says e =
      let e1 = both_hold (leb 16 (length b)) _ e in
      let e2 = both_hold (numbers_fit (length b) (number_in b 0) (number_in b 4) (number_in b 12)) _ e1.1 in
      (leb-true 16 (length b) e1.0, numbers-say (length b) (number_in b 0) (number_in b 4) (number_in b 12) e2.0)

-- ---- all

module _ (b : List ℕ) (y : Bytes b) (t : Bool) (e : t ≡ is_head b) where
  open_is : open_of b ≡ is_head b && blocks_fill (number_in b 4) (kinds_at (number_in b 0) b 16) (number_in b 8) none b (16 + 4 * number_in b 0)
  open_is = ap is_some (sym (walk-parse b y)) ∙ walk_is b y

  pub open-head : t ≡ false → false ≡ open_of b
  open-head f = sym (open_is ∙ ap (λ (t : Bool). t && blocks_fill (number_in b 4) (kinds_at (number_in b 0) b 16) (number_in b 8) none b (16 + 4 * number_in b 0)) (sym e ∙ f))

  pub open_blocks : (S limit n : ℕ) (u : Bool) → t ≡ true → S ≡ number_in b 0 → limit ≡ number_in b 4 → n ≡ number_in b 8
      → u ≡ blocks_fill limit (kinds_at S b 16) n none b (16 + 4 * S) → u ≡ open_of b
  open_blocks S limit n u f p q r g =
      g ∙ ap₂ (λ (S limit : ℕ). blocks_fill limit (kinds_at S b 16) n none b (16 + 4 * S)) p q
      ∙ ap (λ (n : ℕ). blocks_fill (number_in b 4) (kinds_at (number_in b 0) b 16) n none b (16 + 4 * number_in b 0)) r
      ∙ sym (open_is ∙ ap (λ (t : Bool). t && blocks_fill (number_in b 4) (kinds_at (number_in b 0) b 16) (number_in b 8) none b (16 + 4 * number_in b 0)) (sym e ∙ f))

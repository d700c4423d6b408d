-- The tests of a join, one law for each return.
-- Assumes nothing.
use Prim.Native.Nat.{ℕ, suc, ◌+◌, ◌-◌, ◌≤◌, ◌<◌}
use mathlib.Core.Path.{◌≡◌, refl, sym, ap, ap₂, ◌∙◌}
use mathlib.Core.Bool.{Bool, true, false, not, ◌&&◌, ◌||◌}
use mathlib.Core.List.{List, [], ◌∷◌, map}
use mathlib.Core.Option.{Option, some, none}
use native.Mathlib.Omega.{arith}
use borrow.Author.Tests.{lt-ltb, le-ltb, eq-eqb, ne_eqb}
use lib.ListN.{length, get_or, drop, drop_of_length-le, length-map}
use lib.Seq.{sets, drop-cons}
use lib.Dec.{ltb, eqb}
use Rattle.refusal.specs.declared.Refusal.{Refusal}
use Rattle.refusal.specs.declared.Refusal.TheVariants.{BadStart, Closed, BeforeTime, NoSignal, WrongKind, BadValue, WorkFull, ImageFull, OutputShort, Altered, NoImage, Unlike, NoBlock}
use Rattle.refusal.specs.declared.Refusal.TheVariants.{Overlap, Foreign}
use Rattle.refusal.specs.Refusal.{refusal_number}
use Rattle.lists.specs.Last.{last_or}
use Rattle.lists.specs.Same.{same}
use Rattle.signal.specs.declared.kind.SignalEncoding.{SignalEncoding}
use Rattle.signal.specs.declared.kind.SignalEncoding.TheVariants.{Absent}
use Rattle.stream.specs.Entries.{Entry}
use Rattle.image.specs.Block.{Block, block}
use Rattle.image.specs.Head.{kind_number, image_limit}
use Rattle.image.specs.Image.{Image, image_bytes}
use Rattle.codec.specs.Ends.{end_after}
use Rattle.recording.specs.Memory.{first}
use Rattle.loaded.specs.Opener.{open_of}
use Rattle.recording.proofs.TestsLaws.{none_of, guarded-none, guarded-first}
use Rattle.joined.proofs.JoinLaws.{Passes, passes}
use Rattle.joined.specs.Join.{refuse, joined, join_after, joined_image, differs, no_block, early, join_tests, join_in, join_of}
use Rattle.walk.specs.Walk.{Opened, image_in}
use Rattle.walk.proofs.OpenLaws.{parse-opened, parse-closed}

-- ---- kinds

module _ (xs ys : List SignalEncoding) (e : length ys ≡ length xs) where
  -- the kinds from number i on
  unfoldable pub sameFrom : ℕ → Bool
  sameFrom i = same (map kind_number (drop i xs)) (map kind_number (drop i ys))

  pub same-all : sameFrom 0 ≡ same (map kind_number xs) (map kind_number ys)
  unfolding sameFrom
  same-all = refl

  same_next : (i : ℕ) → i < length xs → sameFrom i ≡ eqb (kind_number (get_or xs i Absent)) (kind_number (get_or ys i Absent)) && sameFrom (suc i)
  unfolding sameFrom same
  same_next i h = rw (drop-cons xs i Absent h, drop-cons ys i Absent (omega arith)) refl

  pub same_not : (i n m : ℕ) → i < length xs → n ≡ kind_number (get_or xs i Absent) → m ≡ kind_number (get_or ys i Absent) → (n ≡ m → ⊥) → false ≡ sameFrom i
  same_not i n m h f g k = sym (same_next i h ∙ ap (λ (t : Bool). t && sameFrom (suc i)) (ne_eqb _ _ (λ q. k (f ∙ q ∙ sym g))))

  pub same-on : (i n m : ℕ) → i < length xs → n ≡ kind_number (get_or xs i Absent) → m ≡ kind_number (get_or ys i Absent) → n ≡ m → sameFrom i ≡ sameFrom (i + 1)
  same-on i n m h f g k =
      let s : suc i ≡ i + 1 = omega arith in
      same_next i h ∙ ap (λ (t : Bool). t && sameFrom (suc i)) (eq-eqb _ _ (sym f ∙ k ∙ g)) ∙ ap sameFrom s

  pub same_end : (i : ℕ) → length xs ≤ i → true ≡ sameFrom i
  unfolding sameFrom same
  same_end i h =
      let g : length ys ≤ i = omega arith in
      rw (drop_of_length-le xs h, drop_of_length-le ys g) refl

same-lengths : (xs ys : List ℕ) → (length xs ≡ length ys → ⊥) → same xs ys ≡ false
unfolding same
same-lengths [] [] h = absurd (h refl)
same-lengths [] (y ∷ ys) h = refl
same-lengths (x ∷ xs) [] h = refl
same-lengths (x ∷ xs) (y ∷ ys) h = ap (λ (t : Bool). eqb x y && t) (same-lengths xs ys (λ e. h (ap suc e))) ∙ off (eqb x y)
  where
    off : (t : Bool) → t && false ≡ false
    off true = refl
    off false = refl

-- ---- 14

module _ (x y : Image) where
  pub differs-limit : (n m : ℕ) → n ≡ x.limit → m ≡ y.limit → (n ≡ m → ⊥) → true ≡ differs x y
  differs-limit n m e f h = rw (ne_eqb x.limit y.limit (λ q. h (e ∙ q ∙ sym f))) refl

  pub differs-signals : (n m s t : ℕ) → n ≡ x.limit → m ≡ y.limit → n ≡ m → s ≡ length x.kinds → t ≡ length y.kinds → (s ≡ t → ⊥) → true ≡ differs x y
  differs-signals n m s t e f h u v k =
      rw (
        eq-eqb x.limit y.limit (sym e ∙ h ∙ f),
        same-lengths (map kind_number x.kinds) (map kind_number y.kinds) (λ q. k (u ∙ sym (length-map x.kinds kind_number) ∙ q ∙ length-map y.kinds kind_number ∙ sym v)),
      ) refl

  pub differs-kinds : (n m : ℕ) (t : Bool) → n ≡ x.limit → m ≡ y.limit → n ≡ m → t ≡ same (map kind_number x.kinds) (map kind_number y.kinds) → not t ≡ differs x y
  differs-kinds n m t e f h u = rw (eq-eqb x.limit y.limit (sym e ∙ h ∙ f), u) refl

-- ---- 15

pub none-block : (bs : List (Block (List Entry))) (n : ℕ) → n ≡ length bs → n ≡ 0 → no_block bs ≡ true
none-block [] n e z = refl
none-block (b ∷ bs) n e z = absurd (omega arith)

pub some_block : (bs : List (Block (List Entry))) (n : ℕ) → n ≡ length bs → (n ≡ 0 → ⊥) → no_block bs ≡ false
some_block [] n e z = absurd (z e)
some_block (b ∷ bs) n e z = refl

pub block-there : (bs : List (Block (List Entry))) → no_block bs ≡ false → 0 < length bs
block-there [] e = let z : ◌≡◌ {A = ℕ} 0 1 = cc in absurd (omega arith)
block-there (b ∷ bs) e = omega arith

-- ---- 16

end-last : (e : Option ℕ) (b : Block (List Entry)) (bs : List (Block (List Entry))) → end_after e (b ∷ bs) ≡ some (last_or 0 (get_or (b ∷ bs) (length bs) (block [] [])).times)
unfolding end_after
end-last e b [] = refl
end-last e b (c ∷ bs) = end-last (some (last_or 0 b.times)) c bs

pub last_end : (bs : List (Block (List Entry))) → 0 < length bs → end_after none bs ≡ some (last_or 0 (get_or bs (length bs - 1) (block [] [])).times)
last_end [] h = absurd (omega arith)
last_end (b ∷ bs) h =
    let e : length bs ≡ length (b ∷ bs) - 1 = omega arith in
    end-last none b bs ∙ ap (λ (i : ℕ). some (last_or 0 (get_or (b ∷ bs) i (block [] [])).times)) e

pub early-none : (end : Option ℕ) (bs : List (Block (List Entry))) (n : ℕ) → n ≡ length bs → n ≡ 0 → false ≡ early end bs
early-none none bs n e z = refl
early-none (some t) [] n e z = refl
early-none (some t) (b ∷ bs) n e z = absurd (omega arith)

pub early-some : (xs ys : List (Block (List Entry))) (t u : ℕ) → 0 < length xs → 0 < length ys → u ≡ last_or 0 (get_or xs (length xs - 1) (block [] [])).times
    → t ≡ get_or (get_or ys 0 (block [] [])).times 0 0 → ltb t u ≡ early (end_after none xs) ys
early-some xs [] t u h k e f = absurd (omega arith)
early-some xs (y ∷ ys) t u h k e f = ap₂ ltb f e ∙ sym (ap (λ (e : Option ℕ). early e (y ∷ ys)) (last_end xs h))

-- ---- 8

pub room-limit : (t r : ℕ) → 1073741824 < t → true ≡ ltb image_limit t || ltb r t
room-limit t r h = rw (lt-ltb image_limit t h) refl

pub room-rest : (t r : ℕ) → t ≤ 1073741824 → ltb r t ≡ ltb image_limit t || ltb r t
room-rest t r h = rw (le-ltb image_limit t h) refl

-- ---- all

module _ (x y : Image) (room : ℕ) where
  pub is-14 : differs x y ≡ true → 14 ≡ first (join_tests x y room)
  is-14 a = rw a refl

  module _ (a : differs x y ≡ false) where
    pub is-15 : no_block x.blocks ≡ true → 15 ≡ first (join_tests x y room)
    is-15 b = rw (a, b) refl

    module _ (b : no_block x.blocks ≡ false) where
      pub is-16 : early (end_after none x.blocks) y.blocks ≡ true → 16 ≡ first (join_tests x y room)
      is-16 c = rw (a, b, c) refl

      module _ (c : early (end_after none x.blocks) y.blocks ≡ false) (t : ℕ) (e : t ≡ length (image_bytes (joined_image x y))) where
        pub is-8 : (u : Bool) → u ≡ (ltb image_limit t || ltb room t) → u ≡ true → 8 ≡ first (join_tests x y room)
        is-8 u f d = rw (a, b, c, ← e, ← f, d) refl

        pub is-0 : (u : Bool) → u ≡ (ltb image_limit t || ltb room t) → u ≡ false → 0 ≡ first (join_tests x y room)
        is-0 u f d = rw (a, b, c, ← e, ← f, d) refl

-- ---- the answer

-- no refusal has the number 0
pub refusal-some : (r : Refusal) → refusal_number r ≡ 0 → ⊥
refusal-some BadStart e = omega arith
refusal-some Closed e = omega arith
refusal-some BeforeTime e = omega arith
refusal-some NoSignal e = omega arith
refusal-some WrongKind e = omega arith
refusal-some BadValue e = omega arith
refusal-some WorkFull e = omega arith
refusal-some ImageFull e = omega arith
refusal-some OutputShort e = omega arith
refusal-some Altered e = omega arith
refusal-some NoImage e = omega arith
refusal-some Unlike e = omega arith
refusal-some NoBlock e = omega arith
refusal-some Overlap e = omega arith
refusal-some Foreign e = omega arith

module _ (x y : Image) (out : List ℕ) (n : ℕ) (e : n ≡ first (join_tests x y (length out))) where
  pub join-refused : (n ≡ 0 → ⊥) → join_after (refuse n) out ≡ join_in x y out
  unfolding join_in
  join-refused h = ap (λ (m : ℕ). join_after (refuse m) out) e ∙ sym (guarded-first (join_tests x y (length out)) (λ m. join_after (refuse m) out) _ (λ z. h (e ∙ z)))

  module _ (z : n ≡ 0) where
    pub passed : Passes x y (length out)
    passed = passes x y (length out) (none_of (join_tests x y (length out)) tt (sym e ∙ z))

    pub join-taken : (t : ℕ) (next : List ℕ) → t ≡ length (image_bytes (joined_image x y)) → next ≡ sets out 0 (image_bytes (joined_image x y)) → join_after (joined t) next ≡ join_in x y out
    unfolding join_in
    join-taken t next f g =
        ap₂ (λ (t : ℕ) (l : List ℕ). join_after (joined t) l) f g ∙ sym (guarded-none (join_tests x y (length out)) (λ m. join_after (refuse m) out) _ tt (sym e ∙ z))

pub join_opened : (a b out : List ℕ) → Opened a → Opened b → join_in (image_in a) (image_in b) out ≡ join_of a b out
join_opened a b out o q = rw (parse-opened a o, parse-opened b q) refl

pub join_first : (a b out : List ℕ) → open_of a ≡ false → join_after (refuse 11) out ≡ join_of a b out
join_first a b out h = rw (parse-closed a h) refl

pub join-second : (a b out : List ℕ) → Opened a → open_of b ≡ false → join_after (refuse 11) out ≡ join_of a b out
join-second a b out o h = rw (parse-opened a o, parse-closed b h) refl

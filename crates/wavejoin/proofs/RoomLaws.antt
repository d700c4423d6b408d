-- An output with room for two files is long enough for every join of them: 8 is never answered.
-- Assumes nothing.
use Prim.Native.Nat.{ℕ, ◌*◌, ◌≤◌, ◌<◌}
use mathlib.Core.Path.{◌≡◌, refl, ap, ◌∙◌}
use mathlib.Core.Bool.{Bool, true, false, ◌||◌}
use mathlib.Core.List.{List}
use mathlib.Core.Option.{none}
use native.Mathlib.Omega.{arith}
use native.Mathlib.Decide.{dec_lt}
use borrow.Author.Tests.{le-ltb}
use lib.ListN.{length}
use lib.Dec.{ltb}
use Rattle.lists.specs.Bytes.{Bytes}
use Rattle.image.specs.Head.{image_limit}
use Rattle.image.specs.Image.{Image, image_bytes}
use Rattle.codec.specs.Ends.{end_after}
use Rattle.loaded.specs.Opener.{open_of}
use Rattle.joined.specs.Join.{JoinReply, refuse, joined, JoinAfter, join_after, joined_image, differs, no_block, early, join_in}
use Rattle.walk.specs.Walk.{Opened, image_in}
use Rattle.join.proofs.BytesLaws.{total-is}
use Rattle.join.proofs.TestLaws.{is-14, is-15, is-16, is-0, join-refused, join-taken, join_opened, join_first, join-second}
use Rattle.wavejoin.specs.Files.{file_limit, files_of}
use Rattle.wavejoin.proofs.FilesLaws.{first-long, second-long, neither-long}

abbrev number : JoinReply → ℕ
number (refuse n) = n
number (joined n) = 0

module _ (a b out : List ℕ) (y : Bytes a) (z : Bytes b) (room : 2 * file_limit ≤ length out) (e : (files_of a b out).reply ≡ refuse 8) where
  abbrev x : Image
  x = image_in a

  abbrev w : Image
  w = image_in b

  abbrev total : ℕ
  total = length (image_bytes (joined_image x w))

  -- any other answer is impossible
  other : (r : JoinReply) (l : List ℕ) → join_after r l ≡ files_of a b out → number r ≡ 8
  other r l h = ap number (ap (λ (f : JoinAfter). f.reply) h ∙ e)

  module _ (h : length a ≤ file_limit) (k : length b ≤ file_limit) where
    module _ (o : Opened a) (q : Opened b) where
      files : {r : JoinReply} {l : List ℕ} → join_after r l ≡ join_in x w out → join_after r l ≡ files_of a b out
      files g = g ∙ join_opened a b out o q ∙ neither-long a b out h k

      module _ (d : differs x w ≡ false) where
        fits : total ≤ 2 * file_limit
        fits = omega (arith, total-is a b y z o q d)

        roomy : false ≡ ltb image_limit total || ltb (length out) total
        roomy = rw (le-ltb image_limit total (omega (arith, fits)), le-ltb (length out) total (omega (arith, fits))) refl

        module _ (n : no_block x.blocks ≡ false) where
          late : (t : Bool) → early (end_after none x.blocks) w.blocks ≡ t → ⊥
          late true c = let f = other _ _ (files (join-refused x w out 16 (is-16 x w (length out) d n c) (λ s. omega arith))) in absurd (omega arith)
          late false c = let f = other _ _ (files (join-taken x w out 0 (is-0 x w (length out) d n c total refl false roomy refl) refl total _ refl refl)) in absurd (omega arith)

        begun : (t : Bool) → no_block x.blocks ≡ t → ⊥
        begun true c = let f = other _ _ (files (join-refused x w out 15 (is-15 x w (length out) d c) (λ s. omega arith))) in absurd (omega arith)
        begun false c = late c _ refl

      alike : (t : Bool) → differs x w ≡ t → ⊥
      alike true c = let f = other _ _ (files (join-refused x w out 14 (is-14 x w (length out) c) (λ s. omega arith))) in absurd (omega arith)
      alike false c = begun c _ refl

    second-open : Opened a → (t : Bool) → open_of b ≡ t → ⊥
    second-open o true q = alike o q _ refl
    second-open o false q = let f = other _ _ (join-second a b out o q ∙ neither-long a b out h k) in absurd (omega arith)

    first-open : (t : Bool) → open_of a ≡ t → ⊥
    first-open true o = second-open o _ refl
    first-open false o = let f = other _ _ (join_first a b out o ∙ neither-long a b out h k) in absurd (omega arith)

  short : length a ≤ file_limit → Dec (file_limit < length b) → ⊥
  short h (yes k) = let f = other _ _ (second-long a b out h k) in absurd (omega arith)
  short h (no k) = first-open h (omega arith) _ refl

  lengths : Dec (file_limit < length a) → ⊥
  lengths (yes h) = let f = other _ _ (first-long a b out h) in absurd (omega arith)
  lengths (no h) = short (omega arith) (dec_lt file_limit (length b))

pub never-8 : (a b out : List ℕ) → Bytes a → Bytes b → 2 * file_limit ≤ length out → (files_of a b out).reply ≡ refuse 8 → ⊥
never-8 a b out y z room e = lengths a b out y z room e (dec_lt file_limit (length a))

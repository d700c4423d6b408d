-- Document 02, 'Joins in either grouping': of three images the first two are joined first, or the last two.
-- Assumes nothing.
use Rattle.std.specs.Prelude.{ℕ, ◌+◌, ◌*◌, ◌≤◌, ◌≡◌, Bool, true, false, ◌||◌, not, List, length, take, eqb}
use Rattle.std.proofs.Math.Option.{some}
use Rattle.lists.specs.Bytes.{Bytes}
use Rattle.image.specs.Head.{head_size, image_limit}
use Rattle.image.specs.Image.{Image}
use Rattle.codec.specs.Parse.{parse}
use Rattle.joined.specs.Join.{JoinReply, refuse, joined, no_block, join_of}

-- what a join gives: the number of its refusal, or the bytes of the joined image
pub data Result : Type 0 where
  refused : ℕ → Result
  made : List ℕ → Result

abbrev pub result_of : JoinReply → (out : List ℕ) → Result
result_of (refuse n) out = refused n
result_of (joined total) out = made (take total out)

abbrev pub result : (first second out : List ℕ) → Result
result a b out = result_of (join_of a b out).reply (join_of a b out).out

-- a refused join ends the grouping
abbrev pub and_then : Result → (List ℕ → Result) → Result
and_then (refused n) f = refused n
and_then (made b) f = f b

-- each of the two joins has an output of its own
abbrev pub grouped_left : (a b c inner outer : List ℕ) → Result
grouped_left a b c inner outer = and_then (result a b inner) (λ ab. result ab c outer)

abbrev pub grouped_right : (a b c inner outer : List ℕ) → Result
grouped_right a b c inner outer = and_then (result b c inner) (λ bc. result a bc outer)

abbrev pub succeeds : Result → Bool
succeeds (refused n) = false
succeeds (made b) = true

abbrev pub for14_or16 : Result → Bool
for14_or16 (refused n) = eqb n 14 || eqb n 16
for14_or16 (made b) = false

-- no join of the grouping is refused with 8: an output too short, or a total over the limit
abbrev pub HasRoom : Result → Type 0
HasRoom r = r ≡ refused 8 → ⊥

-- bytes that the opener accepts, and the image that they are
pub record Accepted (b : List ℕ) : Type 0 where
  pub bytes : Bytes b
  pub image : Image
  pub opens : parse b ≡ some image

-- "three accepted images, each with a block"; the third needs none
pub record Three (a b c : List ℕ) : Type 0 where
  pub first : Accepted a
  pub second : Accepted b
  pub third : Accepted c
  pub first_block : no_block first.image.blocks ≡ false
  pub second_block : no_block second.image.blocks ≡ false

-- a total is the lengths of what is joined, less a head for each join; images that can be joined have heads of one length
abbrev pub head_length : {a b c : List ℕ} → Three a b c → ℕ
head_length t = head_size (length t.second.image.kinds)

-- p and r are the outputs of the inner joins, q and s those of the outer ones
pub record Groupings : Type 0 where
  -- "grouping left or right gives equal bytes when both succeed": of any three byte strings
  pub equal : (a b c p q r s left right : List ℕ) → Bytes a → Bytes b → Bytes c
      → grouped_left a b c p q ≡ made left → grouped_right a b c r s ≡ made right → left ≡ right
  -- "one grouping is turned back for 14 or 16 exactly when the other is turned back for 14 or 16": the numbers may differ
  pub refusals : (a b c p q r s : List ℕ) → Three a b c → HasRoom (grouped_left a b c p q) → HasRoom (grouped_right a b c r s)
      → for14_or16 (grouped_left a b c p q) ≡ for14_or16 (grouped_right a b c r s)
  -- beyond the request: otherwise a grouping succeeds, so one does exactly when the other does
  pub left-otherwise : (a b c p q : List ℕ) → Three a b c → HasRoom (grouped_left a b c p q)
      → succeeds (grouped_left a b c p q) ≡ not (for14_or16 (grouped_left a b c p q))
  pub right-otherwise : (a b c r s : List ℕ) → Three a b c → HasRoom (grouped_right a b c r s)
      → succeeds (grouped_right a b c r s) ≡ not (for14_or16 (grouped_right a b c r s))
  -- "together at most 1,073,741,824 bytes", "outputs being long enough throughout": with outputs as long as the totals there is room
  pub left-room : (a b c p q : List ℕ) (t : Three a b c) → length a + length b + length c ≤ image_limit
      → length a + length b ≤ length p + head_length t → length a + length b + length c ≤ length q + 2 * head_length t → HasRoom (grouped_left a b c p q)
  pub right-room : (a b c r s : List ℕ) (t : Three a b c) → length a + length b + length c ≤ image_limit
      → length b + length c ≤ length r + head_length t → length a + length b + length c ≤ length s + 2 * head_length t → HasRoom (grouped_right a b c r s)

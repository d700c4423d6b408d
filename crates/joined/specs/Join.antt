-- Document 02, 'Joining two recordings': one image out of two, the head of the first with N summed and the new total, then the blocks in
-- order; and what refuses it.
-- Assumes nothing.
use Rattle.std.specs.Prelude.{ℕ, Bool, true, false, ◌||◌, not, List, [], ◌∷◌, ◌++◌, map, length, get_or, ltb, eqb, Result, Ok, Err}
use Rattle.std.proofs.Math.Option.{Option, some, none}
use Rattle.std.proofs.lemmas.List.Edits.{sets}
use Rattle.lists.specs.Same.{same}
use Rattle.stream.specs.Entries.{Entry}
use Rattle.image.specs.Block.{Block}
use Rattle.image.specs.Head.{kind_number, image_limit}
use Rattle.image.specs.Image.{Image, image, image_bytes}
use Rattle.codec.specs.Ends.{end_after}
use Rattle.codec.specs.Parse.{parse}
use Rattle.recording.specs.Memory.{Tests, guarded}
use Rattle.refusal.specs.declared.Refusal.{Refusal}
use Rattle.refusal.specs.Refusal.{refusal_number}

pub data JoinReply : Type 0 where
  refuse : ℕ → JoinReply
  joined : (total : ℕ) → JoinReply

abbrev pub join_reply : Result ℕ Refusal → JoinReply
join_reply (Ok n) = joined n
join_reply (Err r) = refuse (refusal_number r)

-- the answer, and the output afterwards
pub record JoinAfter : Type 0 where
  pub reply : JoinReply
  pub out : List ℕ

abbrev pub join_after : JoinReply → List ℕ → JoinAfter
join_after r o = record { reply = r; out = o }

-- "head of the first .., then the blocks in order"; `image_bytes` writes N and the total that they make
abbrev pub joined_image : Image → Image → Image
joined_image x y = image x.limit x.kinds (x.blocks ++ y.blocks)

-- 14: S, B or a kind differs
abbrev pub differs : Image → Image → Bool
differs x y = not (eqb x.limit y.limit) || not (same (map kind_number x.kinds) (map kind_number y.kinds))

-- 15: the first has no block
abbrev pub no_block : List (Block (List Entry)) → Bool
no_block [] = true
no_block (b ∷ bs) = false

-- 16: the second starts before the first ends
abbrev pub early : (end : Option ℕ) → List (Block (List Entry)) → Bool
early none bs = false
early (some t) [] = false
early (some t) (b ∷ bs) = ltb (get_or b.times 0 0) t

-- 8, tested last: an output too short, or a total over the limit
abbrev pub join_tests : Image → Image → (room : ℕ) → Tests
join_tests x y room =
    (differs x y, 14)
    ∷ (no_block x.blocks, 15)
    ∷ (early (end_after none x.blocks) y.blocks, 16)
    ∷ (ltb image_limit (length (image_bytes (joined_image x y))) || ltb room (length (image_bytes (joined_image x y))), 8)
    ∷ []

-- accepted images: a refused join leaves the output; else the image stands at its front
unfoldable pub join_in : Image → Image → (out : List ℕ) → JoinAfter
join_in x y out =
    guarded (join_tests x y (length out)) (λ n. join_after (refuse n) out)
    (join_after (joined (length (image_bytes (joined_image x y)))) (sets out 0 (image_bytes (joined_image x y))))

-- 11 for either image, first
abbrev pub join_by : Option Image → Option Image → (out : List ℕ) → JoinAfter
join_by none y out = join_after (refuse 11) out
join_by (some x) none out = join_after (refuse 11) out
join_by (some x) (some y) out = join_in x y out

-- any two byte strings
abbrev pub join_of : (first second out : List ℕ) → JoinAfter
join_of a b out = join_by (parse a) (parse b) out

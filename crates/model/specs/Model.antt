-- The recorder without bytes: finished blocks and the open one, each with its times and its changes in call order. Like the history it is
-- fed which calls are refused, and it knows nothing of buffers. What blocks join to, and the image that they make.
-- Assumes nothing.
use Rattle.std.specs.Prelude.{ℕ, zero, suc, ◌+◌, ◌-◌, Bool, true, false, List, [], ◌∷◌, ◌++◌, length, get_or, eqb}
use Rattle.std.proofs.Math.Option.{Option, some, none}
use Rattle.lists.specs.Choice.{pick}
use Rattle.lists.specs.Last.{last_or}
use Rattle.signal.specs.declared.kind.SignalEncoding.{SignalEncoding}
use Rattle.signal.specs.declared.kind.SignalEncoding.TheVariants.{Absent}
use Rattle.signal.specs.Content.{Decoded, refuse, accept, decode}
use Rattle.stream.specs.Entries.{Entry}
use Rattle.image.specs.Block.{Part, Block, part, block}
use Rattle.recording.specs.Calls.{Call, time, change, finish, Way, above, equal, below, way_of}
use Rattle.recording.specs.State.{no_skips, skip_begun, skip_ended, skip_same, skip_counted, skip_of, on_skip}
use Rattle.recording.specs.declared.Settings.{Settings}
use Rattle.recording.specs.declared.Skips.{Skips}
use Rattle.history.specs.History.{Change, History, list_of, top_of}
use Rattle.loaded.specs.Loading.{overlap, join_times}

-- ---- blocks, and what they join to

-- times, and changes in call order with their places in these times
pub record Chunk : Type 0 where
  pub times : List ℕ
  pub changes : List Change

abbrev pub chunk : List ℕ → List Change → Chunk
chunk t c = record { times = t; changes = c }

abbrev pub no_chunk : Chunk
no_chunk = chunk [] []

abbrev pub shift : (n : ℕ) → Change → Change
shift n c = record { signal = c.signal; place = n + c.place; content = c.content; class = c.class }

unfoldable pub shifts : (n : ℕ) → List Change → List Change
shifts n [] = []
shifts n (c ∷ cs) = shift n c ∷ shifts n cs

-- what is joined so far, and one block more
unfoldable pub join : Chunk → Chunk → Chunk
join l b = chunk (join_times l.times b.times) (l.changes ++ shifts (length l.times - overlap l.times b.times) b.changes)

unfoldable pub joined : Chunk → List Chunk → Chunk
joined l [] = l
joined l (b ∷ bs) = joined (join l b) bs

-- ---- the model

pub record Model : Type 0 where
  pub blocks : List Chunk
  pub now : Chunk
  pub skips : Skips
  pub closed : Bool

abbrev pub model : List Chunk → Chunk → Skips → Bool → Model
model bs o k c = record { blocks = bs; now = o; skips = k; closed = c }

abbrev pub no_model : Model
no_model = model [] no_chunk no_skips false

-- the open block is finished; the next table begins with the last time
unfoldable pub cut : Model → Model
cut p = model (p.blocks ++ p.now ∷ []) (chunk (last_or 0 p.now.times ∷ []) []) p.skips p.closed

abbrev pub timed : Model → (sender t : ℕ) → Model
timed p q t = model p.blocks (chunk (p.now.times ++ t ∷ []) p.now.changes) (on_skip skip_ended p.skips q) p.closed

unfoldable pub model_time : Settings → Model → (sender t : ℕ) → Way → Model
model_time settings p q t above = timed (pick (eqb (length p.now.times) settings.limit) (cut p) p) q t
model_time settings p q t equal = model p.blocks p.now (on_skip (skip_same settings.edition) p.skips q) p.closed
model_time settings p q t below = model p.blocks p.now (on_skip skip_begun p.skips q) p.closed

unfoldable pub model_change : Model → (sender signal : ℕ) → (skip : Bool) → Decoded → Model
model_change p q g true d = model p.blocks p.now (on_skip skip_counted p.skips q) p.closed
model_change p q g false (refuse n) = p
model_change p q g false (accept a c) =
    model p.blocks
    (chunk p.now.times (p.now.changes ++ record { signal = g; place = length p.now.times - 1; content = a; class = c } ∷ []))
    p.skips p.closed

abbrev pub close : Model → Model
close p = model p.blocks p.now p.skips true

abbrev pub no_time : List ℕ → Bool
no_time [] = true
no_time (t ∷ ts) = false

unfoldable pub model_step : List SignalEncoding → Settings → Model → Call → (refused : Bool) → Model
model_step ks settings p c true = p
model_step ks settings p (time q t) false = model_time settings p q t (way_of p.now.times t)
model_step ks settings p (change q g v) false = model_change p q g (skip_of p.skips q).on (decode (get_or ks g Absent) v)
model_step ks settings p finish false = close (pick (no_time p.now.times) p (cut p))

-- ---- the image of finished blocks

-- f i, f (i + 1), ..: n of them
unfoldable pub tab : {A : Type 0} → (i n : ℕ) → (ℕ → A) → List A
tab i zero f = []
tab i (suc n) f = f i ∷ tab (suc i) n f

abbrev pub part_with : (top : ℕ) → List Entry → Option (Part (List Entry))
part_with t [] = none
part_with t (e ∷ es) = some (part t (e ∷ es))

-- seen: all changes up to the end of this block
abbrev pub stored_of : (signals : ℕ) → (seen : List Change) → Chunk → Block (List Entry)
stored_of n seen b = block b.times (tab 0 n (λ (g : ℕ). part_with (top_of g seen) (list_of g b.changes)))

unfoldable pub image_of : (signals : ℕ) → (seen : List Change) → List Chunk → List (Block (List Entry))
image_of n seen [] = []
image_of n seen (b ∷ bs) = stored_of n (seen ++ b.changes) b ∷ image_of n (seen ++ b.changes) bs

-- the history as one chunk
abbrev pub told : History → Chunk
told h = chunk h.times h.changes

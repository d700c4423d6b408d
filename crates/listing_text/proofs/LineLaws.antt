-- The parts of a listing in the order in which they are written.
-- Assumes nothing.
use Prim.Native.Nat.{ℕ, zero, suc, ◌≤◌, ◌<◌}
use mathlib.Core.Path.{◌≡◌, refl}
use mathlib.Core.List.{List, [], ◌++◌, append_assoc}
use native.Mathlib.Omega.{arith}
use lib.ListN.{length, get_or, drop, drop_of_length-le}
use lib.Seq.{drop-cons}
use Rattle.ascii.specs.Ascii.{ascii, decimal}
use Rattle.signal.specs.declared.kind.SignalEncoding.{SignalEncoding}
use Rattle.signal.specs.declared.kind.SignalEncoding.TheVariants.{Absent}
use Rattle.signal.specs.Content.{Content}
use Rattle.stream.specs.Entries.{entry}
use Rattle.image.specs.Image.{Image}
use Rattle.loaded.specs.Opener.{kind_at}
use Rattle.loaded.specs.Loading.{loads, table_from}
use Rattle.listing_text.specs.Listing.{line_end, head_line, time_line, time_lines, vector_words, kind_words, signal_line, content_words, entry_line, signal_lines, signals_from, image_text}

pub head-same : {s s' t t' n n' : ℕ} → s ≡ s' → t ≡ t' → n ≡ n' → head_line s' t' n' ≡ head_line s t n
head-same a b c = rw (a, b, c) refl

pub head-parts : (s t n : ℕ) → head_line s t n ≡ (ascii "signals " ++ decimal s) ++ ((ascii " times " ++ decimal t) ++ ((ascii " blocks " ++ decimal n) ++ line_end))
head-parts s t n = simp append_assoc

pub time-parts : (i t : ℕ) → time_line i t ≡ (ascii "time " ++ decimal i) ++ ((ascii " " ++ decimal t) ++ line_end)
time-parts i t = simp append_assoc

pub event-parts : (w c n : ℕ) → w ≡ 0 → vector_words w c ++ ascii " changes " ++ decimal n ≡ ascii "event changes " ++ decimal n
event-parts w c n e = rw e refl

pub vector-parts : (w c n : ℕ) → 0 < w → vector_words w c ++ ascii " changes " ++ decimal n ≡ (ascii "width " ++ decimal w) ++ ((ascii " class " ++ decimal c) ++ (ascii " changes " ++ decimal n))
vector-parts zero c n h = absurd (omega arith)
vector-parts (suc w) c n h = simp append_assoc

pub signal-parts : (g : ℕ) (k : SignalEncoding) (c n : ℕ) → signal_line g k c n ≡ (ascii "signal " ++ decimal g) ++ (ascii " " ++ (kind_words k c n ++ line_end))
signal-parts g k c n = simp append_assoc

pub entry-parts : (i : ℕ) (a : Content) → entry_line (entry i a) ≡ decimal i ++ (content_words a ++ line_end)
entry-parts i a = simp append_assoc

pub image-parts : (x : Image)
    → image_text x ≡ head_line (length x.kinds) (length (table_from [] x.blocks)) (length x.blocks) ++ (time_lines 0 (table_from [] x.blocks) ++ signals_from x 0 x.kinds)
unfolding image_text
image-parts x = append_assoc (head_line (length x.kinds) (length (table_from [] x.blocks)) (length x.blocks)) (time_lines 0 (table_from [] x.blocks)) (signals_from x 0 x.kinds)

-- ---- one line more

pub times_more : (i : ℕ) (ts : List ℕ) → i < length ts → time_lines i (drop i ts) ≡ time_line i (get_or ts i 0) ++ time_lines (suc i) (drop (suc i) ts)
unfolding time_lines
times_more i ts h = rw (drop-cons ts i 0 h) refl

pub signals-more : (x : Image) (g : ℕ) → g < length x.kinds
    → signals_from x g (drop g x.kinds) ≡ signal_lines g (kind_at x g) (loads g x.blocks) ++ signals_from x (suc g) (drop (suc g) x.kinds)
unfolding signals_from
signals-more x g h = rw (drop-cons x.kinds g Absent h) refl

-- ---- none left

pub times_none : (i : ℕ) (ts : List ℕ) → length ts ≤ i → time_lines i (drop i ts) ≡ []
unfolding time_lines
times_none i ts h = rw (drop_of_length-le ts {i = i} h) refl

pub signals-none : (x : Image) (g : ℕ) → length x.kinds ≤ g → signals_from x g (drop g x.kinds) ≡ []
unfolding signals_from
signals-none x g h = rw (drop_of_length-le x.kinds {i = g} h) refl

-- What an entry point that tests the bytes once leaves to do: of accepted bytes the answers are those of the image that they are, of
-- others 11, and the stream is empty, at 0.
-- Assumes nothing.
use Prim.Native.Nat.{ℕ}
use mathlib.Core.Path.{◌≡◌, refl}
use mathlib.Core.Bool.{true, false}
use mathlib.Core.List.{List, []}
use mathlib.Core.Option.{Option, some, none}
use native.Mathlib.Omega.{arith}
use Rattle.lists.specs.Choice.{is_some}
use Rattle.lists.proofs.ChoiceLaws.{none-there}
use Rattle.image.specs.Image.{Image}
use Rattle.codec.specs.Parse.{parse}
use Rattle.loaded.specs.Opener.{open_of, stream_of}
use Rattle.loaded.specs.Reader as reader
use Rattle.walk.specs.Walk.{Opened, image_from, image_in, stream_place}

opened : (p : Option Image) → is_some p ≡ true → p ≡ some (image_from p)
opened none h = let z : ◌≡◌ {A = ℕ} 0 1 = cc in absurd (omega arith)
opened (some x) h = refl

-- ---- accepted

pub parse-opened : (b : List ℕ) → Opened b → parse b ≡ some (image_in b)
unfolding image_in
parse-opened b o = opened (parse b) o

pub table-opened : (b out : List ℕ) → Opened b → reader.table_of b out ≡ reader.table_in (image_in b) out
table-opened b out o = rw (parse-opened b o) refl

pub load-opened : (b : List ℕ) (g : ℕ) (index bytes : List ℕ) → Opened b → reader.load_of b g index bytes ≡ reader.load_in (image_in b) g index bytes
load-opened b g index bytes o = rw (parse-opened b o) refl

pub cursor-opened : (b : List ℕ) (g t : ℕ) (out : List ℕ) → Opened b → reader.cursor_of b g t out ≡ reader.cursor_in (image_in b) g t out
cursor-opened b g t out o = rw (parse-opened b o) refl

-- ---- refused

pub parse-closed : (b : List ℕ) → open_of b ≡ false → parse b ≡ none
parse-closed b h = none-there (parse b) h

pub stream-closed : (b : List ℕ) (n g : ℕ) → open_of b ≡ false → [] ≡ stream_of b n g
unfolding stream_of
stream-closed b n g h = rw (parse-closed b h) refl

pub place-closed : (b : List ℕ) (n g : ℕ) → open_of b ≡ false → 0 ≡ stream_place (image_in b) n g
unfolding image_in
place-closed b n g h = rw (parse-closed b h) refl

pub table-closed : (b out : List ℕ) → open_of b ≡ false → reader.table_after (reader.refuse 11) out ≡ reader.table_of b out
table-closed b out h = rw (parse-closed b h) refl

pub load-closed : (b : List ℕ) (g : ℕ) (index bytes : List ℕ) → open_of b ≡ false → reader.load_after (reader.refuse 11) index bytes ≡ reader.load_of b g index bytes
load-closed b g index bytes h = rw (parse-closed b h) refl

pub cursor-closed : (b : List ℕ) (g t : ℕ) (out : List ℕ) → open_of b ≡ false → reader.cursor_after (reader.refuse 11) out ≡ reader.cursor_of b g t out
cursor-closed b g t out h = rw (parse-closed b h) refl

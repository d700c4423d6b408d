-- The cursor's answer, by the signal, the room, and the entry that was found.
-- Assumes nothing.
use Prim.Native.Nat.{ℕ, ◌-◌, ◌≤◌, ◌<◌}
use mathlib.Core.Path.{◌≡◌, refl, sym, ap, ◌∙◌}
use mathlib.Core.Bool.{Bool, true, false, ◌||◌}
use mathlib.Core.List.{List}
use mathlib.Core.Option.{Option, some, none}
use native.Mathlib.Omega.{arith}
use borrow.Author.Tests.{lt-ltb, leb-true}
use lib.Dec.{leb}
use lib.ListN.{length}
use lib.Seq.{sets}
use Rattle.lists.specs.Bytes.{Bytes}
use Rattle.value.specs.declared.real.Entry as declared
use Rattle.signal.specs.declared.kind.SignalEncoding.{SignalEncoding}
use Rattle.signal.specs.Kind.{width_of, absent}
use Rattle.signal.specs.Content.{Content, symbols_of}
use Rattle.stream.specs.Entries.{Entry}
use Rattle.image.specs.Image.{Image}
use Rattle.loaded.specs.Opener.{kind_at}
use Rattle.loaded.specs.Loading.{loads}
use Rattle.loaded.specs.Reader.{unknown_signal, shown_as, entry_reply, cursor_after, refuse, nothing, found, entry_at, pointed, cursor_in}
use Rattle.loaded.proofs.CursorLaws.{cursor-known}
use Rattle.entry.specs.Read.{content_read}
use Rattle.walk.specs.Walk.{Opened, image_in}
use Rattle.walk.proofs.HeadLaws.{means, kind-past}
use Rattle.entry.specs.declared.read.PlacedChange.{PlacedChange}
use Rattle.std.specs.Prelude as std
use Rattle.cursor_point.specs.declared.Pointing.{Pointing}
use Rattle.entry_same.specs.Kept.{kept_content}
use Rattle.cursor_point.specs.Point.{Point, unpointed, blocks_passed, point_as}
use Rattle.cursor.specs.Shown.{Shows}
use Rattle.cursor_point.proofs.PointLaws.{pointing}
use Rattle.cursor_point.proofs.LoadLaws.{points-loads}

-- ---- the entry that is held

none-held : (ts : List ℕ) (o : Option (ℕ × Entry)) (out : List ℕ) → (pointing ts o).content ≡ none → cursor_after nothing out ≡ pointed ts o out
none-held ts none out e = refl
none-held ts (some q) out e = let z : ◌≡◌ {A = ℕ} 0 1 = cc in absurd (omega arith)

one-counted : (ts : List ℕ) (o : Option (ℕ × Entry)) (c : Content) → (pointing ts o).content ≡ some c → 1 ≤ (pointing ts o).count
one-counted ts none c e = let z : ◌≡◌ {A = ℕ} 0 1 = cc in absurd (omega arith)
one-counted ts (some q) c e = omega arith

one-held : (ts : List ℕ) (o : Option (ℕ × Entry)) (out : List ℕ) (n u : ℕ) (c : Content) → (pointing ts o).count ≡ n → (pointing ts o).time ≡ u → (pointing ts o).content ≡ some c
    → cursor_after (found (n - 1) u (shown_as c)) (sets out 0 (symbols_of c)) ≡ pointed ts o out
one-held ts none out n u c e f g = let z : ◌≡◌ {A = ℕ} 0 1 = cc in absurd (omega arith)
one-held ts (some q) out n u c e f g =
    let h : q.1.content ≡ c = cc in
    let z : n - 1 ≡ q.0 = omega arith in
    rw (z, ← f, ← h) refl

-- ---- 4, 9

or-true : (a b : Bool) → b ≡ true → (a || b) ≡ true
or-true true b e = refl
or-true false b e = e

neither : (a b : Bool) → (a ≡ true → b ≡ true) → b ≡ false → (a || b) ≡ false
neither true b f e = sym (f refl) ∙ e
neither false b f e = e

-- past the signals stands an absent one
past-absent : (x : Image) (g : ℕ) → leb (length x.kinds) g ≡ true → absent (kind_at x g) ≡ true
past-absent x g h = ap absent (sym (kind-past x g (leb-true (length x.kinds) g h)))

module _ (b : List ℕ) (g t : ℕ) (out : List ℕ) (k : SignalEncoding) (a : Bool) (e : k ≡ kind_at (image_in b) g) (f : a ≡ absent k) where
  unknown-signal : a ≡ true → unknown_signal (image_in b) g ≡ true
  unknown-signal h = or-true (leb (length (image_in b).kinds) g) (absent (kind_at (image_in b) g)) (sym (ap absent e) ∙ sym f ∙ h)

  known-signal : a ≡ false → unknown_signal (image_in b) g ≡ false
  known-signal h = neither (leb (length (image_in b).kinds) g) (absent (kind_at (image_in b) g)) (past-absent (image_in b) g) (sym (ap absent e) ∙ sym f ∙ h)

  pub cursor-unknown : a ≡ true → cursor_after (refuse 4) out ≡ cursor_in (image_in b) g t out
  unfolding cursor_in
  cursor-unknown h = rw (unknown-signal h) refl

  pub cursor-short : (w : ℕ) → a ≡ false → w ≡ width_of k → length out < w → cursor_after (refuse 9) out ≡ cursor_in (image_in b) g t out
  unfolding cursor_in
  cursor-short w h q l = rw (known-signal h, lt-ltb (length out) (width_of (kind_at (image_in b) g)) (omega (arith, ap width_of e))) refl

  cursor-fits : (w : ℕ) → a ≡ false → w ≡ width_of k → w ≤ length out
      → cursor_in (image_in b) g t out ≡ pointed (loads g (image_in b).blocks).times (entry_at (loads g (image_in b).blocks) t) out
  cursor-fits w h q l = cursor-known (image_in b) g t out (known-signal h) (omega (arith, ap width_of e))

  -- ---- what the walk found

  module _ (y : Bytes b) (o : Opened b) (s : Pointing) (w : ℕ) (h : a ≡ false) (q : w ≡ width_of k) (l : w ≤ length out) (p : point_as k b s ≡ blocks_passed t g unpointed (image_in b).blocks) where
    held : point_as k b s ≡ pointing (loads g (image_in b).blocks).times (entry_at (loads g (image_in b).blocks) t)
    held = p ∙ points-loads (image_in b).limit (image_in b).kinds t g (image_in b).blocks (means b y o).valid.blocks

    pub cursor-nothing : s.last ≡ std.None → cursor_after nothing out ≡ cursor_in (image_in b) g t out
    cursor-nothing z =
        none-held (loads g (image_in b).blocks).times (entry_at (loads g (image_in b).blocks) t) out (sym (ap (λ (x : Point). x.content) held) ∙ ap (kept_content k b) z)
        ∙ sym (cursor-fits w h q l)

    -- the change that was kept last
    module _ (v : PlacedChange) (z : s.last ≡ std.Some v) where
      content-held : (pointing (loads g (image_in b).blocks).times (entry_at (loads g (image_in b).blocks) t)).content ≡ some (content_read k b v.value v.next)
      content-held = sym (ap (λ (x : Point). x.content) held) ∙ ap (kept_content k b) z

      pub cursor-counted : 1 ≤ s.count
      cursor-counted =
          omega (arith, ap (λ (x : Point). x.count) held, one-counted (loads g (image_in b).blocks).times (entry_at (loads g (image_in b).blocks) t) (content_read k b v.value v.next) content-held)

      pub cursor-found : (r : declared.Entry) (new : List ℕ) → Shows r out new (content_read k b v.value v.next)
          → cursor_after (found (s.count - 1) s.time (entry_reply r)) new ≡ cursor_in (image_in b) g t out
      cursor-found r new d =
          rw (d.0, d.2) (one-held (loads g (image_in b).blocks).times (entry_at (loads g (image_in b).blocks) t) out s.count s.time (content_read k b v.value v.next)
          (sym (ap (λ (x : Point). x.count) held)) (sym (ap (λ (x : Point). x.time) held)) content-held)
          ∙ sym (cursor-fits w h q l)

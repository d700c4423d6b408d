-- Texts put one after the other.
-- Assumes nothing.
use Prim.Native.Nat.{ℕ, ◌+◌, ◌-◌, ◌≤◌}
use mathlib.Core.Path.{◌≡◌, refl, sym, ap, ◌∙◌, subst}
use mathlib.Core.List.{List, [], ◌∷◌, ◌++◌}
use native.Mathlib.Omega.{arith}
use native.Mathlib.Nat.{add-zero}
use lib.ListN.{length, set, take, drop, length-append}
use borrow.Rule.Slice.PartMut.{put_mid}
use Rattle.std.proofs.Common.{append_assoc}
use lib.Seq.{sets, sets-eq, length-sets, drop-drop}
use Rattle.lists.proofs.SetsLaws.{sets-append, taken_back}
use Rattle.ascii.specs.Put.{Room, Puts}

pub puts_none : {at : ℕ} {l : List ℕ} → Puts [] at l at l
puts_none {at} {l} = record { place = sym (add-zero at); held = refl }

pub puts_one : {x y at : ℕ} {l : List ℕ} → y ≡ x → Puts (x ∷ []) at l (at + 1) (set l at y)
puts_one {x} {y} {at} {l} e = record { place = refl; held = ap (set l at) e }

-- a text copied over the bytes from a place on; `put_mid` is the form that the goals have
pub puts-copied : (text copy : List ℕ) (at : ℕ) (l : List ℕ) → Room text at l → copy ≡ text
    → Puts text at l (at + length text) (put_mid at (at + length text - at) l copy)
puts-copied text copy at l room e =
    let k : at + length text - at ≡ length text = omega arith in
    let d : drop (length text) (drop at l) ≡ drop (at + length text) l = drop-drop (length text) at l in
    record { place = refl; held = rw (k, e, sets-eq text l at room.inside, d) (simp append_assoc) }

pub puts-append : {a b : List ℕ} {at p r : ℕ} {l m n : List ℕ} → Puts a at l p m → Puts b p m r n → Puts (a ++ b) at l r n
puts-append {a} {b} {at} {p} {r} {l} {m} {n} x y = record {
  place = omega (arith, length-append a b, x.place, y.place);
  held = y.held ∙ rw (x.held, x.place) (sym (sets-append a b l at));
}

-- a text named in two ways
pub puts-as : {s t : List ℕ} {at r : ℕ} {l m : List ℕ} → s ≡ t → Puts s at l r m → Puts t at l r m
puts-as {s} {t} {at} {r} {l} {m} e x = subst (λ (u : List ℕ). Puts u at l r m) e x

pub room_as : {s t : List ℕ} {at : ℕ} {l : List ℕ} → s ≡ t → Room s at l → Room t at l
room_as {s} {t} {at} {l} e x = subst (λ (u : List ℕ). Room u at l) e x

pub puts-length : {a : List ℕ} {at p : ℕ} {l m : List ℕ} → Puts a at l p m → length m ≡ length l
puts-length {a} {at} {p} {l} {m} x = ap length x.held ∙ length-sets l at a

-- a text at the start of a buffer, read back
pub record TextRead (text : List ℕ) (n : ℕ) (made : List ℕ) : Type 0 where
  pub is : take n made ≡ text
  pub count : n ≡ length text
  pub inside : n ≤ length made

pub text-read : (text buffer : List ℕ) (n : ℕ) (made : List ℕ) → length text ≤ length buffer → Puts text 0 buffer n made → TextRead text n made
text-read text buffer n made h x =
    let e : n ≡ length text = omega (arith, x.place) in
    record { is = ap (take n) x.held ∙ taken_back text buffer n e (omega arith); count = e; inside = omega (arith, puts-length x) }

pub room-first : {a : List ℕ} (b : List ℕ) {at : ℕ} {l : List ℕ} → Room (a ++ b) at l → Room a at l
room-first {a} b h = record { inside = omega (arith, length-append a b, h.inside) }

pub room-rest : {a b : List ℕ} {at p : ℕ} {l m : List ℕ} → Puts a at l p m → Room (a ++ b) at l → Room b p m
room-rest {a} {b} x h = record { inside = omega (arith, length-append a b, h.inside, x.place, puts-length x) }

-- ---- in a loop: what is still to be put, put from a place on, gives what the whole text gives

pub record Left (rest : List ℕ) (p : ℕ) (buffer : List ℕ) (text : List ℕ) (at : ℕ) (before : List ℕ) : Type 0 where
  pub place : p + length rest ≡ at + length text
  pub size : length buffer ≡ length before
  pub held : sets buffer p rest ≡ sets before at text

pub left-all : {t : List ℕ} {at : ℕ} {l : List ℕ} → Left t at l t at l
left-all = record { place = refl; size = refl; held = refl }

pub left_as : {r s : List ℕ} {p : ℕ} {m t : List ℕ} {at : ℕ} {l : List ℕ} → r ≡ s → Left r p m t at l → Left s p m t at l
left_as {r} {s} {p} {m} {t} {at} {l} e x = subst (λ (u : List ℕ). Left u p m t at l) e x

pub left-room : {a : List ℕ} (b : List ℕ) {p : ℕ} {m t : List ℕ} {at : ℕ} {l : List ℕ} → Left (a ++ b) p m t at l → Room t at l → Room a p m
left-room {a} b h room = record { inside = omega (arith, length-append a b, h.place, h.size, room.inside) }

pub left_step : {a b : List ℕ} {p r : ℕ} {m n t : List ℕ} {at : ℕ} {l : List ℕ} → Left (a ++ b) p m t at l → Puts a p m r n → Left b r n t at l
left_step {a} {b} {p} {r} {m} {n} h x = record {
  place = omega (arith, length-append a b, h.place, x.place);
  size = puts-length x ∙ h.size;
  held = rw (x.place, x.held) (sym (sets-append a b m p) ∙ h.held);
}

pub left_end : {p : ℕ} {m t : List ℕ} {at : ℕ} {l : List ℕ} → Left [] p m t at l → Puts t at l p m
left_end {p} h = record { place = omega (arith, h.place, add-zero p); held = h.held }

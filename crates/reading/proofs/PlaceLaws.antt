-- Reading at a place: what was read ends at a place, a chain turn by turn, numbers in a row.
-- Assumes nothing.
use Prim.Native.Nat.{ℕ, zero, suc, ◌+◌, ◌-◌, ◌*◌, ◌≤◌, ◌<◌}
use mathlib.Core.Path.{◌≡◌, refl, sym, ap, ap₂, ◌∙◌}
use mathlib.Core.Bool.{Bool, true, false}
use mathlib.Core.List.{List, [], ◌∷◌}
use mathlib.Core.Option.{Option, some}
use native.Mathlib.Omega.{arith}
use native.Mathlib.Decide.{dec_lt}
use borrow.Author.Tests.{le-leb, lt-leb, leb-true, leb-false}
use lib.Dec.{leb}
use lib.ListN.{length, take, drop, length-append, length-drop}
use lib.Seq.{drop-drop, drop-append_seam}
use Rattle.lists.specs.Bytes.{Bytes}
use Rattle.lists.specs.Choice.{pick}
use Rattle.lists.specs.Got.{Got, bad, got}
use Rattle.lists.proofs.BytesLaws.{drop-bytes}
use Rattle.numbers.specs.LittleEndian.{unle}
use Rattle.form.specs.Form.{Form, and_then, cons_to, more, get_chain, chain, repeat, uint}
use Rattle.form.proofs.FormLaws.{Laws, next-bytes}
use Rattle.form.proofs.WholeLaws.{chain_more, chain-end}
use Rattle.reading.specs.Decided.{uints}

-- a value read at place p of s ends at place p + its length
pub record Read {A : Type 0} (c : Form A) (s : List ℕ) (p : ℕ) (x : A) (r : List ℕ) : Type 0 where
  pub ok : c.Ok x
  pub rest : r ≡ drop (p + length (c.put x)) s
  pub inside : p ≤ length s → p + length (c.put x) ≤ length s

pub read_at : {A : Type 0} (c : Form A) → Laws c → (s : List ℕ) (p : ℕ) (x : A) (r : List ℕ) → Bytes s → c.get (drop p s) ≡ got x r → Read c s p x r
read_at c C s p x r y e =
    let w = C.back (drop p s) x r (drop-bytes p s y) e in
    let n : ℕ = length (c.put x) in
    record {
      ok = w.ok;
      rest = sym (drop-append_seam (c.put x) r) ∙ ap (drop n) (sym w.form) ∙ drop-drop n p s;
      inside = λ h. omega (arith, ap length w.form, length-append (c.put x) r, length-drop p s);
    }

-- ---- a chain

more_same : {A : Type 0} (g : Got A) (f h : A → List ℕ → Option (List A)) → ((x : A) (r : List ℕ) → g ≡ got x r → f x r ≡ h x r) → more g f ≡ more g h
more_same bad f h e = refl
more_same (got x r) f h e = ap (cons_to x) (e x r refl)

module _ {I A : Type 0} (c : I → Form A) (n : A → I) (C : (i : I) → Laws (c i)) (long : (i : I) (x : A) → (c i).Ok x → 0 < length ((c i).put x)) where
  -- what is left is shorter
  shorter : (i : I) (s : List ℕ) (x : A) (r : List ℕ) → Bytes s → (c i).get s ≡ got x r → Bytes r × (length r < length s)
  shorter i s x r y e =
      let w = (C i).back s x r y e in
      (next-bytes w y, omega (arith, ap length w.form, length-append ((c i).put x) r, long i x w.ok))

  enough : (b k l : ℕ) (i : I) (s : List ℕ) → Bytes s → length s ≤ b → length s ≤ k → length s ≤ l → get_chain c n k i s ≡ get_chain c n l i s
  enough zero k l i [] y h p q = chain-end c n k i ∙ sym (chain-end c n l i)
  enough zero k l i (x ∷ s) y h p q = absurd (omega arith)
  enough (suc b) k l i [] y h p q = chain-end c n k i ∙ sym (chain-end c n l i)
  enough (suc b) zero l i (x ∷ s) y h p q = absurd (omega arith)
  enough (suc b) (suc k) zero i (x ∷ s) y h p q = absurd (omega arith)
  enough (suc b) (suc k) (suc l) i (x ∷ s) y h p q =
      chain_more c n k i (x ∷ s) (omega arith)
      ∙ more_same ((c i).get (x ∷ s)) (λ a r. get_chain c n k (n a) r) (λ a r. get_chain c n l (n a) r)
      (λ a r e. let t = shorter i (x ∷ s) a r y e in enough b k l (n a) r t.0 (omega arith) (omega arith) (omega arith))
      ∙ sym (chain_more c n l i (x ∷ s) (omega arith))

  -- one turn
  pub chain-turn : (i : I) (s : List ℕ) → Bytes s → 0 < length s → (chain c n i).read s ≡ more ((c i).get s) (λ x r. (chain c n (n x)).read r)
  chain-turn i [] y h = absurd (omega arith)
  chain-turn i (x ∷ s) y h =
      chain_more c n (length s) i (x ∷ s) h
      ∙ more_same ((c i).get (x ∷ s)) (λ a r. get_chain c n (length s) (n a) r) (λ a r. get_chain c n (length r) (n a) r)
      (λ a r e. let t = shorter i (x ∷ s) a r y e in enough (length r) (length s) (length r) (n a) r t.0 (omega arith) (omega arith) (omega arith))

  pub chain-stop : (i : I) → (chain c n i).read [] ≡ some []
  chain-stop i = chain-end c n 0 i

-- ---- numbers

pub uint-at : (w : ℕ) (s : List ℕ) (at : ℕ) → at ≤ length s
    → (uint w).get (drop at s) ≡ pick (leb (at + w) (length s)) (got (unle (take w (drop at s))) (drop (at + w) s)) bad
uint-at w s at h = ap₂ (λ (t : Bool) (r : List ℕ). pick t (got (unle (take w (drop at s))) r) bad) (test (leb (at + w) (length s)) refl) (drop-drop w at s)
  where
    test : (t : Bool) → leb (at + w) (length s) ≡ t → leb w (length (drop at s)) ≡ t
    test true e = let k = leb-true (at + w) (length s) e in le-leb w (length (drop at s)) (omega (arith, length-drop at s))
    test false e = let k = leb-false (at + w) (length s) e in lt-leb w (length (drop at s)) (omega (arith, length-drop at s))

-- a number that is there
pub uint-there : (w : ℕ) (s : List ℕ) (at : ℕ) → at + w ≤ length s → (uint w).get (drop at s) ≡ got (unle (take w (drop at s))) (drop (at + w) s)
uint-there w s at h =
    uint-at w s at (omega arith) ∙ ap (λ (t : Bool). pick t (got (unle (take w (drop at s))) (drop (at + w) s)) bad) (le-leb (at + w) (length s) h)

pub repeat-turn : {A : Type 0} (k : ℕ) (c : Form A) (s : List ℕ) → (repeat (suc k) c).get s ≡ and_then (c.get s) (λ a r. and_then ((repeat k c).get r) (λ l q. got (a ∷ l) q))
unfolding repeat
repeat-turn k c s = refl

pub repeat-zero : {A : Type 0} (c : Form A) (s : List ℕ) → (repeat 0 c).get s ≡ got [] s
unfolding repeat
repeat-zero c s = refl

pub uints-next : (w n : ℕ) (s : List ℕ) (at : ℕ) → uints w (suc n) s at ≡ unle (take w (drop at s)) ∷ uints w n s (at + w)
unfolding uints
uints-next w n s at = refl

pub uints-zero : (w : ℕ) (s : List ℕ) (at : ℕ) → uints w 0 s at ≡ []
unfolding uints
uints-zero w s at = refl

pub uints-length : (w n : ℕ) (s : List ℕ) (at : ℕ) → length (uints w n s at) ≡ n
unfolding uints
uints-length w zero s at = refl
uints-length w (suc n) s at = ap suc (uints-length w n s (at + w))

-- n numbers read at a place
pub uints-at : (w n : ℕ) (s : List ℕ) (at : ℕ) → at + w * n ≤ length s → (repeat n (uint w)).get (drop at s) ≡ got (uints w n s at) (drop (at + w * n) s)
uints-at w zero s at h =
    let e : at ≡ at + w * 0 = omega arith in
    repeat-zero (uint w) (drop at s) ∙ ap₂ (λ (l : List ℕ) (k : ℕ). got l (drop k s)) (sym (uints-zero w s at)) e
uints-at w (suc n) s at h =
    let m : w * suc n ≡ w + w * n = omega arith in
    let i : at + w + w * n ≤ length s = omega arith in
    let e : at + w + w * n ≡ at + w * suc n = omega arith in
    repeat-turn n (uint w) (drop at s)
    ∙ ap (λ (g : Got ℕ). and_then g (λ a r. and_then ((repeat n (uint w)).get r) (λ l q. got (a ∷ l) q))) (uint-there w s at (omega arith))
    ∙ ap (λ (g : Got (List ℕ)). and_then g (λ l q. got (unle (take w (drop at s)) ∷ l) q)) (uints-at w n s (at + w) i)
    ∙ ap₂ (λ (l : List ℕ) (k : ℕ). got l (drop k s)) (sym (uints-next w n s at)) e

pub uints-more : (w n : ℕ) (s : List ℕ) (at : ℕ) → 0 < n → uints w n s at ≡ unle (take w (drop at s)) ∷ uints w (n - 1) s (at + w)
uints-more w zero s at h = absurd (omega arith)
uints-more w (suc n) s at h =
    let e : n ≡ suc n - 1 = omega arith in
    uints-next w n s at ∙ ap (λ (k : ℕ). unle (take w (drop at s)) ∷ uints w k s (at + w)) e

pub uints-none : (w n : ℕ) (s : List ℕ) (at : ℕ) → n ≡ 0 → uints w n s at ≡ []
uints-none w n s at e = ap (λ (k : ℕ). uints w k s at) e ∙ uints-zero w s at

-- bytes that end too early
pub uint-short : (w : ℕ) (s : List ℕ) (at : ℕ) → at ≤ length s → length s < at + w → (uint w).get (drop at s) ≡ bad
uint-short w s at i h = uint-at w s at i ∙ ap (λ (t : Bool). pick t (got (unle (take w (drop at s))) (drop (at + w) s)) bad) (lt-leb (at + w) (length s) h)

pub uints-short : (w n : ℕ) (s : List ℕ) (at : ℕ) → at ≤ length s → length s < at + w * n → (repeat n (uint w)).get (drop at s) ≡ bad
uints-short w zero s at i h = absurd (omega arith)
uints-short w (suc n) s at i h = by (λ k. uints-short w n s (at + w) k) (dec_lt (length s) (at + w))
  where
    by : (at + w ≤ length s → length s < at + w + w * n → (repeat n (uint w)).get (drop (at + w) s) ≡ bad) → Dec (length s < at + w) → (repeat (suc n) (uint w)).get (drop at s) ≡ bad
    by f (yes q) =
        repeat-turn n (uint w) (drop at s)
        ∙ ap (λ (g : Got ℕ). and_then g (λ a r. and_then ((repeat n (uint w)).get r) (λ l q. got (a ∷ l) q))) (uint-short w s at i q)
    by f (no q) =
        let k : at + w ≤ length s = omega arith in
        let m : w * suc n ≡ w + w * n = omega arith in
        repeat-turn n (uint w) (drop at s)
        ∙ ap (λ (g : Got ℕ). and_then g (λ a r. and_then ((repeat n (uint w)).get r) (λ l q. got (a ∷ l) q))) (uint-there w s at k)
        ∙ ap (λ (g : Got (List ℕ)). and_then g (λ l q. got (unle (take w (drop at s)) ∷ l) q)) (f k (omega arith))

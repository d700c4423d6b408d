-- The two laws of a form, and that each way to build forms keeps them.
-- Assumes nothing.
use Prim.Native.Nat.{ℕ, zero, suc, ◌+◌}
use mathlib.Core.Path.{◌≡◌, refl, sym, ap, ap₂, ◌∙◌}
use mathlib.Core.Bool.{true}
use mathlib.Core.List.{List, [], ◌∷◌, ◌++◌, append_assoc}
use mathlib.Core.Option.{Option, some, none}
use native.Mathlib.Omega.{arith}
use borrow.Author.Tests.{le-leb, leb-true, eq-eqb, eqb-true}
use lib.Dec.{leb, eqb}
use lib.ListN.{length, take, drop, length-append, take-append-drop}
use lib.Seq.{get_or-append-add, take_at, drop_at, length-take-le}
use Rattle.lists.specs.Bytes.{Bytes}
use Rattle.lists.specs.Choice.{pick}
use Rattle.lists.specs.Got.{Got, bad, got}
use Rattle.lists.proofs.BytesLaws.{take-bytes}
use Rattle.lists.proofs.GotLaws.{bad-got, by-test}
use Rattle.numbers.specs.LittleEndian.{le, unle}
use Rattle.numbers.proofs.LittleEndianLaws.{unle-le, le-unle, unle-lt, length-le}
use Rattle.form.specs.Form.{Form, and_then, got_if, get_byte, byte, uint, never, only, pair, header, via, put_cons, OkCons, cons_then, cons, if_yes, guard, repeat, each, exact}

-- what was read is a value that may be written, and its bytes stand in front
pub record Was {A : Type 0} (c : Form A) (s : List ℕ) (x : A) (r : List ℕ) : Type 0 where
  pub ok : c.Ok x
  pub form : s ≡ c.put x ++ r

pub record Laws {A : Type 0} (c : Form A) : Type 0 where
  -- what is written is read back, whatever stands after it
  pub there : (x : A) (r : List ℕ) → c.Ok x → c.get (c.put x ++ r) ≡ got x r
  -- what is read was written so
  pub back : (s : List ℕ) (x : A) (r : List ℕ) → Bytes s → c.get s ≡ got x r → Was c s x r

-- ---- taking a reading apart

rest-bytes : (a r s : List ℕ) → s ≡ a ++ r → Bytes s → Bytes r
rest-bytes a r s e h i = rw (← (get_or-append-add a r i 0), ← e) (h (length a + i))

pub next-bytes : {A : Type 0} {c : Form A} {s r : List ℕ} {x : A} → Was c s x r → Bytes s → Bytes r
next-bytes {c} {s} {r} {x} w h = rest-bytes (c.put x) r s w.form h

-- in two steps
by-steps : {A B P : Type 0} {y : B} {q : List ℕ} (g : Got A) (k : A → List ℕ → Got B) → and_then g k ≡ got y q
    → ((a : A) (r : List ℕ) → g ≡ got a r → k a r ≡ got y q → P) → P
by-steps bad k e f = bad-got e
by-steps (got a r) k e f = f a r refl e

pub by-found : {B P : Type 0} {y : B} {q : List ℕ} (o : Option B) (r : List ℕ) → got_if o r ≡ got y q → (o ≡ some y → r ≡ q → P) → P
by-found none r e f = bad-got e
by-found (some b) r e f = f (cc) (cc)

was-eq : {A : Type 0} {c : Form A} {s r q : List ℕ} {x y : A} → got x r ≡ got y q → Was c s x r → Was c s y q
was-eq {r} {q} {x} {y} e w = let x' : x ≡ y = cc in let r' : r ≡ q = cc in rw (← x', ← r') w

joined : (p q t : List ℕ) {s r : List ℕ} → s ≡ p ++ r → r ≡ q ++ t → s ≡ (p ++ q) ++ t
joined p q t e f = rw append_assoc (e ∙ ap (λ (l : List ℕ). p ++ l) f)

-- ---- numbers

byte-back : (s : List ℕ) (x : ℕ) (r : List ℕ) → Bytes s → get_byte s ≡ got x r → Was byte s x r
byte-back [] x r y e = bad-got e
byte-back (b ∷ s) x r y e = was-eq e (record { ok = y 0; form = refl })

pub byte_laws : Laws byte
byte_laws = record { there = λ x r o. refl; back = byte-back }

pub room : (p r : List ℕ) {n : ℕ} → length p ≡ n → leb n (length (p ++ r)) ≡ true
room p r {n} e = le-leb n (length (p ++ r)) (omega (arith, length-append p r))

uint-back : (w : ℕ) (s : List ℕ) → Bytes s → leb w (length s) ≡ true → Was (uint w) s (unle (take w s)) (drop w s)
uint-back w s y t =
    let l : length (take w s) ≡ w = length-take-le w s (leb-true w (length s) t) in
    let e : le w (unle (take w s)) ≡ take w s = ap (λ (n : ℕ). le n (unle (take w s))) (sym l) ∙ le-unle (take w s) (take-bytes w s y) in
    record { ok = unle-lt w s y; form = sym (rw e (take-append-drop w s)) }

pub uint_laws : (w : ℕ) → Laws (uint w)
uint_laws w = record {
  there = λ x r o. rw (room (le w x) r (length-le w x), take_at (le w x) r w (length-le w x), drop_at (le w x) r w (length-le w x), unle-le w x o) refl;
  back = λ s x r y e. by-test (leb w (length s)) (got (unle (take w s)) (drop w s)) e (λ t g. was-eq g (uint-back w s y t));
}

-- ---- ways to build forms

never-laws : {A : Type 0} → Laws (never {A = A})
never-laws = record { there = λ x r o. absurd o; back = λ s x r y e. bad-got e }

pub only-laws : {A : Type 0} (a : A) → Laws (only a)
only-laws a = record {
  there = λ x r o. rw o refl;
  back = λ s x r y e. record { ok = (cc); form = (cc) };
}

module _ {A B : Type 0} (c : Form A) (d : Form B) (C : Laws c) (D : Laws d) where
  pub pair-laws : Laws (pair c d)
  pair-laws = record {
    there = λ x r o. rw (append_assoc, C.there x.0 (d.put x.1 ++ r) o.0, D.there x.1 r o.1) refl;
    back = λ s x r y e. by-steps (c.get s) (λ a r. and_then (d.get r) (λ b q. got (a, b) q)) e (λ a q e1 e2.
        by-steps (d.get q) (λ b q. got (a, b) q) e2 (λ b t e3 e4.
        let p = C.back s a q y e1 in
        let w = D.back q b t (next-bytes p y) e3 in
        was-eq e4 (record { ok = (p.ok, w.ok); form = joined (c.put a) (d.put b) t p.form w.form })));
  }

-- what is read after h has h in front
module _ {H A : Type 0} (c : Form H) (f : A → H) (d : H → Form A) (C : Laws c) (D : (h : H) → Laws (d h))
    (agree : (h : H) (x : A) → c.Ok h → (d h).Ok x → f x ≡ h) where
  header-back : (s : List ℕ) (h : H) (q : List ℕ) (x : A) (r : List ℕ) → Was c s h q → Was (d h) q x r → Was (header c f d) s x r
  header-back s h q x r p w =
      let a : f x ≡ h = agree h x p.ok w.ok in
      record { ok = rw a (p.ok, w.ok); form = rw a (joined (c.put h) ((d h).put x) r p.form w.form) }

  pub header-laws : Laws (header c f d)
  header-laws = record {
    there = λ x r o. rw (append_assoc, C.there (f x) ((d (f x)).put x ++ r) o.0) ((D (f x)).there x r o.1);
    back = λ s x r y e. by-steps (c.get s) (λ h r. (d h).get r) e (λ h q e1 e2.
        let p = C.back s h q y e1 in
        header-back s h q x r p ((D h).back q x r (next-bytes p y) e2));
  }

-- g undoes f on what is read
module _ {A B : Type 0} (c : Form A) (f : A → Option B) (g : B → A) (C : Laws c) (undo : (a : A) (b : B) → c.Ok a → f a ≡ some b → g b ≡ a) where
  via-back : (s : List ℕ) (a : A) (r : List ℕ) (y : B) → Was c s a r → f a ≡ some y → Was (via c f g) s y r
  via-back s a r y p e =
      let v : g y ≡ a = undo a y p.ok e in
      record { ok = rw v (p.ok, e); form = p.form ∙ ap (λ (a : A). c.put a ++ r) (sym v) }

  pub via-laws : Laws (via c f g)
  via-laws = record {
    there = λ y r o. rw (C.there (g y) r o.0, o.1) refl;
    back = λ s y q b e. by-steps (c.get s) (λ a r. got_if (f a) r) e (λ a r e1 e2.
        by-found (f a) r e2 (λ fa rq. rw (← rq) (via-back s a r y (C.back s a r b e1) fa)));
  }

module _ {A : Type 0} (c : Form A) (d : A → Form (List A)) (C : Laws c) (D : (x : A) → Laws (d x)) where
  cons-there : (x : List A) (r : List ℕ) → OkCons c d x → (cons_then c d).get (put_cons c d x ++ r) ≡ got x r
  cons-there [] r o = absurd o
  cons-there (x ∷ l) r o = rw (append_assoc, C.there x ((d x).put l ++ r) o.0, (D x).there l r o.1) refl

  pub consThen-laws : Laws (cons_then c d)
  consThen-laws = record {
    there = cons-there;
    back = λ s x r y e. by-steps (c.get s) (λ a r. and_then ((d a).get r) (λ l q. got (a ∷ l) q)) e (λ a q e1 e2.
        by-steps ((d a).get q) (λ l q. got (a ∷ l) q) e2 (λ l t e3 e4.
        let p = C.back s a q y e1 in
        let w = (D a).back q l t (next-bytes p y) e3 in
        was-eq e4 (record { ok = (p.ok, w.ok); form = joined (c.put a) ((d a).put l) t p.form w.form })));
  }

cons-laws : {A : Type 0} (c : Form A) (d : Form (List A)) → Laws c → Laws d → Laws (cons c d)
cons-laws c d C D = consThen-laws c (λ x. d) C (λ x. D)

pub repeat-laws : {A : Type 0} (n : ℕ) (c : Form A) → Laws c → Laws (repeat n c)
unfolding repeat
repeat-laws zero c C = only-laws []
repeat-laws (suc n) c C = cons-laws c (repeat n c) C (repeat-laws n c C)

pub each-laws : {K L A : Type 0} (c : K → L → Form A) → ((k : K) (l : L) → Laws (c k l)) → (ks : List K) (ls : List L) → Laws (each c ks ls)
unfolding each
each-laws c C [] [] = only-laws []
each-laws c C [] (l ∷ ls) = never-laws
each-laws c C (k ∷ ks) [] = never-laws
each-laws c C (k ∷ ks) (l ∷ ls) = cons-laws (c k l) (each c ks ls) (C k l) (each-laws c C ks ls)

pub yes_of : {P : Type 0} {A : Type 0} (d : Dec P) (x : A) → P → if_yes d x ≡ some x
yes_of (yes q) x p = refl
yes_of (no q) x p = absurd (q p)

by-yes : {A P Q : Type 0} {x y : A} (d : Dec P) → if_yes d x ≡ some y → (P → x ≡ y → Q) → Q
by-yes (yes p) e f = f p (cc)
by-yes (no p) e f = let z : ◌≡◌ {A = ℕ} 0 1 = cc in absurd (omega arith)

module _ {A : Type 0} (c : Form A) (P : A → Type 0) (d : (x : A) → Dec (P x)) (C : Laws c) where
  guard-back : (s : List ℕ) (x : A) (r : List ℕ) → P x → Was c s x r → Was (guard c P d) s x r
  guard-back s x r p w = record { ok = (w.ok, p); form = w.form }

  pub guard-laws : Laws (guard c P d)
  guard-laws = record {
    there = λ x r o. rw (C.there x r o.0, yes_of (d x) x o.1) refl;
    back = λ s x r y e. by-steps (c.get s) (λ x r. got_if (if_yes (d x) x) r) e (λ a q e1 e2.
        by-found (if_yes (d a) a) q e2 (λ f t. by-yes (d a) f (λ p u.
        was-eq (ap₂ (λ (x : A) (r : List ℕ). got x r) u t) (guard-back s a q p (C.back s a q y e1)))));
  }

module _ {A : Type 0} (p n : ℕ) (c : Form A) (C : Laws c) where
  exact-there : (x : A) (r : List ℕ) → p + length (c.put x) ≡ n → eqb (p + length (c.put x ++ r)) (n + length r) ≡ true
  exact-there x r e = eq-eqb (p + length (c.put x ++ r)) (n + length r) (omega (arith, length-append (c.put x) r))

  exact-back : (s : List ℕ) (x : A) (r : List ℕ) → eqb (p + length s) (n + length r) ≡ true → Was c s x r → Was (exact p n c) s x r
  exact-back s x r e w =
      let q = eqb-true (p + length s) (n + length r) e in
      let l = ap length w.form ∙ length-append (c.put x) r in
      record { ok = (w.ok, omega arith); form = w.form }

  pub exact-laws : Laws (exact p n c)
  exact-laws = record {
    there = λ x r o. rw (C.there x r o.0, exact-there x r o.1) refl;
    back = λ s x r y e. by-steps (c.get s) (λ x r. pick (eqb (p + length s) (n + length r)) (got x r) bad) e (λ a q e1 e2.
        by-test (eqb (p + length s) (n + length q)) (got a q) e2 (λ t g. was-eq g (exact-back s a q t (C.back s a q y e1))));
  }

-- ---- what the counted forms say of their values

pub repeat-length : {A : Type 0} (n : ℕ) (c : Form A) (l : List A) → (repeat n c).Ok l → length l ≡ n
unfolding repeat
repeat-length zero c l o = ap length o
repeat-length (suc n) c [] o = absurd o
repeat-length (suc n) c (x ∷ l) o = ap suc (repeat-length n c l o.1)

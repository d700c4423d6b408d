-- The two laws of a form that takes all the bytes.
-- Assumes nothing.
use Prim.Native.Nat.{ℕ, zero, suc, ◌≤◌, ◌<◌}
use mathlib.Core.Path.{◌≡◌, refl, sym, ap, ◌∙◌}
use mathlib.Core.Bool.{Bool, true, false}
use mathlib.Core.List.{List, [], ◌∷◌, ◌++◌, append-nil}
use mathlib.Core.Option.{Option, some, none}
use native.Mathlib.Omega.{arith}
use borrow.Author.Tests.{leb-true}
use lib.Dec.{leb}
use lib.ListN.{length, take, drop, length-append, take-append-drop}
use lib.Seq.{take_at, drop_at, length-take-le}
use Rattle.lists.specs.Bytes.{Bytes}
use Rattle.lists.specs.Choice.{pick, bind}
use Rattle.lists.specs.Got.{Got, bad, got}
use Rattle.lists.proofs.BytesLaws.{take-bytes}
use Rattle.lists.proofs.GotLaws.{by-test}
use Rattle.form.specs.Form.{Form, got_if, Whole, ended, closed, sized, cons_to, more, put_chain, OkChain, get_chain, chain, if_yes, such}
use Rattle.form.proofs.FormLaws.{Was, Laws, by-found, next-bytes, room, yes_of}

pub record Wrote {A : Type 0} (w : Whole A) (s : List ℕ) (x : A) : Type 0 where
  pub fit : w.Fit x
  pub all : s ≡ w.write x

pub record WholeLaws {A : Type 0} (w : Whole A) : Type 0 where
  pub there : (x : A) → w.Fit x → w.read (w.write x) ≡ some x
  pub back : (s : List ℕ) (x : A) → Bytes s → w.read s ≡ some x → Wrote w s x

-- ---- values that may be missing

pub none-some : {A : Type 0} {B : Type 0} {x : A} → none ≡ some x → B
none-some e = let z : ◌≡◌ {A = ℕ} 0 1 = cc in absurd (omega arith)

pub some_is : {A : Type 0} {x y : A} → some x ≡ some y → x ≡ y
some_is e = cc

pub by-if : {A P : Type 0} {y : A} (t : Bool) (o : Option A) → pick t o none ≡ some y → (t ≡ true → o ≡ some y → P) → P
by-if true o e f = f refl e
by-if false o e f = none-some e

pub by-pick : {A P : Type 0} {y : A} (t : Bool) (a : A) (o : Option A) → pick t (some a) o ≡ some y → (t ≡ true → a ≡ y → P) → (t ≡ false → o ≡ some y → P) → P
by-pick true a o e f g = f refl (some_is e)
by-pick false a o e f g = g refl e

-- ---- the laws

by-ended : {A P : Type 0} {y : A} (g : Got A) → ended g ≡ some y → (g ≡ got y [] → P) → P
by-ended bad e f = none-some e
by-ended (got x []) e f = f (cc)
by-ended (got x (b ∷ r)) e f = none-some e

pub closed-laws : {A : Type 0} (c : Form A) → Laws c → WholeLaws (closed c)
closed-laws c C = record {
  there = λ x o. ap ended (ap c.get (sym (append-nil (c.put x))) ∙ C.there x [] o);
  back = λ s x y e. by-ended (c.get s) e (λ g.
      let w = C.back s x [] y g in record { fit = w.ok; all = w.form ∙ append-nil (c.put x) });
}

module _ {A : Type 0} (n : ℕ) (w : Whole A) (W : WholeLaws w) where
  sized-back : (s : List ℕ) (x : A) → Bytes s → leb n (length s) ≡ true → w.read (take n s) ≡ some x → Was (sized n w) s x (drop n s)
  sized-back s x y t e =
      let p = W.back (take n s) x (take-bytes n s y) e in
      let l : length (take n s) ≡ n = length-take-le n s (leb-true n (length s) t) in
      record {
        ok = (p.fit, ap length (sym p.all) ∙ l);
        form = sym (take-append-drop n s) ∙ ap (λ (a : List ℕ). a ++ drop n s) p.all;
      }

  pub sized-laws : Laws (sized n w)
  sized-laws = record {
    there = λ x r o. rw (room (w.write x) r o.1, take_at (w.write x) r n o.1, drop_at (w.write x) r n o.1, W.there x o.0) refl;
    back = λ s x r y e. by-test (leb n (length s)) (got_if (w.read (take n s)) (drop n s)) e (λ t g.
        by-found (w.read (take n s)) (drop n s) g (λ f q. rw (← q) (sized-back s x y t f)));
  }

-- what an element and the others after it were read from
by-more : {A P : Type 0} {l : List A} (g : Got A) (k : A → List ℕ → Option (List A)) → more g k ≡ some l
    → ((x : A) (r : List ℕ) (m : List A) → g ≡ got x r → k x r ≡ some m → x ∷ m ≡ l → P) → P
by-more bad k e f = none-some e
by-more {A} {P} {l} (got x r) k e f = by-cons (k x r) e (λ m q. f x r m refl q)
  where
    by-cons : (o : Option (List A)) → cons_to x o ≡ some l → ((m : List A) → o ≡ some m → x ∷ m ≡ l → P) → P
    by-cons none e f = none-some e
    by-cons (some m) e f = f m refl (cc)

-- a chain, turn by turn
module _ {I A : Type 0} (c : I → Form A) (n : A → I) where
  pub chain_more : (k : ℕ) (i : I) (s : List ℕ) → 0 < length s → get_chain c n (suc k) i s ≡ more ((c i).get s) (λ x r. get_chain c n k (n x) r)
  unfolding get_chain
  chain_more k i [] h = absurd (omega arith)
  chain_more k i (b ∷ s) h = refl

  pub chain-end : (k : ℕ) (i : I) → get_chain c n k i [] ≡ some []
  unfolding get_chain
  chain-end zero i = refl
  chain-end (suc k) i = refl

-- an element that may be written has a byte
module _ {I A : Type 0} (c : I → Form A) (n : A → I) (C : (i : I) → Laws (c i)) (long : (i : I) (x : A) → (c i).Ok x → 0 < length ((c i).put x)) where
  chain-there : (k : ℕ) (i : I) (l : List A) → OkChain c n i l → length (put_chain c n i l) ≤ k → get_chain c n k i (put_chain c n i l) ≡ some l
  unfolding put_chain OkChain
  chain-there k i [] o h = chain-end c n k i
  chain-there zero i (x ∷ l) o h = absurd (omega (arith, length-append ((c i).put x) (put_chain c n (n x) l), long i x o.0))
  chain-there (suc k) i (x ∷ l) o h =
      let z = long i x o.0 in
      let e = length-append ((c i).put x) (put_chain c n (n x) l) in
      chain_more c n k i ((c i).put x ++ put_chain c n (n x) l) (omega arith)
      ∙ rw ((C i).there x (put_chain c n (n x) l) o.0, chain-there k (n x) l o.1 (omega arith)) refl

  ended-list : (i : I) (l : List A) → [] ≡ l → OkChain c n i l × ([] ≡ put_chain c n i l)
  unfolding put_chain OkChain
  ended-list i l e = rw (← e) (tt, refl)

  one_more : (i : I) (s : List ℕ) (x : A) (r : List ℕ) (m l : List A) → Was (c i) s x r → OkChain c n (n x) m × (r ≡ put_chain c n (n x) m) → x ∷ m ≡ l
      → OkChain c n i l × (s ≡ put_chain c n i l)
  unfolding put_chain OkChain
  one_more i s x r m l p w q = rw (← q) ((p.ok, w.0), p.form ∙ ap (λ (t : List ℕ). (c i).put x ++ t) w.1)

  chain_back : (k : ℕ) (i : I) (s : List ℕ) (l : List A) → Bytes s → get_chain c n k i s ≡ some l → OkChain c n i l × (s ≡ put_chain c n i l)
  unfolding get_chain
  chain_back zero i [] l y e = ended-list i l (cc)
  chain_back zero i (b ∷ s) l y e = none-some e
  chain_back (suc k) i [] l y e = ended-list i l (cc)
  chain_back (suc k) i (b ∷ s) l y e =
      by-more ((c i).get (b ∷ s)) (λ x r. get_chain c n k (n x) r) e (λ x r m g f q.
      let p = (C i).back (b ∷ s) x r y g in
      one_more i (b ∷ s) x r m l p (chain_back k (n x) r m (next-bytes p y) f) q)

  pub chain_laws : (i : I) → WholeLaws (chain c n i)
  chain_laws i = record {
    there = λ l o. chain-there (length (put_chain c n i l)) i l o (omega arith);
    back = λ s l y e. let p = chain_back (length s) i s l y e in record { fit = p.0; all = p.1 };
  }

by-yes : {A Q : Type 0} {y : A} (o : Option A) (R : A → Type 0) (d : (x : A) → Dec (R x)) → bind o (λ x. if_yes (d x) x) ≡ some y → (o ≡ some y → R y → Q) → Q
by-yes none R d e f = none-some e
by-yes {Q} {y} (some x) R d e f = by-dec (d x) e
  where
    by-dec : (d : Dec (R x)) → if_yes d x ≡ some y → Q
    by-dec (yes p) e = f e (let x' : x ≡ y = cc in rw (← x') p)
    by-dec (no p) e = none-some e

pub such-laws : {A : Type 0} (w : Whole A) (P : A → Type 0) (d : (x : A) → Dec (P x)) → WholeLaws w → WholeLaws (such w P d)
such-laws w P d W = record {
  there = λ x o. rw (W.there x o.0) (yes_of (d x) x o.1);
  back = λ s x y e. by-yes (w.read s) P d e (λ f p. let q = W.back s x y f in record { fit = (q.fit, p); all = q.all });
}

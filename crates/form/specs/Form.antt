-- A form: how a value is written as bytes, how it is read from the front of bytes, and which values may be written. Counts, sizes and
-- offsets are functions of the value and no part of it.
-- Laws (proofs/FormLaws, proofs/WholeLaws): what may be written is read back, whatever stands after it; what is read may be written, and
-- its bytes stand in front. Each way to build forms keeps them.
-- Assumes nothing.
use Rattle.std.specs.Prelude.{ℕ, zero, suc, ◌+◌, ◌<◌, ◌^◌, ◌≡◌, List, [], ◌∷◌, ◌++◌, length, take, drop, leb, eqb}
use Rattle.std.proofs.Math.Option.{Option, some, none}
use Rattle.lists.specs.Choice.{pick, bind}
use Rattle.lists.specs.Got.{Got, bad, got}
use Rattle.numbers.specs.LittleEndian.{le, unle}

pub record Form (A : Type 0) : Type 1 where
  pub put : A → List ℕ
  pub get : List ℕ → Got A
  pub Ok : A → Type 0

-- going on with what was read
abbrev pub and_then : {A B : Type 0} → Got A → (A → List ℕ → Got B) → Got B
and_then bad k = bad
and_then (got a r) k = k a r

abbrev pub got_if : {A : Type 0} → Option A → List ℕ → Got A
got_if none r = bad
got_if (some a) r = got a r

-- ---- forms of numbers

abbrev pub get_byte : List ℕ → Got ℕ
get_byte [] = bad
get_byte (b ∷ s) = got b s

abbrev pub byte : Form ℕ
byte = record { put = λ v. v ∷ []; get = get_byte; Ok = λ v. v < 256 }

-- a number in w bytes, lowest first
abbrev pub uint : (w : ℕ) → Form ℕ
uint w = record {
  put = λ v. le w v;
  get = λ s. pick (leb w (length s)) (got (unle (take w s)) (drop w s)) bad;
  Ok = λ v. v < 256 ^ w;
}

-- ---- ways to build forms

-- no value
abbrev pub never : {A : Type 0} → Form A
never = record { put = λ x. []; get = λ s. bad; Ok = λ x. ⊥ }

-- one value, in no bytes
abbrev pub only : {A : Type 0} → A → Form A
only a = record { put = λ x. []; get = λ s. got a s; Ok = λ x. x ≡ a }

-- one after the other
abbrev pub pair : {A B : Type 0} → Form A → Form B → Form (A × B)
pair c d = record {
  put = λ x. c.put x.0 ++ d.put x.1;
  get = λ s. and_then (c.get s) (λ a r. and_then (d.get r) (λ b q. got (a, b) q));
  Ok = λ x. c.Ok x.0 × d.Ok x.1;
}

-- first f x, which says how the value x is written after it
abbrev pub header : {H A : Type 0} → Form H → (A → H) → (H → Form A) → Form A
header c f d = record {
  put = λ x. c.put (f x) ++ (d (f x)).put x;
  get = λ s. and_then (c.get s) (λ h r. (d h).get r);
  Ok = λ x. c.Ok (f x) × (d (f x)).Ok x;
}

-- the value y written as g y, and read by f, where f finds one
abbrev pub via : {A B : Type 0} → Form A → (A → Option B) → (B → A) → Form B
via c f g = record {
  put = λ y. c.put (g y);
  get = λ s. and_then (c.get s) (λ a r. got_if (f a) r);
  Ok = λ y. c.Ok (g y) × (f (g y) ≡ some y);
}

abbrev pub put_cons : {A : Type 0} → Form A → (A → Form (List A)) → List A → List ℕ
put_cons c d [] = []
put_cons c d (x ∷ l) = c.put x ++ (d x).put l

abbrev pub OkCons : {A : Type 0} → Form A → (A → Form (List A)) → List A → Type 0
OkCons c d [] = ⊥
OkCons c d (x ∷ l) = c.Ok x × (d x).Ok l

-- a list of one more, which says how the others are written
abbrev pub cons_then : {A : Type 0} → Form A → (A → Form (List A)) → Form (List A)
cons_then c d = record {
  put = put_cons c d;
  get = λ s. and_then (c.get s) (λ a r. and_then ((d a).get r) (λ l q. got (a ∷ l) q));
  Ok = OkCons c d;
}

-- a list of one more
abbrev pub cons : {A : Type 0} → Form A → Form (List A) → Form (List A)
cons c d = cons_then c (λ x. d)

-- a list of n
unfoldable pub repeat : {A : Type 0} → ℕ → Form A → Form (List A)
repeat zero c = only []
repeat (suc n) c = cons c (repeat n c)

-- a list with an element for each pair of elements of two lists of one length
unfoldable pub each : {K L A : Type 0} → (K → L → Form A) → List K → List L → Form (List A)
each c [] [] = only []
each c [] (l ∷ ls) = never
each c (k ∷ ks) [] = never
each c (k ∷ ks) (l ∷ ls) = cons (c k l) (each c ks ls)

abbrev pub if_yes : {A P : Type 0} → Dec P → A → Option A
if_yes (yes p) x = some x
if_yes (no p) x = none

-- the values of which P holds
abbrev pub guard : {A : Type 0} → Form A → (P : A → Type 0) → ((x : A) → Dec (P x)) → Form A
guard c P d = record { put = λ x. c.put x; get = λ s. and_then (c.get s) (λ x r. got_if (if_yes (d x) x) r); Ok = λ x. c.Ok x × P x }

-- the value takes up all of n bytes, of which p are counted before it
abbrev pub exact : {A : Type 0} → (p n : ℕ) → Form A → Form A
exact p n c = record {
  put = λ x. c.put x;
  get = λ s. and_then (c.get s) (λ x r. pick (eqb (p + length s) (n + length r)) (got x r) bad);
  Ok = λ x. c.Ok x × (p + length (c.put x) ≡ n);
}

-- ---- forms that take all the bytes

pub record Whole (A : Type 0) : Type 1 where
  pub write : A → List ℕ
  pub read : List ℕ → Option A
  pub Fit : A → Type 0

abbrev pub ended : {A : Type 0} → Got A → Option A
ended bad = none
ended (got x []) = some x
ended (got x (b ∷ r)) = none

-- nothing stands after the value
abbrev pub closed : {A : Type 0} → Form A → Whole A
closed c = record { write = λ x. c.put x; read = λ s. ended (c.get s); Fit = λ x. c.Ok x }

-- the whole of the next n bytes
abbrev pub sized : {A : Type 0} → ℕ → Whole A → Form A
sized n w = record {
  put = λ x. w.write x;
  get = λ s. pick (leb n (length s)) (got_if (w.read (take n s)) (drop n s)) bad;
  Ok = λ x. w.Fit x × (length (w.write x) ≡ n);
}

abbrev pub cons_to : {A : Type 0} → A → Option (List A) → Option (List A)
cons_to x none = none
cons_to x (some l) = some (x ∷ l)

abbrev pub more : {A : Type 0} → Got A → (A → List ℕ → Option (List A)) → Option (List A)
more bad k = none
more (got x r) k = cons_to x (k x r)

-- a list up to the end of the bytes, where each element says how the next one is written
unfoldable pub put_chain : {I A : Type 0} → (I → Form A) → (A → I) → I → List A → List ℕ
put_chain c n i [] = []
put_chain c n i (x ∷ l) = (c i).put x ++ put_chain c n (n x) l

unfoldable pub OkChain : {I A : Type 0} → (I → Form A) → (A → I) → I → List A → Type 0
OkChain c n i [] = Unit {0}
OkChain c n i (x ∷ l) = (c i).Ok x × OkChain c n (n x) l

-- k only bounds the reading, and the number of bytes is enough
unfoldable pub get_chain : {I A : Type 0} → (I → Form A) → (A → I) → (k : ℕ) → I → List ℕ → Option (List A)
get_chain c n zero i [] = some []
get_chain c n zero i (b ∷ s) = none
get_chain c n (suc k) i [] = some []
get_chain c n (suc k) i (b ∷ s) = more ((c i).get (b ∷ s)) (λ x r. get_chain c n k (n x) r)

abbrev pub chain : {I A : Type 0} → (I → Form A) → (A → I) → I → Whole (List A)
chain c n i = record { write = put_chain c n i; read = λ s. get_chain c n (length s) i s; Fit = OkChain c n i }

-- the values of which P holds
abbrev pub such : {A : Type 0} → Whole A → (P : A → Type 0) → ((x : A) → Dec (P x)) → Whole A
such w P d = record { write = λ x. w.write x; read = λ s. bind (w.read s) (λ x. if_yes (d x) x); Fit = λ x. w.Fit x × P x }

-- Reading is settled by writing: two lawful forms that write the same values in the same way read the same.
-- Assumes nothing.
use Prim.Native.Nat.{ℕ}
use mathlib.Core.Path.{◌≡◌, refl, sym, ap, ◌∙◌}
use mathlib.Core.List.{List}
use mathlib.Core.Option.{Option, some, none}
use Rattle.lists.specs.Bytes.{Bytes}
use Rattle.form.specs.Form.{Form, Whole}
use Rattle.form.proofs.WholeLaws.{WholeLaws}

-- a value of c is one of d, with the same bytes
pub record Within {A : Type 0} (c d : Form A) (x : A) : Type 0 where
  pub ok : d.Ok x
  pub same : c.put x ≡ d.put x

pub record WithinWhole {A : Type 0} (c d : Whole A) (x : A) : Type 0 where
  pub fit : d.Fit x
  pub same : c.write x ≡ d.write x

read-too : {A : Type 0} (c d : Whole A) → WholeLaws c → WholeLaws d → ((x : A) → c.Fit x → WithinWhole c d x)
    → (s : List ℕ) (x : A) → Bytes s → c.read s ≡ some x → d.read s ≡ some x
read-too c d C D within s x y e = let w = C.back s x y e in let t = within x w.fit in ap d.read (w.all ∙ t.same) ∙ D.there x t.fit

some_same : {A : Type 0} (g h : Option A) → ((x : A) → g ≡ some x → h ≡ some x) → ((x : A) → h ≡ some x → g ≡ some x) → g ≡ h
some_same none none f k = refl
some_same none (some x) f k = k x refl
some_same (some x) h f k = sym (f x refl)

pub read_same : {A : Type 0} (c d : Whole A) → WholeLaws c → WholeLaws d → ((x : A) → c.Fit x → WithinWhole c d x) → ((x : A) → d.Fit x → WithinWhole d c x)
    → (s : List ℕ) → Bytes s → c.read s ≡ d.read s
read_same c d C D there back s y = some_same (c.read s) (d.read s) (λ x e. read-too c d C D there s x y e) (λ x e. read-too d c D C back s x y e)

-- A part by tests on its bytes.
-- Assumes nothing.
use Prim.Native.Nat.{ℕ, ◌-◌, ◌≤◌, ◌<◌}
use mathlib.Core.Path.{◌≡◌, refl, sym, ap, ap₂, ◌∙◌}
use mathlib.Core.Bool.{Bool, true, false, ◌&&◌}
use mathlib.Core.List.{List, [], ◌∷◌}
use mathlib.Core.Option.{Option, some, none}
use native.Mathlib.Omega.{arith}
use borrow.Author.Tests.{le-leb, lt-leb}
use lib.Dec.{leb}
use lib.ListN.{length, take, drop, get_or, length-drop}
use lib.Seq.{take-length}
use Rattle.lists.specs.Choice.{pick, bind, is_some}
use Rattle.lists.specs.Got.{Got, bad, got}
use Rattle.signal.specs.declared.kind.SignalEncoding.{SignalEncoding}
use Rattle.signal.specs.Kind.{top_limit}
use Rattle.stream.specs.Entries.{Entry}
use Rattle.image.specs.Block.{Part, part}
use Rattle.form.specs.Form.{and_then, got_if, if_yes, sized}
use Rattle.form.specs.Decide.{le?}
use Rattle.codec.specs.Walk.{walk_stream, walked_part}
use Rattle.reading.specs.Decided.{is_yes}
use Rattle.reading.specs.Stream.{is_stream}
use Rattle.reading.proofs.DecidedLaws.{yes_le}
use Rattle.parts.specs.Parts.{part_in}

-- ---- the part that a form reads

abbrev pub got_part : Option (Part (List Entry)) → List ℕ → Got (Option (Part (List Entry)))
got_part none q = bad
got_part (some p) q = got (some p) q

got-pick : (t : Bool) (o : Option (Part (List Entry))) (q : List ℕ) → got_part (pick t o none) q ≡ pick t (got_part o q) bad
got-pick true o q = refl
got-pick false o q = refl

by-class : {P : Type 0} (d : Dec P) (x : ℕ) (r : List ℕ) (f : ℕ → List ℕ → Got (Option (Part (List Entry)))) → and_then (got_if (if_yes d x) r) f ≡ pick (is_yes d) (f x r) bad
by-class (yes p) x r f = refl
by-class (no p) x r f = refl

by-stream : (o : Option (List Entry)) (x : ℕ) (q : List ℕ) → and_then (got_if o q) (λ l r. got_if (some (some (part x l))) r) ≡ got_part (bind o (λ l. some (part x l))) q
by-stream none x q = refl
by-stream (some l) x q = refl

by-room : (t : Bool) (o : Option (List Entry)) (x : ℕ) (q : List ℕ) → t ≡ true
    → and_then (pick t (got_if o q) bad) (λ l r. got_if (some (some (part x l))) r) ≡ got_part (bind o (λ l. some (part x l))) q
by-room true o x q e = by-stream o x q
by-room false o x q e = let z : ◌≡◌ {A = ℕ} 0 1 = cc in absurd (omega arith)

pub part-get : (n : ℕ) (k : SignalEncoding) (m x : ℕ) (t : List ℕ) → m ≤ length t → (walked_part n k (some m)).get (x ∷ t) ≡ got_part (part_in k n (x ∷ take m t)) (drop m t)
unfolding part_in
part-get n k m x t h =
    let f : ℕ → List ℕ → Got (Option (Part (List Entry))) = λ u q. and_then ((sized m (walk_stream k n u)).get q) (λ l r. got_if (some (some (part u l))) r) in
    let o : Option (Part (List Entry)) = bind ((walk_stream k n x).read (take m t)) (λ l. some (part x l)) in
    by-class (le? x (top_limit k)) x t f
    ∙ ap₂ (λ (t : Bool) (g : Got (Option (Part (List Entry)))). pick t g bad) (yes_le x (top_limit k))
    (by-room (leb m (length t)) ((walk_stream k n x).read (take m t)) x (drop m t) (le-leb m (length t) h))
    ∙ sym (got-pick (leb x (top_limit k)) o (drop m t))

-- ---- the code's tests

some-part : (o : Option (List Entry)) (x : ℕ) → is_some (bind o (λ l. some (part x l))) ≡ is_some o
some-part none x = refl
some-part (some l) x = refl

some-pick : (t : Bool) (o : Option (Part (List Entry))) → is_some (pick t o none) ≡ t && is_some o
some-pick true o = refl
some-pick false o = refl

module _ (k : SignalEncoding) (n : ℕ) where
  part-is : (x : ℕ) (r : List ℕ) → is_some (part_in k n (x ∷ r)) ≡ leb x (top_limit k) && is_stream k n x r
  unfolding part_in is_stream
  part-is x r =
      some-pick (leb x (top_limit k)) (bind ((walk_stream k n x).read r) (λ l. some (part x l)))
      ∙ ap (λ (b : Bool). leb x (top_limit k) && b) (some-part ((walk_stream k n x).read r) x)

  by_first : (s : List ℕ) (x : ℕ) → 0 < length s → x ≡ get_or s 0 0 → is_some (part_in k n s) ≡ leb x (top_limit k) && is_stream k n x (drop 1 s)
  by_first [] x h e = absurd (omega arith)
  by_first (y ∷ s) x h e = part-is y s ∙ ap (λ (x : ℕ). leb x (top_limit k) && is_stream k n x s) (sym e)

  pub part-high : (s : List ℕ) (x y : ℕ) → 0 < length s → x ≡ get_or s 0 0 → y ≡ top_limit k → y < x → false ≡ is_some (part_in k n s)
  part-high s x y h e f l = sym (by_first s x h e ∙ ap (λ (u : Bool). u && is_stream k n x (drop 1 s)) (ap (leb x) (sym f) ∙ lt-leb x y l))

  pub part-all : (s : List ℕ) (x y : ℕ) (t : Bool) (j : ℕ) → 0 < length s → x ≡ get_or s 0 0 → y ≡ top_limit k → x ≤ y
      → t ≡ is_stream k n x (take j (drop 1 s)) → j ≡ length s - 1 → t ≡ is_some (part_in k n s)
  part-all s x y t j h e f b q d =
      q ∙ ap (is_stream k n x) (ap (λ (j : ℕ). take j (drop 1 s)) (d ∙ sym (length-drop 1 s)) ∙ take-length (drop 1 s))
      ∙ sym (by_first s x h e ∙ ap (λ (u : Bool). u && is_stream k n x (drop 1 s)) (ap (leb x) (sym f) ∙ le-leb x y b))

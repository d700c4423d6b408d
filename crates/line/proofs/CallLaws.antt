-- Which call a line makes, by its first word; an answer that may be missing, taken apart.
-- Assumes nothing.
use Prim.Native.Nat.{ℕ, ◌<◌}
use mathlib.Core.Path.{◌≡◌, refl}
use mathlib.Core.Bool.{Bool, true, false}
use mathlib.Core.List.{List, [], ◌∷◌}
use native.Mathlib.Omega.{arith}
use borrow.Author.Tests.{ne_eqb}
use lib.ListN.{length, get_or}
use Rattle.lists.specs.Choice.{pick}
use Rattle.lists.specs.Same.{same}
use Rattle.ascii.specs.Ascii.{ascii}
use Rattle.std.specs.Prelude.{Option, Some, None, is_some, unwrap_or}
use Rattle.std.specs.Bool.{then_some}
use Rattle.digits.specs.Numbers.{bind}
use Rattle.line.specs.declared.Command.{Command}
use Rattle.line.specs.declared.Command.TheVariants as command
use Rattle.line.specs.Command.{shown, said}
use Rattle.line.specs.Words.{word}
use Rattle.line.specs.Line.{Line, understood, nothing, finish, notUnderstood, lend_of, edition_of, probes_of, sender_of, start_of, time_of, vcd_of, raw_of, real_of, change_of, choice_of}
use Rattle.line.specs.Line.{call_of, line_of}

module _ (l : List ℕ) where
  -- the first word is none of the names before
  pub call-lend : same (word 0 l) (ascii "lend") ≡ true → call_of l ≡ lend_of l
  unfolding call_of
  call-lend a = rw a refl

  pub call-start : same (word 0 l) (ascii "lend") ≡ false → same (word 0 l) (ascii "start") ≡ true → call_of l ≡ start_of l
  unfolding call_of
  call-start a b = rw (a, b) refl

  pub call-time : same (word 0 l) (ascii "lend") ≡ false → same (word 0 l) (ascii "start") ≡ false → same (word 0 l) (ascii "time") ≡ true → call_of l ≡ time_of l
  unfolding call_of
  call-time a b d = rw (a, b, d) refl

  pub call-choice : same (word 0 l) (ascii "lend") ≡ false → same (word 0 l) (ascii "start") ≡ false → same (word 0 l) (ascii "time") ≡ false → call_of l ≡ choice_of l
  unfolding call_of
  call-choice a b d = rw (a, b, d) refl

  -- so for the choices
  pub choice-edition : same (word 0 l) (ascii "edition") ≡ true → choice_of l ≡ edition_of l
  unfolding choice_of
  choice-edition a = rw a refl

  pub choice-probes : same (word 0 l) (ascii "edition") ≡ false → same (word 0 l) (ascii "probes") ≡ true → choice_of l ≡ probes_of l
  unfolding choice_of
  choice-probes a b = rw (a, b) refl

  pub choice-sender : same (word 0 l) (ascii "edition") ≡ false → same (word 0 l) (ascii "probes") ≡ false
      → same (word 0 l) (ascii "sender") ≡ true → choice_of l ≡ sender_of l
  unfolding choice_of
  choice-sender a b d = rw (a, b, d) refl

  pub choice-change : same (word 0 l) (ascii "edition") ≡ false → same (word 0 l) (ascii "probes") ≡ false
      → same (word 0 l) (ascii "sender") ≡ false → choice_of l ≡ change_of l
  unfolding choice_of
  choice-change a b d = rw (a, b, d) refl

  -- so for the changes
  pub change-vcd : same (word 0 l) (ascii "vcd") ≡ true → change_of l ≡ vcd_of l
  unfolding change_of
  change-vcd a = rw a refl

  pub change-raw : same (word 0 l) (ascii "vcd") ≡ false → same (word 0 l) (ascii "raw") ≡ true → change_of l ≡ raw_of l
  unfolding change_of
  change-raw a b = rw (a, b) refl

  pub change-real : same (word 0 l) (ascii "vcd") ≡ false → same (word 0 l) (ascii "raw") ≡ false → same (word 0 l) (ascii "real") ≡ true → change_of l ≡ real_of l
  unfolding change_of
  change-real a b d = rw (a, b, d) refl

  pub change-finish : same (word 0 l) (ascii "vcd") ≡ false → same (word 0 l) (ascii "raw") ≡ false
      → same (word 0 l) (ascii "real") ≡ false → change_of l ≡ pick (same l (ascii "finish")) finish notUnderstood
  unfolding change_of
  change-finish a b d = rw (a, b, d) refl

-- ---- a last part that a test b finds in the line: what is read where it is there

pub said-then : {A : Type 0} (l : List ℕ) (o : Option A) (d : A) (k : A → Line) (x : Command) {b : Bool} {r : Option Command}
    → r ≡ then_some b x → b ≡ is_some o → shown l x ≡ k (unwrap_or o d) → said l r ≡ understood (bind o (λ v. Some (k v)))
said-then l None d k x e f h = rw (e, f) refl
said-then l (Some v) d k x e f h = rw (e, f) h

pub said-finish : (l : List ℕ) (b : Bool) {r : Option Command} → r ≡ then_some b command.Finish → said l r ≡ pick b finish notUnderstood
unfolding shown
said-finish l true e = rw e refl
said-finish l false e = rw e refl

pub said-shown : (l : List ℕ) (r : Option Command) → shown l (unwrap_or r command.NotUnderstood) ≡ said l r
unfolding shown
said-shown l None = refl
said-shown l (Some x) = refl

-- ---- an empty line, a comment, any other

pub line-empty : (l : List ℕ) → length l ≡ 0 → nothing ≡ line_of l
unfolding line_of
line-empty [] h = refl
line-empty (b ∷ l) h = absurd (omega arith)

pub line-comment : (l : List ℕ) → 0 < length l → get_or l 0 0 ≡ 35 → nothing ≡ line_of l
unfolding line_of
line-comment [] h e = absurd (omega arith)
line-comment (b ∷ l) h e = rw e refl

pub line-call : (l : List ℕ) → 0 < length l → (get_or l 0 0 ≡ 35 → ⊥) → call_of l ≡ line_of l
unfolding line_of
line-call [] h n = absurd (omega arith)
line-call (b ∷ l) h n = rw (ne_eqb b 35 n) refl

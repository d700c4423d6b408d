-- Each range of numbers has its count of groups.
-- Assumes nothing.
use Prim.Native.Nat.{ℕ, ◌/◌, ◌≤◌, ◌<◌}
use mathlib.Core.Path.{◌≡◌, sym, ap}
use native.Mathlib.Omega.{arith}
use lib.ListN.{length}
use Rattle.numbers.specs.Leb128.{leb_of}
use Rattle.numbers.proofs.Leb128Laws.{leb_small, length-more}
use Rattle.numbers.proofs.leb128.leb128_len.Goals as goal

one : (v : ℕ) → v < 128 → length (leb_of v) ≡ 1
one v l = ap length (leb_small v l)

two : (v : ℕ) → 128 ≤ v → v < 16384 → length (leb_of v) ≡ 2
two v h l = length-more 1 v h (omega arith) (one (v / 128) (omega arith))

three : (v : ℕ) → 16384 ≤ v → v < 2097152 → length (leb_of v) ≡ 3
three v h l = length-more 2 v (omega arith) (omega arith) (two (v / 128) (omega arith) (omega arith))

four : (v : ℕ) → 2097152 ≤ v → v < 268435456 → length (leb_of v) ≡ 4
four v h l = length-more 3 v (omega arith) (omega arith) (three (v / 128) (omega arith) (omega arith))

pub returns-in-0-to-127 : goal.returns-in-0-to-127
returns-in-0-to-127 c = sym (one c.args.v (omega arith))

pub returns-in-128-to-16383 : goal.returns-in-128-to-16383
returns-in-128-to-16383 c = sym (two c.args.v (omega arith) (omega arith))

pub returns-in-16384-to-2097151 : goal.returns-in-16384-to-2097151
returns-in-16384-to-2097151 c = sym (three c.args.v (omega arith) (omega arith))

pub returns-in-2097152-to-268435455 : goal.returns-in-2097152-to-268435455
returns-in-2097152-to-268435455 c = sym (four c.args.v (omega arith) (omega arith))

pub returns-in_default : goal.returns-in_default
returns-in_default c = sym (length-more 4 c.args.v (omega arith) (omega arith) (four (c.args.v / 128) (omega arith) (omega arith)))

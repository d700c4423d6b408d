-- A refused join leaves the output; else the output is what put_joined wrote.
-- Assumes nothing.
use mathlib.Core.Path.{refl}
use native.Mathlib.Omega.{arith}
use lib.ListN.{length}
use Rattle.walk.specs.Open.{image_of}
use Rattle.joined.proofs.JoinLaws.{Passes}
use Rattle.std.proofs.lemmas.Result.{err_from_is_err_and}
use Rattle.join.proofs.TestLaws.{refusal-some, join-refused, passed, join-taken}
use Rattle.join.proofs.join_in.Goals as goal
use Rattle.join.proofs.join_in.Goals.{In_ok-refusal}

-- past the tests
past : (c : goal.In_ok-refusal) → let a = c.args in Passes (image_of a.first) (image_of a.second) (length a.out.now)
past c =
    let a = c.args in
    passed (image_of a.first) (image_of a.second) a.out.now 0 c.in_ok-refusal.ensures refl

pub returns-in_err-refusal : goal.returns-in_err-refusal
returns-in_err-refusal c =
    let a = c.args in
    let p = err_from_is_err_and c.from_residual.result c.from_residual.ensures.1 in
    rw (p.1, p.2) (join-refused (image_of a.first) (image_of a.second) a.out.now _ c.in_err-refusal.ensures (refusal-some c.in_err-refusal.field-0.0))

pub total_of-total-requires : goal.total_of-total-requires
total_of-total-requires c = (past c).same

pub put_joined-requires : goal.put_joined-requires
put_joined-requires c =
    let p = past (goal.at.put_joined-requires c).In_ok-refusal in
    let e = c.total_of-total.ensures.0 in
    record { alike = p.same; total_value = (e, omega (arith, e, p.few), omega (arith, e, p.room)) }

pub returns : goal.returns
returns c =
    let a = c.args in
    join-taken (image_of a.first) (image_of a.second) a.out.now 0 c.in_ok-refusal.ensures refl _ _
    c.total_of-total.ensures.0 c.put_joined.ensures

use Rattle.std.proofs.Common.{◌∙◌, ap, arith}
use Rattle.std.proofs.lemmas.Bool.Decides.{nat_tests}
use Rattle.line.specs.Command.{shown}
use Rattle.line.proofs.CallLaws.{said-shown, line-empty, line-comment, line-call}
use Rattle.line.proofs.read_line.Goals as goal
use Rattle.line.proofs.read_line.Goals.{then-is_empty-via-then-is_empty, then-is_empty-via-else-is_empty+then-line-eq35}

pub returns-then-is_empty : goal.returns-then-is_empty
unfolding shown
returns-then-is_empty c =
    let l = c.args.line.now in
    elim c.then-is_empty.branch [
      | then-is_empty-via-then-is_empty w ↦ line-empty l (let h = w.if-is_empty.ensures in grind (arith, nat_tests))
      | then-is_empty-via-else-is_empty+then-line-eq35 w ↦ line-comment l (let h = w.if-is_empty.ensures in grind (arith, nat_tests)) w.if-line-eq35.true
    ]

pub returns : goal.returns
returns c =
    let l = c.args.line.now in
    ap (shown l) c.unwrap_or.ensures ∙ said-shown l c.read_call.result ∙ c.read_call.ensures ∙ line-call l (let h = c.if-is_empty.ensures in grind (arith, nat_tests)) c.if-line-eq35.false

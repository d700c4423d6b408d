use native.Mathlib.Omega.{arith}
use Rattle.blocks.proofs.TestLaws.{front-room, front-signals, front-size, front-times, front_long, front-yes}
use Rattle.blocks.proofs.front_at.Goals as goal

pub returns-then-s-at : goal.returns-then-s-at
returns-then-s-at c = front-room _ _ _ _ c.requires.0 (omega arith)

pub returns-then-get_u32-signals : goal.returns-then-get_u32-signals
returns-then-get_u32-signals c =
    let g = c in
    front-signals _ _ _ _ g.requires.0 (omega arith) _ _ _ g.get_u32-times.ensures g.get_u32.ensures
    g.get_u32-size.ensures c.if-get_u32-signals.true

pub returns-then-size-data_start : goal.returns-then-size-data_start
returns-then-size-data_start c =
    let i = c in
    let g = i in
    front-size _ _ _ _ g.requires.0 (omega arith) _ _ _ g.get_u32-times.ensures g.get_u32.ensures g.get_u32-size.ensures
    i.if-get_u32-signals.false (omega arith)

pub returns-then-not-times_fit : goal.returns-then-not-times_fit
returns-then-not-times_fit c =
    let i = c in
    let g = i in
    front-times _ _ _ _ g.requires.0 (omega arith) _ _ _ g.get_u32-times.ensures g.get_u32.ensures g.get_u32-size.ensures
    i.if-get_u32-signals.false (omega arith) _ c.times_fit.ensures (c.if-not-times_fit.true)

pub returns-then-s-at-2 : goal.returns-then-s-at-2
returns-then-s-at-2 c =
    let i = c in
    let g = i in
    front_long _ _ _ _ g.requires.0 (omega arith) _ _ _ g.get_u32-times.ensures g.get_u32.ensures g.get_u32-size.ensures
    i.if-get_u32-signals.false (omega arith) _ c.times_fit.ensures (c.if-not-times_fit.false) c.if-s-at-2.true

pub returns : goal.returns
returns c =
    let i = c in
    let g = i in
    front-yes _ _ _ _ g.requires.0 (omega arith) _ _ _ g.get_u32-times.ensures g.get_u32.ensures g.get_u32-size.ensures
    i.if-get_u32-signals.false (omega arith) _ c.times_fit.ensures (c.if-not-times_fit.false) c.if-s-at-2.false

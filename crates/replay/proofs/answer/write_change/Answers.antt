-- Writing takes what decoding answered, in a room that was measured.
-- Assumes nothing.
use Rattle.std.proofs.Common.{rules, length}
use Rattle.replay.proofs.RoomLaws.{room}
use Rattle.replay.proofs.answer.write_change.Goals as goal

pub put_change-end-requires-clause-room : goal.put_change-end-requires-clause-room
put_change-end-requires-clause-room g c =
    room c.args.kind c.args.d (g.V.GivenValue.given c.args.value) c.in_ok-decoded.decoded.change c.width.result c.change_len.result (length c.args.out.now)
    (search rules) (search rules) c.width.ensures c.change_len.ensures (search rules)

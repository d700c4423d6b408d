use Rattle.ascii.proofs.PutLaws.{puts-copied}
use Rattle.ascii.proofs.write.put_text.Goals as goal

pub returns : goal.returns
returns c = puts-copied c.args.text.now c.copy_from_slice.new.self c.args.at c.args.out.now c.requires c.copy_from_slice.ensures.after

use Rattle.rds.proofs.Groups.{group_sent}
use Rattle.rds.proofs.former.send_blocks.Goals as goal

pub returns : goal.returns
returns c =
    let a = c.args in
    group_sent a.carried a.words a.output.now c.requires
    c.third_offset.ensures
    c.send-one.ensures
    c.send-two.ensures
    c.send-three.ensures
    c.send.ensures

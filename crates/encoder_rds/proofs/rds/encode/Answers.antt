use Rattle.std.proofs.Common.{◌≡◌, true, List, length, ap, rules}
use lib.Ieee.{Float}
use Rattle.answers.specs.Answer.{Said, accepts, entries}
use Rattle.answers.proofs.Causes.{refused_by, accepted_by}
use Rattle.encoder.specs.Multiplex.{encode_says}
use Rattle.encoder.proofs.Encoders.{turned_back, carried_out}
use Rattle.encoder_rds.specs.MultiplexRds.{encode_rds_says}
use Rattle.encoder_rds.proofs.Blocks.{encode_rds_lengths, without_rds, encode_ran}
use Rattle.encoder_rds.proofs.Passes.{rds_added}
use Rattle.encoder_rds.proofs.rds.encode.Goals as goal

-- an accepted block has the lengths of the block without RDS
both_accepted : (table left right rds output : List Float) {s : Said}
    → s ≡ encode_rds_says (length table) (length left) (length right) (length rds) (length output) → accepts s ≡ true
    → (length table ≡ entries) × (length rds ≡ length left) × (length output ≡ length left)
    × (accepts (encode_says (length table) (length left) (length right) (length output)) ≡ true)
both_accepted table left right rds output e h =
    let p = rw e at h in
    let l = encode_rds_lengths (length table) (length left) _ _ _ p in
    (l.0, l.2, l.3, without_rds (length table) (length left) _ _ _ p)

pub returns-then-is_err : goal.returns-then-is_err
returns-then-is_err c =
    let answer = c.encode_lengths-answer in
    turned_back answer.ensures _ _ (refused_by answer.result c.is_err.ensures.value c.if-is_err.true)

pub full_table-requires : goal.full_table-requires
full_table-requires c =
    let a = c.args in
    let answer = c.encode_lengths-answer in
    (both_accepted a.table.now a.left.now a.right.now a.rds.now a.output.now answer.ensures (accepted_by answer.result c.is_err.ensures.value c.if-is_err.false)).0

pub add_rds-requires : goal.add_rds-requires
add_rds-requires c =
    let a = c.args in
    let answer = c.encode_lengths-answer in
    let l = both_accepted a.table.now a.left.now a.right.now a.rds.now a.output.now answer.ensures (accepted_by answer.result c.is_err.ensures.value c.if-is_err.false) in
    search rules

pub returns : goal.returns
returns c =
    let a = c.args in
    let answer = c.encode_lengths-answer in
    let yes = accepted_by answer.result c.is_err.ensures.value c.if-is_err.false in
    let l = both_accepted a.table.now a.left.now a.right.now a.rds.now a.output.now answer.ensures yes in
    let x = encode_ran a.e.enc a.table.now a.left.now a.right.now a.output.now l.3 c.encode-reply.ensures in
    carried_out answer.ensures _ _ yes
    (rds_added a.e.enc a.table.now a.left.now a.right.now c.full_table.ensures a.e.rds a.rds.now l.1 x.0 c.add_rds.ensures)
    (ap (λ y. record { enc = y; rds = a.e.rds }) x.1)

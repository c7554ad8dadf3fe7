use Rattle.answers.proofs.Tests.{failed_plain, passed_plain}
use Rattle.encoder_record.proofs.encode.StereoEncode.set_pilot.Goals as goal

pub returns-then-not-good_level : goal.returns-then-not-good_level
returns-then-not-good_level c = rw (failed_plain c.good_level.ensures c.if-not-good_level.true)

pub returns : goal.returns
returns c = rw (passed_plain c.good_level.ensures c.if-not-good_level.false)

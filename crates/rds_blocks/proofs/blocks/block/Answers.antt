use Rattle.std.proofs.Common.{rules}
use Rattle.rds_blocks.proofs.Checks.{block_is, block_fits}
use Rattle.rds_blocks.proofs.blocks.block.Goals as goal

pub returns : goal.returns
returns c = block_is c.args.word c.args.offset c.remainder.ensures c.offset_word.ensures

pub overflow_add-result : goal.overflow_add-result
overflow_add-result c = record { fits = block_fits c.args.word c.args.offset c.remainder.ensures c.offset_word.ensures (search rules) }

-- The calls of decoders and matrices, and what turns a record from C and back, ask nothing of their caller.
-- `F.Asked` is what a caller of F has to show, by F's `requires`. Assumes nothing.
use mathlib.Core.Path.{◌≡◌, refl}
use Rattle.c_decoder_q15.proofs.in_q15.StereoPllQ15FromDecoderQ15.from.Reads as q15-taken
use Rattle.c_decoder_q15.proofs.in_q15.DecoderQ15FromStereoPllQ15.from.Reads as q15-given
use Rattle.c_decoder_q15.proofs.in_q15.pescrondilu_q15_new.Reads as q15-new
use Rattle.c_decoder_q15.proofs.in_q15.pescrondilu_q15_enable.Reads as q15-enable
use Rattle.c_decoder_q15.proofs.in_q15.pescrondilu_q15_disable.Reads as q15-disable
use Rattle.c_decoder_q15.proofs.in_q15.pescrondilu_q15_reset.Reads as q15-reset
use Rattle.c_decoder_q15.proofs.in_q15.pescrondilu_q15_block.Reads as q15-block
use Rattle.c_decoder_q15.proofs.in_q15.pescrondilu_q15_plain_block.Reads as q15-plain-block
use Rattle.c_decoder_q15.proofs.in_q15.pescrondilu_q15_read.Reads as q15-read

pub nothing_asked :
    (q15-taken.Asked ≡ λ κs a. Unit {0})
    × (q15-given.Asked ≡ λ κs a. Unit {0})
    × (q15-new.Asked ≡ λ κs a. Unit {0})
    × (q15-enable.Asked ≡ λ κs a. Unit {0})
    × (q15-disable.Asked ≡ λ κs a. Unit {0})
    × (q15-reset.Asked ≡ λ κs a. Unit {0})
    × (q15-block.Asked ≡ λ κs a. Unit {0})
    × (q15-plain-block.Asked ≡ λ κs a. Unit {0})
    × (q15-read.Asked ≡ λ κs a. Unit {0})
nothing_asked = (refl, refl, refl, refl, refl, refl, refl, refl, refl)

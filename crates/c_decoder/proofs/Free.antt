-- The calls of decoders and matrices, and what turns a record from C and back, ask nothing of their caller.
-- `F.Asked` is what a caller of F has to show, by F's `requires`. Assumes nothing.
use mathlib.Core.Path.{◌≡◌, refl}
use Rattle.c_decoder.proofs.in_f32.StereoPllF32FromDecoderF32.from.Reads as f32-taken
use Rattle.c_decoder.proofs.in_f32.DecoderF32FromStereoPllF32.from.Reads as f32-given
use Rattle.c_decoder.proofs.in_f32.pescrondilu_f32_new.Reads as f32-new
use Rattle.c_decoder.proofs.in_f32.pescrondilu_f32_enable.Reads as f32-enable
use Rattle.c_decoder.proofs.in_f32.pescrondilu_f32_disable.Reads as f32-disable
use Rattle.c_decoder.proofs.in_f32.pescrondilu_f32_reset.Reads as f32-reset
use Rattle.c_decoder.proofs.in_f32.pescrondilu_f32_block.Reads as f32-block
use Rattle.c_decoder.proofs.in_f32.pescrondilu_f32_plain_block.Reads as f32-plain-block
use Rattle.c_decoder.proofs.in_f32.pescrondilu_f32_read.Reads as f32-read
use Rattle.c_decoder.proofs.in_f32.pescrondilu_f32_scan.Reads as f32-scan

pub nothing_asked :
    (f32-taken.Asked ≡ λ κs a. Unit {0})
    × (f32-given.Asked ≡ λ κs a. Unit {0})
    × (f32-new.Asked ≡ λ κs a. Unit {0})
    × (f32-enable.Asked ≡ λ κs a. Unit {0})
    × (f32-disable.Asked ≡ λ κs a. Unit {0})
    × (f32-reset.Asked ≡ λ κs a. Unit {0})
    × (f32-block.Asked ≡ λ κs a. Unit {0})
    × (f32-plain-block.Asked ≡ λ κs a. Unit {0})
    × (f32-read.Asked ≡ λ κs a. Unit {0})
    × (f32-scan.Asked ≡ λ κs a. Unit {0})
nothing_asked = (refl, refl, refl, refl, refl, refl, refl, refl, refl, refl)

-- What the logic reads past the end of an array of Q15 decoders. Assumes nothing.
use mathlib.Core.Bool.{false}
use lib.IntN.{pos}
use Rattle.decoder_record_q15.specs.declared.pll_q15.StereoPllQ15.{StereoPllQ15}

abbrev pub absent : StereoPllQ15
absent = record { kp = pos 0; ki = pos 0; imax = pos 0; beta = pos 0; on = pos 0; off = pos 0; step0 = 0; phase = 0; integ = pos 0; level = pos 0; stereo = false; enabled = false }

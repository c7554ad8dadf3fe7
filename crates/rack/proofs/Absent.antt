-- What the logic reads past the end of an array of f32 decoders. Assumes nothing.
use mathlib.Core.Bool.{false}
use lib.Ieee.{nan}
use Rattle.decoder_record.specs.declared.pll_f32.StereoPllF32.{StereoPllF32}

abbrev pub absent : StereoPllF32
absent = record { kp = nan; ki = nan; imax = nan; beta = nan; on = nan; off = nan; step0 = 0; phase = 0; integ = nan; level = nan; stereo = false; enabled = false }

-- What the oscillator's calls give in C. Definitions only.
use Rattle.oscillator.specs.declared.nco.Nco.{Nco}

-- the record of zeros, which stands for what was not made
abbrev pub no_nco : Nco
no_nco = record { phase = 0; inc = 0 }

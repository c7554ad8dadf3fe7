-- What the calls of the encoder with RDS give in C. Definitions only.
use Rattle.encoder_record_rds.specs.declared.rds.StereoEncodeRds.{StereoEncodeRds}
use Rattle.c_encoder.specs.Coded.{zero, no_encode}

-- the record of zeros, which stands for what was not made
abbrev pub no_encode_rds : StereoEncodeRds
no_encode_rds = record { enc = no_encode; rds = zero }

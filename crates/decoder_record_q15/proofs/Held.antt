-- What is known of the numbers of a Q15 record that the machine holds: each fits an i64. Assumes nothing.
use mir.Syntax.{w64}
use mir.Val.{SFits}
use denote.Laws.{valss}
use denote.Struct.Struct.{AreAll}
use denote.Struct.Declared.{fields}
use denote.Struct.Laws.{spells}
use Rattle.decoder_record_q15.specs.declared.pll_q15.StereoPllQ15.{StereoPllQ15}
use Rattle.decoder_record_q15.specs.contracts.pll_q15.StereoPllQ15.{the_type}
use Rattle.decoder_record_q15.proofs.pll_q15.StereoPllQ15.TheLaws.{the_laws}

-- the type of `struct_told`
abbrev pub Told : StereoPllQ15 → Type 0
Told d = AreAll (fields the_type) (the_type.to d) (valss (fields the_type) (spells the_type.parts the_laws) (the_type.to d))

pub record Held (d : StereoPllQ15) : Type 0 where
  pub kp : SFits w64 d.kp
  pub ki : SFits w64 d.ki
  pub imax : SFits w64 d.imax
  pub beta : SFits w64 d.beta
  pub on : SFits w64 d.on
  pub off : SFits w64 d.off
  pub integ : SFits w64 d.integ
  pub level : SFits w64 d.level

pub held : (d : StereoPllQ15) → Told d → Held d
held d t = record {
  kp = record { sfits = t.0.1 };
  ki = record { sfits = t.1.0.1 };
  imax = record { sfits = t.1.1.0.1 };
  beta = record { sfits = t.1.1.1.0.1 };
  on = record { sfits = t.1.1.1.1.0.1 };
  off = record { sfits = t.1.1.1.1.1.0.1 };
  integ = record { sfits = t.1.1.1.1.1.1.1.1.0.1 };
  level = record { sfits = t.1.1.1.1.1.1.1.1.1.0.1 };
}

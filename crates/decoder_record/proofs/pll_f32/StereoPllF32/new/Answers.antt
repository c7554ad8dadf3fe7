use mathlib.Core.Path.{◌≡◌, ap, ◌∙◌}
use lib.Ieee.{Float}
use Rattle.answers.specs.Answer.{first_cause, made, map_built}
use Rattle.answers.proofs.Causes.{map_built_lem}
use Rattle.decoder_gains.specs.Gains.{gains_of, causes, common_of, says_common}
use Rattle.decoder_gains.specs.declared.LoopGains.{LoopGains}
use Rattle.answers.specs.declared.answer.Refusal.{Refusal}
use Rattle.decoder_record.specs.Records.{says_f32}
use Rattle.std.proofs.Common.{Result, Ok, Err, rules}
use Rattle.decoder_record.specs.Fresh.{fresh_f32, new_f32_of}
use Rattle.decoder_record.proofs.pll_f32.StereoPllF32.new.Goals as goal

-- the decoder from the answer to its gains
from : (pilot natural level beta rate : Float) (r : Result LoopGains Refusal) → says_common r ≡ common_of pilot natural level beta rate → map_built fresh_f32 (says_common r) ≡ new_f32_of pilot natural level beta rate
unfolding common_of new_f32_of
from pilot natural level beta rate r h =
    ap (map_built fresh_f32) h ∙ map_built_lem fresh_f32 (first_cause (causes pilot natural level beta rate)) (gains_of pilot natural level beta rate)

pub returns-in_err-gains : goal.returns-in_err-gains
returns-in_err-gains c =
    let e : c.from_residual.result ≡ Err c.in_err-gains.field-0.0 = search rules in
    ap says_f32 e ∙ from _ _ _ _ _ (Err c.in_err-gains.field-0.0) c.in_err-gains.ensures

pub returns : goal.returns
returns c = ap made c.fresh.ensures ∙ from _ _ _ _ _ (Ok c.in_ok-gains.gains) c.in_ok-gains.ensures

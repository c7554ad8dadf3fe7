use mir.Syntax.{w64}
use mir.Facts.{sfits_widen, to_z-of_z}
use Rattle.rounding.proofs.Lin.{widened}
use Rattle.decoder_q15.proofs.Early.{early_fits, whole_fits, sum_fits, sum_is}
use Rattle.decoder_q15.proofs.fast.gathered.Goals as goal

pub overflow_cast-result : goal.overflow_cast-result
overflow_cast-result c = rw (to_z-of_z c.ranges.p) (sfits_widen tt c.ranges.p)

pub overflow_mul-result : goal.overflow_mul-result
overflow_mul-result c = let a = c.args in let f = c.ranges in early_fits a.ki a.p a.c a.integ (to_z-of_z f.ki) (widened w64 tt f.p) (widened w64 tt f.c) (to_z-of_z f.integ) f.p c.requires.cosine c.requires.fits

pub overflow_cast-result-2 : goal.overflow_cast-result-2
overflow_cast-result-2 c = rw (to_z-of_z c.ranges.c) (sfits_widen tt c.ranges.c)

pub overflow_mul-result-2 : goal.overflow_mul-result-2
overflow_mul-result-2 c = let a = c.args in let f = c.ranges in whole_fits a.ki a.p a.c a.integ (to_z-of_z f.ki) (widened w64 tt f.p) (widened w64 tt f.c) (to_z-of_z f.integ) f.p c.requires.cosine c.requires.fits

pub overflow_add-result : goal.overflow_add-result
overflow_add-result c = let a = c.args in let f = c.ranges in sum_fits a.ki a.p a.c a.integ (to_z-of_z f.ki) (widened w64 tt f.p) (widened w64 tt f.c) (to_z-of_z f.integ) f.p c.requires.cosine c.requires.fits

pub returns : goal.returns
returns c = let a = c.args in let f = c.ranges in sum_is a.ki a.p a.c a.integ (to_z-of_z f.ki) (widened w64 tt f.p) (widened w64 tt f.c) (to_z-of_z f.integ) f.p c.requires.cosine c.requires.fits c.requires.gain

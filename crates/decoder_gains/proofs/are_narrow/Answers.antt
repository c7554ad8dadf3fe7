use Rattle.decoder_gains.proofs.are_narrow.Goals as goal

pub returns : goal.returns
returns c = rw (c.is_narrow-6.ensures, c.is_narrow-5.ensures, c.is_narrow-4.ensures, c.is_narrow-3.ensures, c.is_narrow-2.ensures, c.is_narrow.ensures)

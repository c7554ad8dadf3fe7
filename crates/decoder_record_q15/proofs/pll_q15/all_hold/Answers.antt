use lib.Ieee.{of_bits}
use Rattle.decoder_record_q15.proofs.pll_q15.all_hold.Goals as goal

pub returns : goal.returns
unfolding of_bits
returns c =
    let h5 = c in
    let h4 = h5.before in
    let h3 = h4.before in
    let h2 = h3.before in
    rw (h2.holds.ensures, h2.holds-2.ensures, h3.holds-3.ensures, h4.holds-4.ensures, h5.holds-5.ensures, c.holds-6.ensures)

-- What is written, one piece after the other.
use Rattle.std.proofs.Common.{◌≡◌, true, cond, [], ◌++◌, sym, ap, ◌∙◌, subst}
use Rattle.std.specs.Prelude.{codes}
use Rattle.std.specs.Io.KnownBytes.{Appends}
use Rattle.std.proofs.KnownBytes.{Appends-trans}
use Rattle.test_tally.specs.Tallies.{shown_at}
use Rattle.test_tally.proofs.tally.show_malformed.Goals as goal

pub returns-in_ok-write_all-3-clause-ok : goal.returns-in_ok-write_all-3-clause-ok
returns-in_ok-write_all-3-clause-ok g c =
    let shown : true ≡ shown_at c.args.t = sym c.if-shows.true ∙ c.shows.ensures in
    let text = ap (λ s. cond s (codes "malformed: " ++ c.args.line.now ++ codes "\n") []) shown in
    subst (Appends _ _) text
    (Appends-trans _ _ _ _ _ c.in_ok-write_all.ensures.bytes
    (Appends-trans _ _ _ _ _ c.in_ok-write_all-2.ensures.bytes c.in_ok-write_all-3.ensures.bytes))

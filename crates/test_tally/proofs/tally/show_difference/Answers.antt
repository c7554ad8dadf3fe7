-- What is written, one piece after the other.
use Rattle.std.proofs.Common.{◌≡◌, ℕ, ◌-◌, ◌^◌, true, false, cond, List, [], ◌++◌, Some, Option, IfSome, length, replicate, sym, ap, ap₂, arith, ◌∙◌, subst, append-nil}
use Rattle.std.specs.Prelude.{codes}
use Rattle.std.specs.Option.{option_map}
use Rattle.std.specs.Fmt.{◌++?◌, char_count, digits, format_spec, padded_integral, radix_prefix, shown_prefix}
use Rattle.std.specs.Io.KnownBytes.{Appends}
use Rattle.std.proofs.KnownBytes.{Appends-trans}
use Rattle.test_tally.specs.Tallies.{shown_at, hex_text, got_text}
use Rattle.test_tally.proofs.tally.show_difference.Goals as goal

-- `{:016x}` writes 16 digits
in_16 : (prefix : List ℕ) (n : ℕ) → let options = format_spec 32 0 4 16 (2 ^ 64 - 1) in padded_integral options false (shown_prefix options prefix) (digits 16 false n) ≡ hex_text n
unfolding padded_integral char_count
in_16 prefix n =
    let d = digits 16 false n in
    let zeros : 16 - length d - 0 - 0 ≡ 16 - length d = omega arith in
    ap₂ (λ k l. replicate k 48 ++ l) zeros (append-nil d)

appends_got : (a b o : Option (List ℕ)) (n : ℕ) → o ≡ Some (hex_text n) → IfSome (Some (codes "    got: ") ++? (o ++? Some (codes "\n"))) (Appends a b) → Appends a b (got_text n)
appends_got a b o n e w = subst (λ o. IfSome (Some (codes "    got: ") ++? (o ++? Some (codes "\n"))) (Appends a b)) e w

pub returns-in_ok-writeln-clause-ok : goal.returns-in_ok-writeln-clause-ok
returns-in_ok-writeln-clause-ok g c =
    let shown : true ≡ shown_at c.args.t = sym c.if-shows.true ∙ c.shows.ensures in
    let text = ap (λ s. cond s (codes "differs: " ++ c.args.line.now ++ got_text c.args.got) []) shown in
    let prefix = radix_prefix c.in_radix.result.base in
    let styled =
    ap (λ o. option_map (padded_integral c.laid_out.result false (shown_prefix c.laid_out.result prefix)) o) c.in_radix.ensures
    ∙ ap (λ s. Some (padded_integral s false (shown_prefix s prefix) (digits 16 false c.args.got))) c.laid_out.ensures
    ∙ ap Some (in_16 prefix c.args.got) in
    subst (Appends _ _) text
    (Appends-trans _ _ _ _ _ c.in_ok-write_all.ensures.bytes
    (Appends-trans _ _ _ _ _ c.in_ok-write_all-2.ensures.bytes (appends_got _ _ _ c.args.got styled c.in_ok-writeln.ensures.bytes)))

use Rattle.std.proofs.Common.{◌≡◌, ℕ, ◌+◌, ◌*◌, ◌/◌, ◌%◌, ◌^◌, ◌<◌, ◌≤◌, sym, ap, ◌∙◌, add-mul, mul-le-mul, div-add-mod', mul_right_comm, arith}
use Rattle.oscillator.specs.Oscillator.{phase_set}
use Rattle.oscillator.proofs.nco.Nco.advance.Goals as goal

abbrev m : ℕ
m = 2 ^ 32

small : (n inc : ℕ) → inc < m → n % m * inc < m * m
small n inc h =
    let l : n % m * inc ≤ 4294967295 * 4294967295 = mul-le-mul {n₂ = 4294967295} {m₂ = 4294967295} (omega arith) (omega arith) in
    omega arith

-- whole turns add nothing, so the number of steps counts modulo 2^32
module _ (p n inc : ℕ) where
  split : n * inc ≡ n / m * inc * m + n % m * inc
  split = ap (λ (z : ℕ). z * inc) (sym (div-add-mod' n m)) ∙ add-mul (n / m * m) (n % m) inc ∙ ap (λ (z : ℕ). z + n % m * inc) (mul_right_comm (n / m) m inc)

  on : (p + n % m * inc % m) % m ≡ (p + n * inc) % m
  on = go (n * inc) (n / m * inc) (n % m * inc) split
    where
      go : (a b c : ℕ) → a ≡ b * m + c → (p + c % m) % m ≡ (p + a) % m
      go a b c e = omega arith

pub overflow_mul-added : goal.overflow_mul-added
overflow_mul-added c = record { fits = small c.args.n c.args.self.inc (omega arith) }

pub returns : goal.returns
returns c =
    let a = c.args in
    ap (λ (p : ℕ). phase_set a.self p) (c.wrapping_add_u32.ensures.value ∙ on a.self.phase a.n a.self.inc)

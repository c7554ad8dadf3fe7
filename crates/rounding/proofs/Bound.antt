-- Bounds by monotone rounding, in halves: `Within b x` says that x is finite and lies from - b true / 2 to b
-- false / 2. Over the format. Assumes nothing.
use mathlib.Core.Path.{◌≡◌, sym, ap, subst}
use Prim.Native.Nat.{ℕ, suc, ◌+◌, ◌-◌, ◌*◌, ◌/◌, ◌^◌, ◌≤◌, ◌<◌}
use native.Mathlib.Nat.{le_trans, le_of_eq, le_of_lt, mul-le-mul_right, mul-le-mul, mul-pos, le_of_mul-le-mul_right, lt_of_mul-lt-mul_right, lt_of_not-le, mul-sub, div-add-mod', mod-lt}
use native.Mathlib.Omega.{arith}
use mathlib.Core.Bool.{Bool, true, false, not, ◌&&◌, ◌||◌, cond}
use lib.Dec.{T, ltb, eqb, ltb→lt, eqb→eq, lit<, lit≤}
use lib.Pow.{pow_pos}
use lib.Ieee.{Float, nan, inf, fin, Format, binary32, binary64, prec, low, up, down, round, sum, add, sub, mul, neg, le, unlike}
use lib.Ieee.Fits.{down_pos, and_l, and_r}
use lib.Ieee.Exact.{HasValue}
use lib.Ieee.Order.{round_mono}
use lib.Ieee.Positive.{through}
use lib.Ieee.Scale.{finite}
use Rattle.rounding.proofs.Round.{exact_part}
use Rattle.rounding.proofs.Pattern.{round_neg}
use Rattle.rounding.proofs.Value.{part, sum_ways, add_at}

abbrev pub Within : (Bool → ℕ) → Float → Type 0
Within b nan = ⊥
Within b (inf s) = ⊥
Within b (fin s m e) = m * up e * 2 ≤ b s * down e

-- at most n / 2 in size
abbrev pub Upto : ℕ → Float → Type 0
Upto n = Within (λ s. n)

pub within_finite : (b : Bool → ℕ) (x : Float) → Within b x → T (finite x)
within_finite b nan h = h
within_finite b (inf s) h = h
within_finite b (fin s m e) h = tt

pub within_neg : (b : Bool → ℕ) (x : Float) → Within (λ s. b (not s)) x → Within b (neg x)
unfolding neg
within_neg b nan h = h
within_neg b (inf s) h = h
within_neg b (fin s m e) h = h

-- ---- by any fraction that the value equals
within_in : (b : Bool → ℕ) (x : Float) (s : Bool) (a c : ℕ) → 0 < c → HasValue x s a c → a * 2 ≤ b s * c → Within b x
within_in b nan s a c C v h = v
within_in b (inf t) s a c C v h = v
within_in b (fin t m e) s a c C v h = rw v.0 (through (m * up e) a (b s) (down e) c 2 C (le_of_eq v.1) h)

within_out : (b : Bool → ℕ) (x : Float) (s : Bool) (a c : ℕ) → HasValue x s a c → Within b x → a * 2 ≤ b s * c
within_out b nan s a c v h = absurd v
within_out b (inf t) s a c v h = absurd v
within_out b (fin t m e) s a c v h =
    through a (m * up e) (b s) c (down e) 2 (down_pos e) (le_of_eq (sym v.1)) (rw (← v.0) h)

-- ---- what lies between two that are within
below_or_at : (a b : ℕ) (t : Bool) → (T t → a ≡ b) → T (ltb a b || (t && true)) → a ≤ b
below_or_at a b t e h = go (ltb a b) t (ltb→lt a b) e h
  where
    go : (x y : Bool) → (T x → a < b) → (T y → a ≡ b) → T (x || (y && true)) → a ≤ b
    go true y f g t = le_of_lt (f tt)
    go false true f g t = le_of_eq (g tt)
    go false false f g t = absurd t

pub within_between : (b : Bool → ℕ) (lo x hi : Float) → Within b lo → Within b hi → T (le lo x) → T (le x hi) → Within b x
unfolding le
within_between b nan x hi u v h k = absurd u
within_between b (inf s) x hi u v h k = absurd u
within_between b (fin s m e) x nan u v h k = absurd v
within_between b (fin s m e) x (inf t) u v h k = absurd v
within_between b (fin s m e) nan (fin t n d) u v h k = h
within_between b (fin s m e) (inf true) (fin t n d) u v h k = h
within_between b (fin s m e) (inf false) (fin t n d) u v h k = k
within_between b (fin s m e) (fin false l g) (fin false n d) u v h k =
    let X = l * up g * down d in
    let Y = n * up d * down g in
    through (l * up g) (n * up d) (b false) (down g) (down d) 2 (down_pos d) (below_or_at X Y (eqb X Y) (eqb→eq X Y) k) v
within_between b (fin s m e) (fin false l g) (fin true n d) u v h k =
    let X = l * up g * down d in
    through (l * up g) 0 (b false) (down g) (down d) 2 (down_pos d)
    (omega (arith, eqb→eq X 0 (and_r (eqb X (n * up d * down g)) (eqb X 0) k))) (omega arith)
within_between b (fin true m e) (fin true l g) (fin t n d) u v h k =
    let X = l * up g * down e in
    let Y = m * up e * down g in
    through (l * up g) (m * up e) (b true) (down g) (down e) 2 (down_pos e) (below_or_at X Y (eqb Y X) (λ i. sym (eqb→eq Y X i)) h) u
within_between b (fin false m e) (fin true l g) (fin t n d) u v h k =
    let X = l * up g * down e in
    let Y = m * up e * down g in
    through (l * up g) 0 (b true) (down g) (down e) 2 (down_pos e)
    (omega (arith, eqb→eq Y X (and_l (eqb Y X) (eqb Y 0) h), eqb→eq Y 0 (and_r (eqb Y X) (eqb Y 0) h))) (omega arith)

-- ---- a rounded fraction
half_exact : (f : Format) (n : ℕ) → n < 2 ^ prec f → HasValue (round f false n 2) false n 2
half_exact f n l = exact_part f false n 1 (some f) l
  where
    some : (f : Format) → 1 ≤ low f
    some binary32 = lit≤ tt
    some binary64 = lit≤ tt

half_within : (f : Format) (b : Bool → ℕ) (n : ℕ) → n < 2 ^ prec f → n ≤ b false → Within b (round f false n 2)
half_within f b n l h = within_in b (round f false n 2) false n 2 (lit< tt) (half_exact f n l) (mul-le-mul_right 2 h)

under : (f : Format) (b : Bool → ℕ) (num den : ℕ) (hi : Float) → 0 < den → Within b hi → T (le (round f false num den) hi)
    → Within b (round f false num den)
under f b num den hi D w h =
    within_between b (round f false 0 2) (round f false num den) hi
    (half_within f b 0 (pow_pos (prec f)) (omega arith)) w (round_mono f 0 2 num den (lit< tt) D (omega arith)) h

plain_within : (f : Format) (b : Bool → ℕ) (num den : ℕ) → 0 < den → num * 2 ≤ b false * den → b false < 2 ^ prec f
    → Within b (round f false num den)
plain_within f b num den D h l =
    under f b num den (round f false (b false) 2) D (half_within f b (b false) l (omega arith)) (round_mono f num den (b false) 2 D (lit< tt) h)

pub round_within : (f : Format) (b : Bool → ℕ) (s : Bool) (num den : ℕ) → 0 < den → num * 2 ≤ b s * den → b s < 2 ^ prec f
    → Within b (round f s num den)
round_within f b false num den D h l = plain_within f b num den D h l
round_within f b true num den D h l =
    subst (Within b) (round_neg f num den) (within_neg b (round f false num den) (plain_within f (λ s. b (not s)) num den D h l))

-- and back: a fraction of (n + 1) / 2 or more does not round to n / 2 or less
round_back : (f : Format) (n num den : ℕ) (hi : Float) → 0 < den → suc n < 2 ^ prec f → Upto n hi → T (le (round f false num den) hi)
    → num * 2 < suc n * den
round_back f n num den hi D l w h =
    let k = under f (λ s. n) num den hi D w h in
    lt_of_not-le (λ (g : suc n * den ≤ num * 2). no (under f (λ s. n) (suc n) 2 (round f false num den) (lit< tt) k (round_mono f (suc n) 2 num den (lit< tt) D g)))
  where
    no : Upto n (round f false (suc n) 2) → ⊥
    no w = let k = within_out (λ s. n) (round f false (suc n) 2) false (suc n) 2 (half_exact f (suc n) l) w in omega arith

-- ---- the operations
-- the same with ends of either sign: from (i true - n true) / 2 to (n false - i false) / 2
abbrev Lies : (Bool → ℕ) → (Bool → ℕ) → Float → Type 0
Lies i n nan = ⊥
Lies i n (inf s) = ⊥
Lies i n (fin s m e) = (q : Bool) → part q s (m * up e) * 2 + i q * down e ≤ n q * down e + part (not q) s (m * up e) * 2

lies : (b : Bool → ℕ) (x : Float) → Within b x → Lies (λ q. 0) b x
lies b nan h = h
lies b (inf s) h = h
lies b (fin s m e) h = go s h
  where
    go : (s : Bool) → m * up e * 2 ≤ b s * down e → Lies (λ q. 0) b (fin s m e)
    go true h true = omega arith
    go true h false = omega arith
    go false h true = omega arith
    go false h false = omega arith

lies_neg : (i n : Bool → ℕ) (x : Float) → Lies i n x → Lies (λ q. i (not q)) (λ q. n (not q)) (neg x)
unfolding neg
lies_neg i n nan h = h
lies_neg i n (inf s) h = h
lies_neg i n (fin s m e) h = go s h
  where
    go : (s : Bool) → Lies i n (fin s m e) → Lies (λ q. i (not q)) (λ q. n (not q)) (fin (not s) m e)
    go true h true = h false
    go true h false = h true
    go false h true = h false
    go false h false = h true

-- the ends of a sum are the sums of the ends
add_lies : (f : Format) (i n j p b : Bool → ℕ) (x y : Float) → Lies i n x → Lies j p y
    → ((q : Bool) → (n q + p q ≤ b q + (i q + j q)) × (b q < 2 ^ prec f)) → Within b (add f x y)
unfolding add
add_lies f i n j p b nan y h g l = absurd h
add_lies f i n j p b (inf s) y h g l = absurd h
add_lies f i n j p b (fin s m e) nan h g l = absurd g
add_lies f i n j p b (fin s m e) (inf t) h g l = absurd g
add_lies f i n j p b (fin s m e) (fin t k d) h g l =
    sum_ways (Within b) f s (m * up e * down d) t (k * up d * down e) (down e * down d)
    (λ q r z. round_within f b q r (down e * down d) (mul-pos (down_pos e) (down_pos d))
    (omega (arith, mul-le-mul_right (down d) (h q), mul-le-mul_right (down e) (g q), mul-le-mul_right (down e * down d) (l q).0)) (l q).1)

pub add_within : (f : Format) (b c d : Bool → ℕ) (x y : Float) → Within b x → Within c y
    → ((q : Bool) → (b q + c q ≤ d q) × (d q < 2 ^ prec f)) → Within d (add f x y)
add_within f b c d x y h g l = add_lies f (λ q. 0) b (λ q. 0) c d x y (lies b x h) (lies c y g) (λ q. (le_trans (l q).0 (omega arith), (l q).1))

-- the size of a product is the product of the sizes
pub mul_within : (f : Format) (b c d : Bool → ℕ) (x y : Float) → Within b x → Within c y
    → ((s t : Bool) → (b s * c t ≤ d (unlike s t) * 2) × (d (unlike s t) < 2 ^ prec f)) → Within d (mul f x y)
unfolding mul
mul_within f b c d nan y h g l = absurd h
mul_within f b c d (inf s) y h g l = absurd h
mul_within f b c d (fin s m e) nan h g l = absurd g
mul_within f b c d (fin s m e) (inf t) h g l = absurd g
mul_within f b c d (fin s m e) (fin t k r) h g l =
    round_within f d (unlike s t) (m * up e * (k * up r)) (down e * down r) (mul-pos (down_pos e) (down_pos r))
    (omega (arith, mul-le-mul h g, mul-le-mul_right (down e * down r) (l s t).0)) (l s t).1

-- ---- a + (b - a) * p of a and b from -1 to 1 and p from 0 to 1
-- a stands between two neighbours of the halves: a and -a are at most (3 - far) / 2
record Near (a : Float) : Type 0 where
  far : Bool → ℕ
  five : (q : Bool) → far q + far (not q) ≡ 5
  at : Lies far (λ q. 3) a

half_of : (u v c : ℕ) → 0 < c → u * 2 + 0 * c ≤ 2 * c + v * 2 → v * 2 + 0 * c ≤ 2 * c + u * 2
    → (j k : ℕ) × (j + k ≡ 5) × (v * 2 + j * c ≤ 3 * c + u * 2) × (u * 2 + k * c ≤ 3 * c + v * 2)
half_of u v c C h g =
    let z = 3 * c + v * 2 - u * 2 in
    let l : z / c ≤ 5 = le_of_mul-le-mul_right (omega (arith, div-add-mod' z c)) C in (
      5 - z / c,
      z / c,
      omega arith,
      omega (arith, div-add-mod' z c, mod-lt z C, mul-sub c 5 (z / c)),
      omega (arith, div-add-mod' z c),
    )

near : (a : Float) → Upto 2 a → Near a
near nan h = absurd h
near (inf s) h = absurd h
near (fin s m e) h =
    let l = lies (λ q. 2) (fin s m e) h in
    let r = half_of (part false s (m * up e)) (part true s (m * up e)) (down e) (down_pos e) (l false) (l true) in
    record {
      far = λ q. cond q r.0 r.1;
      five = λ q. elim q as (λ q. cond q r.0 r.1 + cond (not q) r.0 r.1 ≡ 5) [ true ↦ r.2 | false ↦ omega (arith, r.2) ];
      at = λ q. elim q as (λ q. part q s (m * up e) * 2 + cond q r.0 r.1 * down e ≤ 3 * down e + part (not q) s (m * up e) * 2) [ true ↦ r.3 | false ↦ r.4 ];
    }

-- so b - a and its part are at most far / 2, and far falls away in the sum
pub lookup_within : (f : Format) (a b p : Float) → Upto 2 a → Upto 2 b → Within (λ q. cond q 0 2) p
    → Upto 3 (add f a (mul f (sub f b a) p))
unfolding sub
lookup_within f a b p h g w =
    let n = near a h in
    let far = n.far in
    let gap = add_lies f (λ q. 0) (λ q. 2) (λ q. far (not q)) (λ q. 3) far b (neg a)
    (lies (λ q. 2) b g) (lies_neg far (λ q. 3) a n.at) (λ q. omega (arith, n.five q, room f)) in
    let some = mul_within f far (λ q. cond q 0 2) far (sub f b a) p gap w (times far n.five) in
    add_lies f far (λ q. 3) (λ q. 0) far (λ q. 3) a (mul f (sub f b a) p)
    n.at (lies far (mul f (sub f b a) p) some) (λ q. omega (arith, room f))
  where
    room : (f : Format) → 5 < 2 ^ prec f
    room binary32 = lit< tt
    room binary64 = lit< tt

    times : (g : Bool → ℕ) → ((q : Bool) → g q + g (not q) ≡ 5)
        → (s t : Bool) → (g s * cond t 0 2 ≤ g (unlike s t) * 2) × (g (unlike s t) < 2 ^ prec f)
    times g h true true = omega (arith, h false, room f)
    times g h true false = omega (arith, h true, room f)
    times g h false true = omega (arith, h true, room f)
    times g h false false = omega (arith, h false, room f)

-- ---- two values that are not below 0 and whose rounded sum is at most n / 2: what the one takes the other
-- lacks, but for a half
split : (n a c b d : ℕ) → 0 < c → (a * d + b * c) * 2 < suc n * (c * d)
    → (t u : ℕ) × (t + u ≡ suc n) × (a * 2 ≤ suc t * c) × (b * 2 ≤ u * d)
split n a c b d C s =
    let t = a * 2 / c in
    let k : t * c ≤ a * 2 = omega (arith, div-add-mod' (a * 2) c) in
    let l : t < suc n = lt_of_mul-lt-mul_right (c * d) (omega (arith, mul-le-mul_right d k)) in
    let e : t + (suc n - t) ≡ suc n = omega arith in (
      t,
      suc n - t,
      e,
      omega (arith, div-add-mod' (a * 2) c, mod-lt (a * 2) C),
      le_of_mul-le-mul_right (omega (arith, mul-le-mul_right d k, ap (λ (z : ℕ). z * (c * d)) e)) C,
    )

pub shares : (f : Format) (n : ℕ) (x y hi : Float) (a c b d : ℕ) → 0 < c → 0 < d → HasValue x false a c → HasValue y false b d
    → suc n < 2 ^ prec f → Upto n hi → T (le (add f x y) hi)
    → (t u : ℕ) × (t + u ≡ suc n) × Upto (suc t) x × Upto u y
unfolding sum
shares f n x y hi a c b d C D v w l u h =
    let k = subst (λ (z : Float). T (le z hi)) (add_at f x y false false a c b d C D v w) h in
    let r = split n a c b d C (round_back f n (a * d + b * c) (c * d) hi (mul-pos C D) l u k) in
    (r.0, r.1, r.2, within_in (λ q. suc r.0) x false a c C v r.3, within_in (λ q. r.1) y false b d D w r.4)

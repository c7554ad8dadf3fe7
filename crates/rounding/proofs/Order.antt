-- The order of floats that are no NaN, and where no NaN comes up. Assumes nothing.
use mathlib.Core.Path.{◌≡◌, subst}
use Prim.Native.Nat.{ℕ, ◌+◌, ◌-◌, ◌*◌, ◌≤◌}
use native.Mathlib.Omega.{arith}
use mathlib.Core.Bool.{Bool, true, false, not, ◌&&◌, ◌||◌, beq, cond}
use lib.Dec.{T, ltb, eqb, nltb→le, eqb_refl}
use lib.Ieee.{Float, nan, inf, fin, Format, up, down, round, add, mul, neg, lt, le, below, level, is_nan}
use lib.Ieee.Scale.{finite}
use Rattle.rounding.proofs.Pattern.{round_no_nan}

or_l : (a b : Bool) → T a → T (a || b)
or_l true b t = tt
or_l false b t = absurd t

or_r : (a b : Bool) → T b → T (a || b)
or_r true b t = tt
or_r false b t = t

and_i : (a b : Bool) → T a → T b → T (a && b)
and_i true b s t = t
and_i false b s t = s

-- Y ≤ X says Y < X or Y = X
split : (Y X : ℕ) (r : Bool) → T r → Y ≤ X → T (ltb Y X || (eqb Y X && r))
split Y X r t h = go (ltb Y X) (nltb→le Y X)
  where
    same : Y ≤ X → X ≤ Y → Y ≡ X
    same a b = omega arith

    go : (b : Bool) → (T (not b) → X ≤ Y) → T (b || (eqb Y X && r))
    go true k = tt
    go false k = and_i (eqb Y X) r (subst (λ (z : ℕ). T (eqb Y z)) (same h (k tt)) (eqb_refl Y)) t

zeros : (Y X : ℕ) → Y + X ≤ 0 → T (eqb Y X && eqb Y 0)
zeros Y X h = and_i (eqb Y X) (eqb Y 0) (subst (λ (z : ℕ). T (eqb Y z)) (a Y X h) (eqb_refl Y)) (subst (λ (z : ℕ). T (eqb Y z)) (b Y X h) (eqb_refl Y))
  where
    a : (Y X : ℕ) → Y + X ≤ 0 → Y ≡ X
    a Y X h = omega arith

    b : (Y X : ℕ) → Y + X ≤ 0 → Y ≡ 0
    b Y X h = omega arith

total : (s : Bool) (X : ℕ) (t : Bool) (Y : ℕ) → T (not (below s X t Y)) → T (below t Y s X || level t Y s X)
total false X false Y h = split Y X true tt (nltb→le X Y h)
total false X true Y h = go (ltb 0 (Y + X)) (nltb→le 0 (Y + X))
  where
    go : (b : Bool) → (T (not b) → Y + X ≤ 0) → T (b || (eqb Y X && eqb Y 0))
    go true k = tt
    go false k = zeros Y X (k tt)
total true X false Y h = zeros Y X (swap X Y (nltb→le 0 (X + Y) h))
  where
    swap : (X Y : ℕ) → X + Y ≤ 0 → Y + X ≤ 0
    swap X Y h = omega arith
total true X true Y h = go (ltb X Y) (nltb→le X Y) (nltb→le Y X h)
  where
    same : Y ≤ X → X ≤ Y → Y ≡ X
    same a b = omega arith

    go : (b : Bool) → (T (not b) → Y ≤ X) → X ≤ Y → T (b || (eqb Y X && true))
    go true k l = tt
    go false k l = and_i (eqb Y X) true (subst (λ (z : ℕ). T (eqb Y z)) (same (k tt) l) (eqb_refl Y)) tt

pub le_of_not_lt : (x y : Float) → T (not (is_nan x)) → T (not (is_nan y)) → T (not (lt x y)) → T (le y x)
unfolding le is_nan
le_of_not_lt nan y p q h = absurd p
le_of_not_lt (inf s) nan p q h = absurd q
le_of_not_lt (inf true) (inf true) p q h = tt
le_of_not_lt (inf true) (inf false) p q h = absurd h
le_of_not_lt (inf false) (inf true) p q h = tt
le_of_not_lt (inf false) (inf false) p q h = tt
le_of_not_lt (inf true) (fin t n d) p q h = absurd h
le_of_not_lt (inf false) (fin t n d) p q h = tt
le_of_not_lt (fin s m e) nan p q h = absurd q
le_of_not_lt (fin s m e) (inf true) p q h = tt
le_of_not_lt (fin s m e) (inf false) p q h = absurd h
le_of_not_lt (fin s m e) (fin t n d) p q h = total s (m * up e * down d) t (n * up d * down e) h

pub le_self : (x : Float) → T (not (is_nan x)) → T (le x x)
unfolding le is_nan
le_self nan p = p
le_self (inf true) p = tt
le_self (inf false) p = tt
le_self (fin s m e) p = or_r (below s (m * up e * down e) s (m * up e * down e)) (level s (m * up e * down e) s (m * up e * down e)) (and_i (eqb (m * up e * down e) (m * up e * down e)) (beq s s || eqb (m * up e * down e) 0) (eqb_refl (m * up e * down e)) (or_l (beq s s) (eqb (m * up e * down e) 0) (beq_self s)))
  where
    beq_self : (s : Bool) → T (beq s s)
    beq_self true = tt
    beq_self false = tt

pub neg_real : (x : Float) → T (not (is_nan x)) → T (not (is_nan (neg x)))
unfolding neg is_nan
neg_real nan p = p
neg_real (inf s) p = tt
neg_real (fin s m e) p = tt

-- ---- where no NaN comes up
pub add_real : (f : Format) (x y : Float) → T (finite x) → T (not (is_nan y)) → T (not (is_nan (add f x y)))
unfolding add is_nan
add_real f nan y p q = absurd p
add_real f (inf s) y p q = absurd p
add_real f (fin s m e) nan p q = absurd q
add_real f (fin s m e) (inf t) p q = tt
add_real f (fin s m e) (fin t n d) p q = go (beq s t) (ltb (m * up e * down d) (n * up d * down e))
  where
    go : (a b : Bool) → T (not (is_nan (cond a (round f s (m * up e * down d + n * up d * down e) (down e * down d)) (cond b (round f t (n * up d * down e - m * up e * down d) (down e * down d)) (round f (s && ltb (n * up d * down e) (m * up e * down d)) (m * up e * down d - n * up d * down e) (down e * down d))))))
    go true b = round_no_nan f s (m * up e * down d + n * up d * down e) (down e * down d)
    go false true = round_no_nan f t (n * up d * down e - m * up e * down d) (down e * down d)
    go false false = round_no_nan f (s && ltb (n * up d * down e) (m * up e * down d)) (m * up e * down d - n * up d * down e) (down e * down d)

pub mul_real : (f : Format) (x y : Float) → T (finite x) → T (finite y) → T (not (is_nan (mul f x y)))
unfolding mul is_nan
mul_real f nan y p q = absurd p
mul_real f (inf s) y p q = absurd p
mul_real f (fin s m e) nan p q = absurd q
mul_real f (fin s m e) (inf t) p q = absurd q
mul_real f (fin s m e) (fin t n d) p q = round_no_nan f (not (beq s t)) (m * up e * (n * up d)) (down e * down d)

-- a factor that is not 0
abbrev pub nonzero : Float → Bool
nonzero nan = true
nonzero (inf s) = true
nonzero (fin s m e) = not (eqb m 0)

pub mul_real' : (f : Format) (x y : Float) → T (finite x) → T (nonzero x) → T (not (is_nan y)) → T (not (is_nan (mul f x y)))
unfolding mul is_nan
mul_real' f nan y p z q = absurd p
mul_real' f (inf s) y p z q = absurd p
mul_real' f (fin s m e) nan p z q = absurd q
mul_real' f (fin s m e) (inf t) p z q = go (eqb m 0) z
  where
    go : (b : Bool) → T (not b) → T (not (is_nan (cond b nan (inf (not (beq s t))))))
    go true h = h
    go false h = tt
mul_real' f (fin s m e) (fin t n d) p z q = round_no_nan f (not (beq s t)) (m * up e * (n * up d)) (down e * down d)

-- a value between two finite ones is finite
pub between_finite : (lo x hi : Float) → T (finite lo) → T (finite hi) → T (le lo x) → T (le x hi) → T (finite x)
unfolding le
between_finite nan x hi p q a b = absurd p
between_finite (inf s) x hi p q a b = absurd p
between_finite (fin s m e) x nan p q a b = absurd q
between_finite (fin s m e) x (inf t) p q a b = absurd q
between_finite (fin s m e) nan (fin t n d) p q a b = a
between_finite (fin s m e) (inf true) (fin t n d) p q a b = a
between_finite (fin s m e) (inf false) (fin t n d) p q a b = b
between_finite (fin s m e) (fin r k g) (fin t n d) p q a b = tt

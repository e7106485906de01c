-- Laws of squares: a step of Newton's never falls below the whole root (`newton_high`) and goes down from above it
-- (`newton_less`), and a whole root rounds to a nearest one (`rounds_down`, `rounds_up`). Assumes nothing.
use Rattle.std.proofs.Common.{◌≡◌, ℕ, suc, ◌+◌, ◌-◌, ◌*◌, ◌/◌, ◌^◌, ◌<◌, ◌≤◌, subst, lt_of_le_of_lt, le_of_lt, lt-suc_self, mul_comm, div-lt_iff_lt-mul, add-mul, mul-le-mul, mul-le-mul_left, mul-lt-mul_of_pos_right, lt_of_not-le, mul-add, not-le_of_lt, div-mul-le_self, arith, lit<}
use native.Mathlib.Decide.{dec_le}
use Rattle.scalar.specs.Steps.{WholeRoot, Rounds, least_scaled, most_scaled}

-- ---- a quotient cut to a whole number

pub cut_low : (a b : ℕ) → a / b * b ≤ a
cut_low a b = div-mul-le_self a b

pub cut_high : (a b : ℕ) → 0 < b → a < (a / b + 1) * b
cut_high a b h = subst (λ (x : ℕ). a < x * b) (one (a / b)) ((div-lt_iff_lt-mul h).0 (lt-suc_self (a / b)))
  where
    one : (x : ℕ) → suc x ≡ x + 1
    one x = omega arith

-- ---- squares in order, and of sums

pub square_lt : (a b : ℕ) → a < b → a * a < b * b
square_lt a b h = lt_of_le_of_lt (mul-le-mul_left a (le_of_lt h)) (mul-lt-mul_of_pos_right h (positive a b h))
  where
    positive : (a b : ℕ) → a < b → 0 < b
    positive a b h = omega arith

under : (a b : ℕ) → a * a < b * b → a < b
under a b h = lt_of_not-le (λ (g : b ≤ a). not-le_of_lt h (mul-le-mul g g))

pub one_more : (q : ℕ) → (q + 1) * (q + 1) ≡ q * q + 2 * q + 1
one_more q = omega (arith, mul-add (q + 1) q 1, add-mul q 1 q)

double : (q : ℕ) → (q + q) * (q + q) ≡ 4 * (q * q)
double q = omega (arith, add-mul q q (q + q), mul-add q q q)

double_one : (q : ℕ) → (q + q + 1) * (q + q + 1) ≡ 4 * (q * q) + 4 * q + 1
double_one q = omega (arith, one_more (q + q), double q)

-- the geometric mean of two numbers is not above their arithmetic mean
means : (a b : ℕ) → 4 * (a * b) ≤ (a + b) * (a + b)
means a b = go (dec_le a b)
  where
    apart : (a k : ℕ) → 4 * (a * (a + k)) ≤ (a + (a + k)) * (a + (a + k))
    apart a k =
        omega (
          arith,
          add-mul a (a + k) (a + (a + k)),
          mul-add a a (a + k),
          mul-add (a + k) a (a + k),
          mul-add a a k,
          add-mul a k a,
          add-mul a k (a + k),
          mul-add k a k,
          mul_comm k a,
        )

    ordered : (a b : ℕ) → a ≤ b → 4 * (a * b) ≤ (a + b) * (a + b)
    ordered a b h = subst (λ (x : ℕ). 4 * (a * x) ≤ (a + x) * (a + x)) (back a b h) (apart a (b - a))
      where
        back : (a b : ℕ) → a ≤ b → a + (b - a) ≡ b
        back a b h = omega arith

    swapped : (a b : ℕ) → b ≤ a → 4 * (a * b) ≤ (a + b) * (a + b)
    swapped a b h = subst (λ (x : ℕ). 4 * (a * b) ≤ x * x) (sum b a) (subst (λ (x : ℕ). 4 * x ≤ (b + a) * (b + a)) (mul_comm b a) (ordered b a h))
      where
        sum : (a b : ℕ) → a + b ≡ b + a
        sum a b = omega arith

    go : Dec (a ≤ b) → 4 * (a * b) ≤ (a + b) * (a + b)
    go (yes h) = ordered a b h
    go (no f) = swapped a b (le_of_lt (lt_of_not-le f))

-- ---- Newton's step

pub newton_high : (n s : ℕ) → 0 < s → n < ((s + n / s) / 2 + 1) * ((s + n / s) / 2 + 1)
newton_high n s h =
    let d = n / s in
    let r = (s + d) / 2 in
    let sum : d + 1 + s ≤ r + 1 + (r + 1) = omega arith in
    let a : n < (d + 1) * s = cut_high n s h in
    let b : 4 * ((d + 1) * s) ≤ (d + 1 + s) * (d + 1 + s) = means (d + 1) s in
    let e : (d + 1 + s) * (d + 1 + s) ≤ (r + 1 + (r + 1)) * (r + 1 + (r + 1)) = mul-le-mul sum sum in
    omega (arith, a, b, e, double (r + 1))

pub newton_less : (n r : ℕ) → n < r * r → (r + n / r) / 2 < r
newton_less n r h = half (n / r) r ((div-lt_iff_lt-mul (positive r h)).1 h)
  where
    positive : (r : ℕ) → n < r * r → 0 < r
    positive r h = under 0 r (least (r * r) h)
      where
        least : (x : ℕ) → n < x → 0 * 0 < x
        least x h = omega arith

    half : (d r : ℕ) → d < r → (r + d) / 2 < r
    half d r h = omega arith

pub square-fits : (r : ℕ) → r ≤ 67108864 → r * r < 2 ^ 64
square-fits r h = lt_of_le_of_lt (mul-le-mul h h) (lit< tt)

-- ---- the whole root of n, rounded

module _ (n q : ℕ) (n-least : least_scaled ≤ n) (n-most : n ≤ most_scaled) (w : WholeRoot n q) where
  root_least : 8388608 ≤ q
  root_least = last q (under 8388608 (q + 1) (lt_of_le_of_lt n-least w.high))
    where
      last : (q : ℕ) → 8388608 < q + 1 → 8388608 ≤ q
      last q h = omega arith

  pub rounds_down : n - q * q ≤ q → Rounds n q
  rounds_down r = record {
    below = omega (arith, w.low, square_lt (q + q - 1) (q + q) (omega (arith, root_least)), double q);
    above = omega (arith, double_one q);
    least = root_least;
    most = under q 16777216 (lt_of_le_of_lt w.low (lt_of_le_of_lt n-most (lit< tt)));
  }

  -- n is at most (2 ^ 24 - 1) * 2 ^ 24, which is nearer to the square of 2 ^ 24 - 1
  pub rounds_up : q < n - q * q → Rounds n (q + 1)
  rounds_up r = record {
    below = subst (λ (x : ℕ). x * x < 4 * n) (same q) (omega (arith, double_one q));
    above = omega (arith, w.high, double_one (q + 1));
    least = omega (arith, root_least);
    most = lt_of_not-le (λ (g : 16777216 ≤ q + 1). no (less q g) (mul-le-mul (less q g) (less q g)));
  }
    where
      same : (q : ℕ) → q + q + 1 ≡ q + 1 + (q + 1) - 1
      same q = omega arith

      less : (q : ℕ) → 16777216 ≤ q + 1 → 16777215 ≤ q
      less q g = omega arith

      no : 16777215 ≤ q → 281474943156225 ≤ q * q → ⊥
      no g h = omega arith

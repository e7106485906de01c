-- The working pixel as code works it out: the rounded quarter-sum of four pixels, and a row of them between two rows of the image.
-- That this is document 01's is shown in proofs/RoundedQuarter.
use Rattle.std.specs.Prelude.{ℕ, zero, suc, ◌+◌, ◌/◌, ◌%◌}
use Rattle.upsample.specs.Upsample.{after}

-- the sum of four pixels divided by 4, rounded half up
abbrev pub quarter : ℕ → ℕ → ℕ → ℕ → ℕ
quarter p q s t = (p + q + s + t + 2) / 4

-- of two neighbours, the second only halfway between them
abbrev pub half : ℕ → ℕ → ℕ → ℕ
half zero p q = p
half (suc a) p q = q

-- which column of the image, or row, the right (lower) two of the four pixels stand in
abbrev pub near : ℕ → ℕ → ℕ
near n x = half (x % 2) (x / 2) (after n (x / 2))

-- pixel x of the working row between the rows t and l, each w wide
unfoldable pub between : (ℕ → ℕ) → (ℕ → ℕ) → ℕ → ℕ → ℕ
between t l w x = quarter (t (x / 2)) (t (near w x)) (l (x / 2)) (l (near w x))

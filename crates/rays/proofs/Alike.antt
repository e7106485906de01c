-- Two images with the same pixels leave the same in the five buffers. Assumes nothing.
use mathlib.Core.Path.{◌≡◌}
use Prim.Native.Nat.{ℕ, ◌<◌}
use Rattle.grid.proofs.Plane.{plane_ext}
use Rattle.grid.specs.Ways.{along, down, fall, rise}
use Rattle.rays.specs.Lent.{Lent, tabled, rays_of}
use Rattle.rays.proofs.Inner.{response_ext}
use Rattle.cumsums.proofs.Summed.{table_ext}

pub rays_ext : (f g : ℕ → ℕ → ℕ) (w h r : ℕ) (b : Lent) → ((x y : ℕ) → x < w → y < h → f x y ≡ g x y) → rays_of f w h r b ≡ rays_of g w h r b
unfolding rays_of
rays_ext f g w h r b e =
    let p = table_ext along f g w h b.row e in
    let q = table_ext down f g w h b.col e in
    let s = table_ext fall f g w h b.falling e in
    let t = table_ext rise f g w h b.rising e in
    let u = plane_ext w h _ _ b.response (λ x y l m. response_ext f g w h r x y e) in
    λ i. tabled (p i) (q i) (s i) (t i) (u i)

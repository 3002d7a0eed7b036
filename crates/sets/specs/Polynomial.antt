-- The reliability polynomial (document 000): where all links are sound alike, the numbers of connecting sets give the exact reliability.
use Rattle.std.specs.Prelude.{ℕ, suc, ◌-◌, ◌*◌, ◌^◌, map}
use Rattle.reliability.specs.Exact.{altogether}
use Rattle.search.specs.Searches.{from}

-- the sum over i from 0 to m of entry i × p^i × q^(m − i)
unfoldable pub by_sizes : ℕ → ℕ → (ℕ → ℕ) → ℕ → ℕ
by_sizes p q entry m = altogether (map (λ i. entry i * p ^ i * q ^ (m - i)) (from 0 (suc m)))

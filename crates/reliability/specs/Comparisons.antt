-- Importance of a link and difference of two networks.
use Rattle.std.specs.Prelude.{ℕ, ◌+◌, ◌-◌, ◌*◌, List, [], ◌∷◌, true, false, cond, ◌&&◌, length, ℤ, pos, ◌-ℤ◌}
use Rattle.reliability.specs.declared.Figure.{Figure}
use Rattle.reliability.specs.declared.Difference.{Difference}
use Rattle.reliability.specs.Networks.{Network, link_at, ends}
use Rattle.reliability.specs.Exact.{Weighted, sum}
use Rattle.reliability.specs.Rule.{is_loop, delete_at, deleted, contracted, figure}

-- the network with link i broken: deletion
abbrev pub broken_at : ℕ → Network → Network
broken_at i g = deleted i g

-- the network with link i sound: contraction; a loop's is the network without it
unfoldable pub sound_at : ℕ → Network → Network
sound_at i g = elim (is_loop (link_at g i)) [ true ↦ deleted i g | false ↦ contracted (link_at g i) (deleted i g) ]

-- how many nodes it has: one less where link i is no loop
abbrev pub sound_count : Network → ℕ → ℕ
sound_count g i = cond (is_loop (link_at g i)) (length g.nodes) (length g.nodes - 1)

-- sound minus broken; a truncated difference is max(0, ..)
abbrev pub lessened : Figure → Figure → Figure
lessened s b = record { low = s.low - b.high; high = s.high - b.low; steps = s.steps + b.steps; finished = s.finished && b.finished }

abbrev pub importance : Network → ℕ → ℕ → Figure
importance g i limit = lessened (figure (sound_at i g) limit) (figure (broken_at i g) limit)

-- the sums with link i sound and with it broken, by exact weights ws of all links: over the total of the others' weights
abbrev pub sound_sum : Network → List Weighted → ℕ → ℕ
sound_sum g ws i = sum g.nodes (delete_at i ws) (ends (link_at g i) ∷ [])

abbrev pub broken_sum : Network → List Weighted → ℕ → ℕ
broken_sum g ws i = sum g.nodes (delete_at i ws) []

-- the exact importance of link i, over that total
abbrev pub exact_importance : Network → List Weighted → ℕ → ℕ
exact_importance g ws i = sound_sum g ws i - broken_sum g ws i

-- plan A minus plan B
abbrev pub minus : Figure → Figure → Difference
minus f h = record { low = pos f.low -ℤ pos h.high; high = pos f.high -ℤ pos h.low; steps = f.steps + h.steps; finished = f.finished && h.finished }

abbrev pub difference : Network → Network → ℕ → Difference
difference g h limit = minus (figure g limit) (figure h limit)

-- the exact difference of N over T and M over U, over T times U
abbrev pub exact_difference : ℕ → ℕ → ℕ → ℕ → ℤ
exact_difference N T M U = pos (N * U) -ℤ pos (M * T)

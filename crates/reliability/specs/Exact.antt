-- Exact reliability, N over a total: the sum over the sets of links that connect all nodes, or the chosen ones, over the sum over all sets.
use Rattle.std.specs.Prelude.{ℕ, ◌+◌, ◌-◌, ◌*◌, ◌≤◌, ◌<◌, ◌≡◌, List, [], ◌∷◌, cond}
use Rattle.rounding.specs.Rounding.{S}
use Rattle.rounding.specs.declared.Direction.{Direction}
use Rattle.reliability.specs.declared.Link.{Link}
use Rattle.reliability.specs.Networks.{Ends, ends, value, connected}

-- a link with its weights: sound is multiplied in for a set that holds it, broken for one that does not
pub record Weighted : Type 0 where
  pub joins : Ends
  pub sound : ℕ
  pub broken : ℕ

-- over the sets of the links es, each with the links t added: the products of the weights of the sets that connect the nodes vs
unfoldable pub sum : List ℕ → List Weighted → List Ends → ℕ
sum vs [] t = cond (connected vs t) 1 0
sum vs (e ∷ es) t = e.sound * sum vs es (e.joins ∷ t) + e.broken * sum vs es t

-- over all sets: the product of the totals, which is S to the power m where each total is S
unfoldable pub total : List Weighted → ℕ
total [] = 1
total (e ∷ es) = (e.sound + e.broken) * total es

-- a link of a value in units: sound with that value, broken with S less that value
abbrev pub weighted : Direction → Link → Weighted
weighted d e = record { joins = ends e; sound = value d e; broken = S - value d e }

-- a link's low and high value enclose its exact weights, and each is off by at most c units
pub record Enclosed (c : ℕ) (e : Link) (w : Weighted) : Type 0 where
  pub joins : ends e ≡ w.joins
  pub some : 0 < w.sound + w.broken
  pub low : e.low * (w.sound + w.broken) ≤ S * w.sound
  pub low_near : S * w.sound ≤ e.low * (w.sound + w.broken) + c * (w.sound + w.broken)
  pub high : S * w.sound ≤ e.high * (w.sound + w.broken)
  pub high_near : e.high * (w.sound + w.broken) ≤ S * w.sound + c * (w.sound + w.broken)

-- of all links, each with its own units
pub data AllEnclosed : List ℕ → List Link → List Weighted → Type 0 where
  nil : AllEnclosed [] [] []
  cons : {c : ℕ} {e : Link} {w : Weighted} {cs : List ℕ} {es : List Link} {ws : List Weighted} → Enclosed c e w → AllEnclosed cs es ws → AllEnclosed (c ∷ cs) (e ∷ es) (w ∷ ws)

-- the units of all links
unfoldable pub altogether : List ℕ → ℕ
altogether [] = 0
altogether (c ∷ cs) = c + altogether cs

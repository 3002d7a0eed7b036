-- Cutter and keeper: the game, and the two certificates that decide it.
use Rattle.std.specs.Prelude.{ℕ, zero, suc, ◌-◌, ◌*◌, ◌≤◌, ◌<◌, ◌≡◌, Bool, true, false, ◌&&◌, ◌||◌, eqb, length, get_or, replicate}
use mathlib.Core.List.{List, [], ◌∷◌, Memᴰ}
use Rattle.reliability.specs.Networks.{Ends, connected}
use Rattle.reliability.specs.Rule.{delete_at}

-- ---- the game

pub data Player : Type 0 where
  cutter keeper : Player

-- the link at place i
abbrev pub at : List Ends → ℕ → Ends
at es i = get_or es i (record { a = 0; b = 0 })

unfoldable pub every_below : ℕ → (ℕ → Bool) → Bool
every_below zero p = true
every_below (suc n) p = p n && every_below n p

unfoldable pub some_below : ℕ → (ℕ → Bool) → Bool
some_below zero p = false
some_below (suc n) p = p n || some_below n p

-- m links are not yet used, es, and the links t are safe: whether the keeper can force the win, by who is to move
unfoldable pub wins : List ℕ → ℕ → Player → List Ends → List Ends → Bool
wins vs zero who es t = connected vs t
wins vs (suc m) cutter es t = every_below (suc m) (λ i. wins vs m keeper (delete_at i es) t)
wins vs (suc m) keeper es t = some_below (suc m) (λ i. wins vs m cutter (delete_at i es) (at es i ∷ t))

-- the whole game on the nodes vs and the links es: whether the keeper can force the win, by who opens
abbrev pub keeper_wins : Player → List ℕ → List Ends → Bool
keeper_wins opens vs es = wins vs (length es) opens es []

-- the nodes are the numbers below n, each once
pub record Numbered (n : ℕ) (vs : List ℕ) : Type 0 where
  pub below : (v : ℕ) → Memᴰ v vs → v < n
  pub node : (v : ℕ) → v < n → Memᴰ v vs
  pub size : length vs ≡ n

-- ---- two trees

-- the links at the places of a set
unfoldable pub among : (ℕ → Bool) → List Ends → List Ends
among p [] = []
among p (e ∷ es) = let r = among (λ i. p (suc i)) es in elim (p 0) [ true ↦ e ∷ r | false ↦ r ]

-- ts gives each link a mark: the places with the mark k
abbrev pub marked : ℕ → List ℕ → ℕ → Bool
marked k ts i = eqb (get_or ts i 0) k

-- links that connect all nodes, one fewer than there are nodes
pub record SpanningTree (vs : List ℕ) (t : List Ends) : Type 0 where
  pub spans : connected vs t ≡ true
  pub size : suc (length t) ≡ length vs

-- the links with the mark 1 and those with the mark 2 are spanning trees; all else has the mark 0
pub record TwoTrees (vs : List ℕ) (es : List Ends) (ts : List ℕ) : Type 0 where
  pub first : SpanningTree vs (among (marked 1 ts) es)
  pub second : SpanningTree vs (among (marked 2 ts) es)
  pub small : (i : ℕ) → get_or ts i 0 ≤ 2
  pub none : (i : ℕ) → length es ≤ i → get_or ts i 0 ≡ 0

-- ---- groups

-- the links between groups
unfoldable pub between : (ℕ → ℕ) → List Ends → ℕ
between h [] = 0
between h (e ∷ es) = elim (eqb (h e.a) (h e.b)) [ true ↦ between h es | false ↦ suc (between h es) ]

-- h gives each node the number of its group: g groups, none empty, with fewer than 2 × (g − 1) links between them
pub record Grouping (vs : List ℕ) (es : List Ends) (g : ℕ) (h : ℕ → ℕ) : Type 0 where
  pub within : (v : ℕ) → Memᴰ v vs → h v < g
  pub occupied : (k : ℕ) → k < g → (v : ℕ) × Memᴰ v vs × (h v ≡ k)
  pub few : between h es < 2 * (g - 1)

-- ---- what shows who wins

-- the groups 0 to g − 1 of the nodes, for some g; behind the nodes all is 0
pub record Groups (vs : List ℕ) (es : List Ends) (hs : List ℕ) : Type 0 where
  pub g : ℕ
  pub grouping : Grouping vs es g (λ v. get_or hs v 0)
  pub none : (v : ℕ) → length vs ≤ v → get_or hs v 0 ≡ 0

-- 64 marks of links and 32 numbers of nodes: two trees where the keeper wins if the cutter opens, else a grouping; what is not shown is 0
pub record Certificate (vs : List ℕ) (es : List Ends) (ts hs : List ℕ) : Type 0 where
  pub sizes : (length ts ≡ 64) × (length hs ≡ 32)
  pub trees : keeper_wins cutter vs es ≡ true → TwoTrees vs es ts × (hs ≡ replicate 32 0)
  pub groups : keeper_wins cutter vs es ≡ false → Groups vs es hs × (ts ≡ replicate 64 0)

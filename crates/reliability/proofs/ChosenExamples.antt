-- Networks with chosen nodes, as rows of one table: one proof computes them all from the definitions.
use Prim.Native.Nat.{ℕ, ◌*◌, ◌^◌}
use mathlib.Core.Path.{◌≡◌, refl}
use mathlib.Core.List.{List, [], ◌∷◌, ◌++◌, map}
use mathlib.Core.Bool.{Bool, true, false, ◌&&◌}
use lib.Dec.{eqb, leb}
use lib.ListN.{length}
use Rattle.rounding.specs.Rounding.{S, quotient, product, parallel, either, series, factor, split}
use Rattle.rounding.specs.declared.Direction.TheVariants.{Down}
use Rattle.reliability.specs.declared.Link.{Link}
use Rattle.reliability.specs.declared.Figure.{Figure}
use Rattle.reliability.specs.Networks.{merge, label, every, connected}
use Rattle.reliability.specs.Exact.{weighted, sum}
use Rattle.reliability.specs.Rule.{first_at, places, first_pair, lowest, degree, largest, largest_sum, delete_at, without, grown, tree_of, run, splits}
use Rattle.reliability.specs.Terminals.{Terminals, has, insert, into, next_at, leaves, figure, needed}
use Rattle.reliability.proofs.Pieces.{link}
use Rattle.reliability.proofs.Examples.{same, half, four}

-- a row: nodes, links, chosen nodes, limit; low, high, steps, finished; the splits needed
pub record Row : Type 0 where
  pub nodes : List ℕ
  pub links : List Link
  pub chosen : List ℕ
  pub limit : ℕ
  pub low : ℕ
  pub high : ℕ
  pub steps : ℕ
  pub finished : Bool
  pub needs : ℕ

-- the pair is the row's, and the exact figure lies between
pub right : Row → Bool
right r =
    let g : Terminals = record { network = record { nodes = r.nodes; links = r.links }; chosen = r.chosen } in
    let f : Figure = figure g r.limit in
    let exact = S * sum r.chosen (map (weighted Down) r.links) [] in
    eqb f.low r.low && eqb f.high r.high && eqb f.steps r.steps && same f.finished r.finished && eqb (needed g) r.needs
    && leb (f.low * S ^ length r.links) exact && leb exact (f.high * S ^ length r.links)

pub row : List ℕ → List Link → List ℕ → ℕ → ℕ → ℕ → ℕ → Bool → ℕ → Row
row n l c limit low high steps finished needs =
    record { nodes = n; links = l; chosen = c; limit = limit; low = low; high = high; steps = steps; finished = finished; needs = needs }

pub halves : List Link
halves = four half half half half half half

-- a piece of four nodes, all joined, beside another of four, which are not
pub beside : List Link
beside = link 4 5 half ∷ link 4 6 half ∷ link 5 6 half ∷ link 5 7 half ∷ link 6 7 half ∷ []

-- document 003, figure 1, by the formulas of its table 1, of nodes a and b, with link e3 of this value
pub sample : ℕ → ℕ → ℕ → ℕ → ℕ → Row
sample e3 a b exact needs =
    row (0 ∷ 1 ∷ 2 ∷ 3 ∷ []) (link 0 1 900000000 ∷ link 0 2 900000000 ∷ link 1 2 e3 ∷ link 1 3 800000000 ∷ link 2 3 900000000 ∷ [])
    (a ∷ b ∷ []) 20000 exact exact needs true needs

-- document 001, figure (1.4), all links of chance p, of two nodes, with its polynomial's value
pub polynomial : ℕ → ℕ → Row
polynomial p exact =
    row (0 ∷ 1 ∷ 2 ∷ 3 ∷ 4 ∷ 5 ∷ [])
    (link 0 1 p ∷ link 0 2 p ∷ link 1 2 p ∷ link 1 3 p ∷ link 2 4 p ∷ link 3 4 p ∷ link 3 5 p ∷ link 4 5 p ∷ [])
    (0 ∷ 5 ∷ []) 20000 exact exact 3 true 3

pub rows : List Row
rows =
    row (0 ∷ 1 ∷ 2 ∷ 3 ∷ []) (link 0 1 half ∷ link 2 3 half ∷ []) (2 ∷ []) 0 S S 0 true 0  -- one chosen
    ∷ row (0 ∷ 1 ∷ 2 ∷ 3 ∷ []) (link 0 1 half ∷ link 2 3 half ∷ []) (0 ∷ 2 ∷ []) 0 0 0 0 true 0  -- in different pieces
    ∷ row (0 ∷ 1 ∷ 2 ∷ 3 ∷ []) (link 0 1 half ∷ link 2 3 half ∷ []) (0 ∷ 1 ∷ []) 0 half half 0 true 0  -- beside another piece
    ∷ row (0 ∷ 1 ∷ 2 ∷ 3 ∷ 4 ∷ []) (link 0 1 900000000 ∷ link 1 2 800000000 ∷ link 2 3 700000000 ∷ link 3 4 600000000 ∷ []) (1 ∷ 4 ∷ []) 0 336000000 336000000 0 true 0
    ∷ row (0 ∷ 1 ∷ 2 ∷ []) (link 0 1 half ∷ link 1 2 half ∷ link 0 2 half ∷ []) (0 ∷ 1 ∷ []) 0 625000000 625000000 0 true 0
    ∷ row (0 ∷ 1 ∷ 2 ∷ 3 ∷ []) (link 0 1 333333333 ∷ link 0 2 half ∷ link 2 3 666666667 ∷ link 1 3 999999999 ∷ []) (0 ∷ 1 ∷ 3 ∷ []) 0 555555553 555555556 0 true 0
    ∷ row (0 ∷ 1 ∷ 2 ∷ 3 ∷ []) (link 0 2 666666667 ∷ link 0 1 700000001 ∷ link 2 3 half ∷ link 1 3 333333333 ∷ []) (0 ∷ 2 ∷ 3 ∷ []) 0 449999999 450000002 0 true 0
    ∷ row (0 ∷ 1 ∷ 2 ∷ 3 ∷ []) halves (0 ∷ 1 ∷ []) 20000 750000000 750000000 2 true 2  -- two chosen of P10 need a split more than all four
    ∷ row (0 ∷ 1 ∷ 2 ∷ 3 ∷ []) halves (0 ∷ 1 ∷ []) 1 500000000 S 1 false 2
    ∷ row (0 ∷ 1 ∷ 2 ∷ 3 ∷ []) halves (1 ∷ 3 ∷ []) 1 750000000 750000000 1 true 1  -- chosen node 1 is merged with node 0
    ∷ row (0 ∷ 1 ∷ 2 ∷ 3 ∷ []) halves (0 ∷ 1 ∷ 2 ∷ 3 ∷ []) 1 593749999 593750001 1 true 1  -- all chosen: P10
    ∷ row (0 ∷ 1 ∷ 2 ∷ 3 ∷ 4 ∷ 5 ∷ 6 ∷ 7 ∷ []) (halves ++ beside) (4 ∷ 7 ∷ []) 1 half half 1 true 1  -- a piece without chosen nodes takes no split
    ∷ polynomial half 328125000  -- 2p³ + 4p⁴ − 2p⁵ − 13p⁶ + 14p⁷ − 4p⁸
    ∷ polynomial 900000000 966974760
    ∷ sample S 0 1 990000000 0 ∷ sample 0 0 1 964800000 0  -- e3 sound and broken: the difference, 0.0252, is printed there
    ∷ sample S 0 2 990000000 0 ∷ sample 0 0 2 964800000 0  -- 0.0252
    ∷ sample S 0 3 970200000 1 ∷ sample 0 0 3 946800000 1  -- 0.0234
    ∷ sample S 1 2 S 0 ∷ sample 0 1 2 946800000 0  -- 0.0532
    ∷ sample S 1 3 980000000 0 ∷ sample 0 1 3 945800000 0  -- 0.0342
    ∷ sample S 2 3 980000000 0 ∷ sample 0 2 3 964800000 0  -- 0.0152
    ∷ []

pub chosen-examples : every right rows ≡ true
unfolding right rows row halves beside sample polynomial half four same link tree_of grown run splits largest_sum largest degree leaves next_at has insert into without delete_at lowest first_pair places first_at sum connected every label merge quotient product parallel either series factor split
chosen-examples = refl

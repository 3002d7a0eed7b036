use Prim.Native.Nat.{ℕ, suc, ◌+◌, ◌*◌, ◌≤◌}
use native.Mathlib.Nat.{mul-le-mul}
use mathlib.Core.Path.{◌≡◌, sym, ap, ◌∙◌}
use native.Mathlib.Omega.{arith}
use mathlib.Core.List.{List}
use lib.ListN.{length, replicate, set}
use Rattle.game.specs.Forests.{grow}
use Rattle.labelling.specs.Places.{places_of}
use Rattle.forests.specs.declared.Links.{Links}
use Rattle.forests.specs.Links.{links_of, search_of}
use Rattle.forests.proofs.Tables.{length-links}
use Rattle.forests.proofs.Climbs.{placed_below, grow-place, grow-closed, grow-none}
use Rattle.forests.proofs.Links.found.Goals as goal

pub overflow_mul-end : goal.overflow_mul-end
overflow_mul-end c = let n : c.args.self.m + 1 ≤ 65 = omega (arith, c.requires.most) in omega (arith, mul-le-mul n n)

-- grown as often
as_often : (l : Links) (k n : ℕ) (ts : List ℕ) → k ≡ n → grow (links_of l) k ts ≡ grow (links_of l) n ts
as_often l k n ts e = ap (λ n. grow (links_of l) n ts) e

pub loop-init : goal.loop-init
loop-init c =
    let l = c.args.self in
    let e : l.m + 1 ≡ suc (length (links_of l)) = omega (arith, length-links l.a l.b 0 l.m) in
    as_often l _ ((l.m + 1) * (l.m + 1)) (replicate 64 0) (omega arith) ∙ ap (λ n. grow (links_of l) (n * n) (replicate 64 0)) e

pub bounds-marks-link : goal.bounds-marks-link
bounds-marks-link c =
    let a = c.args in
    placed_below a.self c.loop.marks c.in-Place.link c.in-Place.forest c.in-Place.level c.requires (ap (search_of a.self.m) (sym c.in-Place.is) ∙ c.search.ensures)

pub returns-in-Closed : goal.returns-in-Closed
returns-in-Closed c =
    let l = c.loop in
    let m = c.args.self.m in
    sym (grow-closed (links_of c.args.self) _ l.marks (places_of m c.in-Closed.inside) (omega arith) (ap (search_of m) (sym c.in-Closed.is) ∙ c.search.ensures)) ∙ l.invariant

pub loop-preserved : goal.loop-preserved
loop-preserved c =
    let l = c.loop in
    let m = c.args.self.m in
    let ts = set l.marks c.in-Place.link c.in-Place.forest in
    as_often c.args.self _ _ ts (omega arith)
    ∙ sym (grow-place (links_of c.args.self) _ c.in-Place.link c.in-Place.forest c.in-Place.level l.marks (omega arith) (ap (search_of m) (sym c.in-Place.is) ∙ c.search.ensures))
    ∙ l.invariant

pub returns : goal.returns
returns c = let l = c.loop in sym (grow-none c.args.self _ l.marks (omega arith)) ∙ l.invariant

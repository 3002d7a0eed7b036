use Prim.Native.Nat.{ℕ, ◌+◌, ◌≤◌}
use mathlib.Core.Path.{◌≡◌, sym, ap₂, ◌∙◌, subst}
use mathlib.Core.List.{List, [], ◌∷◌}
use native.Mathlib.Omega.{arith}
use lib.ListN.{length}
use Rattle.ratings.specs.Ratings.{T}
use Rattle.reliability.specs.declared.Link.{Link}
use Rattle.reliability.specs.declared.Figure.{Figure}
use Rattle.reliability.specs.Comparisons.{importance}
use Rattle.network.specs.Places.{network_of, index_of}
use Rattle.plan.specs.Plans.{size_m, plan_of}
use Rattle.plan.proofs.Verdicts.{accepted-means}
use Rattle.loading.proofs.Stands.{stands-importance, stands-link}
use Rattle.network.proofs.Picks.{built-used}
use Rattle.listing_lines.specs.Entries.{importance_limit, link_line, line_of}
use Rattle.lines.specs.Lines.{Puts, text, filled}
use Rattle.listing_lines.proofs.put_link.Goals as goal
use Rattle.listing_lines.proofs.put_link.Goals.{After-importance-f}

pub link-e-requires : goal.link-e-requires
link-e-requires c =
    let n = c.built_in-net in
    built-used n.result (size_m c.args.plan.now) n.ensures.1 c.args.i c.requires.1

pub importance-f-requires : goal.importance-f-requires
importance-f-requires c =
    let a = c.args in
    let k = c.requires in
    let n = c.built_in-net in
    (n.ensures.2, built-used n.result (size_m a.plan.now) n.ensures.1 a.i k.1, omega arith, n.ensures.3)

pub overflow_cast-i : goal.overflow_cast-i
overflow_cast-i c =
    let k = c.requires in
    let w = (accepted-means c.args.plan.now).0 k.0 in
    record { fits = omega (arith, k.1, w.links) }

line : (c : After-importance-f) → let a = c.args in let e = c.link-e.result in let f = c.importance-f.result in filled (a.i ∷ c.from-a.result ∷ c.from-b.result ∷ e.low ∷ f.low ∷ f.high ∷ []) (text "link 0 1 2 3 4 5\n") ≡ line_of a.plan.now a.i
line c =
    let a = c.args in
    let e = c.link-e.result in
    let f = c.importance-f.result in
    let ends : filled (a.i ∷ c.from-a.result ∷ c.from-b.result ∷ e.low ∷ f.low ∷ f.high ∷ []) (text "link 0 1 2 3 4 5\n") ≡ link_line a.i e f =
    ap₂ (λ (x y : ℕ). filled (a.i ∷ x ∷ y ∷ e.low ∷ f.low ∷ f.high ∷ []) (text "link 0 1 2 3 4 5\n")) c.from-a.ensures c.from-b.ensures in
    let n = c.built_in-net in
    let worked : c.importance-f.result ≡ importance (network_of n.result) (index_of n.result a.i) importance_limit = c.importance-f.ensures in
    let place = c.requires.1 in
    ends
    ∙ ap₂ (λ (e : Link) (f : Figure). link_line a.i e f) (c.link-e.ensures ∙ stands-link T a.plan.now n.result n.ensures.0 n.ensures.1 a.i place)
    (worked ∙ stands-importance (plan_of T a.plan.now) a.plan.now n.result n.ensures.0 n.ensures.1 a.i place importance_limit)

pub returns : goal.returns
returns c =
    let p = c.put_line in
    let a = c.args in
    subst (λ (l : List ℕ). Puts a.text.now a.at l p.new.text p.result) (line (goal.at.returns c).After-importance-f) p.ensures

pub put_line-requires : goal.put_line-requires
put_line-requires c =
    let a = c.args in
    subst (λ (l : List ℕ). a.at + length l ≤ length a.text.now) (sym (line (goal.at.put_line-requires c).After-importance-f)) c.requires.2

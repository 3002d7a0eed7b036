use Prim.Native.Nat.{ℕ, ◌+◌, ◌≤◌}
use mathlib.Core.Path.{◌≡◌, refl, sym, ap, ◌∙◌}
use mathlib.Core.List.{List, [], ◌++◌, append_assoc, append-nil}
use native.Mathlib.Omega.{arith}
use lib.ListN.{length}
use lib.Seq.{sets}
use Rattle.ratings.specs.Ratings.{T}
use Rattle.reliability.specs.declared.Figure.{Figure}
use Rattle.reliability.specs.Networks.{pieces_of}
use Rattle.reliability.specs.Rule.{Tree, run, figure}
use Rattle.reliability.specs.Terminals.{figure as figureOf}
use Rattle.network.specs.Places.{terminals_of}
use Rattle.loading.proofs.Stands.{stands-tree}
use Rattle.std.specs.Prelude.{Ok}
use Rattle.plan.specs.Plans.{size_n, size_m, plan_of}
use Rattle.plan.proofs.Verdicts.{accepted-means}
use Rattle.listing.specs.Listings.{figure_limit, sizes_line, figure_line, link_lines, limits_line, listing_by}
use Rattle.lines.proofs.Texts.{Remaining, begun, room, goes_on, done}
use Rattle.listing.proofs.put_plan.Goals as goal
use Rattle.listing.proofs.put_plan.Goals.{After-put_figure-second, After-put_links-third, After-put_sizes-first, After-work-f, Start}

-- what remains of the listing of a plan
abbrev Left : List ℕ → List ℕ → List ℕ → ℕ → List ℕ → Type 0
Left plan before l at rest =
    let whole = listing_by (Ok tt) plan in
    Remaining l at rest (sets before 0 whole) (0 + length whole) (length before)

fits : (c : Start) → 0 + length (listing_by (Ok tt) c.args.plan.now) ≤ length c.args.text.now
fits c = omega (arith, c.requires.1)

pub sizes_of-s-requires : goal.sizes_of-s-requires
sizes_of-s-requires c = let w = (accepted-means c.args.plan.now).0 c.requires.0 in omega (arith, w.whole)

pub pieces-k-requires : goal.pieces-k-requires
pieces-k-requires c = c.built_in-net.ensures.2

pub work-f-requires : goal.work-f-requires
work-f-requires c = (c.built_in-net.ensures.2, omega arith)

-- the parts
abbrev sizes : List ℕ → List ℕ
sizes plan = sizes_line (size_n plan) (size_m plan) (pieces_of (plan_of T plan))

abbrev pair : List ℕ → List ℕ
pair plan = figure_line (figure (plan_of T plan) figure_limit)

abbrev links : List ℕ → List ℕ
links plan = link_lines plan 0 (size_m plan)

abbrev later : List ℕ → List ℕ
later plan = links plan ++ limits_line

parted : (plan : List ℕ) → listing_by (Ok tt) plan ≡ sizes plan ++ (pair plan ++ later plan)
parted b = append_assoc (sizes b ++ pair b) (links b) limits_line ∙ append_assoc (sizes b) (pair b) (later b)

abbrev first : After-work-f → List ℕ
first c = let s = c.sizes_of-s.result in sizes_line s.n s.m c.pieces-k.result

sizes-next : (c : After-work-f) → let b = c.args.plan.now in listing_by (Ok tt) b ≡ first c ++ (pair b ++ later b)
sizes-next c =
    let b = c.args.plan.now in
    let (n, m) = c.sizes_of-s.ensures in
    let k : c.pieces-k.result ≡ pieces_of (plan_of T b) = c.pieces-k.ensures ∙ ap pieces_of c.built_in-net.ensures.0 in
    let e : first c ≡ sizes b = cc in
    parted b ∙ ap (λ (s : List ℕ). s ++ (pair b ++ later b)) (sym e)

figure-next : (c : After-work-f) → let b = c.args.plan.now in pair b ++ later b ≡ figure_line c.work-f.result ++ later b
figure-next c =
    let b = c.args.plan.now in
    let n = c.built_in-net in
    let worked : c.work-f.result ≡ figureOf (terminals_of n.result) figure_limit = c.work-f.ensures in
    ap (λ (f : Figure). figure_line f ++ later b) (sym (worked ∙ ap (λ (t : Tree). run t figure_limit) (stands-tree _ n.result n.ensures.0 n.ensures.3 n.ensures.2)))

sized : (c : After-put_sizes-first) → let a = c.args in Left a.plan.now a.text.now c.put_sizes-first.new.text c.put_sizes-first.result (pair a.plan.now ++ later a.plan.now)
sized c =
    let a = c.args in
    goes_on a.text.now 0 _ _ _ _ (begun a.text.now 0 (listing_by (Ok tt) a.plan.now)) (first (goal.at.After-put_sizes-first c).After-work-f) _ (sizes-next (goal.at.After-put_sizes-first c).After-work-f) c.put_sizes-first.new.text c.put_sizes-first.result c.put_sizes-first.ensures

figured : (c : After-put_figure-second) → let a = c.args in Left a.plan.now a.text.now c.put_figure-second.new.text c.put_figure-second.result (later a.plan.now)
figured c =
    goes_on _ _ _ _ _ _ (sized (goal.at.After-put_figure-second c).After-put_sizes-first) (figure_line c.work-f.result) _ (figure-next (goal.at.After-put_figure-second c).After-work-f) c.put_figure-second.new.text c.put_figure-second.result c.put_figure-second.ensures

linked : (c : After-put_links-third) → let a = c.args in Left a.plan.now a.text.now c.put_links-third.new.text c.put_links-third.result limits_line
linked c =
    let a = c.args in
    goes_on _ _ _ _ _ _ (figured (goal.at.After-put_links-third c).After-put_figure-second) (links a.plan.now) limits_line refl c.put_links-third.new.text c.put_links-third.result c.put_links-third.ensures

pub returns : goal.returns
returns c =
    let p = c.put_limits in
    done _ _ _ _ _ _ (goes_on _ _ _ _ _ _ (linked (goal.at.returns c).After-put_links-third) limits_line [] (sym (append-nil limits_line)) p.new.text p.result p.ensures) refl

pub put_sizes-first-requires : goal.put_sizes-first-requires
put_sizes-first-requires c =
    let a = c.args in
    let h = room a.text.now 0 _ _ _ _ (begun a.text.now 0 (listing_by (Ok tt) a.plan.now)) (first (goal.at.put_sizes-first-requires c).After-work-f) _ (sizes-next (goal.at.put_sizes-first-requires c).After-work-f) (fits (goal.at.put_sizes-first-requires c).Start) in
    omega (arith, h)

pub put_figure-second-requires : goal.put_figure-second-requires
put_figure-second-requires c =
    room _ _ _ _ _ _ (sized (goal.at.put_figure-second-requires c).After-put_sizes-first) (figure_line c.work-f.result) _ (figure-next (goal.at.put_figure-second-requires c).After-work-f) (fits (goal.at.put_figure-second-requires c).Start)

pub put_links-third-requires : goal.put_links-third-requires
put_links-third-requires c =
    (c.requires.0, room _ _ _ _ _ _ (figured (goal.at.put_links-third-requires c).After-put_figure-second) (links c.args.plan.now) limits_line refl (fits (goal.at.put_links-third-requires c).Start))

pub put_limits-requires : goal.put_limits-requires
put_limits-requires c =
    room _ _ _ _ _ _ (linked (goal.at.put_limits-requires c).After-put_links-third) limits_line [] (sym (append-nil limits_line)) (fits (goal.at.put_limits-requires c).Start)

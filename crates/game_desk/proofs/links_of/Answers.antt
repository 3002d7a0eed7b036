use Prim.Native.Nat.{ℕ, ◌+◌, ◌<◌}
use mathlib.Core.Path.{◌≡◌, ap, ◌∙◌}
use mathlib.Core.List.{List}
use native.Mathlib.Omega.{arith}
use native.Mathlib.Decide.{ℕ_discrete}
use lib.ListN.{length, get_or, set}
use lib.Seq.{get_or-set_same, get_or-set_other}
use borrow.Author.Rules.{rules}
use Rattle.plan.specs.Plans.{size_m, first_end, second_end}
use Rattle.forests.specs.Links.{links_from}
use Rattle.game_desk.proofs.Bytes.{Reads, links-read}
use Rattle.game_desk.proofs.links_of.Goals as goal

-- one link more
reads_more : (plan as₁ bs : List ℕ) (i x y : ℕ) → i < length as₁ → i < length bs → x ≡ first_end plan i → y ≡ second_end plan i → Reads plan as₁ bs i → Reads plan (set as₁ i x) (set bs i y) (i + 1)
reads_more plan as₁ bs i x y ha hb ex ey r j h = go (ℕ_discrete j i)
  where
    go : Dec (j ≡ i) → (get_or (set as₁ i x) j 0 ≡ first_end plan j) × (get_or (set bs i y) j 0 ≡ second_end plan j)
    go (yes e) = rw e (get_or-set_same as₁ i x 0 ha ∙ ex, get_or-set_same bs i y 0 hb ∙ ey)
    go (no n) = let s = r j (omega arith) in (get_or-set_other as₁ i j x 0 n ∙ s.0, get_or-set_other bs i j y 0 n ∙ s.1)

pub sizes_of-requires : goal.sizes_of-requires
sizes_of-requires c = omega (arith, c.requires.whole)

pub loop-i-init : goal.loop-i-init
loop-i-init c =
    let w = c.requires in
    let m : c.from-m.result ≡ size_m c.args.plan.now = c.from-m.ensures ∙ c.sizes_of.ensures.1 in
    (m, omega (arith, w.links), search rules, search rules, λ j h. absurd (omega arith))

pub entry_at-e-requires : goal.entry_at-e-requires
entry_at-e-requires c = (omega (arith, c.loop-i.invariant.0), c.requires.whole)

pub loop-i-preserved : goal.loop-i-preserved
loop-i-preserved c =
    let h = c.loop-i in
    let e = c.entry_at-e.ensures in
    let plan = c.args.plan.now in (
      h.invariant.0,
      h.invariant.1,
      search rules,
      search rules,
      reads_more plan h.a h.b h.i _ _ (omega (arith, h.invariant.2)) (omega (arith, h.invariant.3)) e.0 e.1 h.invariant.4,
    )

pub returns : goal.returns
returns c =
    let h = c.loop-i in
    let plan = c.args.plan.now in
    let w = c.requires in
    let end : h.i ≡ size_m plan = omega (arith, h.invariant.0) in
    let all : Reads plan h.a h.b (size_m plan) = λ j l. h.invariant.4 j (omega arith) in (
      ap (links_from h.a h.b 0) h.invariant.0 ∙ links-read plan h.a h.b 0 (size_m plan) (λ j l. all j (omega arith)),
      record {
        some_node = w.some_node;
        nodes = w.nodes;
        links = h.invariant.1;
        ended = λ i l. let e = all i (omega (arith, h.invariant.0)) in let k = w.each i (omega (arith, h.invariant.0)) in (omega (arith, e.0, k.first), omega (arith, e.1, k.second));
      },
    )

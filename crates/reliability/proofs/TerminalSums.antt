-- The rule for chosen nodes: what each step does to the sum over the sets of links that connect them.
use Prim.Native.Nat.{ℕ, ◌*◌, ◌<◌, zero-le}
use mathlib.Core.Path.{◌≡◌, refl, sym, ap, subst}
use mathlib.Core.List.{List, [], ◌∷◌, Memᴰ}
use mathlib.Core.Bool.{Bool, true, false}
use mathlib.Core.Logic.{⊎_elim}
use native.Mathlib.Nat.{le_refl, not-suc-le-zero}
use native.Mathlib.Omega.{arith}
use lib.ListN.{length}
use Rattle.rounding.specs.Rounding.{S, factor}
use Rattle.rounding.specs.declared.Direction.{Direction}
use Rattle.reliability.specs.declared.Link.{Link}
use Rattle.reliability.specs.declared.Step.{Step}
use Rattle.reliability.specs.declared.Step.TheVariants.{OneNode, Disconnected, Loop, Parallel, End, Series, Split}
use Rattle.reliability.specs.Networks.{Network, Ascending, value, link_at}
use Rattle.reliability.specs.Rule.{across, without, removed, joined}
use Rattle.reliability.specs.Terminals.{Terminals, Chosen, among, has, into, next_at, in_line, end_left, series_left, factored, leaves, step_at}
use Rattle.reliability.proofs.Lists.{by_eqb}
use Rattle.reliability.proofs.Within.{weaken, equal}
use Rattle.reliability.proofs.Lawful.{Reduces, Fewer, Lawful}
use Rattle.reliability.proofs.Validity.{valued}
use Rattle.reliability.proofs.Steps.{AtEnd}
use Rattle.reliability.proofs.Reductions.{one-node-step, disconnected-step, loop-step, astray-step, parallel-step, end_step, loose-step, line_step, series-step, split_step}
use Rattle.reliability.proofs.Enclosure.{without-length, without-less}
use Rattle.reliability.proofs.Chosen.{has-mem, has-out, into-onto, without-none}
use Rattle.reliability.proofs.TerminalSteps.{view, AtSeriesIn, Fits, fits-at, uniform, left_in, settled-in}

-- of two chosen nodes one is not v
another : (v : ℕ) (cs : List ℕ) → Ascending cs → 1 < length cs → (o : ℕ) × (o ≡ v → ⊥) × Memᴰ o cs
unfolding Ascending
another v [] a h = absurd (not-suc-le-zero h)
another v (x ∷ []) a h = absurd (omega arith)
another v (x ∷ (y ∷ cs)) a h =
    by_eqb (λ b. (o : ℕ) × (o ≡ v → ⊥) × Memᴰ o (x ∷ (y ∷ cs))) x v
    (λ e. (y, (λ q. omega (arith, a.0 y (Memᴰ.head refl))), Memᴰ.tail (Memᴰ.head refl)))
    (λ n. (x, n, Memᴰ.head refl))

module _ (d : Direction) (g : Terminals) (valid : Chosen g) where
  abbrev n : Network
  n = g.network

  abbrev cs : List ℕ
  cs = g.chosen

  end-reduces : (v i : ℕ) → AtEnd n v i → 1 < length cs → Reduces view d g (leaves g (End v i))
  unfolding leaves into
  end-reduces v i h two = go (has v cs) refl
    where
      e : Link
      e = link_at n i

      go : (b : Bool) → has v cs ≡ b → Reduces view d g (factored b (λ c. value c e) (end_left v i g))
      go true c =
          let (o, differ, ino) = another v cs valid.ascending two in
          weaken d true zero-le (λ t. t) (equal d true (ap (λ k. S * k) (sym
          (end_step d n valid.valid cs v i h (into (across v e) v cs) (into-onto (across v e) v cs) (has-mem v cs c) o differ ino))))
      go false c = rw (c, into) (loose-step d n valid.valid cs v i h (has-out v cs c))

  series-reduces : (v i j : ℕ) → AtSeriesIn g v i j → Reduces view d g (leaves g (Series v i j))
  unfolding leaves
  series-reduces v i j h = go (has v cs) refl
    where
      e : Link
      e = link_at n i

      f : Link
      f = link_at n j

      line : Bool → List ℕ → Terminals
      line b ds = among ds (removed v (joined i j (in_line b v e f) n))

      go : (b : Bool) → has v cs ≡ b → Reduces view d g (factored b (λ c. factor c (value c e) (value c f)) (line b (without v cs)))
      go true c = let t = h.two in let k = h.neighbours c in series-step d n valid.valid cs i j t.order t.place v t.first t.second t.others (has-mem v cs c) k.0 k.1
      go false c =
          let t = h.two in
          subst (λ ds. Reduces view d g (factored false (λ c. factor c (value c e) (value c f)) (line false ds))) (sym (without-none v cs (has-out v cs c)))
          (line_step d n valid.valid cs i j t.order t.place v t.first t.second t.others (has-out v cs c))

  pub reduces : (s : Step) → Fits g s → Reduces view d g (leaves g s)
  unfolding leaves
  reduces OneNode h = one-node-step d n valid.valid cs h
  reduces Disconnected h = disconnected-step d n valid.valid cs h
  reduces (Loop i) h = ⊎_elim (loop-step d n valid.valid cs i) (λ a. astray-step d n valid.valid cs i a.place a.whole a.apart) h
  reduces (Parallel i j) h = parallel-step d n valid.valid cs i j h.order h.place h.alike
  reduces (End v i) h = end-reduces v i h.0 h.1
  reduces (Series v i j) h = series-reduces v i j h
  reduces (Split i) h = split_step d n valid.valid cs i h.0 _ (into-onto _ _ cs)

-- a node goes, with a factor or without
one_less : (g : Terminals) (k : Direction → ℕ) (v : ℕ) → Memᴰ v g.network.nodes → (b : Bool) (h : Terminals) → h.network.nodes ≡ without v g.network.nodes → Fewer view g (factored b k h)
one_less g k v m true h e = rw e (without-less v g.network.nodes m)
one_less g k v m false h e = rw e (without-length v g.network.nodes)

fewer : (g : Terminals) (s : Step) → Fits g s → Fewer view g (leaves g s)
unfolding leaves
fewer g OneNode h = tt
fewer g Disconnected h = tt
fewer g (Loop i) h = le_refl _
fewer g (Parallel i j) h = le_refl _
fewer g (End v i) h = one_less g _ v h.0.node (has v g.chosen) (end_left v i g) refl
fewer g (Series v i j) h = one_less g _ v h.two.node (has v g.chosen) (series_left v i j g) refl
fewer g (Split i) h = (without-length _ g.network.nodes, le_refl _)

pub lawful : Lawful Chosen view step_at
lawful = record {
  uniform = uniform;
  values = λ g valid. valued valid.valid;
  left = λ m g h i at. left_in m g h (next_at i g) (fits-at g h.valid i at);
  none_left = λ g h i. settled-in g h.size (next_at i g) (fits-at g h.valid i (λ here. absurd (omega (arith, h.size))));
  fewer = λ g valid i at. fewer g (next_at i g) (fits-at g valid i at);
  reduces = λ d g valid i at. reduces d g valid (next_at i g) (fits-at g valid i at);
}

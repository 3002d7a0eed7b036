-- What a step leaves is a valid network with one link less.
use Prim.Native.Nat.{ℕ, suc, ◌≤◌, ◌<◌}
use mathlib.Core.Path.{◌≡◌, sym, subst}
use mathlib.Core.Logic.{⊎_elim}
use native.Mathlib.Omega.{arith}
use lib.ListN.{length, set, length-set, length-map}
use lib.Seq.{lt-length-set}
use Rattle.rounding.specs.Rounding.{S}
use Rattle.rounding.specs.declared.Direction.{Direction}
use Rattle.rounding.specs.declared.Direction.TheVariants.{Down, Up}
use Rattle.reliability.specs.declared.Link.{Link}
use Rattle.reliability.specs.Networks.{Network, Proper, Valid, ends, linked, link_at}
use Rattle.reliability.specs.Rule.{deleted, removed, joined, across, contracted}
use Rattle.reliability.proofs.Lists.{length-delete}
use Rattle.reliability.proofs.Lawful.{Sized}
use Rattle.reliability.proofs.States.{Off}
use Rattle.reliability.proofs.Steps.{Clear, AtEnd, AtSeries, AtSplit, view}
use Rattle.reliability.proofs.Validity.{proper-at, across-proper, deleted-valid, joined-valid, removed-valid, contracted-valid, mem-joined}

-- a valid network of m links
abbrev pub SizedNetwork : ℕ → Network → Type 0
SizedNetwork = Sized Valid view

module _ (m : ℕ) (g : Network) (h : SizedNetwork (suc m) g) where
  proper : {i : ℕ} → i < length g.links → Proper g.nodes (link_at g i)
  proper {i} = proper-at g h.valid i

  pub deleted-sized : {i : ℕ} → i < length g.links → SizedNetwork m (deleted i g)
  deleted-sized {i} k = record { valid = deleted-valid g h.valid i; size = omega (arith, length-delete g.links k) }

  pub joined-sized : {i j : ℕ} (e : Link) → i < j → j < length g.links → Proper g.nodes e → SizedNetwork m (joined i j e g)
  joined-sized {i} {j} e o k p = record {
    valid = joined-valid g h.valid i j e o p;
    size = omega (arith, length-delete (set g.links i e) (lt-length-set g.links i e k), length-set g.links i e);
  }

  removed-sized : (v : ℕ) (f : Network) → SizedNetwork m f → Clear v f.links → SizedNetwork m (removed v f)
  removed-sized v f k off = record { valid = removed-valid f k.valid v off; size = k.size }

  pub end-sized : (v i : ℕ) → AtEnd g v i → SizedNetwork m (removed v (deleted i g))
  end-sized v i k = removed-sized v (deleted i g) (deleted-sized k.place) k.others

  -- two links at v become one, of whatever value
  pub across-sized : (v i j : ℕ) → AtSeries g v i j → (x : Direction → ℕ) → ((d : Direction) → x d ≤ S) → x Down ≤ x Up
      → SizedNetwork m (removed v (joined i j (linked (across v (link_at g i)) (across v (link_at g j)) x) g))
  across-sized v i j k x range order =
      let e = link_at g i in
      let f = link_at g j in
      let new = linked (across v e) (across v f) x in
      let fits : Proper g.nodes new = across-proper g.nodes e f (proper (omega arith)) (proper k.place) v x range order in
      let off : Clear v (joined i j new g).links =
      λ y n. ⊎_elim (λ (r : y ≡ new). subst (λ (y : Link). Off v (ends y)) (sym r) (k.first.differ, k.second.differ)) (k.others y) (mem-joined g.links i j k.order n) in
      removed-sized v (joined i j new g) (joined-sized new k.order k.place fits) off

  pub contracted-sized : (i : ℕ) → AtSplit g i → SizedNetwork m (contracted (link_at g i) (deleted i g))
  contracted-sized i k =
      let broken = deleted-sized k.place in
      record { valid = contracted-valid (deleted i g) broken.valid (link_at g i) (proper k.place) k.differ; size = simp length-map broken.size }

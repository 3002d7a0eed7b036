-- What keeps a network valid: deletion, joining, removal of a node, contraction.
use Prim.Native.Nat.{ℕ, ◌<◌, ◌≤◌, min, max}
use mathlib.Core.Path.{◌≡◌, refl, sym, subst}
use mathlib.Core.List.Memᴰ
use mathlib.Core.List.{List, [], ◌∷◌, ◌++◌, Memᴰ}
use mathlib.Core.Bool.{Bool, true, false, cond}
use mathlib.Core.Logic.{◌⊎◌, inl, inr, ⊎_elim}
use native.Mathlib.Omega.{arith}
use native.Mathlib.Decide.{dec_le}
use lib.Dec.{eqb}
use lib.ListN.{length, set}
use borrow.Author.Tests.{eqb-false}
use Rattle.rounding.specs.Rounding.{S}
use Rattle.rounding.specs.declared.Direction.{Direction}
use Rattle.rounding.specs.declared.Direction.TheVariants.{Down, Up}
use Rattle.rounding.proofs.Operations.{parallel-range, parallel-order}
use Rattle.reliability.specs.declared.Link.{Link}
use Rattle.reliability.specs.Networks.{Network, Ascending, Proper, Valid, ends, value, linked, link_at}
use Rattle.reliability.specs.Rule.{across, in_parallel, rename, renamed, delete_at, without, deleted, removed, joined, contracted}
use Rattle.reliability.proofs.Lists.{mem-delete, mem-set, delete-set, getD-mem, mem-without, without-mem}
use Rattle.reliability.proofs.Lawful.{Valued}
use Rattle.reliability.proofs.States.{Joins, Off}

pub value-linked : (d : Direction) (a b : ℕ) (v : Direction → ℕ) → value d (linked a b v) ≡ v d
value-linked Down a b v = refl
value-linked Up a b v = refl

pub ascending-without : (v : ℕ) (vs : List ℕ) → Ascending vs → Ascending (without v vs)
unfolding Ascending without
ascending-without v [] h = tt
ascending-without v (u ∷ vs) h = go (eqb u v) (ascending-without v vs h.1)
  where
    go : (t : Bool) → Ascending (without v vs) → Ascending (elim t [ true ↦ without v vs | false ↦ u ∷ without v vs ])
    go true k = k
    go false k = (λ w m. h.0 w (mem-without v w vs m).0, k)

-- a link in the place of link i, with link j gone: itself, or one of the others
pub mem-joined : {e f : Link} (es : List Link) (i j : ℕ) → i < j → Memᴰ f (delete_at j (set es i e)) → (f ≡ e) ⊎ Memᴰ f (delete_at i (delete_at j es))
mem-joined {e} {f} es i j h m = mem-set (delete_at j es) i (subst (Memᴰ f) (delete-set es i j e h) m)

-- ---- links

pub across-node : (vs : List ℕ) (v : ℕ) (e : Link) → Proper vs e → Memᴰ (across v e) vs
across-node vs v e p = go (eqb e.a v)
  where
    go : (t : Bool) → Memᴰ (cond t e.b e.a) vs
    go true = p.b_node
    go false = p.a_node

-- a link joins the larger of its ends to the smaller
pub larger-smaller : (e : Link) → Joins (ends e) (max e.a e.b) (min e.a e.b)
larger-smaller e = go (dec_le e.a e.b)
  where
    go : Dec (e.a ≤ e.b) → Joins (ends e) (max e.a e.b) (min e.a e.b)
    go (yes h) = inr (omega arith, omega arith)
    go (no h) = inl (omega arith, omega arith)

pub smaller-node : (vs : List ℕ) (e : Link) → Proper vs e → Memᴰ (min e.a e.b) vs
smaller-node vs e p = ⊎_elim (λ q. Memᴰ.cast (sym q.1) p.b_node) (λ q. Memᴰ.cast (sym q.0) p.a_node) (larger-smaller e)

pub larger-node : (vs : List ℕ) (e : Link) → Proper vs e → Memᴰ (max e.a e.b) vs
larger-node vs e p = ⊎_elim (λ q. Memᴰ.cast (sym q.0) p.a_node) (λ q. Memᴰ.cast (sym q.1) p.b_node) (larger-smaller e)

module _ (vs : List ℕ) (e f : Link) (p : Proper vs e) (q : Proper vs f) where
  pub parallel-proper : Proper vs (in_parallel e f)
  parallel-proper =
      record {
        a_node = p.a_node;
        b_node = p.b_node;
        range = λ d. rw value-linked (parallel-range d (value d e) (value d f) (p.range d) (q.range d));
        order = parallel-order p.order (p.range Up) q.order (q.range Up);
      }

  -- the neighbours of v joined by a link of whatever value
  pub across-proper : (v : ℕ) (x : Direction → ℕ) → ((d : Direction) → x d ≤ S) → x Down ≤ x Up → Proper vs (linked (across v e) (across v f) x)
  across-proper v x range order =
      record { a_node = across-node vs v e p; b_node = across-node vs v f q; range = λ d. rw value-linked (range d); order = order }

-- ---- networks

pub valued : {g : Network} → Valid g → Valued g.links
valued valid = record { range = λ d e m. (valid.proper e m).range d; order = λ e m. (valid.proper e m).order }

module _ (g : Network) (valid : Valid g) where
  pub proper-at : (i : ℕ) → i < length g.links → Proper g.nodes (link_at g i)
  proper-at i h = valid.proper (link_at g i) (getD-mem g.links _ h)

  pub deleted-valid : (i : ℕ) → Valid (deleted i g)
  deleted-valid i = record { ascending = valid.ascending; proper = λ e m. valid.proper e (mem-delete i g.links m) }

  pub joined-valid : (i j : ℕ) (e : Link) → i < j → Proper g.nodes e → Valid (joined i j e g)
  joined-valid i j e h p = record {
    ascending = valid.ascending;
    proper = λ f m. ⊎_elim (λ q. subst (Proper g.nodes) (sym q) p) (λ n. valid.proper f (mem-delete j g.links (mem-delete i (delete_at j g.links) n))) (mem-joined g.links i j h m);
  }

  pub removed-valid : (v : ℕ) → ((e : Link) → Memᴰ e g.links → Off v (ends e)) → Valid (removed v g)
  removed-valid v off = record {
    ascending = ascending-without v g.nodes valid.ascending;
    proper = λ e m. let p = valid.proper e m in
        record { a_node = without-mem v e.a g.nodes p.a_node (off e m).0; b_node = without-mem v e.b g.nodes p.b_node (off e m).1; range = p.range; order = p.order };
  }

  module _ (e : Link) (p : Proper g.nodes e) (differ : e.a ≡ e.b → ⊥) where
    abbrev keep : ℕ
    keep = min e.a e.b

    abbrev gone : ℕ
    gone = max e.a e.b

    rename-node : (u : ℕ) → Memᴰ u g.nodes → Memᴰ (rename keep gone u) (without gone g.nodes)
    rename-node u n = go (eqb u gone) refl
      where
        go : (t : Bool) → eqb u gone ≡ t → Memᴰ (cond t keep u) (without gone g.nodes)
        go true q = without-mem gone keep g.nodes (smaller-node g.nodes e p) (λ r. differ (omega arith))
        go false q = without-mem gone u g.nodes n (eqb-false u gone q)

    pub contracted-valid : Valid (contracted e g)
    contracted-valid = record {
      ascending = ascending-without gone g.nodes valid.ascending;
      proper = λ f m.
          let (k, n, q) = Memᴰ.of_map (renamed keep gone) g.links m in
          let r = valid.proper k n in
          subst (Proper (without gone g.nodes)) q (record { a_node = rename-node k.a r.a_node; b_node = rename-node k.b r.b_node; range = λ d. rw value-linked (r.range d); order = r.order });
    }

-- ---- networks that are built link by link

pub empty-valid : (vs : List ℕ) → Ascending vs → Valid (record { nodes = vs; links = [] })
empty-valid vs h = record { ascending = h; proper = λ e m. absurd (Memᴰ.not-nil m) }

pub appended-valid : (g : Network) → Valid g → (e : Link) → Proper g.nodes e → Valid (record { nodes = g.nodes; links = g.links ++ (e ∷ []) })
appended-valid g valid e p = record {
  ascending = valid.ascending;
  proper = λ f m. ⊎_elim (valid.proper f) (λ n. subst (Proper g.nodes) (sym (Memᴰ.eq_of_singleton n)) p) (Memᴰ.append_cases g.links m);
}

-- Paths carried from one network to another: what keeps a network connected.
use Prim.Native.Nat.{ℕ, ◌<◌, min, max}
use mathlib.Core.Path.{◌≡◌, refl, sym, ap, ◌∙◌, subst}
use mathlib.Core.List.Memᴰ
use mathlib.Core.List.{List, map, Memᴰ}
use mathlib.Core.Logic.{◌⊎◌, inl, inr, ⊎_map, ⊎_elim}
use mathlib.Core.Bool.{cond}
use native.Mathlib.Nat.{lt_trans}
use native.Mathlib.Omega.{arith}
use lib.ListN.{length, get_or, set}
use Rattle.reliability.specs.declared.Link.{Link}
use Rattle.reliability.specs.Networks.{Network, Ends, ends, link_at, Path, here, forth, back}
use Rattle.reliability.specs.Rule.{across, rename, renamed, delete_at, without, removed, joined, in_parallel}
use Rattle.reliability.specs.Terminals.{Terminals, among, end_left, sound_left}
use Rattle.reliability.specs.Simple.{anchors, Connected, side_by_side}
use Rattle.reliability.proofs.Lists.{by_eqb, length-delete, getD-mem, getD-delete, mem-delete, delete-set, set-mem-new, set-mem-other, mem-other, mem-without}
use Rattle.reliability.proofs.Connection.{join, turn, connected-means}
use Rattle.reliability.proofs.States.{Joins, Off, rename-gone, rename-other}
use Rattle.reliability.proofs.Validity.{larger-smaller, mem-joined}
use Rattle.reliability.proofs.Steps.{Leg, AtPair, AtEnd, AtSeries, AtSplit}
use Rattle.reliability.proofs.Chosen.{into-onto}

-- a map of the nodes by which each link of t becomes a path of s takes every path of t to a path of s
pub path-map : (t s : List Ends) (φ : ℕ → ℕ) → ((e : Ends) → Memᴰ e t → Path s (φ e.a) (φ e.b)) → {u w : ℕ} → Path t u w → Path s (φ u) (φ w)
path-map t s φ h here = here
path-map t s φ h (forth {e = e} m p) = join (h e m) (path-map t s φ h p)
path-map t s φ h (back {e = e} m p) = join (turn (h e m)) (path-map t s φ h p)

-- h has its chosen nodes, and the first ends of its links, from those of g
pub record From (g h : Terminals) (φ : ℕ → ℕ) : Type 0 where
  pub chosen : (w : ℕ) → Memᴰ w h.chosen → (v : ℕ) × Memᴰ v g.chosen × (φ v ≡ w)
  pub links : (f : Link) → Memᴰ f h.network.links → (e : Link) × Memᴰ e g.network.links × (φ e.a ≡ f.a)

-- and where each link of g becomes a path, h is connected if g is
onto-connected : (g h : Terminals) (φ : ℕ → ℕ) → From g h φ
    → ((e : Link) → Memᴰ e g.network.links → Path (map ends h.network.links) (φ e.a) (φ e.b))
    → Connected g → Connected h
onto-connected g h φ from paths c = (connected-means (anchors h) s).1 (λ u w m n.
    let (u', m', p) = anchored u m in
    let (w', n', q) = anchored w n in
    rw (← p, ← q) (path-map t s φ each ((connected-means (anchors g) t).0 c u' w' m' n')))
  where
    t : List Ends
    t = map ends g.network.links

    s : List Ends
    s = map ends h.network.links

    each : (e : Ends) → Memᴰ e t → Path s (φ e.a) (φ e.b)
    each e m = let (f, n, q) = Memᴰ.of_map ends g.network.links m in subst (λ (e : Ends). Path s (φ e.a) (φ e.b)) q (paths f n)

    anchored : (w : ℕ) → Memᴰ w (anchors h) → (v : ℕ) × Memᴰ v (anchors g) × (φ v ≡ w)
    anchored w m = ⊎_elim
        (λ n. let (v, k, q) = from.chosen w n in (v, Memᴰ.append_left _ k, q))
        (λ n. let (f, k, q) = Memᴰ.of_map (λ (e : Link). e.a) h.network.links n in let (e, l, r) = from.links f k in (e.a, Memᴰ.append_right g.chosen (Memᴰ.map (λ (e : Link). e.a) l), r ∙ q))
        (Memᴰ.append_cases h.chosen m)

-- ---- paths of one link

link-path : {e : Link} {es : List Link} → Memᴰ e es → Path (map ends es) e.a e.b
link-path m = forth (Memᴰ.map ends m) here

-- a path from v to w leads from end to end of a link that joins them
either_way : {t : List Ends} (φ : ℕ → ℕ) (e : Link) (v w : ℕ) → Joins (ends e) v w → Path t (φ v) (φ w) → Path t (φ e.a) (φ e.b)
either_way φ e v w (inl p) q = rw (p.0, p.1) q
either_way φ e v w (inr p) q = rw (p.0, p.1) (turn q)

-- the ends of a link that does not touch v keep their names
off-path : {t : List Ends} (w v : ℕ) (e : Link) → Off v (ends e) → Path t e.a e.b → Path t (rename w v e.a) (rename w v e.b)
off-path w v e off p = rw (rename-other w v off.0, rename-other w v off.1) p

-- ---- link i is contracted

rename-keep : (keep gone : ℕ) → rename keep gone keep ≡ keep
rename-keep keep gone = by_eqb (λ b. cond b keep keep ≡ keep) keep gone (λ e. refl) (λ n. refl)

module _ (g h : Terminals) (i keep gone : ℕ) (joins : Joins (ends (link_at g.network i)) gone keep) (from : From g h (rename keep gone)) where
  -- where each other link becomes a path, what is left is connected
  contracting : ((e : Link) → Memᴰ e g.network.links → (e ≡ link_at g.network i) ⊎ Path (map ends h.network.links) (rename keep gone e.a) (rename keep gone e.b))
      → Connected g → Connected h
  contracting others =
      onto-connected g h (rename keep gone) from
      (λ e m. ⊎_elim (λ (q : e ≡ link_at g.network i). rw q (either_way (rename keep gone) (link_at g.network i) gone keep joins (rw (rename-gone keep gone, rename-keep keep gone) here))) (λ p. p) (others e m))

-- ---- links i and j become one

-- a link is one of the two, or one of the others
which : (es : List Link) (i j : ℕ) (z : Link) → i < j → {e : Link} → Memᴰ e es → (e ≡ get_or es i z) ⊎ ((e ≡ get_or es j z) ⊎ Memᴰ e (delete_at i (delete_at j es)))
which es i j z order m = ⊎_elim (λ q. inr (inl q)) (λ n. ⊎_map (λ q. q ∙ getD-delete es i j z order) (λ o. inr o) (mem-other (delete_at j es) i z n)) (mem-other es j z m)

module _ (g : Network) (i j : ℕ) (new : Link) (order : i < j) (there : j < length g.links) where
  abbrev left : List Ends
  left = map ends (joined i j new g).links

  path-left : {e : Link} → Memᴰ e (set (delete_at j g.links) i new) → Path left e.a e.b
  path-left {e} m = link-path (subst (Memᴰ e) (sym (delete-set g.links i j new order)) m)

  new-path : Path left new.a new.b
  new-path = path-left (set-mem-new (delete_at j g.links) i new (omega (arith, length-delete g.links there)))

  other_path : {e : Link} → Memᴰ e (delete_at i (delete_at j g.links)) → Path left e.a e.b
  other_path m = path-left (set-mem-other (delete_at j g.links) i new m)

-- ---- each step leaves a connected network connected

pub pair-connected : (g : Terminals) (i j : ℕ) → AtPair g.network i j → Connected g → Connected (among g.chosen (side_by_side i j g.network))
pair-connected g i j h =
    let n = g.network in
    let e = link_at n i in
    let f = link_at n j in
    let new = in_parallel e f in
    let path : Path (map ends (side_by_side i j n).links) e.a e.b = new-path n i j new h.order h.place in
    onto-connected g (among g.chosen (side_by_side i j n)) (λ v. v)
    (record {
      chosen = λ w m. (w, m, refl);
      links = λ k m. ⊎_elim
          (λ (q : k ≡ new). (e, getD-mem n.links _ (lt_trans h.order h.place), ap (λ (l : Link). l.a) (sym q)))
          (λ o. (k, mem-delete j n.links (mem-delete i (delete_at j n.links) o), refl)) (mem-joined n.links i j h.order m);
    })
    (λ k m. ⊎_elim
    (λ (q : k ≡ e). rw q path)
    (⊎_elim (λ (q : k ≡ f). rw q (either_way (λ v. v) f e.a e.b h.alike path)) (other_path n i j new h.order h.place))
    (which n.links i j _ h.order m))

pub end-connected : (g : Terminals) (v i : ℕ) → AtEnd g.network v i → Connected g → Connected (end_left v i g)
end-connected g v i h =
    let n = g.network in
    let w = across v (link_at n i) in
    contracting g (end_left v i g) i w v h.leg.joins
    (record {
      chosen = (into-onto w v g.chosen).from;
      links = λ f m. (f, mem-delete i n.links m, rename-other w v (h.others f m).0);
    })
    (λ e m. ⊎_map (λ q. q) (λ k. off-path w v e (h.others e k) (link-path k)) (mem-other n.links i _ m))

-- the first end of a link at v is v or its neighbour
to-neighbour : (v : ℕ) (e : Link) → Leg v e → rename (across v e) v e.a ≡ across v e
to-neighbour v e leg = ⊎_elim (λ p. ap (rename (across v e) v) p.0 ∙ rename-gone (across v e) v) (λ p. ap (rename (across v e) v) p.0 ∙ rename-other (across v e) v leg.differ) leg.joins

-- two links at v become one that joins its neighbours, of whatever value
pub series-connected : (g : Terminals) (v i j : ℕ) → AtSeries g.network v i j → (new : Link) → new.a ≡ across v (link_at g.network i) → new.b ≡ across v (link_at g.network j)
    → Connected g → Connected (among (without v g.chosen) (removed v (joined i j new g.network)))
series-connected g v i j h new one two =
    let n = g.network in
    let e = link_at n i in
    let f = link_at n j in
    let w = across v e in
    contracting g (among (without v g.chosen) (removed v (joined i j new n))) i w v h.first.joins
    (record {
      chosen = λ u m. let k = mem-without v u g.chosen m in (u, k.0, rename-other w v k.1);
      links = λ k m. ⊎_elim
          (λ (q : k ≡ new). (e, getD-mem n.links _ (lt_trans h.order h.place), to-neighbour v e h.first ∙ sym one ∙ ap (λ (l : Link). l.a) (sym q)))
          (λ o. (k, mem-delete j n.links (mem-delete i (delete_at j n.links) o), rename-other w v (h.others k o).0)) (mem-joined n.links i j h.order m);
    })
    (λ k m. ⊎_map (λ q. q)
    (⊎_elim
    (λ (q : k ≡ f). rw q (either_way (rename w v) f v (across v f) h.second.joins (rw (rename-gone w v, rename-other w v h.second.differ, ← one, ← two) (new-path n i j new h.order h.place))))
    (λ o. off-path w v k (h.others k o) (other_path n i j new h.order h.place o)))
    (which n.links i j _ h.order m))

pub contracted-connected : (g : Terminals) (i : ℕ) → AtSplit g.network i → Connected g → Connected (sound_left i g)
contracted-connected g i h =
    let n = g.network in
    let e = link_at n i in
    let keep = min e.a e.b in
    let gone = max e.a e.b in
    contracting g (sound_left i g) i keep gone (larger-smaller e)
    (record {
      chosen = (into-onto keep gone g.chosen).from;
      links = λ f m. let (k, o, q) = Memᴰ.of_map (renamed keep gone) (delete_at i n.links) m in (k, mem-delete i n.links o, ap (λ (l : Link). l.a) q);
    })
    (λ f m. ⊎_map (λ q. q) (λ k. link-path (Memᴰ.map (renamed keep gone) k)) (mem-other n.links i _ m))

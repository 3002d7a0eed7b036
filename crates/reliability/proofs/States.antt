-- Sums over the states of the links: what each reduction does to the sum.
use Prim.Native.Nat.{ℕ, zero, suc, ◌+◌, ◌*◌, ◌≤◌, ◌<◌, zero-le}
use mathlib.Core.Path.{◌≡◌, refl, sym, ap, ap₂, ◌∙◌}
use mathlib.Core.List.Memᴰ
use mathlib.Core.List.{List, [], ◌∷◌, map, Memᴰ}
use mathlib.Core.Bool.{Bool, true, false, cond}
use mathlib.Core.Logic.Iff
use mathlib.Core.Logic.{◌↔◌, ◌⊎◌, inl, inr}
use lib.Dec.{eqb}
use lib.ListN.{length, get_or, set, length-set}
use lib.Seq.{get_or-set_same}
use borrow.Author.Tests.{eq-eqb, ne_eqb}
use native.Mathlib.Nat.{add-mul, mul-zero, add-zero, mul-le-mul_left, mul-le-mul_right, add-le-add, le_refl, le_trans, le_antisymm, not-suc-le-zero, le_of_suc-le-suc}
use native.Mathlib.Omega.{arith}
use Rattle.rounding.proofs.Laws.{ring, rearranged}
use Rattle.reliability.specs.Networks.{Ends, every, connected}
use Rattle.reliability.specs.Exact.{Weighted, sum, total}
use Rattle.reliability.specs.Rule.{delete_at, without, rename}
use Rattle.reliability.proofs.Lists.{by_eqb, length-delete, getD-delete, delete-set, set-delete, mem-without, without-mem}
use Rattle.reliability.proofs.Connection.{Const, Conn, connected-sound, connected-complete, connected-eq, not-connected}

-- e joins v and w, either way round
abbrev pub Joins : Ends → ℕ → ℕ → Type 0
Joins e v w = ((e.a ≡ v) × (e.b ≡ w)) ⊎ ((e.a ≡ w) × (e.b ≡ v))

-- e does not touch v
abbrev pub Off : ℕ → Ends → Type 0
Off v e = (e.a ≡ v → ⊥) × (e.b ≡ v → ⊥)

abbrev pub AllOff : ℕ → List Weighted → Type 0
AllOff v es = (e : Weighted) → Memᴰ e es → Off v e.joins

abbrev pub moved : ℕ → ℕ → Weighted → Weighted
moved keep gone e = record { joins = record { a = rename keep gone e.joins.a; b = rename keep gone e.joins.b }; sound = e.sound; broken = e.broken }

-- a colouring gives the ends of e one colour where it gives v and w one
joins-colour : (e : Ends) (v w : ℕ) → Joins e v w → (χ : ℕ → ℕ) → (χ e.a ≡ χ e.b) ↔ (χ v ≡ χ w)
joins-colour e v w (inl p) χ = (λ h. cc, λ h. cc)
joins-colour e v w (inr p) χ = (λ h. cc, λ h. cc)

same_ends : (e f : Ends) (v w : ℕ) → Joins e v w → Joins f v w → (χ : ℕ → ℕ) → (χ e.a ≡ χ e.b) ↔ (χ f.a ≡ χ f.b)
same_ends e f v w p q χ = Iff.trans (joins-colour e v w p χ) (Iff.symm (joins-colour f v w q χ))

-- ---- sets, and the links added to them

-- what connects more adds no less
sum-grows : (vs : List ℕ) (es : List Weighted) (t s : List Ends) → ((χ : ℕ → ℕ) → Const χ s → Const χ t) → sum vs es t ≤ sum vs es s
unfolding sum
sum-grows vs [] t s h = go (connected vs t) refl
  where
    go : (b : Bool) → connected vs t ≡ b → cond b 1 0 ≤ cond (connected vs s) 1 0
    go true e = rw (connected-complete vs s (λ χ c. connected-sound vs t e χ (h χ c))) (le_refl 1)
    go false e = zero-le
sum-grows vs (f ∷ es) t s h =
    add-le-add
    (mul-le-mul_left f.sound (sum-grows vs es (f.joins ∷ t) (f.joins ∷ s) (λ χ c. (c.0, h χ c.1))))
    (mul-le-mul_left f.broken (sum-grows vs es t s h))

sum_same : (vs : List ℕ) (es : List Weighted) (t s : List Ends) → ((χ : ℕ → ℕ) → Const χ t ↔ Const χ s) → sum vs es t ≡ sum vs es s
sum_same vs es t s h = le_antisymm (sum-grows vs es t s (λ χ. (h χ).1)) (sum-grows vs es s t (λ χ. (h χ).0))

-- more links connect more
pub sum_more : (vs : List ℕ) (es : List Weighted) (e : Ends) (t : List Ends) → sum vs es t ≤ sum vs es (e ∷ t)
sum_more vs es e t = sum-grows vs es t (e ∷ t) (λ χ c. c.1)

pub sum-total : (vs : List ℕ) (es : List Weighted) (t : List Ends) → sum vs es t ≤ total es
unfolding sum total
sum-total vs [] t = go (connected vs t)
  where
    go : (b : Bool) → cond b 1 0 ≤ 1
    go true = le_refl 1
    go false = zero-le
sum-total vs (e ∷ es) t =
    rw add-mul (add-le-add (mul-le-mul_left e.sound (sum-total vs es (e.joins ∷ t))) (mul-le-mul_left e.broken (sum-total vs es t)))

-- one node: every set connects it
pub one-node : (vs : List ℕ) (es : List Weighted) (t : List Ends) → length vs ≤ 1 → sum vs es t ≡ total es
unfolding sum total connected every
one-node [] [] t h = refl
one-node (v ∷ []) [] t h = refl
one-node (v ∷ u ∷ vs) [] t h = absurd (not-suc-le-zero (le_of_suc-le-suc h))
one-node vs (e ∷ es) t h = rw (one-node vs es (e.joins ∷ t) h, one-node vs es t h) (sym (add-mul e.sound e.broken (total es)))

-- what all links do not connect, no set of them does
pub none-connects : (vs : List ℕ) (es : List Weighted) → connected vs (map (λ e. e.joins) es) ≡ false → sum vs es [] ≡ 0
unfolding sum
none-connects vs es h = go es [] (λ χ c. (c, tt))
  where
    all : List Ends
    all = map (λ e. e.joins) es

    go : (fs : List Weighted) (t : List Ends) → ((χ : ℕ → ℕ) → Const χ all → Const χ (map (λ e. e.joins) fs) × Const χ t) → sum vs fs t ≡ 0
    go [] t k = let l = rw h at (sum-grows vs [] t all (λ χ c. (k χ c).1)) in omega arith
    go (f ∷ fs) t k =
        rw (go fs (f.joins ∷ t) (λ χ c. let r = k χ c in (r.0.1, (r.0.0, r.1))), go fs t (λ χ c. let r = k χ c in (r.0.1, r.1)))
        (simp (mul-zero, add-zero))

four : (x y u v p q r s : ℕ) → u * (x * p + y * q) + v * (x * r + y * s) ≡ x * (u * p + v * r) + y * (u * q + v * s)
four x y u v p q r s = simp ring

in-line : (x y u v A B : ℕ) → u * (x * A + y * B) + v * (x * B + y * B) ≡ x * u * A + (x * v + y * u + y * v) * B
in-line x y u v A B = simp ring

-- any link may come first
pub front : (vs : List ℕ) (es : List Weighted) (t : List Ends) (i : ℕ) (z : Weighted) → i < length es
    → sum vs es t ≡ (get_or es i z).sound * sum vs (delete_at i es) ((get_or es i z).joins ∷ t) + (get_or es i z).broken * sum vs (delete_at i es) t
unfolding sum delete_at
front vs [] t i z h = absurd (not-suc-le-zero h)
front vs (f ∷ es) t zero z h = refl
front vs (f ∷ es) t (suc i) z h =
    let e = get_or es i z in
    let l = le_of_suc-le-suc h in
    let swap = sum_same vs (delete_at i es) (e.joins ∷ f.joins ∷ t) (f.joins ∷ e.joins ∷ t) (λ χ. (λ c. (c.1.0, (c.0, c.1.1)), λ c. (c.1.0, (c.0, c.1.1)))) in
    rw (front vs es (f.joins ∷ t) i z l, front vs es t i z l, swap) (four e.sound e.broken f.sound f.broken _ _ _ _)

-- step 1: a loop connects nothing more
pub loop-idle : (vs : List ℕ) (es : List Weighted) (e : Ends) → e.a ≡ e.b → sum vs es (e ∷ []) ≡ sum vs es []
loop-idle vs es e l = sum_same vs es (e ∷ []) [] (λ χ. (λ c. c.1, λ c. (ap χ l, c)))

pub loop-law : (vs : List ℕ) (es : List Weighted) (i : ℕ) (z : Weighted) → i < length es → (get_or es i z).joins.a ≡ (get_or es i z).joins.b
    → sum vs es [] ≡ ((get_or es i z).sound + (get_or es i z).broken) * sum vs (delete_at i es) []
loop-law vs es i z h l =
    let e = get_or es i z in
    front vs es [] i z h
    ∙ rw (loop-idle vs (delete_at i es) e.joins l) (sym (add-mul e.sound e.broken _))

front-two : (vs : List ℕ) (es : List Weighted) (i j : ℕ) (z : Weighted) → i < j → j < length es
    → let e = get_or es i z in let f = get_or es j z in let others = delete_at i (delete_at j es) in
    sum vs es [] ≡ f.sound * (e.sound * sum vs others (e.joins ∷ f.joins ∷ []) + e.broken * sum vs others (f.joins ∷ [])) + f.broken * (e.sound * sum vs others (e.joins ∷ []) + e.broken * sum vs others [])
front-two vs es i j z h k =
    front vs es [] j z k ∙ ap₂ (λ p q. (get_or es j z).sound * p + (get_or es j z).broken * q) (then ((get_or es j z).joins ∷ [])) (then [])
  where
    then : (t : List Ends)
        → sum vs (delete_at j es) t ≡ (get_or es i z).sound * sum vs (delete_at i (delete_at j es)) ((get_or es i z).joins ∷ t) + (get_or es i z).broken * sum vs (delete_at i (delete_at j es)) t
    then t = rw (getD-delete es i j z h) at (front vs (delete_at j es) t i z (omega (arith, length-delete es k)))

-- step 4: of two links on the same two ends either will do
pub parallel-law : (vs : List ℕ) (es : List Weighted) (i j : ℕ) (z : Weighted) → i < j → j < length es
    → (v w : ℕ) → Joins (get_or es i z).joins v w → Joins (get_or es j z).joins v w
    → let e = get_or es i z in let f = get_or es j z in let others = delete_at i (delete_at j es) in
    sum vs es [] ≡ (e.sound * f.sound + (e.sound * f.broken + e.broken * f.sound)) * sum vs others (e.joins ∷ []) + e.broken * f.broken * sum vs others []
parallel-law vs es i j z h k v w p q =
    let e = get_or es i z in
    let f = get_or es j z in
    let others = delete_at i (delete_at j es) in
    let ef = same_ends e.joins f.joins v w p q in
    front-two vs es i j z h k
    ∙ rw (
      sum_same vs others (e.joins ∷ f.joins ∷ []) (e.joins ∷ []) (λ χ. (λ c. (c.0, tt), λ c. (c.0, ((ef χ).0 c.0, tt)))),
      sum_same vs others (f.joins ∷ []) (e.joins ∷ []) (λ χ. (λ c. ((ef χ).1 c.0, tt), λ c. ((ef χ).0 c.0, tt))),
    ) (simp ring)

-- a link put in the place of link i, with link j gone
pub joined-law : (vs : List ℕ) (es : List Weighted) (i j : ℕ) (m : Weighted) → i < j → j < length es
    → let others = delete_at i (delete_at j es) in
    sum vs (delete_at j (set es i m)) [] ≡ m.sound * sum vs others (m.joins ∷ []) + m.broken * sum vs others []
joined-law vs es i j m h k =
    let l : i < length (delete_at j es) = omega (arith, length-delete es k) in
    rw (delete-set es i j m h)
    (rw (get_or-set_same (delete_at j es) i m m l, set-delete (delete_at j es) i m) at (front vs (set (delete_at j es) i m) [] i m (rw length-set l)))

-- ---- contraction

pub rename-gone : (keep gone : ℕ) → rename keep gone gone ≡ keep
rename-gone keep gone = rw (eq-eqb gone gone refl)

pub rename-other : (keep gone : ℕ) {v : ℕ} → (v ≡ gone → ⊥) → rename keep gone v ≡ v
rename-other keep gone {v} n = rw (ne_eqb v gone n)

-- where both have one colour, a node keeps its own
rename-colour : (χ : ℕ → ℕ) {keep gone : ℕ} → χ keep ≡ χ gone → (v : ℕ) → χ (rename keep gone v) ≡ χ v
rename-colour χ {keep} {gone} h v = by_eqb (λ b. χ (cond b keep v) ≡ χ v) v gone (λ e. h ∙ ap χ (sym e)) (λ n. refl)

moved-off : (keep gone : ℕ) (es : List Weighted) → AllOff gone es → map (moved keep gone) es ≡ es
moved-off keep gone [] off = refl
moved-off keep gone (e ∷ es) off =
    let o = off e (Memᴰ.head refl) in
    rw (rename-other keep gone o.0, rename-other keep gone o.1, moved-off keep gone es (λ f m. off f (Memᴰ.tail m)))

-- ws are the nodes vs with gone renamed to keep: what has to be connected after a contraction
pub record Onto (keep gone : ℕ) (vs ws : List ℕ) : Type 0 where
  pub into : (v : ℕ) → Memᴰ v vs → Memᴰ (rename keep gone v) ws
  pub from : (w : ℕ) → Memᴰ w ws → (v : ℕ) × Memᴰ v vs × (rename keep gone v ≡ w)

-- where keep is among them, gone goes
pub onto-kept : (vs : List ℕ) (keep gone : ℕ) → (keep ≡ gone → ⊥) → Memᴰ keep vs → Onto keep gone vs (without gone vs)
onto-kept vs keep gone differ ink = record {
  into = λ v m. by_eqb (λ b. Memᴰ (cond b keep v) (without gone vs)) v gone (λ e. without-mem gone keep vs ink differ) (λ n. without-mem gone v vs m n);
  from = λ w m. let k = mem-without gone w vs m in (w, k.0, rename-other keep gone k.1);
}

-- where gone is not among them, they stay
pub onto_same : (vs : List ℕ) (keep gone : ℕ) → (Memᴰ gone vs → ⊥) → Onto keep gone vs vs
onto_same vs keep gone out = record { into = λ v m. Memᴰ.cast (same v m) m; from = λ w m. (w, m, same w m) }
  where
    same : (v : ℕ) → Memᴰ v vs → rename keep gone v ≡ v
    same v m = rename-other keep gone (λ e. out (Memᴰ.cast (sym e) m))

module _ (vs ws : List ℕ) (keep gone : ℕ) (differ : keep ≡ gone → ⊥) (onto : Onto keep gone vs ws) where
  -- s is t with gone renamed to keep: the colourings of s are those of t, and t gives keep and gone one colour
  abbrev Contracts : List Ends → List Ends → Type 0
  Contracts t s = (χ : ℕ → ℕ) → (Const χ s → Const (λ v. χ (rename keep gone v)) t) × (Const χ t → (χ keep ≡ χ gone) × Const χ s)

  contracted-connected : (t s : List Ends) → Contracts t s → connected vs t ≡ connected ws s
  contracted-connected t s k = connected-eq vs ws t s out into
    where
      out : Conn vs t → Conn ws s
      out c χ h p q mp mq =
          let (p', np, ep) = onto.from p mp in
          let (q', nq, eq) = onto.from q mq in
          ap χ (sym ep) ∙ c (λ v. χ (rename keep gone v)) ((k χ).0 h) p' q' np nq ∙ ap χ eq

      into : Conn ws s → Conn vs t
      into c χ h p q mp mq =
          let r = (k χ).1 h in
          sym (rename-colour χ r.0 p) ∙ c χ r.1 (rename keep gone p) (rename keep gone q) (onto.into p mp) (onto.into q mq) ∙ rename-colour χ r.0 q

  contracted : (es : List Weighted) (t s : List Ends) → Contracts t s → sum vs es t ≡ sum ws (map (moved keep gone) es) s
  unfolding sum
  contracted [] t s k = ap (λ b. cond b 1 0) (contracted-connected t s k)
  contracted (e ∷ es) t s k =
      ap₂ (λ p q. e.sound * p + e.broken * q) (contracted es (e.joins ∷ t) ((moved keep gone e).joins ∷ s) with-e) (contracted es t s k)
    where
      with-e : Contracts (e.joins ∷ t) ((moved keep gone e).joins ∷ s)
      with-e χ = (
        λ c. (c.0, (k χ).0 c.1),
        λ c. let r = (k χ).1 c.1 in (r.0, (rename-colour χ r.0 e.joins.a ∙ c.0 ∙ sym (rename-colour χ r.0 e.joins.b), r.1)),
      )

  -- a link between the two is contracted to nothing
  contracts : (e : Ends) → Joins e gone keep → Contracts (e ∷ []) []
  contracts e j χ = (
    λ c. ((joins-colour e gone keep j (λ v. χ (rename keep gone v))).1 (ap χ (rename-gone keep gone ∙ sym (rename-other keep gone differ))), tt),
    λ c. (sym ((joins-colour e gone keep j χ).0 c.0), tt),
  )

  -- of two links at gone one is left, between their other ends
  contracts-two : (u : ℕ) → (u ≡ gone → ⊥) → (e f : Ends) → Joins e gone keep → Joins f gone u → Contracts (e ∷ f ∷ []) (record { a = keep; b = u } ∷ [])
  contracts-two u ud e f p q χ = let k = contracts e p χ in (
    λ c. ((k.0 tt).0, ((joins-colour f gone u q (λ v. χ (rename keep gone v))).1 (ap χ (rename-gone keep gone) ∙ c.0 ∙ ap χ (sym (rename-other keep gone ud))), tt)),
    λ c. let kg = (k.1 (c.0, tt)).0 in (kg, (kg ∙ (joins-colour f gone u q χ).0 c.1.0, tt)),
  )

  -- links that do not touch gone stay as they are
  shrunk : (es : List Weighted) → AllOff gone es → (t s : List Ends) → Contracts t s → sum vs es t ≡ sum ws es s
  shrunk es off t s k = contracted es t s k ∙ ap (λ l. sum ws l s) (moved-off keep gone es off)

  pub pendant : (es : List Weighted) → AllOff gone es → (e : Ends) → Joins e gone keep → sum vs es (e ∷ []) ≡ sum ws es []
  pendant es off e j = shrunk es off (e ∷ []) [] (contracts e j)

-- a node that no link touches, with another beside it: nothing connects
lone : (vs : List ℕ) (es : List Weighted) (v w : ℕ) → (w ≡ v → ⊥) → Memᴰ v vs → Memᴰ w vs → AllOff v es → sum vs es [] ≡ 0
lone vs es v w differ inv inw off =
    none-connects vs es (not-connected vs _ (λ c. let h = c χ (same es off) w v inw inv in omega (arith, dark w differ, light)))
  where
    χ : ℕ → ℕ
    χ u = cond (eqb u v) 1 0

    light : χ v ≡ 1
    light = rw (eq-eqb v v refl)

    dark : (u : ℕ) → (u ≡ v → ⊥) → χ u ≡ 0
    dark u n = rw (ne_eqb u v n)

    same : (fs : List Weighted) → AllOff v fs → Const χ (map (λ e. e.joins) fs)
    same [] o = tt
    same (f ∷ fs) o = let p = o f (Memᴰ.head refl) in (dark f.joins.a p.0 ∙ sym (dark f.joins.b p.1), same fs (λ g m. o g (Memᴰ.tail m)))

module _ (vs : List ℕ) (es : List Weighted) (z : Weighted) (v w : ℕ) (differ : w ≡ v → ⊥) where
  -- step 5: an end that has to be connected with another multiplies, and its neighbour takes its part
  pub end-law : (ws : List ℕ) → Onto w v vs ws → Memᴰ v vs → (o : ℕ) → (o ≡ v → ⊥) → Memᴰ o vs
      → (i : ℕ) → i < length es → Joins (get_or es i z).joins v w → AllOff v (delete_at i es)
      → sum vs es [] ≡ (get_or es i z).sound * sum ws (delete_at i es) []
  end-law ws onto inv o od ino i h j off =
      front vs es [] i z h
      ∙ rw (pendant vs ws w v differ onto (delete_at i es) off (get_or es i z).joins j, lone vs (delete_at i es) v o od inv ino off)
      (simp (mul-zero, add-zero))

  -- step 5: any other end is of no account
  pub loose-law : (Memᴰ v vs → ⊥) → (i : ℕ) → i < length es → Joins (get_or es i z).joins v w → AllOff v (delete_at i es)
      → sum vs es [] ≡ ((get_or es i z).sound + (get_or es i z).broken) * sum vs (delete_at i es) []
  loose-law out i h j off =
      front vs es [] i z h
      ∙ rw (pendant vs vs w v differ (onto_same vs w v out) (delete_at i es) off (get_or es i z).joins j) (sym (add-mul (get_or es i z).sound (get_or es i z).broken _))

  module _ (u : ℕ) (ud : u ≡ v → ⊥) (i j : ℕ) (h : i < j) (k : j < length es) (p : Joins (get_or es i z).joins v w) (q : Joins (get_or es j z).joins v u)
      (off : AllOff v (delete_at i (delete_at j es))) where
    abbrev first : Weighted
    first = get_or es i z

    abbrev second : Weighted
    second = get_or es j z

    abbrev others : List Weighted
    others = delete_at i (delete_at j es)

    -- step 6: two links in series are one, which is broken where one of them alone is
    pub series-law : Memᴰ v vs → Memᴰ w vs → Memᴰ u vs
        → sum vs es [] ≡ first.sound * second.sound * sum (without v vs) others (record { a = w; b = u } ∷ []) + (first.sound * second.broken + first.broken * second.sound) * sum (without v vs) others []
    series-law inv inw inu =
        front-two vs es i j z h k
        ∙ rw (
          shrunk vs (without v vs) w v differ (onto-kept vs w v differ inw) others off (first.joins ∷ second.joins ∷ []) (record { a = w; b = u } ∷ []) (contracts-two vs (without v vs) w v differ (onto-kept vs w v differ inw) u ud first.joins second.joins p q),
          pendant vs (without v vs) u v ud (onto-kept vs u v ud inu) others off second.joins q,
          pendant vs (without v vs) w v differ (onto-kept vs w v differ inw) others off first.joins p,
          lone vs others v w differ inv inw off,
        ) (simp (mul-zero, add-zero, ring))

    -- step 6: at a node that need not hang together they are one, which is sound where both are
    pub line-law : (Memᴰ v vs → ⊥)
        → sum vs es [] ≡ first.sound * second.sound * sum vs others (record { a = w; b = u } ∷ []) + (first.sound * second.broken + first.broken * second.sound + first.broken * second.broken) * sum vs others []
    line-law out =
        front-two vs es i j z h k
        ∙ rw (
          shrunk vs vs w v differ (onto_same vs w v out) others off (first.joins ∷ second.joins ∷ []) (record { a = w; b = u } ∷ []) (contracts-two vs vs w v differ (onto_same vs w v out) u ud first.joins second.joins p q),
          pendant vs vs u v ud (onto_same vs u v out) others off second.joins q,
          pendant vs vs w v differ (onto_same vs w v out) others off first.joins p,
        ) (in-line first.sound first.broken second.sound second.broken _ _)

-- step 3: a link in a piece without any of the nodes vs is of no account; σ tells the pieces apart
module _ (vs : List ℕ) (σ : ℕ → ℕ) (e : Ends) (here : σ e.a ≡ σ e.b) (out : (u : ℕ) → Memᴰ u vs → σ u ≡ σ e.a → ⊥) where
  -- the piece of e in one colour, all else as in χ
  abbrev apart : (ℕ → ℕ) → ℕ → ℕ
  apart χ v = cond (eqb (σ v) (σ e.a)) 0 (χ v)

  const-apart : (χ : ℕ → ℕ) (t : List Ends) → Const σ t → Const χ t → Const (apart χ) t
  const-apart χ [] s c = tt
  const-apart χ (f ∷ t) s c = (ap₂ (λ x y. cond (eqb x (σ e.a)) 0 y) s.0 c.0, const-apart χ t s.1 c.1)

  pub idle-connected : (t : List Ends) → Const σ t → connected vs (e ∷ t) ≡ connected vs t
  idle-connected t s = connected-eq vs vs (e ∷ t) t
      (λ conn χ c u v mu mv. sym (as-in χ u mu) ∙ conn (apart χ) (one χ, const-apart χ t s c) u v mu mv ∙ as-in χ v mv)
      (λ conn χ c. conn χ c.1)
    where
      as-in : (χ : ℕ → ℕ) (u : ℕ) → Memᴰ u vs → apart χ u ≡ χ u
      as-in χ u m = rw (ne_eqb (σ u) (σ e.a) (out u m))

      one : (χ : ℕ → ℕ) → apart χ e.a ≡ apart χ e.b
      one χ = rw (eq-eqb (σ e.a) (σ e.a) refl, eq-eqb (σ e.b) (σ e.a) (sym here))

  idle : (fs : List Weighted) (t : List Ends) → Const σ (map (λ e. e.joins) fs) → Const σ t → sum vs fs (e ∷ t) ≡ sum vs fs t
  unfolding sum
  idle [] t k s = ap (λ b. cond b 1 0) (idle-connected t s)
  idle (f ∷ fs) t k s =
      ap₂ (λ p q. f.sound * p + f.broken * q)
      (sum_same vs fs (f.joins ∷ e ∷ t) (e ∷ f.joins ∷ t) (λ χ. (λ c. (c.1.0, (c.0, c.1.1)), λ c. (c.1.0, (c.0, c.1.1)))) ∙ idle fs (f.joins ∷ t) k.1 (k.0, s))
      (idle fs t k.1 s)

const-front : (σ : ℕ → ℕ) (es : List Weighted) (i : ℕ) (z : Weighted) → i < length es → Const σ (map (λ e. e.joins) es)
    → (σ (get_or es i z).joins.a ≡ σ (get_or es i z).joins.b) × Const σ (map (λ e. e.joins) (delete_at i es))
unfolding delete_at
const-front σ [] i z h c = absurd (not-suc-le-zero h)
const-front σ (f ∷ es) zero z h c = c
const-front σ (f ∷ es) (suc i) z h c = let k = const-front σ es i z (le_of_suc-le-suc h) c.1 in (k.0, (c.0, k.1))

pub astray-law : (vs : List ℕ) (es : List Weighted) (i : ℕ) (z : Weighted) → i < length es
    → (σ : ℕ → ℕ) → Const σ (map (λ e. e.joins) es) → ((u : ℕ) → Memᴰ u vs → σ u ≡ σ (get_or es i z).joins.a → ⊥)
    → sum vs es [] ≡ ((get_or es i z).sound + (get_or es i z).broken) * sum vs (delete_at i es) []
astray-law vs es i z h σ c out =
    let k = const-front σ es i z h c in
    front vs es [] i z h ∙ rw (idle vs σ (get_or es i z).joins k.0 out (delete_at i es) [] k.1 tt) (sym (add-mul (get_or es i z).sound (get_or es i z).broken _))

-- step 7: the sets that hold a link are those of the contracted network
pub contraction : (vs ws : List ℕ) (es : List Weighted) (e : Ends) (keep gone : ℕ) → (keep ≡ gone → ⊥) → Onto keep gone vs ws → Joins e gone keep
    → sum vs es (e ∷ []) ≡ sum ws (map (moved keep gone) es) []
contraction vs ws es e keep gone differ onto j = contracted vs ws keep gone differ onto es (e ∷ []) [] (contracts vs ws keep gone differ onto e j)

-- the same links with other weights: each sound weight is the larger share of its total on the right
abbrev pub Raised : Weighted → Weighted → Type 0
Raised e f = (e.joins ≡ f.joins) × (e.sound * (f.sound + f.broken) ≤ f.sound * (e.sound + e.broken))

pub data AllRaised : List Weighted → List Weighted → Type 0 where
  nil : AllRaised [] []
  cons : {e f : Weighted} {es fs : List Weighted} → Raised e f → AllRaised es fs → AllRaised (e ∷ es) (f ∷ fs)

larger-share : (x y x' y' : ℕ) {a b : ℕ} → x * (x' + y') ≤ x' * (x + y) → b ≤ a → (x * a + y * b) * (x' + y') ≤ (x' * a + y' * b) * (x + y)
larger-share x y x' y' {a} {b} h k =
    let rest : y * (x' + y') * b + x * (x' + y') * b ≡ x' * (x + y) * b + y' * (x + y) * b = simp ring in
    let left : (x * a + y * b) * (x' + y') ≡ x * (x' + y') * a + y * (x' + y') * b = simp ring in
    let right : (x' * a + y' * b) * (x + y) ≡ x' * (x + y) * a + y' * (x + y) * b = simp ring in
    omega (arith, rearranged h k)

-- raising a value raises the sum
pub raised : (vs : List ℕ) (es fs : List Weighted) (t : List Ends) → AllRaised es fs → sum vs es t * total fs ≤ sum vs fs t * total es
unfolding sum total
raised vs es fs t nil = le_refl _
raised vs es fs t (cons {e} {f} {es = es'} {fs = fs'} r rs) =
    let a = raised vs es' fs' (e.joins ∷ t) rs in
    let b = raised vs es' fs' t rs in
    let first = mul-le-mul_right (total fs') (larger-share e.sound e.broken f.sound f.broken r.1 (sum_more vs es' e.joins t)) in
    let then = mul-le-mul_left (e.sound + e.broken) (add-le-add (mul-le-mul_left f.sound a) (mul-le-mul_left f.broken b)) in
    rw (← r.0) (simp ring (le_trans (simp ring at first) (simp ring at then)))

-- From a link's low and high value to the exact weights between them.
use Prim.Native.Nat.{ℕ, zero, suc, ◌+◌, ◌-◌, ◌*◌, ◌^◌, ◌≤◌, ◌<◌, zero-le, suc-le-suc}
use mathlib.Core.Path.{◌≡◌, refl, sym, ap, ◌∙◌}
use mathlib.Core.List.{List, [], ◌∷◌, map, Memᴰ}
use mathlib.Core.Bool.{true}
use native.Mathlib.Nat.{mul_comm, mul-add, add-mul, add-sub_of_le, mul-le-mul_right, le_refl, le_trans, le_of_eq, le_of_mul-le-mul_right, le_of_suc-le-suc, not-suc-le-zero, one-le-pow, mul-pos, pow-succ'}
use native.Mathlib.Omega.{arith}
use lib.Dec.{lit<}
use lib.ListN.{length, get_or}
use Rattle.rounding.specs.Rounding.{S}
use Rattle.rounding.specs.declared.Direction.{Direction}
use Rattle.rounding.specs.declared.Direction.TheVariants.{Down, Up}
use Rattle.rounding.proofs.Laws.{ring}
use Rattle.rounding.proofs.Operations.{shares as portions}
use Rattle.reliability.specs.declared.Link.{Link}
use Rattle.reliability.specs.declared.Figure.{Figure}
use Rattle.reliability.specs.Networks.{Ends, ends, value}
use Rattle.reliability.specs.Exact.{Weighted, weighted, sum, total, Enclosed, AllEnclosed, nil, cons, altogether}
use Rattle.reliability.specs.Rule.{side, delete_at, renamed, rename}
use Rattle.reliability.proofs.States.{moved, sum_more, sum-total}
use Rattle.reliability.proofs.Within.{Within, equal, weaken, trans, plus, by, same, cancelled, shares}
use Rattle.reliability.proofs.Lawful.{over, Valued}

pub power_pos : (m : ℕ) → 0 < S ^ m
power_pos m = one-le-pow m S (lit< tt)

-- ---- the exact sum at one direction's values beside that of the weights

within : (d : Direction) {c : ℕ} {e : Link} {w : Weighted} → Enclosed c e w → Within d true (c * (w.sound + w.broken)) (value d e * (w.sound + w.broken)) (S * w.sound)
within Down h = record { bounds = h.low; close = λ _. h.low_near }
within Up h = record { bounds = h.high; close = λ _. h.high_near }

-- one link more: p of S beside s of s + b; A and A' with it sound, B and B' with it broken
module _ (d : Direction) (p s b c C A B A' B' T P : ℕ) where
  split-left : (U q σ : ℕ) → σ * (p * (U * A' * T) + q * (U * B' * T)) ≡ U * (p * A' + q * B') * (σ * T)
  split-left U q σ = simp ring

  split-mid : (U q σ : ℕ) → U * P * (p * σ * A + q * σ * B) ≡ σ * (p * (U * A * P) + q * (U * B * P))
  split-mid U q σ = simp ring

  split-right : (U : ℕ) → U * P * (U * s * A + U * b * B) ≡ U * (s * A + b * B) * (U * P)
  split-right U = simp ring

  split-units : (U σ : ℕ) → σ * (U * (C * (T * P))) + U * P * (c * σ * T) ≡ (c + C) * (σ * T * (U * P))
  split-units U σ = simp ring

  one_more : p ≤ S → B ≤ A → A ≤ T → Within d true (c * (s + b)) (p * (s + b)) (S * s)
      → Within d true (C * (T * P)) (S * A' * T) (S * A * P) → Within d true (C * (T * P)) (S * B' * T) (S * B * P)
      → Within d true ((c + C) * ((s + b) * T * (S * P))) (S * (p * A' + (S - p) * B') * ((s + b) * T)) (S * (s * A + b * B) * (S * P))
  one_more hp less most w sound broken =
      let σ = s + b in
      let first = by d σ (plus d (by d p sound) (by d (S - p) broken)) in
      let second = by d (S * P) (shares d (p * σ) ((S - p) * σ) (S * s) (S * b) A B T (portions p σ hp ∙ mul-add S s b) less most w) in
      weaken d true (le_of_eq (ap (λ k. σ * k + S * P * (c * σ * T)) (portions p (C * (T * P)) hp) ∙ split-units S σ)) (λ t. t)
      (same d (split-left S (S - p) σ) (split-right S) (trans d first (same d (split-mid S (S - p) σ) refl second)))

later : {e : Link} {es : List Link} → Valued (e ∷ es) → Valued es
later h = record { range = λ d f m. h.range d f (Memᴰ.tail m); order = λ f m. h.order f (Memᴰ.tail m) }

pub near : (d : Direction) (vs : List ℕ) {cs : List ℕ} {es : List Link} {ws : List Weighted} → Valued es → AllEnclosed cs es ws → (t : List Ends)
    → Within d true (altogether cs * (total ws * S ^ length es)) (S * sum vs (map (weighted d) es) t * total ws) (S * sum vs ws t * S ^ length es)
unfolding sum total altogether
near d vs v nil t = weaken d true zero-le (λ t. t) (equal d true refl)
near d vs v (cons {c} {e} {w} {cs} {es} {ws} h hs) t =
    let sound = rw (← h.joins) at (near d vs (later v) hs (w.joins ∷ t)) in
    rw (← h.joins, pow-succ' S (length es))
    (one_more d (value d e) w.sound w.broken c (altogether cs) (sum vs ws (ends e ∷ t)) (sum vs ws t) (sum vs (map (weighted d) es) (ends e ∷ t)) (sum vs (map (weighted d) es) t) (total ws) (S ^ length es)
    (v.range d e (Memᴰ.head refl)) (sum_more vs ws (ends e) t) (sum-total vs ws (ends e ∷ t)) (within d h) sound (near d vs (later v) hs t))

-- ---- figures beside the exact weights

-- a figure bounds S times N over T from its side, and a finished one is off by at most c units
abbrev pub Near : Direction → ℕ → ℕ → ℕ → Figure → Type 0
Near d c T N f = Within d f.finished (c * T) (side d f * T) (S * N)

to-right : (x T P : ℕ) → T * (x * P) ≡ x * T * P
to-right x T P = simp ring

in_all : (B C T P : ℕ) → T * (B * P) + C * (T * P) ≡ (B + C) * T * P
in_all B C T P = simp ring

-- what is near the exact sum at its own direction's values is near that of the weights
pub near-weights : (d : Direction) (c : ℕ) (f : Figure) (vs : List ℕ) {cs : List ℕ} {es : List Link} {ws : List Weighted} → Valued es → AllEnclosed cs es ws
    → Near d c (S ^ length es) (over d vs es) f → Near d (c + altogether cs) (total ws) (sum vs ws []) f
near-weights d c f vs {cs} {es} {ws} v h given =
    let T = total ws in
    let P = S ^ length es in
    cancelled d P (power_pos (length es))
    (weaken d f.finished (le_of_eq (in_all c (altogether cs) T P)) (λ t. t)
    (same d (to-right (side d f) T P) refl
    (trans d (by d T given) (same d (mul_comm (S * over d vs es) T) refl (weaken d f.finished (le_refl _) (λ t. refl) (near d vs v h []))))))

-- both figures
module _ (c T N : ℕ) (f : Figure) (some : 0 < T) (given : (d : Direction) → Near d c T N f) where
  pub low-below-high : f.low ≤ f.high
  low-below-high = le_of_mul-le-mul_right (le_trans (given Down).bounds (given Up).bounds) some

  pub no-wider : f.finished ≡ true → f.high ≤ f.low + (c + c)
  no-wider done =
      let low = (given Down).close done in
      let high = (given Up).close done in
      le_of_mul-le-mul_right {k = T} (omega (arith, add-mul f.low (c + c) T, add-mul c c T)) some

-- ---- weights of fewer links

pub total-pos : {cs : List ℕ} {es : List Link} {ws : List Weighted} → AllEnclosed cs es ws → 0 < total ws
unfolding total
total-pos nil = lit< tt
total-pos (cons h hs) = mul-pos h.some (total-pos hs)

-- there are as many weights as links, and those of a link are between its ends
pub all-at : {cs : List ℕ} {es : List Link} {ws : List Weighted} → AllEnclosed cs es ws → (i : ℕ) → i < length es → (e : Link) (w : Weighted) → (i < length ws) × (ends (get_or es i e) ≡ (get_or ws i w).joins)
all-at nil i h e w = absurd (not-suc-le-zero h)
all-at (cons k ks) zero h e w = (suc-le-suc zero-le, k.joins)
all-at (cons k ks) (suc i) h e w = let n = all-at ks i (le_of_suc-le-suc h) e w in (suc-le-suc n.0, n.1)

pub all-deleted : (i : ℕ) {cs : List ℕ} {es : List Link} {ws : List Weighted} → AllEnclosed cs es ws → AllEnclosed (delete_at i cs) (delete_at i es) (delete_at i ws)
unfolding delete_at
all-deleted i nil = nil
all-deleted zero (cons h hs) = hs
all-deleted (suc i) (cons h hs) = cons h (all-deleted i hs)

renamed-ends : (keep gone : ℕ) → Ends → Ends
renamed-ends keep gone e = record { a = rename keep gone e.a; b = rename keep gone e.b }

pub all_renamed : (keep gone : ℕ) {cs : List ℕ} {es : List Link} {ws : List Weighted} → AllEnclosed cs es ws → AllEnclosed cs (map (renamed keep gone) es) (map (moved keep gone) ws)
unfolding renamed-ends
all_renamed keep gone nil = nil
all_renamed keep gone (cons h hs) =
    cons (record { joins = ap (renamed-ends keep gone) h.joins; some = h.some; low = h.low; low_near = h.low_near; high = h.high; high_near = h.high_near }) (all_renamed keep gone hs)

pub total-moved : (keep gone : ℕ) (ws : List Weighted) → total (map (moved keep gone) ws) ≡ total ws
unfolding total
total-moved keep gone [] = refl
total-moved keep gone (w ∷ ws) = ap (λ n. (w.sound + w.broken) * n) (total-moved keep gone ws)

-- ---- values in order

-- what lies between a link's low and high value, in units
abbrev pub gaps : List Link → List ℕ
gaps = map (λ (e : Link). e.high - e.low)

-- a link's low value as its weights: the high one is off by what lies between
pub link-enclosed : (c : ℕ) (e : Link) → e.low ≤ S → e.low ≤ e.high → e.high ≤ e.low + c → Enclosed c e (weighted Down e)
link-enclosed c e range order near =
    let all : e.low + (S - e.low) ≡ S = add-sub_of_le range in
    let turned : e.low * S ≡ S * e.low = mul_comm e.low S in
    record {
      joins = refl;
      some = rw all (lit< tt);
      low = rw all (le_of_eq turned);
      low_near = rw all (omega arith);
      high = rw all (le_trans (le_of_eq (sym turned)) (mul-le-mul_right S order));
      high_near = rw all (omega (arith, mul-le-mul_right S near, add-mul e.low c S));
    }

-- the low values as exact weights
pub low-enclosed : (es : List Link) → Valued es → AllEnclosed (gaps es) es (map (weighted Down) es)
low-enclosed [] h = nil
low-enclosed (e ∷ es) h =
    let order : e.low ≤ e.high = h.order e (Memᴰ.head refl) in
    cons {e = e} {w = weighted Down e} (link-enclosed (e.high - e.low) e (h.range Down e (Memᴰ.head refl)) order (omega arith)) (low-enclosed es (later h))

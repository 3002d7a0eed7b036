-- Bytes written one part after the other; those behind them stay.
use Prim.Native.Nat.{ℕ, zero, suc, ◌+◌, ◌*◌, ◌≤◌}
use mathlib.Core.Path.{◌≡◌, refl, sym, ap, ◌∙◌}
use mathlib.Core.List.{List, [], ◌∷◌, ◌++◌, append_assoc, append-nil}
use native.Mathlib.Nat.{zero-add}
use native.Mathlib.Numerals.{add-one}
use native.Mathlib.Omega.{arith}
use lib.ListN.{length, take, drop, get_or, length-append, take-append-drop}
use lib.Seq.{take_at, drop-drop, drop-append-add, length-take-le}
use Rattle.words.specs.Words.{le2, le4, with16, with32}
use Rattle.saved.proofs.Laws.{words_size}
use Rattle.saved.specs.Format.{words, row_places, row_pairs, begun_bytes, over}

-- ---- one part more

-- bytes q written from place k on, behind the k bytes p
pub filled : (p q b w : List ℕ) (k m : ℕ) → length p ≡ k → w ≡ p ++ drop k b → take k w ++ q ++ drop (k + m) w ≡ p ++ q ++ drop (k + m) b
filled p q b w k m e h =
    let behind : drop (k + m) w ≡ drop (k + m) b = ap (drop (k + m)) h ∙ ap (λ n. drop (n + m) (p ++ drop k b)) (sym e) ∙ drop-append-add p (drop k b) m ∙ drop-drop m k b in
    let front : take k w ≡ p = ap (take k) h ∙ take_at p (drop k b) k e in
    rw (behind, front) refl

-- ---- numbers of four bytes

pub words_append : (xs ys : List ℕ) → words (xs ++ ys) ≡ words xs ++ words ys
unfolding words
words_append [] ys = refl
words_append (x ∷ xs) ys = ap (λ l. le4 x ++ l) (words_append xs ys)

-- ---- rows

pub places-size : (row : List ℕ) (i k : ℕ) → length (row_places row i k) ≡ k
unfolding row_places
places-size row i zero = refl
places-size row i (suc k) = ap suc (places-size row (suc i) k)

pub pairs-size : (row : List ℕ) (i k : ℕ) → length (row_pairs row i k) ≡ 2 * k
unfolding row_pairs
pairs-size row i zero = refl
pairs-size row i (suc k) = omega (arith, pairs-size row (suc i) k)

-- the next number, or pair, stands last
places-last : (row : List ℕ) (i k : ℕ) → row_places row i (suc k) ≡ row_places row i k ++ (get_or row (3 * (i + k)) 0 ∷ [])
unfolding row_places
places-last row i zero = ap (λ n. get_or row (3 * n) 0 ∷ []) (omega arith)
places-last row i (suc k) = ap (λ l. get_or row (3 * i) 0 ∷ l) (places-last row (suc i) k ∙ ap (λ n. row_places row (suc i) k ++ (get_or row (3 * n) 0 ∷ [])) (omega arith))

pairs-last : (row : List ℕ) (i k : ℕ) → row_pairs row i (suc k) ≡ row_pairs row i k ++ (get_or row (3 * (i + k) + 1) 0 ∷ get_or row (3 * (i + k) + 2) 0 ∷ [])
unfolding row_pairs
pairs-last row i zero = ap (λ n. get_or row (3 * n + 1) 0 ∷ get_or row (3 * n + 2) 0 ∷ []) (omega arith)
pairs-last row i (suc k) =
    ap (λ l. get_or row (3 * i + 1) 0 ∷ get_or row (3 * i + 2) 0 ∷ l)
    (pairs-last row (suc i) k ∙ ap (λ n. row_pairs row (suc i) k ++ (get_or row (3 * n + 1) 0 ∷ get_or row (3 * n + 2) 0 ∷ [])) (omega arith))

-- ---- the loops

-- i places behind the sizes
abbrev pub places_put : List ℕ → List ℕ → ℕ → List ℕ
places_put b row i = take 8 b ++ words (row_places row 0 i) ++ drop (8 + 4 * i) b

-- i pairs behind c places
abbrev pub pairs_put : List ℕ → List ℕ → ℕ → ℕ → List ℕ
pairs_put b row c i = take (8 + 4 * c) b ++ words (row_pairs row 0 i) ++ drop (8 + 4 * c + 8 * i) b

pub places-none : (b row : List ℕ) → b ≡ places_put b row 0
unfolding row_places words
places-none b row = sym (append-nil-left b)
  where
    append-nil-left : (b : List ℕ) → take 8 b ++ [] ++ drop 8 b ≡ b
    append-nil-left b = ap (λ l. l ++ drop 8 b) (append-nil (take 8 b)) ∙ take-append-drop 8 b

pub places-more : (b row w w' : List ℕ) (i : ℕ) → 8 ≤ length b → w ≡ places_put b row i → w' ≡ with32 w (8 + 4 * i) (get_or row (3 * i) 0) → w' ≡ places_put b row (i + 1)
unfolding words
places-more b row w w' i room h e =
    let W = words (row_places row 0 i) in
    let x = get_or row (3 * i) 0 in
    let size : length (take 8 b ++ W) ≡ 8 + 4 * i = omega (arith, length-append (take 8 b) W, length-take-le 8 b room, words_size (row_places row 0 i), places-size row 0 i) in
    let last : words (row_places row 0 (i + 1)) ≡ W ++ le4 x = ap (λ n. words (row_places row 0 n)) (add-one i) ∙ ap words (places-last row 0 i ∙ ap (λ n. row_places row 0 i ++ (get_or row (3 * n) 0 ∷ [])) (zero-add i)) ∙ words_append (row_places row 0 i) (x ∷ []) in
    let end : 8 + 4 * i + 4 ≡ 8 + 4 * (i + 1) = omega arith in
    e ∙ filled (take 8 b ++ W) (le4 x) b w (8 + 4 * i) 4 size h
    ∙ ap (λ l. l ++ drop (8 + 4 * i + 4) b) (append_assoc (take 8 b) W (le4 x) ∙ ap (λ l. take 8 b ++ l) (sym last))
    ∙ ap (λ n. take 8 b ++ words (row_places row 0 (i + 1)) ++ drop n b) end

pub pairs-none : (b row : List ℕ) (c : ℕ) → b ≡ pairs_put b row c 0
unfolding row_pairs words
pairs-none b row c = sym (ap (λ l. l ++ drop (8 + 4 * c + 8 * 0) b) (append-nil (take (8 + 4 * c) b)) ∙ ap (λ n. take (8 + 4 * c) b ++ drop n b) end ∙ take-append-drop (8 + 4 * c) b)
  where
    end : 8 + 4 * c + 8 * 0 ≡ 8 + 4 * c
    end = omega arith

pub pairs-more : (b row w w' w'' : List ℕ) (c i : ℕ) → 8 + 4 * c ≤ length b → w ≡ pairs_put b row c i
    → w' ≡ with32 w (8 + 4 * c + 8 * i) (get_or row (3 * i + 1) 0) → w'' ≡ with32 w' (8 + 4 * c + 8 * i + 4) (get_or row (3 * i + 2) 0) → w'' ≡ pairs_put b row c (i + 1)
unfolding words
pairs-more b row w w' w'' c i room h e f =
    let p = take (8 + 4 * c) b in
    let W = words (row_pairs row 0 i) in
    let k = 8 + 4 * c + 8 * i in
    let y = get_or row (3 * i + 1) 0 in
    let z = get_or row (3 * i + 2) 0 in
    let size : length (p ++ W) ≡ k = omega (arith, length-append p W, length-take-le (8 + 4 * c) b room, words_size (row_pairs row 0 i), pairs-size row 0 i) in
    let size' : length (p ++ W ++ le4 y) ≡ k + 4 = omega (arith, length-append (p ++ W) (le4 y)) in
    let last : words (row_pairs row 0 (i + 1)) ≡ W ++ (le4 y ++ le4 z) = ap (λ n. words (row_pairs row 0 n)) (add-one i) ∙ ap words (pairs-last row 0 i ∙ ap (λ n. row_pairs row 0 i ++ (get_or row (3 * n + 1) 0 ∷ get_or row (3 * n + 2) 0 ∷ [])) (zero-add i)) ∙ words_append (row_pairs row 0 i) (y ∷ z ∷ []) in
    let end : k + 4 + 4 ≡ 8 + 4 * c + 8 * (i + 1) = omega arith in
    f ∙ filled (p ++ W ++ le4 y) (le4 z) b w' (k + 4) 4 size' (e ∙ filled (p ++ W) (le4 y) b w k 4 size h)
    ∙ ap (λ l. l ++ drop (k + 4 + 4) b) (append_assoc (p ++ W) (le4 y) (le4 z) ∙ append_assoc p W (le4 y ++ le4 z) ∙ ap (λ l. p ++ l) (sym last))
    ∙ ap (λ n. p ++ words (row_pairs row 0 (i + 1)) ++ drop n b) end

-- ---- the whole

pub begun-put : (b row w₁ w₂ w₃ w₄ w₅ : List ℕ) (c n : ℕ) → w₁ ≡ with16 b 0 c → w₂ ≡ with16 w₁ 2 0 → w₃ ≡ with32 w₂ 4 n
    → w₄ ≡ take 8 w₃ ++ words (row_places row 0 c) ++ drop (8 + 4 * c) w₃
    → w₅ ≡ take (8 + 4 * c) w₄ ++ words (row_pairs row 0 c) ++ drop (8 + 12 * c) w₄ → w₅ ≡ over (begun_bytes row c n) b
begun-put b row w₁ w₂ w₃ w₄ w₅ c n e₁ e₂ e₃ e₄ e₅ =
    let P = words (row_places row 0 c) in
    let Q = words (row_pairs row 0 c) in
    let h₁ : w₁ ≡ le2 c ++ drop 2 b = e₁ in
    let h₂ : w₂ ≡ le2 c ++ le2 0 ++ drop 4 b = e₂ ∙ filled (le2 c) (le2 0) b w₁ 2 2 refl h₁ in
    let h₃ : w₃ ≡ le2 c ++ le2 0 ++ le4 n ++ drop 8 b = e₃ ∙ filled (le2 c ++ le2 0) (le4 n) b w₂ 4 4 refl h₂ in
    let h₄ : w₄ ≡ le2 c ++ le2 0 ++ le4 n ++ P ++ drop (8 + 4 * c) b = e₄ ∙ filled (le2 c ++ le2 0 ++ le4 n) P b w₃ 8 (4 * c) refl h₃ in
    let size : length (le2 c ++ le2 0 ++ le4 n ++ P) ≡ 8 + 4 * c = omega (arith, words_size (row_places row 0 c), places-size row 0 c) in
    let end : 8 + 12 * c ≡ 8 + 4 * c + 8 * c = omega arith in
    let whole : 8 + 4 * c + 8 * c ≡ length (begun_bytes row c n) = omega (arith, length-append P Q, words_size (row_places row 0 c), places-size row 0 c, words_size (row_pairs row 0 c), pairs-size row 0 c) in
    e₅ ∙ ap (λ k. take (8 + 4 * c) w₄ ++ Q ++ drop k w₄) end
    ∙ filled (le2 c ++ le2 0 ++ le4 n ++ P) Q b w₄ (8 + 4 * c) (8 * c) size h₄
    ∙ ap (λ k. begun_bytes row c n ++ drop k b) whole

pub complete-put : (b w₁ w₂ w₃ w₄ w₅ w₆ w₇ : List ℕ) (s l h f : ℕ) → w₁ ≡ with16 b 0 0 → w₂ ≡ with16 w₁ 2 1 → w₃ ≡ with32 w₂ 4 s → w₄ ≡ with32 w₃ 8 l → w₅ ≡ with32 w₄ 12 h
    → w₆ ≡ with32 w₅ 16 s → w₇ ≡ with32 w₆ 20 f → w₇ ≡ over (le2 0 ++ le2 1 ++ le4 s ++ (le4 l ++ le4 h ++ le4 s ++ le4 f)) b
complete-put b w₁ w₂ w₃ w₄ w₅ w₆ w₇ s l h f e₁ e₂ e₃ e₄ e₅ e₆ e₇ =
    let h₁ : w₁ ≡ le2 0 ++ drop 2 b = e₁ in
    let h₂ : w₂ ≡ le2 0 ++ le2 1 ++ drop 4 b = e₂ ∙ filled (le2 0) (le2 1) b w₁ 2 2 refl h₁ in
    let h₃ : w₃ ≡ le2 0 ++ le2 1 ++ le4 s ++ drop 8 b = e₃ ∙ filled (le2 0 ++ le2 1) (le4 s) b w₂ 4 4 refl h₂ in
    let h₄ : w₄ ≡ le2 0 ++ le2 1 ++ le4 s ++ le4 l ++ drop 12 b = e₄ ∙ filled (le2 0 ++ le2 1 ++ le4 s) (le4 l) b w₃ 8 4 refl h₃ in
    let h₅ : w₅ ≡ le2 0 ++ le2 1 ++ le4 s ++ le4 l ++ le4 h ++ drop 16 b = e₅ ∙ filled (le2 0 ++ le2 1 ++ le4 s ++ le4 l) (le4 h) b w₄ 12 4 refl h₄ in
    let h₆ : w₆ ≡ le2 0 ++ le2 1 ++ le4 s ++ le4 l ++ le4 h ++ le4 s ++ drop 20 b = e₆ ∙ filled (le2 0 ++ le2 1 ++ le4 s ++ le4 l ++ le4 h) (le4 s) b w₅ 16 4 refl h₅ in
    e₇ ∙ filled (le2 0 ++ le2 1 ++ le4 s ++ le4 l ++ le4 h ++ le4 s) (le4 f) b w₆ 20 4 refl h₆

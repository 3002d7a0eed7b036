-- What is written is read back: `Word` asks it of each of its types.
use Prim.Native.Nat.{ℕ, ◌+◌, ◌/◌, ◌%◌, ◌^◌, ◌≤◌, ◌<◌}
use mathlib.Core.Path.{◌≡◌, ap, ◌∙◌}
use mathlib.Core.List.{List, ◌++◌, append_assoc}
use native.Mathlib.Nat.{mod-eq_of_lt, div-div-eq-div-mul}
use native.Mathlib.Omega.{arith}
use lib.ListN.{length, take, drop}
use lib.Seq.{get_or-append-add, length-take-le}
use Rattle.words.specs.Words.{byte, word16, word32, le2, le4, with16, with32}

-- four bytes of a number of 32 bits make it up again
pub whole32 : (x : ℕ) (rest : List ℕ) → x < 2 ^ 32 → word32 (le4 x ++ rest) 0 ≡ x
whole32 x rest h =
    let top : x / 16777216 % 256 ≡ x / 16777216 = mod-eq_of_lt (omega arith) in
    omega (arith, div-div-eq-div-mul x 256 256, div-div-eq-div-mul x 65536 256)

-- a word behind other bytes
pub behind32 : (p q : List ℕ) (at n : ℕ) → at ≡ length p + n → word32 (p ++ q) at ≡ word32 q n
behind32 p q at n e =
    let moved : (k m : ℕ) → k ≡ length p + m → byte (p ++ q) k ≡ byte q m = λ k m h. ap (byte (p ++ q)) h ∙ get_or-append-add p q m 0 in
    omega (arith, moved at n e, moved (at + 1) (n + 1) (omega arith), moved (at + 2) (n + 2) (omega arith), moved (at + 2 + 1) (n + 2 + 1) (omega arith))

-- what is written is read back
pub read-back32 : (b : List ℕ) (at x : ℕ) → at + 4 ≤ length b → x < 2 ^ 32 → word32 (with32 b at x) at ≡ x
read-back32 b at x room h =
    ap (λ (l : List ℕ). word32 l at) (append_assoc (take at b) (le4 x) (drop (at + 4) b))
    ∙ behind32 (take at b) (le4 x ++ drop (at + 4) b) at 0 (omega (arith, length-take-le at b (omega arith)))
    ∙ whole32 x (drop (at + 4) b) h

-- and of 16 bits
pub read-back16 : (b : List ℕ) (at x : ℕ) → at + 2 ≤ length b → x < 2 ^ 16 → word16 (with16 b at x) at ≡ x
read-back16 b at x room h =
    let moved : (k m : ℕ) → k ≡ length (take at b) + m → byte (take at b ++ (le2 x ++ drop (at + 2) b)) k ≡ byte (le2 x ++ drop (at + 2) b) m = λ k m e. ap (byte (take at b ++ (le2 x ++ drop (at + 2) b))) e ∙ get_or-append-add (take at b) (le2 x ++ drop (at + 2) b) m 0 in
    let taken = length-take-le at b (omega arith) in
    let top : x / 256 % 256 ≡ x / 256 = mod-eq_of_lt (omega arith) in
    ap (λ (l : List ℕ). word16 l at) (append_assoc (take at b) (le2 x) (drop (at + 2) b))
    ∙ omega (arith, moved at 0 (omega (arith, taken)), moved (at + 1) 1 (omega (arith, taken)))

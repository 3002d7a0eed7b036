-- An answer in its bytes, and the numbers that are read back.
use Rattle.std.specs.Prelude.{ℕ, ◌≡◌, List, ◌++◌, Bool, cond, drop}
use Rattle.words.specs.Words.{word32, le4}
use Rattle.reliability.specs.declared.Figure.{Figure}

-- ---- written

-- four numbers in sixteen bytes
abbrev pub answer_words : ℕ → ℕ → ℕ → Bool → List ℕ
answer_words low high steps finished = le4 low ++ le4 high ++ le4 steps ++ le4 (cond finished 1 0)

-- in the first sixteen bytes; later bytes keep their contents
abbrev pub answered : ℕ → ℕ → ℕ → Bool → List ℕ → List ℕ
answered low high steps finished b = answer_words low high steps finished ++ drop 16 b

-- a figure's numbers
abbrev pub answer_bytes : Figure → List ℕ
answer_bytes f = answer_words f.low f.high f.steps f.finished

abbrev pub with_figure : Figure → List ℕ → List ℕ
with_figure f b = answered f.low f.high f.steps f.finished b

-- ---- read back

unfoldable pub low_in : List ℕ → ℕ
low_in b = word32 b 0

unfoldable pub high_in : List ℕ → ℕ
high_in b = word32 b 4

unfoldable pub steps_in : List ℕ → ℕ
steps_in b = word32 b 8

unfoldable pub finished_in : List ℕ → ℕ
finished_in b = word32 b 12

-- a buffer holds a figure's numbers
pub record Holds (b : List ℕ) (f : Figure) : Type 0 where
  pub low : low_in b ≡ f.low
  pub high : high_in b ≡ f.high
  pub steps : steps_in b ≡ f.steps
  pub finished : finished_in b ≡ cond f.finished 1 0

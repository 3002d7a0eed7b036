-- How an answer is read back, and the words in which the demands speak of an outcome.
use Rattle.std.specs.Prelude.{ℕ, ◌+◌, ◌*◌, ◌^◌, ◌≤◌, ◌<◌, ◌≡◌, List, ◌↔◌, cond, ltb, ℤ, pos, ◌-ℤ◌, length, drop, ◌≤ℤ◌}
use Rattle.rounding.specs.Rounding.{S}
use Rattle.reliability.specs.declared.Difference.{Difference}
use Rattle.tables.specs.Tables.{rating}
use Rattle.plan.specs.Plans.{size_n, size_m, plan_of}
use Rattle.plan.specs.Weights.{exact_among, lengths}
use Rattle.causes.specs.Outcomes.{Outcome}
use Rattle.answers.specs.Answers.{low_in, high_in, steps_in, finished_in}

-- a number of 32 bits read as signed: n stands for n, or for n - 2^32 where n is 2^31 or above
unfoldable pub signed : ℕ → ℤ
signed n = cond (ltb n 2147483648) (pos n) (pos n -ℤ pos 4294967296)

-- a buffer holds a difference's numbers, low and high in two's complement
pub record HoldsSigned (b : List ℕ) (d : Difference) : Type 0 where
  pub low : signed (low_in b) ≡ d.low
  pub high : signed (high_in b) ≡ d.high
  pub steps : steps_in b ≡ d.steps
  pub finished : finished_in b ≡ cond d.finished 1 0

-- a pair lies within another if its low is no lower and its high no higher
pub record LiesWithin (second first : List ℕ) : Type 0 where
  pub low : low_in first ≤ low_in second
  pub high : high_in second ≤ high_in first

pub record LiesWithinSigned (second first : List ℕ) : Type 0 where
  pub low : signed (low_in first) ≤ℤ signed (low_in second)
  pub high : signed (high_in second) ≤ℤ signed (high_in first)

-- a pair encloses the exact chance that the nodes cs of a plan under a table are connected, N over S^(m+2L)
pub record EnclosesAmong (cs plan table b : List ℕ) : Type 0 where
  pub low : low_in b * S ^ (size_m plan + 2 * lengths plan) ≤ S * exact_among cs (rating table) plan
  pub high : S * exact_among cs (rating table) plan ≤ high_in b * S ^ (size_m plan + 2 * lengths plan)

-- the exact reliability: that of all nodes
abbrev pub Encloses : (plan table b : List ℕ) → Type 0
Encloses plan table b = EnclosesAmong (plan_of (rating table) plan).nodes plan table b

-- a finished pair is at most 2m + 4n + 4L wide
abbrev pub Narrow : (plan b : List ℕ) → Type 0
Narrow plan b = finished_in b ≡ 1 → high_in b ≤ low_in b + (2 * size_m plan + 4 * size_n plan + 4 * lengths plan)

-- finished, 1, where no more splits are needed than the limit, and unfinished, 0, where more are
pub record Marked (mark needed limit : ℕ) : Type 0 where
  pub finished : mark ≡ 1 ↔ needed ≤ limit
  pub unfinished : mark ≡ 0 ↔ limit < needed

-- ---- an answer or a refusal

-- a full answer: 0 is returned and the buffer holds the answer, its length and its bytes from 16 on as they were
pub record Full (o : Outcome) (b answer : List ℕ) : Type 0 where
  pub zero : o.returned ≡ 0
  pub written : o.buffer ≡ answer
  pub later : drop 16 o.buffer ≡ drop 16 b
  pub size : length o.buffer ≡ length b

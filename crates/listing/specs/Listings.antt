-- The listing of a plan: its text, in ASCII.
use Rattle.std.specs.Prelude.{ℕ, zero, suc, ◌+◌, ◌*◌, ◌≡◌, List, [], ◌++◌, length, take, drop}
use Rattle.ratings.specs.Ratings.{T}
use Rattle.reliability.specs.Networks.{pieces_of}
use Rattle.reliability.specs.Rule.{figure}
use Rattle.plan.specs.Plans.{Verdict}
use Rattle.std.specs.Prelude.{Ok, Err}
use Rattle.plan.specs.Plans.{size_n, size_m, verdict, plan_of}
use Rattle.plan.specs.Weights.{lengths}
pub use Rattle.listing_lines.specs.Entries.{figure_limit, importance_limit, sizes_line, figure_line, line_of, limits_line, refused_line}

-- ---- the lines of the links

-- the links of a plan from i on, k of them
unfoldable pub link_lines : List ℕ → ℕ → ℕ → List ℕ
link_lines plan i zero = []
link_lines plan i (suc k) = line_of plan i ++ link_lines plan (suc i) k

-- ---- the listing, by the built-in table

abbrev pub listing_by : Verdict → List ℕ → List ℕ
listing_by (Ok tt) plan = sizes_line (size_n plan) (size_m plan) (pieces_of (plan_of T plan)) ++ figure_line (figure (plan_of T plan) figure_limit) ++ link_lines plan 0 (size_m plan) ++ limits_line
listing_by (Err c) plan = refused_line c

unfoldable pub listing : List ℕ → List ℕ
listing plan = listing_by (verdict plan) plan

-- ---- how wide an importance may be

-- no finished importance has its high further above its low than this: both evaluations' bounds, each with all m links, L of them given by length, and n nodes
abbrev pub importance_width : List ℕ → ℕ
importance_width plan = 4 * size_m plan + 8 * size_n plan + 8 * lengths plan

-- ---- an input that is read into a buffer

-- n bytes of the buffer are the input, or as much of it as the buffer holds
abbrev pub IsRead : List ℕ → List ℕ → ℕ → Type 0
IsRead input buffer n = take n buffer ≡ take (length buffer) input

-- a text holds the listing of a plan, the bytes behind it as they were before, and its length is known
abbrev pub Lists : List ℕ → List ℕ → List ℕ → ℕ → Type 0
Lists plan before after size = (size ≡ length (listing plan)) × (after ≡ listing plan ++ drop (length (listing plan)) before)

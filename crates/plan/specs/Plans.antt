-- The plan file: what its bytes mean, and why one is refused.
use Rattle.std.specs.Prelude.{ℕ, zero, suc, ◌+◌, ◌-◌, ◌*◌, ◌≤◌, ◌<◌, ◌≡◌, List, map, Bool, true, false, not, ◌&&◌, ◌||◌, eqb, leb, ltb, length, Result, Ok, Err}
pub use Rattle.reader.specs.Layout.{size_n, size_m, first_end, second_end, file_value}
use Rattle.rounding.specs.Rounding.{S}
use Rattle.rounding.specs.declared.Direction.{Direction}
use Rattle.ratings.specs.Ratings.{with_joints}
use Rattle.reliability.specs.declared.Link.{Link}
use Rattle.reliability.specs.Networks.{Network, linked}
use Rattle.search.specs.Searches.{from}
use Rattle.plan.specs.declared.Cause.{Cause}
use Rattle.plan.specs.declared.Cause.TheVariants.{Short, Nodes, Links, Length, End, Value}
use Rattle.plan.specs.declared.Rated.{Rated}
use Rattle.plan.specs.declared.Rated.TheVariants.{Units, OfLength, Unrated}

-- ---- what the file's values stand for

-- a value up to S is in units; 2,147,483,648 + k, k up to 511, is a length of k hundred metres
abbrev pub rated_by : (inUnits is_length : Bool) → ℕ → Rated
rated_by true is_length w = Units w
rated_by false true w = OfLength (w - 2147483648)
rated_by false false w = Unrated

unfoldable pub rated : ℕ → Rated
rated w = rated_by (leb w S) (leb 2147483648 w && leb (w - 2147483648) 511) w

abbrev pub is_rated : Rated → Bool
is_rated (Units v) = true
is_rated (OfLength k) = true
is_rated Unrated = false

-- in units, rounded: a length stands for a cable of the chance that a rating by length gives it, with both its joints
abbrev pub value_of : (rating : ℕ → ℕ) → Direction → Rated → ℕ
value_of rating d (Units v) = v
value_of rating d (OfLength k) = with_joints d (rating k)
value_of rating d Unrated = 0

-- ---- the causes of refusal, in the order in which they are tested

-- accepted, or refused for a cause
abbrev pub Verdict : Type 0
Verdict = Result (Unit {0}) Cause

-- refused where the cause is met, else as the later causes say
abbrev pub refused_if : Bool → Cause → Verdict → Verdict
refused_if true c v = Err c
refused_if false c v = v

-- link i: an end n or above; a value that stands for none
unfoldable pub link_verdict : List ℕ → ℕ → Verdict
link_verdict b i =
    refused_if (leb (size_n b) (first_end b i) || leb (size_n b) (second_end b i)) (End i)
    (refused_if (not (is_rated (rated (file_value b i)))) (Value i)
    (Ok tt))

-- the first of two verdicts that is a refusal
abbrev pub also : {E : Type 0} → Result (Unit {0}) E → Result (Unit {0}) E → Result (Unit {0}) E
also (Ok tt) v = v
also (Err c) v = Err c

-- the links from i on, k of them, in order
unfoldable pub links_verdict : List ℕ → ℕ → ℕ → Verdict
links_verdict b i zero = Ok tt
links_verdict b i (suc k) = also (link_verdict b i) (links_verdict b (suc i) k)

-- causes 1 to 6: under 4 bytes; n is 0 or above 32; m above 64; length not 4 + 6 * m; then the links
unfoldable pub verdict : List ℕ → Verdict
verdict b =
    refused_if (ltb (length b) 4) Short
    (refused_if (eqb (size_n b) 0 || ltb 32 (size_n b)) Nodes
    (refused_if (ltb 64 (size_m b)) Links
    (refused_if (not (eqb (length b) (4 + 6 * size_m b))) Length
    (links_verdict b 0 (size_m b)))))

-- what link i has to be
pub record WellFormedLink (b : List ℕ) (i : ℕ) : Type 0 where
  pub first : first_end b i < size_n b
  pub second : second_end b i < size_n b
  pub valued : is_rated (rated (file_value b i)) ≡ true

-- what a plan has to be: it is accepted exactly then (accepted-means in proofs/Verdicts.antt)
pub record WellFormed (b : List ℕ) : Type 0 where
  pub some_node : 1 ≤ size_n b
  pub nodes : size_n b ≤ 32
  pub links : size_m b ≤ 64
  pub whole : length b ≡ 4 + 6 * size_m b
  pub each : (i : ℕ) → i < size_m b → WellFormedLink b i

-- ---- the paper's numbers

-- the column Number
abbrev pub number : Cause → ℕ
number Short = 1
number Nodes = 2
number Links = 3
number Length = 4
number (End i) = 5
number (Value i) = 6

-- the link that a cause names, or 0
abbrev pub named_link : Cause → ℕ
named_link Short = 0
named_link Nodes = 0
named_link Links = 0
named_link Length = 0
named_link (End i) = i
named_link (Value i) = i

-- the column Returned
abbrev pub returned : Verdict → ℕ
returned (Ok tt) = 0
returned (Err c) = number c + 256 * named_link c

-- ---- the network of an accepted plan, under a rating by length

unfoldable pub link_in : (rating : ℕ → ℕ) → List ℕ → ℕ → Link
link_in rating b i = linked (first_end b i) (second_end b i) (λ d. value_of rating d (rated (file_value b i)))

-- the nodes 0 to n - 1, and the links 0 to m - 1
abbrev pub plan_of : (rating : ℕ → ℕ) → List ℕ → Network
plan_of rating b = record { nodes = from 0 (size_n b); links = map (link_in rating b) (from 0 (size_m b)) }

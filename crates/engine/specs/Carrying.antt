-- What the engine asks of a row of open splits, and what it leaves.
use Rattle.std.specs.Prelude.{ℕ, ◌+◌, ◌*◌, ◌≤◌, ◌≡◌, List, true, length}
use Rattle.std.proofs.lemmas.List.Edits.{sets}
use Rattle.reliability.specs.Rule.{Tree, run}
use Rattle.reliability.specs.Terminals.{Terminals, tree}
use Rattle.sittings.specs.declared.Carried.{Carried}
use Rattle.sittings.specs.Sittings.{aside, resumed, traced}
use Rattle.sittings.specs.Entries.{entries, opens_in, Known, InRange}

-- from place k on the row has c open splits of the work t, with figures in range
pub record Carries (t : Tree) (row : List ℕ) (k c : ℕ) : Type 0 where
  pub size : length row ≡ 192
  pub traces : traced t (opens_in row k c) ≡ true
  pub range : Known InRange (opens_in row k c)

-- the work t under a limit: its figure, and what it sets aside, counted and written from place k of the row on
pub record Worked (t : Tree) (limit : ℕ) (row : List ℕ) (k : ℕ) (r : Carried) (after : List ℕ) : Type 0 where
  pub figure : r.figure ≡ run t limit
  pub count : r.aside ≡ length (aside t limit)
  pub written : after ≡ sets row (3 * k) (entries (aside t limit))

-- the row has c open splits of a network from place k on, and room for all that it can have
abbrev pub Resumable : Terminals → List ℕ → ℕ → ℕ → Type 0
Resumable h row k c = (k + length h.network.links ≤ 64) × Carries (tree h) row k c

-- the network is worked from there on
abbrev pub Resumes : Terminals → ℕ → List ℕ → ℕ → ℕ → Carried → List ℕ → Type 0
Resumes h limit row k c r after = Worked (resumed (tree h) (opens_in row k c)) limit row k r after

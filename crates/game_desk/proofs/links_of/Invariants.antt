use Prim.Native.Nat.{◌≤◌}
use mathlib.Core.Path.{◌≡◌}
use lib.ListN.{length}
use Rattle.plan.specs.Plans.{size_m}
use Rattle.game_desk.proofs.Bytes.{Reads}
use Rattle.game_desk.proofs.links_of.Given as goal

abbrev pub invariant-loop-i : goal.invariant-loop-i
invariant-loop-i l = (l.m ≡ size_m l.plan) × (l.m ≤ 64) × (length l.a ≡ 64) × (length l.b ≡ 64) × Reads l.plan l.a l.b l.i

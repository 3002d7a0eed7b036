use Prim.Native.Nat.{ℕ, ◌+◌, ◌*◌, ◌≤◌, ◌<◌}
use mathlib.Core.Path.{◌≡◌, sym, ap, subst, ◌∙◌}
use mathlib.Core.Bool.{false}
use mathlib.Core.Option.{some as found}
use native.Mathlib.Omega.{arith}
use lib.ListN.{length, get_or}
use Rattle.reliability.specs.declared.Step.TheVariants.{End, Series}
use Rattle.reliability.specs.Networks.{Network as Graph, pieces_of}
use Rattle.reliability.specs.Rule.{is_loop, first_at, deleted}
use Rattle.reliability.specs.Simple.{Loopless}
use Rattle.reliability.specs.Terminals.{sound_left}
use Rattle.polynomials.specs.Rows.{eval, some, Fits}
use Rattle.sets.specs.Bundles.{worth}
use Rattle.sets.proofs.Worths.{sound_at, worth-disconnected}
use Rattle.network.specs.declared.Network.{Network}
use Rattle.network.specs.Places.{network_of, terminals_of, links_of, index_of, link_of, Used, WithoutPlace, Invariant, Sized, Fitting}
use Rattle.network.specs.Workable.{Workable}
use Rattle.network.proofs.Made.{sized_of, loop-found, loop-missed}
use Rattle.steps.specs.declared.Next.{Next}
use Rattle.steps.specs.declared.Next.TheVariants.{OneNode as One, End as Ended, Series as InSeries, Split as Splitting}
use Rattle.steps.specs.Simple.{step_of}
use Rattle.bundles.specs.Bundled.{Bundled}
use Rattle.counting.specs.Countable.{Countable}
use Rattle.counting.proofs.Branches.{row_room, apart, Branch, broken}
use Rattle.counting.proofs.Arms.{loop-row, no-loop-at, sound-branch, broken-branch, split-row, sound-room, broken-room, work as work-of, one-row, end-used, end_row, split-used, first-used, second-used, first-here, then-sound, sound-loopless, broken-loopless, sound-row, broken-row}
use borrow.Author.Rules.{rules}
use Rattle.counting.proofs.+work.Goals as goal
use Rattle.counting.proofs.+work.Goals.{After-contracted, After-contracted-in-Series, After-contracted-in-Series-2, After-contracted-in-Series-3, After-contracted-in-Split, After-deleted, After-deleted-in-Series, After-deleted-in-Split, After-step, After-times-broken, After-work, After-work-broken, After-work-in-End, After-work-one, Else-pieces-gt1, In-Some, In-End, In-Series, In-Split, In_default, Start}

sized : (t : ℕ) (s : Start t) → Sized s.args.net
sized t s = search rules

-- a branch may be worked
onto : (t : ℕ) (s : Start t) (h : Graph) (r : Network) → Branch s.args.net h r → (length (links_of r) < t) × Countable r
onto t s h r b = (omega (arith, s.decreases, b.fewer), b.countable)

-- what was worked
worked : (n : Network) (h : Graph) (r : Network) (f : ℕ → ℕ) → Branch n h r → ((x : ℕ) → f x ≡ worth x (network_of r)) → (x : ℕ) → f x ≡ worth x h
worked n h r f b k x = k x ∙ ap (worth x) b.stands

room : (t : ℕ) (s : Start t) (f : ℕ → ℕ) → ((x : ℕ) → f x ≡ worth x (network_of s.args.net)) → Fits f
room t s f e = row_room (network_of s.args.net) s.requires.room f e

loop-at : (t : ℕ) (k : In-Some t) → let n = k.args.net in let i = k.in-Some.k in Used n i × (first_at is_loop (links_of n) ≡ found (index_of n i))
loop-at t k = loop-found k.args.net (sized t (goal.at.In-Some t k).Start) _ (sym k.first_loop.ensures ∙ k.in-Some.is)

pub offset_bounds-net-k : goal.offset_bounds-net-k
offset_bounds-net-k t c = record { fits = omega (arith, (loop-at t c).0.below) }

pub bounds-net-k : goal.bounds-net-k
bounds-net-k t c = (loop-at t c).0.below

pub deleted-requires : goal.deleted-requires
deleted-requires t c = (c.requires.holds, (loop-at t (goal.at.deleted-requires t c).In-Some).0)

loop-branch : (t : ℕ) (c : After-deleted t) → let n = c.args.net in Branch n (deleted (index_of n c.in-Some.k) (network_of n)) c.deleted.result
loop-branch t c =
    broken c.args.net (sized t (goal.at.After-deleted t c).Start) c.requires _ (loop-at t (goal.at.After-deleted t c).In-Some).0 c.deleted.result c.deleted.ensures.0 c.deleted.ensures.1

pub work-requires : goal.work-requires
work-requires t c = onto t (goal.at.work-requires t c).Start _ c.deleted.result (loop-branch t c)

loop-worked : (t : ℕ) (c : After-work t) (x : ℕ)
    → let n = c.args.net in (some x (get_or n.low c.in-Some.k 0) + 1) * eval x c.work.result.entries ≡ worth x (network_of n)
loop-worked t c =
    loop-row c.args.net (sized t (goal.at.After-work t c).Start) c.requires _ (loop-at t (goal.at.After-work t c).In-Some).0 (loop-at t (goal.at.After-work t c).In-Some).1 (λ x. eval x c.work.result.entries) (worked c.args.net _ c.deleted.result _ (loop-branch t (goal.at.After-work t c).After-deleted) c.work.ensures)

pub returns-in-Some : goal.returns-in-Some
returns-in-Some t c = λ x. c.looped.ensures x ∙ loop-worked t (goal.at.returns-in-Some t c).After-work x

pub looped-requires : goal.looped-requires
looped-requires t c = room t (goal.at.looped-requires t c).Start _ (loop-worked t c)

loopless : (t : ℕ) (c : In_default t) → Loopless (network_of c.args.net)
loopless t c = loop-missed c.args.net (sized t (goal.at.In_default t c).Start) (sym c.first_loop.ensures ∙ c.in_default.is)

pub bundled-n-requires : goal.bundled-n-requires
bundled-n-requires t c = (c.requires.holds, loopless t c, c.requires.room)

pub pieces-requires : goal.pieces-requires
pieces-requires t c = c.bundled-n.ensures.holds

pub returns-then-pieces-gt1 : goal.returns-then-pieces-gt1
returns-then-pieces-gt1 t c =
    let bundled = c.bundled-n in
    let many : 1 < pieces_of (network_of bundled.result) = omega (arith, c.pieces.ensures, c.if-pieces-gt1.true) in
    λ x. c.nothing.ensures x ∙ sym (worth-disconnected x (network_of bundled.result) (apart (network_of bundled.result) many)) ∙ bundled.ensures.worth x

module _ (t : ℕ) (e : Else-pieces-gt1 t) where
  abbrev from : Start t
  from = (goal.at.Else-pieces-gt1 t e).Start

  abbrev given : Network
  given = from.args.net

  abbrev net : Network
  net = e.bundled-n.result

  abbrev made : Bundled given net
  made = e.bundled-n.ensures

  sized-net : Sized net
  sized-net = search rules

  few : pieces_of (network_of net) ≤ 1
  few = omega (arith, e.pieces.ensures, e.if-pieces-gt1.false)

  workable : Workable net
  workable = work-of given net from.requires made sized-net few

pub step-requires : goal.step-requires
step-requires t c = workable t (goal.at.step-requires t c).Else-pieces-gt1

fitting : (t : ℕ) (a : After-step t) (r : Next) → a.step.result ≡ r → Fitting (net t (goal.at.After-step t a).Else-pieces-gt1) (step_of r)
fitting t a r e = subst (λ (q : Next). Fitting (net t (goal.at.After-step t a).Else-pieces-gt1) (step_of q)) e a.step.ensures

module _ (t : ℕ) (k : In-End t) where
  abbrev end-else : Else-pieces-gt1 t
  end-else = (goal.at.In-End t k).Else-pieces-gt1

  abbrev end-place : ℕ
  end-place = k.in-End.e

  end-fitting : Fitting (net t end-else) (End k.in-End.field-0 end-place)
  end-fitting = fitting t (goal.at.In-End t k).After-step (Ended k.in-End.field-0 end-place) k.in-End.is

  end-at : Used (net t end-else) end-place
  end-at = end-used (given t end-else) (net t end-else) (from t end-else).requires (made t end-else) (sized-net t end-else) (few t end-else) _ end-place end-fitting

pub offset_bounds-n-e : goal.offset_bounds-n-e
offset_bounds-n-e t c = record { fits = omega (arith, (end-at t c).below) }

pub bounds-n-e : goal.bounds-n-e
bounds-n-e t c = (end-at t c).below

pub contracted-requires : goal.contracted-requires
contracted-requires t c = let e = end-else t (goal.at.contracted-requires t c).In-End in ((made t e).holds, end-at t (goal.at.contracted-requires t c).In-End, no-loop-at (given t e) (net t e) (from t e).requires (made t e) (sized-net t e) _ (end-at t (goal.at.contracted-requires t c).In-End))

end_branch : (t : ℕ) (c : After-contracted t) → let e = end-else t (goal.at.After-contracted t c).In-End in Branch (given t e) (sound_at (index_of (net t e) (end-place t (goal.at.After-contracted t c).In-End)) (network_of (net t e))) c.contracted.result
end_branch t c =
    let e = end-else t (goal.at.After-contracted t c).In-End in
    sound-branch (given t e) (net t e) (from t e).requires (made t e) (sized-net t e) _ (end-at t (goal.at.After-contracted t c).In-End) c.contracted.result c.contracted.ensures.0 c.contracted.ensures.1

pub work-requires-in-End : goal.work-requires-in-End
work-requires-in-End t c = onto t (from t (end-else t (goal.at.work-requires-in-End t c).In-End)) _ c.contracted.result (end_branch t c)

end-worked : (t : ℕ) (c : After-work-in-End t) (x : ℕ)
    → let e = end-else t (goal.at.After-work-in-End t c).In-End in some x (get_or (net t e).low (end-place t (goal.at.After-work-in-End t c).In-End) 0) * eval x c.work-in-End.result.entries ≡ worth x (network_of (given t e))
end-worked t c =
    let e = end-else t (goal.at.After-work-in-End t c).In-End in
    end_row (given t e) (net t e) (from t e).requires (made t e) (sized-net t e) (few t e) _ _ (end-fitting t (goal.at.After-work-in-End t c).In-End) (λ x. eval x c.work-in-End.result.entries)
    (worked (given t e) _ c.contracted.result _ (end_branch t (goal.at.After-work-in-End t c).After-contracted) c.work-in-End.ensures)

pub returns-in-End : goal.returns-in-End
returns-in-End t c = λ x. c.times.ensures x ∙ end-worked t (goal.at.returns-in-End t c).After-work-in-End x

pub times-requires : goal.times-requires
times-requires t c = room t (from t (end-else t (goal.at.times-requires t c).In-End)) _ (end-worked t c)

module _ (t : ℕ) (k : In-Series t) where
  abbrev line-else : Else-pieces-gt1 t
  line-else = (goal.at.In-Series t k).Else-pieces-gt1

  abbrev middle : ℕ
  middle = k.in-Series.field-0

  abbrev first : ℕ
  first = k.in-Series.i

  abbrev second : ℕ
  second = k.in-Series.j

  line-fitting : Fitting (net t line-else) (Series middle first second)
  line-fitting = fitting t (goal.at.In-Series t k).After-step (InSeries middle first second) k.in-Series.is

  first-at : Used (net t line-else) first
  first-at = first-used (given t line-else) (net t line-else) (from t line-else).requires (made t line-else) (sized-net t line-else) (few t line-else) middle first second line-fitting

  second_at : Used (net t line-else) second
  second_at = second-used (given t line-else) (net t line-else) (from t line-else).requires (made t line-else) (sized-net t line-else) (few t line-else) middle first second line-fitting

  abbrev earlier : ℕ
  earlier = index_of (net t line-else) first

  -- with the later link sound, and broken
  abbrev sounder : Graph
  sounder = sound_at (index_of (net t line-else) second) (network_of (net t line-else))

  abbrev breaker : Graph
  breaker = deleted (index_of (net t line-else) second) (network_of (net t line-else))

pub offset_bounds-n-i : goal.offset_bounds-n-i
offset_bounds-n-i t c = record { fits = omega (arith, (first-at t c).below) }

pub bounds-n-i : goal.bounds-n-i
bounds-n-i t c = (first-at t c).below

pub offset_bounds-n-j : goal.offset_bounds-n-j
offset_bounds-n-j t c = record { fits = omega (arith, (second_at t (goal.at.offset_bounds-n-j t c).In-Series).below) }

pub bounds-n-j : goal.bounds-n-j
bounds-n-j t c = (second_at t (goal.at.bounds-n-j t c).In-Series).below

pub contracted-requires-in-Series : goal.contracted-requires-in-Series
contracted-requires-in-Series t c = let e = line-else t (goal.at.contracted-requires-in-Series t c).In-Series in ((made t e).holds, second_at t (goal.at.contracted-requires-in-Series t c).In-Series, no-loop-at (given t e) (net t e) (from t e).requires (made t e) (sized-net t e) _ (second_at t (goal.at.contracted-requires-in-Series t c).In-Series))

-- r is what is left with the later link sound, or broken: the earlier one is in use there
module _ (t : ℕ) (k : In-Series t) (h : Graph) (loopless-left : Loopless h) (r : Network) (branch : Branch (given t (line-else t k)) h r)
    (sized-left : Sized r) (free : WithoutPlace (net t (line-else t k)) (second t k) r) where
  earlier-here : Used r (first t k) × (is_loop (link_of r (first t k)) ≡ false)
  earlier-here = let e = line-else t k in first-here (given t e) (net t e) (from t e).requires (made t e) (sized-net t e) (few t e) (middle t k) (first t k) (second t k) (line-fitting t k) r h branch sized-left free loopless-left

  earlier-sound : (q : Network) → terminals_of q ≡ sound_left (index_of r (first t k)) (terminals_of r) → Invariant q → Branch (given t (line-else t k)) (sound_at (earlier t k) h) q
  earlier-sound = let e = line-else t k in then-sound (given t e) (net t e) (from t e).requires (made t e) (sized-net t e) (few t e) (middle t k) (first t k) (second t k) (line-fitting t k) r h branch sized-left free loopless-left

-- the later link is sound
module _ (t : ℕ) (c : After-contracted-in-Series t) where
  abbrev sound-known : In-Series t
  sound-known = (goal.at.After-contracted-in-Series t c).In-Series

  later-sound : Branch (given t (line-else t sound-known)) (sounder t sound-known) c.contracted-in-Series.result
  later-sound =
      let e = line-else t sound-known in
      sound-branch (given t e) (net t e) (from t e).requires (made t e) (sized-net t e) _ (second_at t sound-known) c.contracted-in-Series.result c.contracted-in-Series.ensures.0 c.contracted-in-Series.ensures.1

  sized-sound : Sized c.contracted-in-Series.result
  sized-sound = sized_of c.contracted-in-Series.lifetimes c.contracted-in-Series.result c.contracted-in-Series.type_inv

  none-sound : Loopless (sounder t sound-known)
  none-sound = let k = sound-known in let e = line-else t k in sound-loopless (given t e) (net t e) (from t e).requires (made t e) (sized-net t e) (few t e) (middle t k) (first t k) (second t k) (line-fitting t k)

pub contracted-requires-in-Series-2 : goal.contracted-requires-in-Series-2
contracted-requires-in-Series-2 t c =
    let u = earlier-here t (sound-known t c) _ (none-sound t c) c.contracted-in-Series.result (later-sound t c) (sized-sound t c) c.contracted-in-Series.ensures.2 in
    (c.contracted-in-Series.ensures.1, u.0, u.1)

both-sound : (t : ℕ) (c : After-contracted-in-Series-2 t)
    → let k = sound-known t (goal.at.After-contracted-in-Series-2 t c).After-contracted-in-Series in Branch (given t (line-else t k)) (sound_at (earlier t k) (sounder t k)) c.contracted-in-Series-2.result
both-sound t c =
    earlier-sound t (sound-known t (goal.at.After-contracted-in-Series-2 t c).After-contracted-in-Series) _ (none-sound t (goal.at.After-contracted-in-Series-2 t c).After-contracted-in-Series) c.contracted-in-Series.result (later-sound t (goal.at.After-contracted-in-Series-2 t c).After-contracted-in-Series) (sized-sound t (goal.at.After-contracted-in-Series-2 t c).After-contracted-in-Series) c.contracted-in-Series.ensures.2 c.contracted-in-Series-2.result c.contracted-in-Series-2.ensures.0 c.contracted-in-Series-2.ensures.1

pub work-both-requires : goal.work-both-requires
work-both-requires t c = onto t (from t (line-else t (sound-known t (goal.at.work-both-requires t c).After-contracted-in-Series))) _ c.contracted-in-Series-2.result (both-sound t c)

-- the later link is broken
pub deleted-requires-in-Series : goal.deleted-requires-in-Series
deleted-requires-in-Series t c =
    let k = sound-known t (goal.at.deleted-requires-in-Series t c).After-contracted-in-Series in
    ((made t (line-else t k)).holds, second_at t k)

module _ (t : ℕ) (c : After-deleted-in-Series t) where
  abbrev broken-known : In-Series t
  broken-known = sound-known t (goal.at.After-deleted-in-Series t c).After-contracted-in-Series

  later-broken : Branch (given t (line-else t broken-known)) (breaker t broken-known) c.deleted-in-Series.result
  later-broken =
      let e = line-else t broken-known in
      broken-branch (given t e) (net t e) (from t e).requires (made t e) (sized-net t e) _ (second_at t broken-known) c.deleted-in-Series.result c.deleted-in-Series.ensures.0 c.deleted-in-Series.ensures.1

  sized-broken : Sized c.deleted-in-Series.result
  sized-broken = sized_of c.deleted-in-Series.lifetimes c.deleted-in-Series.result c.deleted-in-Series.type_inv

  none-broken : Loopless (breaker t broken-known)
  none-broken = let k = broken-known in let e = line-else t k in broken-loopless (given t e) (net t e) (from t e).requires (made t e) (sized-net t e) (few t e) (middle t k) (first t k) (second t k) (line-fitting t k)

pub contracted-requires-in-Series-3 : goal.contracted-requires-in-Series-3
contracted-requires-in-Series-3 t c =
    let u = earlier-here t (broken-known t c) _ (none-broken t c) c.deleted-in-Series.result (later-broken t c) (sized-broken t c) c.deleted-in-Series.ensures.2 in
    (c.deleted-in-Series.ensures.1, u.0, u.1)

one-sound : (t : ℕ) (c : After-contracted-in-Series-3 t)
    → let k = broken-known t (goal.at.After-contracted-in-Series-3 t c).After-deleted-in-Series in Branch (given t (line-else t k)) (sound_at (earlier t k) (breaker t k)) c.contracted-in-Series-3.result
one-sound t c =
    earlier-sound t (broken-known t (goal.at.After-contracted-in-Series-3 t c).After-deleted-in-Series) _ (none-broken t (goal.at.After-contracted-in-Series-3 t c).After-deleted-in-Series) c.deleted-in-Series.result (later-broken t (goal.at.After-contracted-in-Series-3 t c).After-deleted-in-Series) (sized-broken t (goal.at.After-contracted-in-Series-3 t c).After-deleted-in-Series) c.deleted-in-Series.ensures.2 c.contracted-in-Series-3.result c.contracted-in-Series-3.ensures.0 c.contracted-in-Series-3.ensures.1

pub work-one-requires : goal.work-one-requires
work-one-requires t c = onto t (from t (line-else t (broken-known t (goal.at.work-one-requires t c).After-deleted-in-Series))) _ c.contracted-in-Series-3.result (one-sound t c)

module _ (t : ℕ) (c : After-work-one t) where
  abbrev line_known : In-Series t
  line_known = broken-known t (goal.at.After-work-one t c).After-deleted-in-Series

  abbrev line : Else-pieces-gt1 t
  line = line-else t line_known

  abbrev both : ℕ → ℕ
  both x = eval x c.work-both.result.entries

  abbrev one : ℕ → ℕ
  one x = eval x c.work-one.result.entries

  one-worked : (x : ℕ) → one x ≡ worth x (sound_at (earlier t line_known) (breaker t line_known))
  one-worked = worked (given t line) _ c.contracted-in-Series-3.result one (one-sound t (goal.at.After-work-one t c).After-contracted-in-Series-3) c.work-one.ensures

  sound-worked : (x : ℕ) → some x (get_or (net t line).low (first t line_known) 0) * both x + one x ≡ worth x (sounder t line_known)
  sound-worked =
      let k = line_known in
      let e = line in
      sound-row (given t e) (net t e) (from t e).requires (made t e) (sized-net t e) (few t e) (middle t k) (first t k) (second t k) (line-fitting t k) both one (worked (given t line) _ c.contracted-in-Series-2.result both (both-sound t (goal.at.After-work-one t c).After-contracted-in-Series-2) c.work-both.ensures) one-worked

  broken-worked : (x : ℕ) → some x (get_or (net t line).low (first t line_known) 0) * one x ≡ worth x (breaker t line_known)
  broken-worked =
      let k = line_known in
      let e = line in
      broken-row (given t e) (net t e) (from t e).requires (made t e) (sized-net t e) (few t e) (middle t k) (first t k) (second t k) (line-fitting t k) one one-worked

line-worked : (t : ℕ) (c : After-times-broken t) (x : ℕ)
    → some x (get_or (net t (line t (goal.at.After-times-broken t c).After-work-one)).low (second t (line_known t (goal.at.After-times-broken t c).After-work-one)) 0) * eval x c.split-sound.result.entries + eval x c.times-broken.result.entries ≡ worth x (network_of (given t (line t (goal.at.After-times-broken t c).After-work-one)))
line-worked t c =
    let e = line t (goal.at.After-times-broken t c).After-work-one in
    split-row (given t e) (net t e) (from t e).requires (made t e) (sized-net t e) _ (second_at t (line_known t (goal.at.After-times-broken t c).After-work-one)) (λ x. eval x c.split-sound.result.entries) (λ x. eval x c.times-broken.result.entries)
    (λ x. c.split-sound.ensures x ∙ sound-worked t (goal.at.After-times-broken t c).After-work-one x) (λ x. c.times-broken.ensures x ∙ broken-worked t (goal.at.After-times-broken t c).After-work-one x)

pub split-sound-requires : goal.split-sound-requires
split-sound-requires t c =
    let e = line t c in
    row_room (sounder t (line_known t c)) (sound-room (given t e) (net t e) (from t e).requires (made t e) (sized-net t e) _ (second_at t (line_known t c))) _ (sound-worked t c)

pub times-broken-requires : goal.times-broken-requires
times-broken-requires t c =
    let e = line t (goal.at.times-broken-requires t c).After-work-one in
    row_room (breaker t (line_known t (goal.at.times-broken-requires t c).After-work-one)) (broken-room (given t e) (net t e) (from t e).requires (made t e) (sized-net t e) _ (second_at t (line_known t (goal.at.times-broken-requires t c).After-work-one))) _ (broken-worked t (goal.at.times-broken-requires t c).After-work-one)

pub returns-in-Series : goal.returns-in-Series
returns-in-Series t c = λ x. c.split.ensures x ∙ line-worked t (goal.at.returns-in-Series t c).After-times-broken x

pub split-requires : goal.split-requires
split-requires t c = room t (from t (line t (goal.at.split-requires t c).After-work-one)) _ (line-worked t c)

module _ (t : ℕ) (k : In-Split t) where
  abbrev split-else : Else-pieces-gt1 t
  split-else = (goal.at.In-Split t k).Else-pieces-gt1

  abbrev split-place : ℕ
  split-place = k.in-Split.s

  split_at : Used (net t split-else) split-place
  split_at = let e = split-else in split-used (given t e) (net t e) (from t e).requires (made t e) (sized-net t e) (few t e) split-place (fitting t (goal.at.In-Split t k).After-step (Splitting split-place) k.in-Split.is)

pub offset_bounds-n-s : goal.offset_bounds-n-s
offset_bounds-n-s t c = record { fits = omega (arith, (split_at t c).below) }

pub bounds-n-s : goal.bounds-n-s
bounds-n-s t c = (split_at t c).below

pub contracted-requires-in-Split : goal.contracted-requires-in-Split
contracted-requires-in-Split t c = let e = split-else t (goal.at.contracted-requires-in-Split t c).In-Split in ((made t e).holds, split_at t (goal.at.contracted-requires-in-Split t c).In-Split, no-loop-at (given t e) (net t e) (from t e).requires (made t e) (sized-net t e) _ (split_at t (goal.at.contracted-requires-in-Split t c).In-Split))

split-sound : (t : ℕ) (c : After-contracted-in-Split t)
    → let e = split-else t (goal.at.After-contracted-in-Split t c).In-Split in Branch (given t e) (sound_at (index_of (net t e) (split-place t (goal.at.After-contracted-in-Split t c).In-Split)) (network_of (net t e))) c.contracted-in-Split.result
split-sound t c =
    let e = split-else t (goal.at.After-contracted-in-Split t c).In-Split in
    sound-branch (given t e) (net t e) (from t e).requires (made t e) (sized-net t e) _ (split_at t (goal.at.After-contracted-in-Split t c).In-Split) c.contracted-in-Split.result c.contracted-in-Split.ensures.0 c.contracted-in-Split.ensures.1

pub work-sound-requires : goal.work-sound-requires
work-sound-requires t c = onto t (from t (split-else t (goal.at.work-sound-requires t c).In-Split)) _ c.contracted-in-Split.result (split-sound t c)

pub deleted-requires-in-Split : goal.deleted-requires-in-Split
deleted-requires-in-Split t c = ((made t (split-else t (goal.at.deleted-requires-in-Split t c).In-Split)).holds, split_at t (goal.at.deleted-requires-in-Split t c).In-Split)

split-broken : (t : ℕ) (c : After-deleted-in-Split t)
    → let e = split-else t (goal.at.After-deleted-in-Split t c).In-Split in Branch (given t e) (deleted (index_of (net t e) (split-place t (goal.at.After-deleted-in-Split t c).In-Split)) (network_of (net t e))) c.deleted-in-Split.result
split-broken t c =
    let e = split-else t (goal.at.After-deleted-in-Split t c).In-Split in
    broken-branch (given t e) (net t e) (from t e).requires (made t e) (sized-net t e) _ (split_at t (goal.at.After-deleted-in-Split t c).In-Split) c.deleted-in-Split.result c.deleted-in-Split.ensures.0 c.deleted-in-Split.ensures.1

pub work-broken-requires : goal.work-broken-requires
work-broken-requires t c = onto t (from t (split-else t (goal.at.work-broken-requires t c).In-Split)) _ c.deleted-in-Split.result (split-broken t c)

split-worked : (t : ℕ) (c : After-work-broken t) (x : ℕ)
    → let e = split-else t (goal.at.After-work-broken t c).In-Split in some x (get_or (net t e).low (split-place t (goal.at.After-work-broken t c).In-Split) 0) * eval x c.work-sound.result.entries + eval x c.work-broken.result.entries ≡ worth x (network_of (given t e))
split-worked t c =
    let e = split-else t (goal.at.After-work-broken t c).In-Split in
    split-row (given t e) (net t e) (from t e).requires (made t e) (sized-net t e) _ (split_at t (goal.at.After-work-broken t c).In-Split) (λ x. eval x c.work-sound.result.entries) (λ x. eval x c.work-broken.result.entries)
    (worked (given t e) _ c.contracted-in-Split.result _ (split-sound t (goal.at.After-work-broken t c).After-contracted-in-Split) c.work-sound.ensures)
    (worked (given t e) _ c.deleted-in-Split.result _ (split-broken t (goal.at.After-work-broken t c).After-deleted-in-Split) c.work-broken.ensures)

pub returns-in-Split : goal.returns-in-Split
returns-in-Split t c = λ x. c.split-in-Split.ensures x ∙ split-worked t (goal.at.returns-in-Split t c).After-work-broken x

pub split-requires-in-Split : goal.split-requires-in-Split
split-requires-in-Split t c = room t (from t (split-else t (goal.at.split-requires-in-Split t c).In-Split)) _ (split-worked t c)

-- ---- the rows returned
pub returns-in-OneNode : goal.returns-in-OneNode
returns-in-OneNode t c =
    λ x. c.one.ensures x ∙ one-row (given t (goal.at.returns-in-OneNode t c).Else-pieces-gt1) (net t (goal.at.returns-in-OneNode t c).Else-pieces-gt1) (from t (goal.at.returns-in-OneNode t c).Else-pieces-gt1).requires (made t (goal.at.returns-in-OneNode t c).Else-pieces-gt1) (sized-net t (goal.at.returns-in-OneNode t c).Else-pieces-gt1) (few t (goal.at.returns-in-OneNode t c).Else-pieces-gt1) (fitting t (goal.at.returns-in-OneNode t c).After-step One c.in-OneNode.is) x

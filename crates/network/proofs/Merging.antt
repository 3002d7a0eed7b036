-- Two nodes become one.
use Prim.Native.Nat.{ℕ, min, max, ◌<◌}
use mathlib.Core.Path.{◌≡◌, refl, sym, ap, ap₂, subst₂, ◌∙◌}
use mathlib.Core.List.{List, [], ◌∷◌, map}
use mathlib.Core.Bool.{Bool, true, false}
use native.Mathlib.Omega.{arith}
use lib.ListN.{get_or, set}
use borrow.Author.Tests.{eqb-false}
use Rattle.bits.specs.Members.{members}
use Rattle.reliability.specs.declared.Link.{Link}
use Rattle.reliability.specs.Rule.{is_loop, without, rename, renamed, delete_at, deleted, contracted}
use Rattle.reliability.specs.Terminals.{Terminals, among, into, sound_left}
use Rattle.search.specs.Searches.{pick, nodes_in, marked, touching, Incidence}
use Rattle.parts.specs.Tallies.{Written, Merged, changed_at}
use Rattle.parts.proofs.Laws.{merged, renamed-touching}
use Rattle.network.specs.declared.Network.{Network}
use Rattle.network.specs.Places.{rows, network_of, terminals_of, links_of, nodes_of, chosen_of, index_of, link_of, Used, Invariant, Sized}
use Rattle.network.proofs.Picks.{Even, none, more, all-even, row, all_rows, link-at, deleted-links}
use Rattle.network.proofs.Kept.{stands, sound-valid, ends-below, taken_out}

-- the ends of the links at gone renamed: those of all links are
links-renamed : {a b l h : List ℕ} → Even a b l h → (us : List Bool) (keep gone : ℕ)
    → pick us (rows (changed_at (rename keep gone) (marked (touching gone) us a b) a) (changed_at (rename keep gone) (marked (touching gone) us a b) b) l h) ≡ map (renamed keep gone) (pick us (rows a b l h))
unfolding pick rows changed_at marked
links-renamed none [] keep gone = refl
links-renamed none (u ∷ us) keep gone = refl
links-renamed (more e) [] keep gone = refl
links-renamed (more {x} {y} {u} {v} e) (true ∷ us) keep gone =
    let h = renamed-touching keep gone x y (touching gone x y) refl in
    ap₂ (λ (k : Link) (r : List Link). k ∷ r) (λ t. row (h.0 t) (h.1 t) u v) (links-renamed e us keep gone)
links-renamed (more e) (false ∷ us) keep gone = links-renamed e us keep gone

-- link i goes, and its larger end gone is renamed to the smaller, keep
module _ (n : Network) (sized : Sized n) (holds : Invariant n) (i : ℕ) (u : Used n i) (no_loop : is_loop (link_of n i) ≡ false)
    (keep gone : ℕ) (smaller : keep ≡ min (get_or n.a i 0) (get_or n.b i 0)) (larger : gone ≡ max (get_or n.a i 0) (get_or n.b i 0)) where
  pub keep-below : keep < 32
  keep-below = omega (arith, ends-below n sized holds i u)

  pub gone-below : gone < 32
  gone-below = omega (arith, ends-below n sized holds i u)

  differ : keep ≡ gone → ⊥
  differ e =
      let apart = eqb-false (link_of n i).a (link_of n i).b no_loop in
      let at = link-at n sized i u in
      apart (ap (λ (l : Link). l.a) at ∙ omega arith ∙ sym (ap (λ (l : Link). l.b) at))

  module _ (others nodes chosen moved : ℕ) (one two three as₁ bs : List ℕ) (cleared : members others ≡ set (members n.alive) i false) (left : nodes_in nodes ≡ without gone (nodes_of n)) (made_one : nodes_in chosen ≡ into keep gone (chosen_of n))
      (first : Written false (get_or n.a i 0) i n.at one) (second : Written false (get_or n.b i 0) i one two)
      (were : members moved ≡ members (get_or two gone 0)) (third : Merged keep gone two three)
      (a-renamed : as₁ ≡ changed_at (rename keep gone) (members moved) n.a) (b-renamed : bs ≡ changed_at (rename keep gone) (members moved) n.b) where
    abbrev r : Network
    r = record { alive = others; at = three; low = n.low; high = n.high; a = as₁; b = bs; nodes = nodes; chosen = chosen }

    taken : Incidence two others n.a n.b
    taken = taken_out n sized holds i u others one two cleared first second

    links : links_of r ≡ map (renamed keep gone) (delete_at (index_of n i) (links_of n))
    links =
        let f = rename keep gone in
        let marks = were ∙ taken gone gone-below in
        ap₂ (λ (x y : List ℕ). pick (members others) (rows x y n.low n.high)) (a-renamed ∙ ap (λ (us : List Bool). changed_at f us n.a) marks) (b-renamed ∙ ap (λ (us : List Bool). changed_at f us n.b) marks)
        ∙ links-renamed (all-even n sized) (members others) keep gone
        ∙ ap (map (renamed keep gone)) (deleted-links n others i (all_rows n) u cleared)

    stood : terminals_of r ≡ sound_left (index_of n i) (terminals_of n)
    stood =
        let g = deleted (index_of n i) (network_of n) in
        let merged : terminals_of r ≡ among (into keep gone (chosen_of n)) (record { nodes = without gone g.nodes; links = map (renamed keep gone) g.links }) =
        λ t. among (made_one t) (record { nodes = left t; links = links t }) in
        merged
        ∙ ap₂ {C = Terminals} (λ (k v : ℕ). among (into k v (chosen_of n)) (record { nodes = without v g.nodes; links = map (renamed k v) g.links })) smaller larger
        ∙ ap (λ (e : Link). among (into (min e.a e.b) (max e.a e.b) (chosen_of n)) (contracted e g)) (sym (link-at n sized i u))

    tallies : Incidence three others as₁ bs
    tallies =
        subst₂ (λ (x y : List ℕ). Incidence three others x y) (sym a-renamed) (sym b-renamed)
        (merged two n.a n.b others (record { a_length = sized.a_length; b_length = sized.b_length }) taken keep gone moved three keep-below gone-below differ were third)

    pub contracts : (terminals_of r ≡ sound_left (index_of n i) (terminals_of n)) × Invariant r
    contracts = stands r stood (sound-valid n holds sized i u no_loop) tallies

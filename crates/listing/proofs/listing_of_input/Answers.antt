use Prim.Native.Nat.{ℕ, ◌<◌}
use mathlib.Core.Path.{◌≡◌, sym, ap, ◌∙◌}
use mathlib.Core.List.{List, ◌++◌}
use native.Mathlib.Omega.{arith}
use lib.ListN.{length, take, drop}
use lib.Seq.{length-take-le}
use Rattle.listing.specs.Listings.{listing}
use Rattle.listing.proofs.Theorems.{enough}
use Rattle.listing.proofs.listing_of_input.Goals as goal

pub slice_bounds-listing-end : goal.slice_bounds-listing-end
slice_bounds-listing-end c =
    sym (length-take-le c.args.n c.args.buffer.now c.requires)

pub returns : goal.returns
returns c =
    let a = c.args in
    let l = c.listing in
    let more : 388 < length a.buffer.now = omega arith in record {
      upper_bound = l.ensures.upper_bound;
      lists = λ input is.
          let e : listing (take a.n a.buffer.now) ≡ listing input = ap listing is ∙ enough input (length a.buffer.now) more in
          (l.ensures.value ∙ ap length e, l.ensures.text_after ∙ ap (λ (t : List ℕ). t ++ drop (length t) a.text.now) e);
    }

-- Tiles begin one behind the other, and the last one ends with the network.
use Rattle.std.proofs.Common.{◌≡◌, ◌≢◌, ℕ, ◌+◌, ◌*◌, ◌/◌, ◌<◌, ◌≤◌, true, false, sym, arith, ⊎_elim}
use Rattle.std.specs.Prelude.{nat_lt}
use Rattle.std.proofs.lemmas.Bool.Decides.{nat_tests}
use Rattle.std.proofs.lemmas.Nat.{le-div, mul-le}
use Rattle.std.proofs.Math.Nat.{div-mul-le_self, div-le_of_le-mul}
use Rattle.noc_tiles.specs.Rings.{AreApart, tile_start}
use Rattle.noc_tiles.specs.TileStep.{is_own}
use Rattle.noc_tiles.proofs.SentLemmas.{own-within, own-outside}

module _ (nodes workers : ℕ) (some : 0 < workers) where
  pub start-within : (w : ℕ) → w ≤ workers → tile_start nodes workers w ≤ nodes
  start-within w l = div-le_of_le-mul workers (mul-le w nodes workers nodes l (omega arith))

  pub start-step : (w : ℕ) → tile_start nodes workers w ≤ tile_start nodes workers (w + 1)
  start-step w =
      let low = div-mul-le_self (w * nodes) workers in
      let more : w * nodes ≤ (w + 1) * nodes = mul-le w nodes (w + 1) nodes (omega arith) (omega arith) in
      le-div (w * nodes / workers) ((w + 1) * nodes) workers some (omega arith)

  pub start-none : tile_start nodes workers 0 ≡ 0
  start-none =
      let none : 0 * nodes ≤ workers * 0 = omega arith in
      let low : tile_start nodes workers 0 ≤ 0 = div-le_of_le-mul workers none in
      omega arith

  pub start-end : tile_start nodes workers workers ≡ nodes
  start-end =
      let high = start-within workers (omega arith) in
      let low : nodes ≤ workers * nodes / workers = le-div nodes (workers * nodes) workers some (omega arith) in
      omega arith

-- a router of a tile and one of another are apart
less-apart : (a b c : ℕ) → a < c → c ≤ b → nat_lt a c ≢ nat_lt b c
less-apart a b c l h e = grind (arith, nat_tests)

more-apart : (a b c : ℕ) → c ≤ a → b < c → nat_lt a c ≢ nat_lt b c
more-apart a b c l h e = grind (arith, nat_tests)

module _ (nodes workers w first count : ℕ) (one-of : w < workers) (first-is : first ≡ tile_start nodes workers w) (end-is : first + count ≡ tile_start nodes workers (w + 1)) (r s : ℕ)
    (own : is_own first count r ≡ true) (other : is_own first count s ≡ false) where
  pub apart-out : AreApart nodes workers r s
  apart-out =
      let l = own-within first count r own in
      let l0 = l.0 in
      let l1 = l.1 in
      ⊎_elim (λ (before : s < first). (w, omega arith, more-apart r s (tile_start nodes workers w) (omega arith) (omega arith)))
      (λ (behind : first + count ≤ s). (w + 1, omega arith, less-apart r s (tile_start nodes workers (w + 1)) (omega arith) (omega arith)))
      (own-outside first count s other)

  pub apart-in : AreApart nodes workers s r
  apart-in = (apart-out.0, apart-out.1, λ e. apart-out.2 (sym e))

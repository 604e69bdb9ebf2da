-- The words that have a router, and the routers that a channel has.
use Rattle.std.proofs.Common.{◌≡◌, ℕ, ◌+◌, ◌*◌, Bool, true, List, arith, ap, ◌∙◌, mul_comm}
use Rattle.std.specs.Prelude.{◌||◌, nat_eq, not}
use Rattle.noc_columns.proofs.PassLemmas.{some-same}
use Rattle.noc_columns.proofs.UsedLemmas.{channel-of, index-below}
use Rattle.noc_cycles.proofs.Common.{has_bit, channels_of, some_below, set_of, word, Pattern}
use Rattle.noc_cycles.proofs.SomeLemmas.{some-words}

pub or-left : (a b : Bool) → a ≡ true → (a || b) ≡ true
or-left a b e = ap (λ x. x || b) e

module _ (pattern : Pattern) where
  abbrev width : ℕ
  width = pattern.table.ports.links.width

  abbrev vcs : ℕ
  vcs = pattern.table.ports.links.vcs

  -- the routers that a channel has, by the words of all
  pub some-all : (r some : ℕ) (words : List ℕ) → has_bit some r ≡ some_below (vcs * width + vcs) (λ i. has_bit (word (0 + i) words) r)
      → has_bit some r ≡ not (nat_eq (set_of (channels_of pattern.table.ports) r words) 0)
  some-all r some words is =
      is
      ∙ some-same (vcs * width + vcs) _ _ (λ k l. let e : 0 + k ≡ k = omega arith in ap (λ i. has_bit (word i words) r) e)
      ∙ some-words (channels_of pattern.table.ports) (vcs * width + vcs) r words (λ c l. let low = index-below pattern.table.ports c l in omega (arith, low, turn))
      (λ i l. channel-of pattern.table.ports i (omega (arith, l, turn)))
    where
      turn : width * vcs ≡ vcs * width
      turn = mul_comm width vcs

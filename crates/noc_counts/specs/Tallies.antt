-- The counts of verdicts, bit by bit: four cycles are added to the two lowest bits at once, and
-- a carry waits at each higher bit until it is added there.
use Rattle.std.specs.Prelude.{ℕ, zero, suc, ◌+◌, ◌*◌, ◌^◌, ◌&&◌, List, [], slice_index_or, bit_and, bit_or, bit_xor}
use Rattle.noc_packet.specs.Set.{has_bit}
use Rattle.noc_topo.specs.Lists.{one_if}
use Rattle.noc_columns.specs.Words.{word}
use Rattle.noc_counts.specs.declared.tally.Tally.{Tally}
use Rattle.noc_counts.specs.declared.tally.TheConstants.{LEVELS}

-- the sum of three words, and its carry: `(s ^ p) ^ x` and `(s & p) | ((s ^ p) & x)`
abbrev pub sum_of : ℕ → ℕ → ℕ → ℕ
sum_of s p x = bit_xor (bit_xor s p) x

abbrev pub carry_over : ℕ → ℕ → ℕ → ℕ
carry_over s p x = bit_or (bit_and s p) (bit_and (bit_xor s p) x)

-- the words of four cycles added to the two lowest bits
pub record Four : Type 0 where
  pub ones : ℕ
  pub twos : ℕ
  pub carry : ℕ

abbrev pub with_four : ℕ → ℕ → ℕ → ℕ → ℕ → ℕ → Four
with_four ones twos a b c d =
    let with_a = bit_xor ones a in
    let first = bit_or (bit_and ones a) (bit_and with_a b) in
    let with_b = bit_xor with_a b in
    let with_c = bit_xor with_b c in
    let second = bit_or (bit_and with_b c) (bit_and with_c d) in
    let with_first = bit_xor twos first in
    record {
      ones = bit_xor with_c d;
      twos = bit_xor with_first second;
      carry = bit_or (bit_and twos first) (bit_and with_first second);
    }

-- the number of these digits, the lowest first, at the lowest n places; a digit may be 2
unfoldable pub number_by : (ℕ → ℕ) → ℕ → ℕ
number_by digit zero = 0
number_by digit (suc n) = number_by digit n + 2 ^ n * digit n

-- the bit that a level has of router k in word j
abbrev pub bit_level : List (List ℕ) → ℕ → ℕ → ℕ → ℕ
bit_level bits j k level = one_if (has_bit (word j (slice_index_or bits level [])) k)

-- what it has, where sets of four cycles were added `times` times: its bit, and what is pending at
-- it in the times whose number has that bit
abbrev pub at_level : List (List ℕ) → List (List ℕ) → ℕ → ℕ → ℕ → ℕ → ℕ
at_level bits pending times j k level =
    bit_level bits j k level
    + one_if (has_bit times level && has_bit (word j (slice_index_or pending level [])) k)

-- the count of router k in word j
abbrev pub counted_at : Tally → ℕ → ℕ → ℕ → ℕ
counted_at tally times j k =
    one_if (has_bit (word j tally.ones) k) + 2 * one_if (has_bit (word j tally.twos) k)
    + 4 * number_by (at_level tally.bits tally.pending times j k) LEVELS

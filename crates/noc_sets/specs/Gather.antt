-- What comes to all routers by one port is gathered at a fixed distance in their numbering, and
-- where a ring of a torus closes at another one.
use Rattle.std.specs.Prelude.{ℕ, ◌+◌, ◌-◌, ◌*◌, ◌/◌, ◌%◌, ◌^◌, Bool, true, false, ◌&&◌, not, take, Option, Some, None, nat_lt, slice_index, bit_and, bit_or, if◌then◌else◌}
use Rattle.noc_topo.specs.Shape.{Grid, coordinates, is_plus, local_port, neighbour, opposite, product}
use Rattle.noc_packet.specs.Set.{has_bit}
use Rattle.noc_sets.specs.Sets.{up_by, down_by}
use Rattle.noc_sets.specs.Unions.{union_from}

-- how far apart in number neighbours in dimension i are
abbrev pub stride : Grid → ℕ → ℕ
stride g i = product (take i g.radix)

-- .. and how far apart the two ends of a line in dimension i are
abbrev pub span : Grid → ℕ → ℕ
span g i = stride g i * (slice_index g.radix i - 1)

-- whether a router is not the last of its line in the direction of a port: then its neighbour is
-- one stride away
abbrev pub goes_straight : Grid → ℕ → ℕ → Bool
goes_straight g r port =
    if is_plus port
    then nat_lt (slice_index (coordinates g.radix r) (port / 2) + 1)
    (slice_index g.radix (port / 2))
    else nat_lt 0 (slice_index (coordinates g.radix r) (port / 2))

-- whether it is the last of a line that is a ring: then its neighbour is the first, a span away
abbrev pub goes_round : Grid → ℕ → ℕ → Bool
goes_round g r port = g.wraps && not (goes_straight g r port)

-- the router that is one stride on, and the one that is a span back
abbrev pub straight : Grid → ℕ → ℕ → ℕ
straight g r port = if is_plus port then r + stride g (port / 2) else r - stride g (port / 2)

abbrev pub round : Grid → ℕ → ℕ → ℕ
round g r port = if is_plus port then r - span g (port / 2) else r + span g (port / 2)

-- the neighbour by distance
abbrev pub neighbour_by : Grid → ℕ → ℕ → Option (ℕ × ℕ)
neighbour_by g r port =
    if nat_lt port (local_port g)
    then (if goes_straight g r port then Some (straight g r port, opposite port)
    else if goes_round g r port then Some (round g r port, opposite port)
    else None)
    else None

-- ---- words
-- the channels of a port, as a word, where something holds
abbrev pub mask_where : ℕ → ℕ → Bool → ℕ
mask_where vcs port true = up_by (2 ^ vcs - 1) (port * vcs)
mask_where vcs port false = 0

-- the channels of the port at the other end, put where those of this port are
abbrev pub shifted : ℕ → ℕ → ℕ → ℕ
shifted vcs port word = if is_plus port then down_by word vcs else up_by word vcs

-- what comes to router r by a port: the words of the routers at the two distances, each where it
-- goes there
abbrev pub by_port : Grid → ℕ → (ℕ → ℕ) → ℕ → ℕ → ℕ
by_port g vcs words r port =
    bit_or (bit_and (shifted vcs port (words (straight g r port)))
    (mask_where vcs port (goes_straight g r port)))
    (bit_and (shifted vcs port (words (round g r port)))
    (mask_where vcs port (goes_round g r port)))

-- .. by all link ports
abbrev pub gathered : Grid → ℕ → (ℕ → ℕ) → ℕ → ℕ
gathered g vcs words r = union_from 0 (local_port g) (by_port g vcs words r)

-- ---- over the links
-- whether virtual channel vc at the other end of a link, if there is one, is in the word of its
-- router
abbrev pub is_over : ℕ → (ℕ → ℕ) → ℕ → Option (ℕ × ℕ) → Bool
is_over vcs words vc None = false
is_over vcs words vc (Some (to, port)) = has_bit (words to) (port * vcs + vc)

-- whether the channel at the other end of channel i of router r is in the word of its router
abbrev pub comes_over : Grid → ℕ → (ℕ → ℕ) → ℕ → ℕ → Bool
comes_over grid vcs words r i = is_over vcs words (i % vcs) (neighbour grid r (i / vcs))

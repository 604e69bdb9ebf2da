-- Ranks of link channels, and relations along which they rise (Dally and Towles, chapter 14).
use Rattle.std.specs.Prelude.{◌≡◌, ◌≢◌, ℕ, ◌+◌, ◌*◌, ◌<◌, Bool, true, ◌&&◌, List, Option, Some, None, nat_lt, is_some, slice_index_or, if◌then◌else◌, IsTrue}
use Rattle.noc_topo.specs.Shape.{Grid, nodes, local_port, neighbour}
use Rattle.noc_route.specs.Channel.{Channel, Link, arrival_of}
use Rattle.noc_route.specs.Relation.{RelationParts, IsPermitted}
use Rattle.noc_route.specs.Routes.{Routes, permits}

-- a rank for each link channel of a shape with this many channels per link, or none for an adaptive
-- one: router by router, then by link port and channel
pub record Ranking : Type 0 where
  pub grid : Grid
  pub vcs : ℕ
  pub ranks : List (Option ℕ)

-- whether the router, the link port and the channel exist, with a link at the port or without
abbrev pub is_port_channel : Grid → ℕ → ℕ → ℕ → ℕ → Bool
is_port_channel g vcs r p v = nat_lt r (nodes g) && nat_lt p (local_port g) && nat_lt v vcs

-- whether they name a link channel
abbrev pub is_channel : Grid → ℕ → ℕ → ℕ → ℕ → Bool
is_channel g vcs r p v = is_port_channel g vcs r p v && is_some (neighbour g r p)

abbrev pub rank_count : Grid → ℕ → ℕ
rank_count g vcs = nodes g * local_port g * vcs

abbrev pub rank_index : Grid → ℕ → ℕ → ℕ → ℕ → ℕ
rank_index g vcs r p v = (r * local_port g + p) * vcs + v

-- the rank of a link channel; none of an adaptive one, and where there is no channel
abbrev pub rank_at : Ranking → ℕ → ℕ → ℕ → Option ℕ
rank_at k r p v =
    if is_port_channel k.grid k.vcs r p v
    then slice_index_or k.ranks (rank_index k.grid k.vcs r p v) None else None

-- what may be taken next: by a packet of a class, on a channel, bound for a node, this channel
abbrev pub Permitting : Type 1
Permitting = ℕ → Channel → ℕ → Channel → Type 0

-- permitted steps of one class to one destination lead from a channel to a link channel, directly
-- or through adaptive channels only
pub data LeadsTo (Permits : Permitting) (ranks : ℕ → ℕ → ℕ → Option ℕ) (m t : ℕ) : Channel → Channel
    → Type 0 where
  direct : {c : Channel} {r p v : ℕ} → Permits m c t (Link r p v)
      → LeadsTo Permits ranks m t c (Link r p v)
  through : {c e : Channel} {r p v : ℕ} → Permits m c t (Link r p v) → ranks r p v ≡ None
      → LeadsTo Permits ranks m t (Link r p v) e → LeadsTo Permits ranks m t c e

-- A ranked relation. A packet that may go on, and is not at its destination, may go on by a
-- channel with a rank. And ranks rise from one channel with a rank to the next, whatever
-- adaptive channels lie between.
pub record IsRanked (Permits : Permitting) (g : Grid) (ranks : ℕ → ℕ → ℕ → Option ℕ) : Type 0 where
  pub escape : (m t : ℕ) (c o : Channel) (r q : ℕ) → Permits m c t o → arrival_of g c ≡ Some (r, q)
      → r ≢ t
      → (p : ℕ) × (v : ℕ) × (n : ℕ) × Permits m c t (Link r p v) × (ranks r p v ≡ Some n)
  pub rising : (m t r p v a q w n l : ℕ) → LeadsTo Permits ranks m t (Link r p v) (Link a q w)
      → ranks r p v ≡ Some n → ranks a q w ≡ Some l → n < l

-- a relation is ranked by these ranks
abbrev pub IsRankedBy : Routes → Ranking → Type 0
IsRankedBy routes k = IsRanked (λ m c t o. IsTrue (permits routes m c t o)) routes.grid (rank_at k)

-- a rule is ranked by these ranks, before a relation is built of it
abbrev pub IsRankedRule : RelationParts → (ℕ → ℕ → ℕ → Option ℕ) → Type 0
IsRankedRule g ranks = IsRanked (IsPermitted g) g.grid ranks

-- each link channel of a shape with this many channels per link has a rank
abbrev pub AreAllRanked : Grid → ℕ → (ℕ → ℕ → ℕ → Option ℕ) → Type 0
AreAllRanked g vcs ranks =
    (r p v : ℕ) → is_channel g vcs r p v ≡ true → is_some (ranks r p v) ≡ true

-- ranks rise with each permitted step from a link channel with a rank to another
abbrev pub IsRising : Routes → (ℕ → ℕ → ℕ → Option ℕ) → Type 0
IsRising routes ranks =
    (m t r p v a q w n l : ℕ) → IsTrue (permits routes m (Link r p v) t (Link a q w))
    → ranks r p v ≡ Some n → ranks a q w ≡ Some l → n < l

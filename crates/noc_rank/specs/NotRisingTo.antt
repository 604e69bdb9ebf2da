-- Descents, where steps lead from a channel with a rank to one of no greater rank, with channels
-- named by their indices.
use Rattle.std.specs.Prelude.{◌≡◌, ℕ, ◌*◌, ◌/◌, ◌%◌, ◌<◌, ◌≤◌, true, List, Option, Some, None, slice_index_or, length, if◌then◌else◌}
use Rattle.noc_topo.specs.Shape.{nodes, local_port}
use Rattle.noc_steps.specs.Falls.{falls}
use Rattle.noc_route.specs.Ranks.{is_port_channel, is_channel, rank_index, rank_at}
use Rattle.noc_route.specs.Routes.{Routes}
use Rattle.noc_rank.specs.LeastAhead.{over, IsAhead}
use Rattle.noc_rank.specs.declared.channel.LinkChannel.{LinkChannel}
use Rattle.noc_rank.specs.declared.descent.Descent.{Descent}
use Rattle.noc_rank.specs.declared.fault.RankFault.{RankFault}
use Rattle.noc_rank.specs.declared.fault.RankFault.TheVariants.{NotRisingTo}

-- the fault that names a descent
abbrev pub fault_of_descent : Descent → RankFault
fault_of_descent d = NotRisingTo d.from d.to d.rank d.next

-- the channel with an index
abbrev pub channel_at : Routes → ℕ → LinkChannel
channel_at routes n = record {
  router = n / routes.vcs / local_port routes.grid;
  port = n / routes.vcs % local_port routes.grid;
  vc = n % routes.vcs;
}

-- the index of a link channel
abbrev pub IsLinkIndex : Routes → ℕ → Type 0
IsLinkIndex routes n =
    let c = channel_at routes n in is_channel routes.grid routes.vcs c.router c.port c.vc ≡ true

-- only link channels have ranks
abbrev pub AreReal : Routes → List (Option ℕ) → Type 0
AreReal routes ranks =
    (r p v n : ℕ) → rank_at (over routes ranks) r p v ≡ Some n
    → is_channel routes.grid routes.vcs r p v ≡ true

-- the index of a channel whose rank is no greater than that of the channel `start`
abbrev pub mark_below : List (Option ℕ) → ℕ → ℕ → Option ℕ
mark_below ranks start k =
    if falls (slice_index_or ranks start None) (slice_index_or ranks k None) then Some k else None

-- a channel with a rank that is no less than the one ahead of it
pub record BeginsDescent (ranks least : List (Option ℕ)) (n : ℕ) : Type 0 where
  pub inside : n < length ranks
  pub falls : falls (slice_index_or ranks n None) (slice_index_or least n None) ≡ true

-- packets of class m come on from channel n, on their way to t, to one of no greater rank
pub record IsStartBy (routes : Routes) (ranks : List (Option ℕ)) (m t n : ℕ) : Type 0 where
  pub router : ℕ
  pub port : ℕ
  pub vc : ℕ
  pub known : is_port_channel routes.grid routes.vcs router port vc ≡ true
  pub index : rank_index routes.grid routes.vcs router port vc ≡ n
  pub before : ℕ
  pub ranked : rank_at (over routes ranks) router port vc ≡ Some before
  pub after : ℕ
  pub ahead : IsAhead routes ranks ranks m t router port vc after
  pub falls : after ≤ before

-- packets of class m come on from the channel `start`, on their way to t, to
-- one with a rank and mark n
abbrev pub IsAheadAt : Routes → List (Option ℕ) → List (Option ℕ) → ℕ → ℕ → ℕ → ℕ → Type 0
IsAheadAt routes ranks marks m t start n =
    let c = channel_at routes start in IsAhead routes ranks marks m t c.router c.port c.vc n

-- something holds of a number for some class and some destination, of the
-- first `count` pairs of them
pub record IsOverFirst (routes : Routes) (P : ℕ → ℕ → ℕ → Type 0) (count n : ℕ) : Type 0 where
  pub number : ℕ
  pub below : number < count
  pub holds : P (number / nodes routes.grid) (number % nodes routes.grid) n

-- something holds of a number for some class and some destination
abbrev pub IsOver : Routes → (ℕ → ℕ → ℕ → Type 0) → ℕ → Type 0
IsOver routes P n = IsOverFirst routes P (routes.classes * nodes routes.grid) n

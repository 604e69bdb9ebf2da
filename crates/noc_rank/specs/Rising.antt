-- Steps at which ranks do not rise (Dally and Towles, chapter 14).
use Rattle.std.specs.Prelude.{◌≡◌, ℕ, ◌≤◌, false, Some, IsTrue}
use Rattle.noc_topo.specs.Shape.{neighbour}
use Rattle.noc_route.specs.Channel.{Link}
use Rattle.noc_route.specs.Order.{numbers_before, row_numbers}
use Rattle.noc_route.specs.Ranks.{Ranking, rank_at}
use Rattle.noc_route.specs.Routes.{Routes, permits}
use Rattle.noc_route.specs.declared.rule.RouteRow.{RouteRow}

-- a packet that came to this entry, on a link channel of rank `before`, may go on by this link
-- channel, whose rank `after` is not greater
pub record IsFall (routes : Routes) (k : Ranking) (step : RouteRow) (before after : ℕ)
    : Type 0 where
  pub router : ℕ
  pub port : ℕ
  pub link : neighbour routes.grid router port ≡ Some (step.router, step.in_port)
  pub permitted : IsTrue (permits routes step.class (Link router port step.in_vc) step.dst
      (Link step.router step.out_port step.out_vc))
  pub before_is : rank_at k router port step.in_vc ≡ Some before
  pub after_is : rank_at k step.router step.out_port step.out_vc ≡ Some after
  pub falls : after ≤ before

-- the first such step, in the order of class, router, input port and channel,
-- destination, output port and channel
pub record IsFirstFall (routes : Routes) (k : Ranking) (step : RouteRow) (before after : ℕ)
    : Type 0 where
  pub fall : IsFall routes k step before after
  pub first : (other : RouteRow) (a b : ℕ) → IsFall routes k other a b
      → numbers_before (row_numbers other) (row_numbers step) ≡ false

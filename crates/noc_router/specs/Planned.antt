-- Which decisions the fields of a plan stand for, and what is true of these fields.
use Rattle.std.specs.Prelude.{◌≤◌, take}
use Rattle.noc_packet.specs.declared.limits.TheConstants.{INDICES, MAX_PORTS}
use Rattle.noc_router.specs.declared.plan.Plan.TheInside.{Inside}
use Rattle.noc_view.specs.Verdict.{Round}
use Rattle.noc_view.specs.View.{PlanContents}

-- what the arbiters have decided
abbrev pub round_in : Inside → Round
round_in p = record {
  grants = take p.size p.grants;
  picks = take p.ports p.picks;
  wins = take p.ports p.wins;
}

abbrev pub plan_contents_in : Inside → PlanContents
plan_contents_in p = record {
  round = round_in p;
  asks = take p.size p.asks;
  verdicts = take p.size p.verdicts;
  routes = take p.size p.routes;
}

-- there is room for the channels and the ports
pub record IsPlan (p : Inside) : Type 0 where
  pub few_ports : p.ports ≤ MAX_PORTS
  pub few : p.size ≤ INDICES

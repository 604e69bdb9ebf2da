-- How long the lists are in which the decisions of a router's cycle stand, who is named in them,
-- and the decisions where nothing is asked for.
use Rattle.std.specs.Prelude.{◌≡◌, ℕ, ◌*◌, not, None, length, replicate}
use Rattle.noc_alloc.specs.Requests.{AllBelow}
use Rattle.noc_vc.specs.Input.{is_empty}
use Rattle.noc_view.specs.Verdict.{Round, verdict_of}
use Rattle.noc_view.specs.View.{PlanContents, View, view_buffer, view_claim}
use Rattle.noc_view.specs.declared.verdict.Verdict.{Verdict}
use Rattle.noc_view.specs.declared.verdict.Verdict.TheVariants.{Empty}

-- an entry for each output channel, port and input channel, and those who win are of the router
pub record IsDecidedFor (ports vcs : ℕ) (p : PlanContents) : Type 0 where
  pub grants : length p.round.grants ≡ ports * vcs
  pub picks : length p.round.picks ≡ ports
  pub wins : length p.round.wins ≡ ports
  pub asks : length p.asks ≡ ports * vcs
  pub verdicts : length p.verdicts ≡ ports * vcs
  pub routes : length p.routes ≡ ports * vcs
  pub granted : AllBelow (ports * vcs) p.round.grants
  pub picked : AllBelow vcs p.round.picks
  pub won : AllBelow ports p.round.wins

-- no request, and every channel empty
abbrev pub empty_plan_contents : ℕ → ℕ → PlanContents
empty_plan_contents ports vcs = record {
  round = record {
    grants = replicate (ports * vcs) None;
    picks = replicate ports None;
    wins = replicate ports None;
  };
  asks = replicate (ports * vcs) None;
  verdicts = replicate (ports * vcs) Empty;
  routes = replicate (ports * vcs) 0;
}

-- the verdict on input channel i in this round
abbrev pub verdict_at : Round → View → ℕ → Verdict
verdict_at round v i =
    verdict_of v.site.vcs round i (view_claim v i) (not (is_empty (view_buffer v i)))

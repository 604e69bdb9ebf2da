-- What a router counts of its input channels, and what it finds of them.
use Rattle.std.specs.Prelude.{◌≡◌, ℕ, ◌^◌, ◌<◌, List, [], sum, length, replicate, slice_index_or}
use Rattle.noc_view.specs.Found.{finding_at}
use Rattle.noc_view.specs.View.{PlanContents}
use Rattle.noc_view.specs.declared.finding.Finding.{Finding}
use Rattle.noc_view.specs.declared.verdict.TheConstants.{VERDICTS}
use Rattle.noc_view.specs.declared.verdict.Verdict.{Verdict}
use Rattle.noc_router.specs.declared.channels.Channels.{Channels}

-- the ten counts of each channel, and what was found of each in the last cycle: nothing before the
-- first
pub record TallyContents : Type 0 where
  pub counts : List (List ℕ)
  pub findings : List Finding

-- nothing is counted yet
abbrev pub empty_tally : ℕ → TallyContents
empty_tally size = record { counts = replicate size (replicate VERDICTS 0); findings = [] }

-- so many cycles are counted of each channel, and there is a finding for each
pub record IsTally (cycles : ℕ) (counts : List (List ℕ)) (findings : List Finding) : Type 0 where
  pub fits : cycles < 2 ^ 64
  pub ten : (i : ℕ) → i < length counts → length (slice_index_or counts i []) ≡ VERDICTS
  pub sums : (i : ℕ) → i < length counts → sum (slice_index_or counts i []) ≡ cycles
  pub found : length findings ≡ length counts

-- a plan of these channels, of which there are so many
pub record IsPlanOf (router : Channels) (size : ℕ) (p : PlanContents) : Type 0 where
  pub channels : router.size ≡ size
  pub asks : length p.asks ≡ size
  pub verdicts : length p.verdicts ≡ size

-- what is found of the channels has these verdicts
abbrev pub HaveVerdicts : (ℕ → Verdict) → List Finding → Type 0
HaveVerdicts verdict findings =
    (i : ℕ) → i < length findings → (finding_at findings i).verdict ≡ verdict i

-- Where a run ends that goes on until every packet is out (docs/MODEL.md, "Runs that drain").
use Rattle.std.specs.Prelude.{◌≡◌, ℕ, ◌+◌, ◌*◌, ◌<◌, ◌≤◌, Bool, true, false}
use Rattle.noc_net.specs.Limit.{are_all_out, IsLimit}
use Rattle.noc_theory.specs.Network.{Setup, state_at}
use Rattle.noc_times.specs.declared.looks.TheConstants.{DRAIN_CHECK_INTERVAL}

-- whether every packet is out at a count
abbrev pub is_out_at : Setup → ℕ → Bool
is_out_at net count = are_all_out net (state_at net count)

-- the count at look k: the first is after the cycles of the configuration, each of
-- the others 64 cycles later
abbrev pub look : ℕ → ℕ → ℕ
look cycles k = cycles + k * DRAIN_CHECK_INTERVAL

-- a run that is to drain ends after the cycles of the configuration, where its limit is not later.
-- Otherwise it ends at the first look below the limit at which every packet is out, or at the
-- limit where there is none
pub data DrainsBy (net : Setup) (limit cycles : ℕ) : ℕ → Type 0 where
  at_once : limit ≤ cycles → DrainsBy net limit cycles cycles
  once_out : (k : ℕ) → look cycles k < limit → is_out_at net (look cycles k) ≡ true
      → ((j : ℕ) → j < k → is_out_at net (look cycles j) ≡ false)
      → DrainsBy net limit cycles (look cycles k)
  at_limit : cycles < limit
      → ((j : ℕ) → look cycles j < limit → is_out_at net (look cycles j) ≡ false)
      → DrainsBy net limit cycles limit

-- a run that drains ends at `end`, by the limit of its network
pub record DrainsAt (net : Setup) (cycles end : ℕ) : Type 0 where
  pub limit : ℕ
  pub is_limit : IsLimit net limit
  pub drains : DrainsBy net limit cycles end

-- where a run ends, which drains or not
abbrev pub RunsTo : Bool → Setup → ℕ → ℕ → Type 0
RunsTo false net cycles end = end ≡ cycles
RunsTo true net cycles end = DrainsAt net cycles end

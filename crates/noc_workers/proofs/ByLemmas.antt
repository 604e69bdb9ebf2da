-- A run in stretches.
use Rattle.std.proofs.Common.{◌≡◌, ℕ, ◌+◌, ◌-◌, ◌<◌, ◌≤◌, subst, arith}
use Rattle.noc_route.specs.Routes.{Routes}
use Rattle.noc_theory.specs.Network.{Setup}
use Rattle.noc_theory.specs.declared.limits.TheConstants.{CYCLE_LIMIT}
use Rattle.noc_engine.specs.Origins.{net_in}
use Rattle.noc_engine.specs.Runs.{AreFindings, MayRun, ShowsRun}
use Rattle.noc_engine.specs.declared.columns.Columns.{Columns}
use Rattle.noc_engine.proofs.RunLemmas.{found-then, may-run, then-shown}

-- of so many cycles from a count on these are left, of which the last one is to be noted
pub record IsRunning (net : Setup) (n cycles left : ℕ) (now : Columns) : Type 0 where
  pub within : left ≤ cycles
  pub shows : ShowsRun net (n + (cycles - left)) now
  pub found : left ≡ 0 → AreFindings net now

module _ (relation : Routes) (net : Setup) (n cycles : ℕ) (is : net.relation ≡ relation) (few : n + cycles ≤ CYCLE_LIMIT) where
  pub none-run : (first : Columns) → ShowsRun net n first → AreFindings net first → IsRunning net n cycles cycles first
  none-run first shows found = record {
    within = omega arith;
    shows = subst (λ m. ShowsRun net m first) (omega arith) shows;
    found = λ none. found;
  }

  module _ (left : ℕ) (now : Columns) (on : IsRunning net n cycles left now) where
    pub may-stretch : (part : ℕ) → part ≤ left → MayRun relation part now
    may-stretch part less = may-run net (n + (cycles - left)) now on.shows relation part is (let within = on.within in omega (arith, few, less, within))

    pub some-run : (part : ℕ) (next : Columns) → part < left → ShowsRun net (now.tile.cycle + part) next → IsRunning net n cycles (left - part) next
    some-run part next less shows = record {
      within = let most = on.within in omega (arith, most);
      shows = let most = on.within in let cycle = on.shows.1.tile.cycle in subst (λ m. ShowsRun net m next) (omega (arith, less, most, cycle)) shows;
      found = λ none. absurd (omega (arith, none, less));
    }

    pub last-run : (next : Columns) → ShowsRun (net_in now.origin) (now.tile.cycle + left) next → ShowsRun net (n + cycles) next
    last-run next shows = subst (λ m. ShowsRun net m next) (let most = on.within in omega (arith, most)) (then-shown net (n + (cycles - left)) now on.shows left next shows)

    pub last-found : (next : Columns) → ShowsRun (net_in now.origin) (now.tile.cycle + left) next → (0 < left → AreFindings (net_in now.origin) next) → (left ≡ 0 → next ≡ now) → AreFindings (net_in next.origin) next
    last-found next shows after kept =
        found-then net (n + cycles) left now next (last-run next shows) on.found (λ some. subst (λ (m : Setup). AreFindings m next) on.shows.1.made (after some)) kept

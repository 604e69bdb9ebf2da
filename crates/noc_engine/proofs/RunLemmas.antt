-- A run, cycle after cycle.
use Rattle.std.proofs.Common.{◌≡◌, ℕ, zero, suc, refl, ◌+◌, ◌-◌, ◌<◌, ◌≤◌, ap, sym, ◌∙◌, subst, arith}
use Rattle.noc_route.specs.Routes.{Routes}
use Rattle.noc_theory.specs.Network.{Run, Setup}
use Rattle.noc_theory.specs.declared.limits.TheConstants.{CYCLE_LIMIT}
use Rattle.noc_engine.specs.Origins.{net_in}
use Rattle.noc_engine.specs.Runs.{AreFindings, HasJustRun, MayRun, ShowsRun}
use Rattle.noc_engine.specs.Steps.{HasRunCycle, MayStep}
use Rattle.noc_engine.specs.declared.columns.Columns.{Columns}
use Rattle.noc_engine.specs.declared.origin.Origin.{Origin}

-- ---- columns show a network at a count
module _ (net : Setup) (n : ℕ) (all : Columns) (shows : ShowsRun net n all) where
  -- so they show that of which they were made, at their own count
  pub own-shown : ShowsRun (net_in all.origin) all.tile.cycle all
  own-shown = subst (λ (m : Setup). ShowsRun m all.tile.cycle all) (sym shows.1.made) (subst (λ k. ShowsRun net k all) (sym shows.1.tile.cycle) shows)

  pub may-run : (relation : Routes) (more : ℕ) → net.relation ≡ relation → n + more ≤ CYCLE_LIMIT → MayRun relation more all
  may-run relation more is within = record {
    is = ap (λ (m : Setup). m.relation) shows.1.made ∙ is;
    within = let cycle = shows.1.tile.cycle in omega (arith, within, cycle);
    shows = own-shown;
  }

  pub then-shown : (more : ℕ) (next : Columns) → ShowsRun (net_in all.origin) (all.tile.cycle + more) next → ShowsRun net (n + more) next
  then-shown more next then =
      subst (λ (m : Setup). ShowsRun m (n + more) next) shows.1.made (subst (λ k. ShowsRun (net_in all.origin) (k + more) next) shows.1.tile.cycle then)

  -- .. and are seen as that
  pub run-is : (let u : Run = record { net = net_in all.origin; count = all.tile.cycle } in u) ≡ record { net = net; count = n }
  run-is = ap (λ (m : Setup). (let u : Run = record { net = m; count = all.tile.cycle } in u)) shows.1.made ∙ ap (λ k. (let u : Run = record { net = net; count = k } in u)) shows.1.tile.cycle

-- they have what was found, also where no cycle has run
pub found-then : (net : Setup) (n cycles : ℕ) (all next : Columns) → ShowsRun net n next → (cycles ≡ 0 → AreFindings net all) → (0 < cycles → AreFindings net next) → (cycles ≡ 0 → next ≡ all) → AreFindings (net_in next.origin) next
found-then net n zero all next shows before after kept = subst (λ (m : Setup). AreFindings m next) (sym shows.1.made) (subst (λ (c : Columns). AreFindings net c) (sym (kept refl)) (before refl))
found-then net n (suc k) all next shows before after kept = subst (λ (m : Setup). AreFindings m next) (sym shows.1.made) (after (omega arith))

-- they may run fewer cycles
pub may-fewer : (relation : Routes) (most part : ℕ) (all : Columns) → part ≤ most → MayRun relation most all → MayRun relation part all
may-fewer relation most part all few may = record { is = may.is; within = let within = may.within in omega (arith, few, within); shows = may.shows }

-- ---- a cycle, and those after it
module _ (relation : Routes) (most : ℕ) (all : Columns) (some : 0 < most) (may : MayRun relation most all) where
  pub may-step : MayStep (net_in all.origin) relation all.tile.cycle may.shows.0 all
  may-step = record { is = may.is; few = let within = may.within in omega (arith, within, some); shows = may.shows.1 }

  pub just-run : (next : Columns) → HasRunCycle relation all next → HasJustRun (net_in next.origin) all.tile.cycle (most - 1) next
  just-run next has =
      subst (λ (m : Setup). HasJustRun m all.tile.cycle (most - 1) next) (ap (λ (o : Origin). net_in o) (sym has.stepped.origin_stays)) (record {
        relation = relation;
        words = has.words;
        next = has.next;
        was = all;
        may = has.may;
        stepped = has.stepped;
        within = let within = may.within in omega (arith, within, some);
      })

  pub some-follow : (next : Columns) (more : ℕ) (last : Columns) → HasRunCycle relation all next → ShowsRun (net_in next.origin) (next.tile.cycle + more) last → ShowsRun (net_in all.origin) (all.tile.cycle + (1 + more)) last
  some-follow next more last has shows =
      let cycle = has.stepped.tile.shows.cycle in
      subst (λ k. ShowsRun (net_in all.origin) k last) (omega (arith, cycle))
      (subst (λ (m : Setup). ShowsRun m (next.tile.cycle + more) last) (ap (λ (o : Origin). net_in o) has.stepped.origin_stays) shows)

-- ---- many of them
-- of so many cycles these are left
pub record IsRunning (cycles left : ℕ) (first now : Columns) : Type 0 where
  pub within : left ≤ cycles
  pub shows : ShowsRun (net_in first.origin) (first.tile.cycle + (cycles - left)) now

module _ (relation : Routes) (cycles : ℕ) (first : Columns) (may : MayRun relation cycles first) where
  pub none-run : IsRunning cycles cycles first first
  none-run = record {
    within = omega arith;
    shows = subst (λ k. ShowsRun (net_in first.origin) k first) (omega arith) may.shows;
  }

  module _ (left : ℕ) (now : Columns) (running : IsRunning cycles left first now) where
    pub may-go-on : MayRun relation left now
    may-go-on = may-run (net_in first.origin) (first.tile.cycle + (cycles - left)) now running.shows relation left may.is (let within = may.within in omega (arith, within, running.within))

    pub some-run : (more : ℕ) (next : Columns) → more ≤ left → ShowsRun (net_in now.origin) (now.tile.cycle + more) next → IsRunning cycles (left - more) first next
    some-run more next few shows = record {
      within = omega (arith, running.within);
      shows = subst (λ k. ShowsRun (net_in first.origin) k next) (omega (arith, few, running.within)) (then-shown (net_in first.origin) (first.tile.cycle + (cycles - left)) now running.shows more next shows);
    }

  pub all-run : (now : Columns) (left : ℕ) → left ≤ 0 → IsRunning cycles left first now → ShowsRun (net_in first.origin) (first.tile.cycle + cycles) now
  all-run now left none running = subst (λ k. ShowsRun (net_in first.origin) k now) (omega (arith, none)) running.shows

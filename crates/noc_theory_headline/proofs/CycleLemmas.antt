-- What holds of every cycle.
use Rattle.std.proofs.Common.{ℕ}
use Rattle.noc_topo.specs.Lists.{Has}
use Rattle.noc_route.specs.Channel.{Channel}
use Rattle.noc_theory.specs.Network.{Setup, all_inputs, frozen_at}
use Rattle.noc_theory.specs.Good.{IsWellFormedSetup}
use Rattle.noc_theory.proofs.worms.NetworkLemmas.{out-at, frozen_credit-at}
use Rattle.noc_theory.proofs.worms.WormOrderLemmas.{worm_order-at, worm_order-frozen_at, credit-at}
use Rattle.noc_theory.proofs.join.OrderedStateLemmas.{ordered-frozen}
use Rattle.noc_theory.proofs.join.PlaceViewLemmas.{input-at, arriving-at, same-place}
use Rattle.noc_theory.proofs.join.LockstepTheoremLemmas.{good-network}
use Rattle.noc_theory_headline.specs.Headline.{IsInput, IsRightCycle}
use Rattle.noc_theory_headline.proofs.SaysLemmas.{verdict-says}

module _ (net : Setup) (made : IsWellFormedSetup net) where
  pub somewhere : (c : Channel) → Has c (all_inputs net) → IsInput net c
  somewhere c h = let a = input-at net (good-network net made) c h in (a.0, a.1, record { router = a.2.router; index = a.2.index; is = a.2.found })

  pub right-cycle : (n : ℕ) → IsRightCycle net n
  right-cycle n = record {
    somewhere = somewhere;
    once = λ r i s j c at to.
        same-place net (good-network net made) r i s j c (arriving-at net (good-network net made) r i c at.router at.index at.is)
        (arriving-at net (good-network net made) s j c to.router to.index to.is);
    verdicts = λ r i c at v. verdict-says net (good-network net made) (frozen_at net n) (ordered-frozen net (good-network net made) n) r at.router i c
        (arriving-at net (good-network net made) r i c at.router at.index at.is) v;
    start = worm_order-at net made n;
    frozen = worm_order-frozen_at net made n;
    credits = λ c. credit-at net made n c;
    frozen_credits = λ c. frozen_credit-at net made n c;
    out_in_order = λ p i j a b v l e f. (out-at net made n).rising p i j a b v l e f;
  }

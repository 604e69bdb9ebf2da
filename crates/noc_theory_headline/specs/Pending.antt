-- A cycle in which a packet waits, and one in which something happens (docs/MODEL.md,
-- "Events, pending, stuck").
use Rattle.std.specs.Prelude.{◌≡◌, ◌≢◌, ◌⊎◌, ℕ, ◌<◌, ◌≤◌, length}
use Rattle.noc_topo.specs.Lists.{Has}
use Rattle.noc_route.specs.Channel.{Channel}
use Rattle.noc_view.specs.declared.verdict.Verdict.TheVariants.{Routed, Granted, Moved}
use Rattle.noc_theory.specs.Network.{Setup, Source, On, In, Out, packet_at, place_of_flit, tail_place, state_at, frozen_at}
use Rattle.noc_theory.specs.Good.{IsValid}
use Rattle.noc_theory_headline.specs.Headline.{IsInputOf, Says}

-- a packet that was due by cycle n has its tail not out
pub record IsPendingIn (net : Setup) (n : ℕ) : Type 0 where
  pub packet : ℕ
  pub exists : packet < length net.packets
  pub due : (packet_at net packet).due ≤ n
  pub waits : (m : ℕ) → tail_place net (state_at net n) packet ≢ Out m

-- something happens in cycle n: a flit on a wire lands, a credit arrives, a source injects a flit,
-- or an input channel is routed, is granted a channel or moves a flit
pub data HappensIn (net : Setup) (n : ℕ) : Type 0 where
  lands : (p i : ℕ) (c : Channel) → IsValid net p i → place_of_flit net (state_at net n) p i ≡ On c
      → HappensIn net n
  credit : (c : Channel) → Has c (state_at net n).back → HappensIn net n
  injects : (p i : ℕ) (c : Channel) → IsValid net p i
      → place_of_flit net (state_at net n) p i ≡ Source
      → place_of_flit net (frozen_at net n) p i ≡ In c → HappensIn net n
  acts : (r i : ℕ) (c : Channel) → IsInputOf net r i c
      → Says net (frozen_at net n) r i c Routed
      ⊎ (Says net (frozen_at net n) r i c Granted ⊎ Says net (frozen_at net n) r i c Moved)
      → HappensIn net n

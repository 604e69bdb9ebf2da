-- Where the flits are once those on wires have landed and the sources have injected.
use Rattle.std.proofs.Common.{◌≡◌, ◌≢◌, ℕ, ◌<◌, length, refl, ap, sym, ◌∙◌, inl, inr}
use Rattle.std.specs.Prelude.{◌⊎◌}
use Rattle.std.proofs.lemmas.Bool.{cases_eq}
use Rattle.noc_topo.specs.Lists.{Has}
use Rattle.noc_route.specs.Channel.{Channel, Inject}
use Rattle.noc_theory.specs.Network.{Setup, State, Injection, Located, Source, In, landed_place, after_landing, after_credits, after_injection, frozen_state, injections, packet_at, place_of_flit, state_at, frozen_at}
use Rattle.noc_theory.specs.Good.{IsWellFormedSetup, IsValid}
use Rattle.noc_theory.proofs.worms.BuiltLemmas.{good-built}
use Rattle.noc_theory.proofs.worms.BuiltRecordLemmas.{IsBuilt}
use Rattle.noc_theory.proofs.worms.NetworkLemmas.{mid_at, whole-mid_at}
use Rattle.noc_theory.proofs.worms.WormOrderLemmas.{whole-at}
use Rattle.noc_theory.proofs.worms.InjectionPhaseLemmas.{IsInjected}
use Rattle.noc_theory.proofs.worms.InjectionStateLemmas.{entries-apart, entries-are, entries-move}
use Rattle.noc_theory.proofs.worms.PlaceLemmas.{place-stepped}
use Rattle.noc_theory.proofs.worms.SoundLemmas.{IsSoundFrozen}
use Rattle.noc_theory.proofs.worms.WormRecordLemmas.{source-landed}

module _ (net : Setup) (good : IsWellFormedSetup net) (n : ℕ) where
  abbrev S : State
  S = state_at net n

  -- the state in which the sources inject
  abbrev M : State
  M = mid_at net good n

  built : IsBuilt net
  built = good-built net good

  sound : IsSoundFrozen net (mid_at net good n)
  sound = (whole-mid_at net good n).sound

  landed : (p i : ℕ) → IsValid net p i → place_of_flit net M p i ≡ landed_place net (place_of_flit net S p i)
  unfolding after_landing after_credits
  landed p i v = place-stepped net (λ (f : Located). landed_place net f.place) S (after_landing net S) (whole-at net good n).sound.keyed refl p i v

  at-source : (p i : ℕ) → IsValid net p i → place_of_flit net M p i ≡ Source → place_of_flit net S p i ≡ Source
  at-source p i v e = source-landed net (place_of_flit net S p i) (sym (landed p i v) ∙ e)

  -- what is injected of a packet
  abbrev Injected : ℕ → Type 0
  Injected p =
      IsInjected net built M.own (place_of_flit net M) sound.worm (injections net M n) (entries-are net built M sound.keyed sound.worm n) (entries-apart net built M sound.keyed sound.worm n)
      (place_of_flit net (after_injection net n M)) p

  injects-of : (p : ℕ) → p < length net.packets → Injected p
  injects-of p low = entries-move net built M sound.keyed sound.worm n p low

  -- an injection is of a flit that goes from its source into the buffer of a channel
  pub injected-flit : (one : Injection net) → Has one (injections net M n)
      → (p : ℕ) × (i : ℕ) × (c : Channel) × IsValid net p i × (place_of_flit net S p i ≡ Source) × (place_of_flit net (frozen_at net n) p i ≡ In c)
  unfolding frozen_state
  injected-flit one h = by (injects-of one.packet (entries-are net built M sound.keyed sound.worm n one h).1.low)
    where
      by : Injected one.packet → (p : ℕ) × (i : ℕ) × (c : Channel) × IsValid net p i × (place_of_flit net S p i ≡ Source) × (place_of_flit net (frozen_at net n) p i ≡ In c)
      by (inl none) = absurd (none.1 one h refl)
      by (inr (other, has, same, e)) = (one.packet, e.flit, other.channel, e.valid, at-source one.packet e.flit e.valid e.was, e.now)

  pub starts : (p i : ℕ) → IsValid net p i
      → (place_of_flit net (frozen_at net n) p i ≡ landed_place net (place_of_flit net S p i))
      ⊎ ((place_of_flit net S p i ≡ Source) × (v : ℕ) × (place_of_flit net (frozen_at net n) p i ≡ In (Inject (packet_at net p).source v)))
  unfolding frozen_state
  starts p i v = by (injects-of p v.0)
    where
      by : Injected p
          → (place_of_flit net (frozen_at net n) p i ≡ landed_place net (place_of_flit net S p i))
          ⊎ ((place_of_flit net S p i ≡ Source) × (v : ℕ) × (place_of_flit net (frozen_at net n) p i ≡ In (Inject (packet_at net p).source v)))
      by (inl none) = inl (none.0 i v ∙ landed p i v)
      by (inr (one, has, same, e)) = at (cases_eq i e.flit)
        where
          at : (i ≡ e.flit) ⊎ (i ≢ e.flit)
              → (place_of_flit net (frozen_at net n) p i ≡ landed_place net (place_of_flit net S p i))
              ⊎ ((place_of_flit net S p i ≡ Source) × (v : ℕ) × (place_of_flit net (frozen_at net n) p i ≡ In (Inject (packet_at net p).source v)))
          at (inr other) = inl (e.others i v other ∙ landed p i v)
          at (inl is) =
              let entry = entries-are net built M sound.keyed sound.worm n one has in
              let node : entry.0 ≡ (packet_at net p).source = entry.1.from ∙ ap (λ q. (packet_at net q).source) same in
              inr (
                at-source p i v (ap (place_of_flit net M p) is ∙ e.was),
                entry.1.vc,
                ap (place_of_flit net (after_injection net n M) p) is ∙ e.now ∙ ap In entry.1.channel ∙ ap (λ (m : ℕ). In (Inject m entry.1.vc)) node,
              )

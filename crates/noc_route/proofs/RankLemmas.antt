-- Relations that permit the same are ranked by the same ranks.
use Rattle.std.proofs.Common.{ℕ, Option}
use Rattle.noc_topo.specs.Shape.{Grid}
use Rattle.noc_route.specs.Channel.{Channel, Link}
use Rattle.noc_route.specs.Ranks.{Permitting, LeadsTo, direct, through, IsRanked}

module _ (P Q : Permitting) (ranks : ℕ → ℕ → ℕ → Option ℕ) (to : (m : ℕ) (c : Channel) (t : ℕ) (o : Channel) → P m c t o → Q m c t o) where
  pub leads-too : (m t : ℕ) (c e : Channel) → LeadsTo P ranks m t c e → LeadsTo Q ranks m t c e
  leads-too m t c (Link r p v) (direct h) = direct (to m c t (Link r p v) h)
  leads-too m t c e (through {r = r} {p = p} {v = v} h none rest) = through (to m c t (Link r p v) h) none (leads-too m t (Link r p v) e rest)

pub same-ranked : (P Q : Permitting) (g : Grid) (ranks : ℕ → ℕ → ℕ → Option ℕ) → ((m : ℕ) (c : Channel) (t : ℕ) (o : Channel) → P m c t o → Q m c t o)
    → ((m : ℕ) (c : Channel) (t : ℕ) (o : Channel) → Q m c t o → P m c t o) → IsRanked P g ranks → IsRanked Q g ranks
same-ranked P Q g ranks to from ranked = record {
  escape = λ m t c o r q h arrives away.
      let e = ranked.escape m t c o r q (from m c t o h) arrives away in
      (e.0, e.1, e.2, to m c t (Link r e.0 e.1) e.3, e.4);
  rising = λ m t r p v a q w n l leads one other. ranked.rising m t r p v a q w n l (leads-too Q P ranks from m t (Link r p v) (Link a q w) leads) one other;
}

-- Why ranks are not accepted for a relation.
use Rattle.std.specs.Prelude.{◌≡◌, ◌≢◌, ℕ, ◌≤◌, List, [], ◌∷◌, false, Some, None, IsTrue}
use Rattle.noc_route.specs.Channel.{Channel, Link, arrival_of, channel_vc}
use Rattle.noc_route.specs.Order.{numbers_before, entry_numbers}
use Rattle.noc_route.specs.Ranks.{Ranking, LeadsTo, AreAllRanked, rank_at}
use Rattle.noc_route.specs.Routes.{Routes, permits}
use Rattle.noc_route.specs.declared.rule.RouteRow.{RouteRow}
use Rattle.noc_route.specs.declared.rule.Entry.{Entry}
use Rattle.noc_rank.specs.Rising.{IsFirstFall}
use Rattle.noc_rank.specs.declared.channel.LinkChannel.{LinkChannel}
use Rattle.noc_rank.specs.declared.fault.RankFault.{RankFault}
use Rattle.noc_rank.specs.declared.fault.RankFault.TheVariants.{NotRising, NotRisingTo, NoEscape, Memory}

-- packets come to an entry, away from its destination, and no channel with
-- a rank is permitted there
pub record IsBare (routes : Routes) (k : Ranking) (e : Entry) : Type 0 where
  pub from : Channel
  pub input : arrival_of routes.grid from ≡ Some (e.router, e.in_port)
  pub channel : channel_vc from ≡ e.in_vc
  pub next : Channel
  pub permitted : IsTrue (permits routes e.class from e.dst next)
  pub away : e.router ≢ e.dst
  pub none : (p v : ℕ) → IsTrue (permits routes e.class from e.dst (Link e.router p v))
      → rank_at k e.router p v ≡ None

-- the first such entry, in the order of class, router, input port and channel, and destination
pub record IsFirstBare (routes : Routes) (k : Ranking) (e : Entry) : Type 0 where
  pub bare : IsBare routes k e
  pub first : (other : Entry) → IsBare routes k other
      → numbers_before (entry_numbers other) (entry_numbers e) ≡ false

-- no entry is so
abbrev pub HasEscapes : Routes → Ranking → Type 0
HasEscapes routes k = (e : Entry) → IsBare routes k e → ⊥

-- permitted steps of one class to one destination lead from one channel with a rank to another,
-- directly or through adaptive channels only, and the other's rank is not greater
pub record IsDescent (routes : Routes) (k : Ranking) (e o : LinkChannel) (before after : ℕ)
    : Type 0 where
  pub class : ℕ
  pub dst : ℕ
  pub leads : LeadsTo (λ m c t o. IsTrue (permits routes m c t o)) (rank_at k) class dst
      (Link e.router e.port e.vc) (Link o.router o.port o.vc)
  pub before_is : rank_at k e.router e.port e.vc ≡ Some before
  pub after_is : rank_at k o.router o.port o.vc ≡ Some after
  pub falls : after ≤ before

-- the numbers of two channels, by which pairs are in order
abbrev pub pair_numbers : LinkChannel → LinkChannel → List ℕ
pair_numbers e o = e.router ∷ e.port ∷ e.vc ∷ o.router ∷ o.port ∷ o.vc ∷ []

-- the first such pair, the first channel before the second, each in the order of
-- router, port and channel
pub record IsFirstDescent (routes : Routes) (k : Ranking) (e o : LinkChannel) (before after : ℕ)
    : Type 0 where
  pub descent : IsDescent routes k e o before after
  pub first : (a b : LinkChannel) (x y : ℕ) → IsDescent routes k a b x y
      → numbers_before (pair_numbers a b) (pair_numbers e o) ≡ false

-- there is no such pair
abbrev pub HasNoDescent : Routes → Ranking → Type 0
HasNoDescent routes k =
    (e o : LinkChannel) (before after : ℕ) → IsDescent routes k e o before after → ⊥

-- the step from an entry by an output channel
abbrev pub step_of : Entry → ℕ → ℕ → RouteRow
step_of e port vc = record {
  class = e.class;
  router = e.router;
  in_port = e.in_port;
  in_vc = e.in_vc;
  dst = e.dst;
  out_port = port;
  out_vc = vc;
}

-- where each link channel has a rank, the first step that does not rise; else the first entry
-- without an escape, else the first pair that does not rise, or memory was refused
abbrev pub IsFaultOfCheck : Routes → Ranking → RankFault → Type 0
IsFaultOfCheck routes k (NotRising entry port vc before after) =
    AreAllRanked k.grid k.vcs (rank_at k)
    × IsFirstFall routes k (step_of entry port vc) before after
IsFaultOfCheck routes k (NoEscape entry) =
    (AreAllRanked k.grid k.vcs (rank_at k) → ⊥) × IsFirstBare routes k entry
IsFaultOfCheck routes k (NotRisingTo e o before after) =
    (AreAllRanked k.grid k.vcs (rank_at k) → ⊥) × HasEscapes routes k
    × IsFirstDescent routes k e o before after
IsFaultOfCheck routes k Memory = (AreAllRanked k.grid k.vcs (rank_at k) → ⊥) × HasEscapes routes k
IsFaultOfCheck routes k _ = ⊥

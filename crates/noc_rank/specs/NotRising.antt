-- Steps that do not rise, entry by entry.
use Rattle.std.specs.Prelude.{◌≡◌, ℕ, ◌*◌, ◌/◌, ◌%◌, ◌<◌, Bool, true, false, ◌&&◌, Option, Some, None, nat_le}
use Rattle.noc_packet.specs.Set.{has_bit}
use Rattle.noc_topo.specs.Shape.{nodes, ports, local_port, neighbour}
use Rattle.noc_route.specs.Routes.{Routes, set_at}
use Rattle.noc_rank.specs.declared.rising.Fall.{Fall}
use Rattle.noc_rank.specs.declared.fault.RankFault.{RankFault}
use Rattle.noc_rank.specs.declared.fault.RankFault.TheVariants.{NotRising}
use Rattle.noc_route.specs.Ranks.{Ranking, rank_at}

-- the rank of the link channel number w that is sent from here
abbrev pub rank_from : Ranking → ℕ → Option (ℕ × ℕ) → Option ℕ
rank_from k w None = None
rank_from k w (Some from) = rank_at k from.0 from.1 w

-- the rank of the link channel that arrives at an input channel, if there is one and it has a rank
abbrev pub arrival_rank : Ranking → ℕ → ℕ → ℕ → Option ℕ
arrival_rank k r q w = rank_from k w (neighbour k.grid r q)

-- whether there is a rank, and it is not greater than the one before
abbrev pub is_not_above : ℕ → Option ℕ → Bool
is_not_above before None = false
is_not_above before (Some after) = nat_le after before

-- whether a set of router r has output channel number i, whose rank is not greater
abbrev pub falls_to : Ranking → ℕ → ℕ → ℕ → ℕ → Bool
falls_to k r set before i =
    has_bit set i && is_not_above before (rank_at k r (i / k.vcs) (i % k.vcs))

-- whether a set of router r has output channel number i, whose rank is not greater than that of the
-- channel on which the packet came, if that has one
abbrev pub falls_from : Ranking → ℕ → ℕ → Option ℕ → ℕ → Bool
falls_from k r set None i = false
falls_from k r set (Some before) i = falls_to k r set before i

-- how many output channels on link ports a router has
abbrev pub link_output_count : Ranking → ℕ
link_output_count k = local_port k.grid * k.vcs

-- the parts of the number of a class and an input channel of the network
abbrev pub class_of : Ranking → ℕ → ℕ
class_of k e = e / k.vcs / ports k.grid / nodes k.grid

abbrev pub router_of : Ranking → ℕ → ℕ
router_of k e = e / k.vcs / ports k.grid % nodes k.grid

abbrev pub input_port_of : Ranking → ℕ → ℕ
input_port_of k e = e / k.vcs % ports k.grid

-- how many input channels the network has, with a link or without
abbrev pub input_count : Ranking → ℕ
input_count k = nodes k.grid * ports k.grid * k.vcs

-- whether a packet of that class that came by that input channel, bound for t, may go on by output
-- channel i without a rise
abbrev pub falls_at : Routes → Ranking → ℕ → ℕ → ℕ → Bool
falls_at routes k e t i =
    falls_from k (router_of k e)
    (set_at routes (class_of k e) (router_of k e) (input_port_of k e) (e % k.vcs) t)
    (arrival_rank k (router_of k e) (input_port_of k e) (e % k.vcs)) i

-- the fault that names a fall
abbrev pub fault_of_fall : Fall → RankFault
fault_of_fall fall =
    NotRising (record {
      class = fall.step.class;
      router = fall.step.router;
      in_port = fall.step.in_port;
      in_vc = fall.step.in_vc;
      dst = fall.step.dst;
    }) fall.step.out_port fall.step.out_vc fall.rank fall.next

-- the least number below n with this property
pub record IsLeastBelow (has : ℕ → Bool) (n i : ℕ) : Type 0 where
  pub inside : i < n
  pub holds : has i ≡ true
  pub none : (j : ℕ) → j < i → has j ≡ false

abbrev pub HasNone : (ℕ → Bool) → ℕ → Type 0
HasNone has n = (j : ℕ) → j < n → has j ≡ false

-- the first step from this entry that does not rise, over all destinations, and the
-- ranks before and after it
pub record IsFirstFrom (routes : Routes) (k : Ranking) (m r q w before : ℕ) (fall : Fall)
    : Type 0 where
  pub index : ℕ
  pub dst : ℕ
  pub exists : dst < nodes k.grid
  pub step : fall.step ≡ record {
    class = m;
    router = r;
    in_port = q;
    in_vc = w;
    dst = dst;
    out_port = index / k.vcs;
    out_vc = index % k.vcs;
  }
  pub rank : fall.rank ≡ before
  pub next : rank_at k r (index / k.vcs) (index % k.vcs) ≡ Some fall.next
  pub least : IsLeastBelow (falls_to k r (set_at routes m r q w dst) before)
      (link_output_count k) index
  pub earlier : (t : ℕ) → t < dst
      → HasNone (falls_to k r (set_at routes m r q w t) before) (link_output_count k)

-- each step at this number rises
abbrev pub HasNoFall : Routes → Ranking → ℕ → Type 0
HasNoFall routes k e =
    (t : ℕ) → t < nodes k.grid → HasNone (falls_at routes k e t) (link_output_count k)

-- the first step at this number that does not rise
pub record IsFirstAt (routes : Routes) (k : Ranking) (e : ℕ) (fall : Fall) : Type 0 where
  pub before : ℕ
  pub arrival : arrival_rank k (router_of k e) (input_port_of k e) (e % k.vcs) ≡ Some before
  pub first : IsFirstFrom routes k (class_of k e) (router_of k e) (input_port_of k e)
      (e % k.vcs) before fall

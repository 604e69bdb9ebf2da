-- Entries at which something is permitted, but no channel with a rank, and entries by number.
use Rattle.std.specs.Prelude.{◌≡◌, ◌≢◌, ℕ, ◌*◌, ◌/◌, ◌%◌, ◌<◌, true, is_some}
use Rattle.noc_packet.specs.Set.{has_bit}
use Rattle.noc_topo.specs.Shape.{nodes, ports, local_port}
use Rattle.noc_route.specs.Ranks.{Ranking, rank_at}
use Rattle.noc_route.specs.Routes.{Routes, set_at}
use Rattle.noc_route.specs.declared.rule.Entry.{Entry}

-- how many entries there are
abbrev pub entries : Routes → ℕ
entries routes =
    routes.classes * nodes routes.grid * ports routes.grid * routes.vcs * nodes routes.grid

-- the entry of a number, with class, router, input port and channel, and destination as digits
abbrev pub numbered_entry : Routes → ℕ → Entry
numbered_entry routes n = record {
  class = n / nodes routes.grid / routes.vcs / ports routes.grid / nodes routes.grid;
  router = n / nodes routes.grid / routes.vcs / ports routes.grid % nodes routes.grid;
  in_port = n / nodes routes.grid / routes.vcs % ports routes.grid;
  in_vc = n / nodes routes.grid % routes.vcs;
  dst = n % nodes routes.grid;
}

-- whether a set of a router has the output channel of this index, and it has a rank
pub record IsRankedIn (k : Ranking) (router set i : ℕ) : Type 0 where
  pub member : has_bit set i ≡ true
  pub ranked : is_some (rank_at k router (i / k.vcs) (i % k.vcs)) ≡ true

-- away from its destination, something is permitted at an entry, and no channel
-- of a link port with a rank
pub record IsBareSet (routes : Routes) (k : Ranking) (e : Entry) : Type 0 where
  pub away : e.router ≢ e.dst
  pub index : ℕ
  pub some : has_bit (set_at routes e.class e.router e.in_port e.in_vc e.dst) index ≡ true
  pub none : (i : ℕ) → i < local_port k.grid * k.vcs
      → IsRankedIn k e.router (set_at routes e.class e.router e.in_port e.in_vc e.dst) i → ⊥

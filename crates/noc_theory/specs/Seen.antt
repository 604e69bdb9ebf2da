-- A view as far as a state of the whole network determines it: all but what its router has counted
-- and recorded.
use Rattle.std.specs.Prelude.{◌≡◌, ℕ, ◌<◌, filter, map, length}
use Rattle.noc_view.specs.View.{View, view_buffer, view_input, view_output}
use Rattle.noc_theory.specs.Lockstep.{Lockstep, lockstep_at, view_at, beats_in, site_at, starts_at, ends_at, seen_flits, seen_input, seen_output, seen_sending, has_flit_at_source}
use Rattle.noc_theory.specs.Network.{Setup, State, size, arriving, leaving, arbiters_at, first_waiting, out_cycle, tail_place, state_at}
use Rattle.noc_topo.specs.Lists.{tabulate}
use Rattle.noc_topo.specs.Shape.{nodes}

module _ (net : Setup) where
  -- what a state determines of the view of router r
  pub record IsSeen (S : State) (r : ℕ) (v : View) : Type 0 where
    pub site : v.site ≡ site_at net r
    pub n_buffers : length v.buffers ≡ size net
    pub n_inputs : length v.inputs ≡ size net
    pub n_outputs : length v.outputs ≡ size net
    pub buffer : (i : ℕ) → i < size net → view_buffer v i ≡ seen_flits net S (arriving net r i)
    pub input : (i : ℕ) → i < size net → view_input v i ≡ seen_input net S r i (arriving net r i)
    pub output : (o : ℕ) → o < size net → view_output v o ≡ seen_output net S r (leaving net r o)
    pub arbiters : v.arbiters ≡ arbiters_at net S r
    pub queue : v.queue ≡ filter (has_flit_at_source net S) (starts_at net r)
    pub sending : v.sending ≡ seen_sending net S r (first_waiting net S r)
    pub ends : v.ends ≡ map (λ p. (p, out_cycle (tail_place net S p))) (ends_at net r)
    pub misfits : v.misfits ≡ 0

  -- what a view has counted, found and noted is what another has
  pub record IsAsNoted (v w : View) : Type 0 where
    pub last_event : w.last_event ≡ v.last_event
    pub counts : w.counts ≡ v.counts
    pub findings : w.findings ≡ v.findings
    pub to_put : w.to_put ≡ v.to_put

  -- the routers and the wires of the lockstep run are those of the state at this count
  pub record AreSeen (n : ℕ) : Type 0 where
    pub views : (lockstep_at net n).views ≡ tabulate (nodes net.relation.grid) (view_at net n)
    pub wires : (lockstep_at net n).wires ≡ beats_in net (state_at net n)

  -- the routers and the wires as the state at this count has them
  abbrev pub shown_at : ℕ → Lockstep net
  shown_at n = record {
    views = tabulate (nodes net.relation.grid) (view_at net n);
    wires = beats_in net (state_at net n);
  }

-- Views by their parts.
use Rattle.std.proofs.Common.{◌≡◌, ℕ, ◌-◌, Bool, false, List, [], Option, refl}
use Rattle.noc_theory.proofs.Common.{tabulate, get_or-tabulate, length-tabulate, tabulate-from_each, Packet, Flit, Beat, Input, idle_input, Output, ejection_output, ArbiterStates, Site, View, idle_beats, Finding, view_in, view_at, site_at, seen_flits, seen_input, seen_output, counts_before, Setup, State, size, arriving, leaving, state_at, IsSeen}
use Rattle.noc_theory.specs.Lockstep.{last_event_at, findings_before}

abbrev pub made : Site → List (List Flit) → List Input → List Output → ArbiterStates → List (ℕ × Packet) → Option (ℕ × ℕ) → List (ℕ × Option ℕ) → ℕ → Option ℕ → List (List ℕ) → List Finding → ℕ → Bool → List Beat → View
made site buffers inputs outputs arbiters queue sending ends misfits last_event counts findings given had_event to_put = record {
  site = site;
  buffers = buffers;
  inputs = inputs;
  outputs = outputs;
  arbiters = arbiters;
  queue = queue;
  sending = sending;
  ends = ends;
  misfits = misfits;
  last_event = last_event;
  counts = counts;
  findings = findings;
  given = given;
  had_event = had_event;
  to_put = to_put;
}

pub same_view : (v w : View) → v.site ≡ w.site → v.buffers ≡ w.buffers → v.inputs ≡ w.inputs → v.outputs ≡ w.outputs → v.arbiters ≡ w.arbiters → v.queue ≡ w.queue → v.sending ≡ w.sending
    → v.ends ≡ w.ends → v.misfits ≡ w.misfits → v.last_event ≡ w.last_event → v.counts ≡ w.counts → v.findings ≡ w.findings → v.given ≡ w.given → v.had_event ≡ w.had_event → v.to_put ≡ w.to_put → v ≡ w
same_view v w e0 e1 e2 e3 e4 e5 e6 e7 e8 e9 e10 e11 e12 e13 e14 =
    let first : made v.site v.buffers v.inputs v.outputs v.arbiters v.queue v.sending v.ends v.misfits v.last_event v.counts v.findings v.given v.had_event v.to_put
    ≡ made w.site w.buffers w.inputs w.outputs w.arbiters w.queue w.sending w.ends w.misfits w.last_event w.counts w.findings w.given w.had_event w.to_put = cc in
    first

module _ (net : Setup) where
  -- the view of a state shows that state
  pub view_in-seen : (S : State) (r : ℕ) → IsSeen net S r (view_in net S r)
  unfolding view_in
  view_in-seen S r = record {
    site = refl;
    n_buffers = length-tabulate (size net) _;
    n_inputs = length-tabulate (size net) _;
    n_outputs = length-tabulate (size net) _;
    buffer = λ i l. get_or-tabulate (size net) i _ _ l;
    input = λ i l. get_or-tabulate (size net) i _ _ l;
    output = λ o l. get_or-tabulate (size net) o _ _ l;
    arbiters = refl;
    queue = refl;
    sending = refl;
    ends = refl;
    misfits = refl;
  }

  pub view_at-seen : (n r : ℕ) → IsSeen net (state_at net n) r (view_at net n r)
  unfolding view_at
  view_at-seen n r =
      let s = view_in-seen (state_at net n) r in
      record {
        site = s.site;
        n_buffers = s.n_buffers;
        n_inputs = s.n_inputs;
        n_outputs = s.n_outputs;
        buffer = s.buffer;
        input = s.input;
        output = s.output;
        arbiters = s.arbiters;
        queue = s.queue;
        sending = s.sending;
        ends = s.ends;
        misfits = s.misfits;
      }

  -- a view that shows the state at count n, and has noted what was to be
  -- noted, is the view at count n
  pub is_view_at : (n r : ℕ) (v : View) → IsSeen net (state_at net n) r v → v.last_event ≡ last_event_at net n r → v.counts ≡ tabulate (size net) (counts_before net n r)
      → v.findings ≡ findings_before net n r → v.given ≡ n - 1 → v.had_event ≡ false → v.to_put ≡ idle_beats (site_at net r) → v ≡ view_at net n r
  unfolding view_at view_in
  is_view_at n r v s last counts findings given had to_put =
      same_view v (view_at net n r) s.site (tabulate-from_each (size net) (λ i. seen_flits net (state_at net n) (arriving net r i)) v.buffers [] s.n_buffers s.buffer)
      (tabulate-from_each (size net) (λ i. seen_input net (state_at net n) r i (arriving net r i)) v.inputs idle_input s.n_inputs s.input)
      (tabulate-from_each (size net) (λ o. seen_output net (state_at net n) r (leaving net r o)) v.outputs ejection_output s.n_outputs s.output) s.arbiters s.queue s.sending s.ends s.misfits last
      counts findings given had to_put

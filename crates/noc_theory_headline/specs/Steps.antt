-- Routers that take their steps in any order show the run of the network, each at its own cycle
-- (docs/MODEL.md, "The event core").
use Rattle.std.specs.Prelude.{◌≡◌, ℕ, ◌+◌, ◌-◌, ◌≤◌, ◌⊎◌, true, List, [], map, length, Some, None, slice_get, slice_index_or, ◌↔◌, if◌then◌else◌}
use Rattle.std.specs.List.{range_with_len}
use Rattle.noc_topo.specs.Shape.{neighbour, nodes}
use Rattle.noc_packet.specs.Packet.{flit_at}
use Rattle.noc_packet.specs.declared.packet.Beat.{Beat}
use Rattle.noc_packet.specs.declared.packet.Flit.{Flit}
use Rattle.noc_route.specs.Channel.{Channel}
use Rattle.noc_view.specs.View.{port_and_vc, view_buffer}
use Rattle.noc_view.specs.declared.verdict.Verdict.{Verdict}
use Rattle.noc_view.specs.declared.finding.Finding.{Finding}
use Rattle.noc_theory.specs.declared.event.Event.{Event}
use Rattle.noc_theory.specs.Core.{CoreState, Post, are_between, is_between, opening_core, post_at, wire_of}
use Rattle.noc_theory.specs.Halves.{beat_at}
use Rattle.noc_theory.specs.Lockstep.{view_at, beats_in, is_present, site_at}
use Rattle.noc_theory.specs.Network.{Setup, State, Located, size, packet_at, buffer_of, owner_of, state_at, frozen_at}
use Rattle.noc_theory.specs.Order.{decides, puts, takes}
use Rattle.noc_theory.specs.Worm.{IsRun}
use Rattle.noc_theory_headline.specs.Headline.{IsInputOf, Says, Owns, AsksForChannel, GoesOnBy}

-- the beat that the network has in cycle n on the wire that arrives at this router and port
abbrev pub beat_in : Setup → ℕ → ℕ → ℕ → Beat
beat_in net r port n = beat_at (beats_in net (state_at net n)) r port

-- the beats of the cycles from `a` to before `b` on the wire that arrives at this router and port
abbrev pub beats_of : Setup → ℕ → ℕ → ℕ → ℕ → List Beat
beats_of net r port a b = map (beat_in net r port) (range_with_len a (b - a))

-- what router r found in cycle n: one finding for each of its input channels. It gives a channel
-- each verdict exactly where that says what holds in the frozen state of that cycle. It names the
-- packet that owns the channel, from when its head has come until its tail has left, and the output
-- channel that it asks for or goes on by. Where there is none, it names none
pub record IsFoundIn (net : Setup) (n r : ℕ) (findings : List Finding) : Type 0 where
  pub each : length findings ≡ size net
  pub verdicts : (i : ℕ) (c : Channel) (finding : Finding) → IsInputOf net r i c
      → slice_get findings i ≡ Some finding
      → (verdict : Verdict) → (finding.verdict ≡ verdict) ↔ Says net (frozen_at net n) r i c verdict
  pub packet : (i p : ℕ) (c : Channel) (finding : Finding) → IsInputOf net r i c
      → slice_get findings i ≡ Some finding
      → (finding.packet ≡ Some p)
      ↔ (Owns net (frozen_at net n) r p c × (is_present net (frozen_at net n) c p ≡ true))
  pub out : (i o : ℕ) (c : Channel) (finding : Finding) → IsInputOf net r i c
      → slice_get findings i ≡ Some finding
      → AsksForChannel net (frozen_at net n) r c o ⊎ GoesOnBy net (frozen_at net n) r c o
      → finding.out ≡ Some (port_and_vc (site_at net r) o)
  pub no_out : (i : ℕ) (c : Channel) (finding : Finding) → IsInputOf net r i c
      → slice_get findings i ≡ Some finding
      → ((o : ℕ)
      → ¬ (AsksForChannel net (frozen_at net n) r c o ⊎ GoesOnBy net (frozen_at net n) r c o))
      → finding.out ≡ None

-- these are the flits that state S has in the buffer of channel c: no more than its depth, and all
-- of the packet that owns c, each behind the one before
pub record IsBufferIn (net : Setup) (S : State) (c : Channel) (flits : List Flit) : Type 0 where
  pub are : flits
      ≡ map (λ (f : Located). flit_at (packet_at net f.packet) f.packet f.index) (buffer_of net S c)
  pub in_depth : length flits ≤ net.depth
  pub unmixed : (flits ≡ [])
      ⊎ ((p : ℕ) × (i : ℕ) × (owner_of net S c ≡ Some p) × IsRun net p i (buffer_of net S c))

-- router r is where it stands after its cycles below m
pub record IsRightRouter (net : Setup) (r m : ℕ) (post : Post) : Type 0 where
  -- it has the view that the state of the network gives it
  pub view : post.view ≡ view_at net m r
  -- m is its number of steps, and one more from its Decide to its last Put
  pub steps : post.steps + (if post.decided then 1 else 0) ≡ m
  pub between : is_between post ≡ true → post.steps ≡ m
  -- its findings are those of the cycle of its last Decide
  pub findings : (n : ℕ) → m ≡ n + 1 → IsFoundIn net n r post.view.findings
  -- its buffers hold what the network's hold
  pub buffers : (i : ℕ) (c : Channel) → IsInputOf net r i c
      → IsBufferIn net (state_at net m) c (view_buffer post.view i)
  -- in mid-cycle: a beat that it took is the network's of this cycle, and one that it still has
  -- to put is that of the next
  pub taken : (port : ℕ) (beat : Beat) → slice_index_or post.taken port None ≡ Some beat
      → beat ≡ beat_in net r port post.steps
  pub unput : (port s q : ℕ) (beat : Beat) → slice_index_or post.unput port None ≡ Some beat
      → neighbour net.relation.grid r port ≡ Some (s, q)
      → beat ≡ beat_in net s q (post.steps + 1)

-- the wire to router r at a port, from router s at port q, after the events
-- that happened since a count
pub record IsRightWire (net : Setup) (count : ℕ) (events : List Event) (r port : ℕ) (post : Post)
    (s q : ℕ) (sender : Post) : Type 0 where
  -- it holds the beat that it began with and those that were put, but for those that were
  -- taken: never more than two
  pub beats : length (wire_of post port) + takes r port events ≡ 1 + puts s q events
  pub few : length (wire_of post port) ≤ 2
  -- in mid-cycle too they are the network's: from the cycle of the receiver's next Take to before
  -- the one for which the sender's next Put is
  pub are : wire_of post port
      ≡ beats_of net r port (count + takes r port events) (count + 1 + puts s q events)
  -- between the cycles of both ends: from the receiver's cycle to the sender's, and the ends
  -- are at most one cycle apart
  pub between : is_between post ≡ true → is_between sender ≡ true
      → (wire_of post port ≡ beats_of net r port post.steps (sender.steps + 1))
      × (length (wire_of post port) + post.steps ≡ sender.steps + 1)
      × (post.steps ≤ sender.steps + 1)
      × (sender.steps ≤ post.steps + 1)

-- all that holds of a core that was opened on a network at a count, after the events that happened:
-- each router stands where its own Decides have brought it, in mid-cycle or not
pub record IsRightCore (net : Setup) (count : ℕ) (events : List Event) (k : CoreState)
    : Type 0 where
  pub network : k.net ≡ net
  pub count_routers : length k.posts ≡ nodes net.relation.grid
  pub routers : (r : ℕ) (post : Post) → post_at k r ≡ Some post
      → IsRightRouter net r (count + decides r events) post
  pub wires : (r port s q : ℕ) (post sender : Post) → post_at k r ≡ Some post
      → post_at k s ≡ Some sender → neighbour net.relation.grid r port ≡ Some (s, q)
      → IsRightWire net count events r port post s q sender
  -- where all routers are between their cycles at one count, it is the core that opens on
  -- the network at that count
  pub whole : (n : ℕ) → are_between k n ≡ true → k ≡ opening_core (record { net = net; count = n })

-- What stays true of a core, whatever events come: each router is in a cycle of the lockstep run,
-- and each wire holds its beats of the cycles between those of its ends.
use Rattle.std.specs.Prelude.{◌≡◌, ℕ, ◌+◌, ◌-◌, ◌<◌, ◌≤◌, true, false, ◌&&◌, not, List, [], ◌∷◌, map, length, Some, None, slice_get, slice_index_or, if◌then◌else◌}
use Rattle.std.specs.List.{range_with_len}
use Rattle.noc_topo.specs.Shape.{IsGrid, nodes, neighbour}
use Rattle.noc_packet.specs.declared.packet.Beat.{Beat}
use Rattle.noc_topo.specs.Lists.{map_indexed, tabulate, one_if}
use Rattle.noc_theory.specs.Core.{Post, CoreState, link_ports, is_linked, post_at, resting_post, wire_of, has_beat, is_between, are_between}
use Rattle.noc_theory.specs.Order.{takes, decides, puts}
use Rattle.noc_theory.specs.declared.event.Event.{Event}
use Rattle.noc_theory.specs.Halves.{beat_at}
use Rattle.noc_theory.specs.Lockstep.{lockstep_at}
use Rattle.noc_theory.specs.Network.{Setup, Run}

-- the cycle at whose start the router is seen
abbrev pub cycle_of : Post → ℕ
cycle_of post = post.steps + one_if post.decided

-- the cycle of the next beat that is taken at a port
abbrev pub cycle_taken : ℕ → Post → ℕ
cycle_taken port post = post.steps + one_if (has_beat post.taken port)

-- the cycle for which the next beat is put at a port
abbrev pub cycle_put : ℕ → Post → ℕ
cycle_put port post = post.steps + 1 + one_if (post.decided && not (has_beat post.unput port))

-- the beats of the lockstep run on the wire that arrives at this router and port, of the
-- cycles from `a` to before `b`
abbrev pub beats_of_cycles : Setup → ℕ → ℕ → ℕ → ℕ → List Beat
beats_of_cycles net r port a b =
    map (λ n. beat_at (lockstep_at net n).wires r port) (range_with_len a (b - a))

-- the wires that arrive at router r at count n of the lockstep run, each with the beat in flight
abbrev pub lockstep_wires : Setup → ℕ → ℕ → List (List Beat)
lockstep_wires net n r =
    tabulate (link_ports net)
    (λ port. if is_linked net r port then beat_at (lockstep_at net n).wires r port ∷ [] else [])

-- the core that begins where the lockstep run is at a count
unfoldable pub lockstep_core : Run → CoreState
lockstep_core u = record {
  net = u.net;
  posts = map_indexed (λ r view. resting_post u.net view u.count (lockstep_wires u.net u.count r))
      (lockstep_at u.net u.count).views;
}

-- router r is in a cycle of the lockstep run
pub record IsPostInStep (limit : ℕ) (net : Setup) (r : ℕ) (post : Post) : Type 0 where
  pub view : slice_get (lockstep_at net (cycle_of post)).views r ≡ Some post.view
  pub wires : length post.wires ≡ link_ports net
  pub taken : length post.taken ≡ link_ports net
  pub unput : length post.unput ≡ link_ports net
  pub unlinked : (port : ℕ) → is_linked net r port ≡ false → wire_of post port ≡ []
  pub beats_taken : (port : ℕ) (beat : Beat) → slice_index_or post.taken port None ≡ Some beat
      → beat ≡ beat_at (lockstep_at net post.steps).wires r port
  pub beats_unput : (port s q : ℕ) (beat : Beat) → slice_index_or post.unput port None ≡ Some beat
      → neighbour net.relation.grid r port ≡ Some (s, q)
      → beat ≡ beat_at (lockstep_at net (post.steps + 1)).wires s q
  pub some_unput : (port : ℕ) → has_beat post.unput port ≡ true → post.decided ≡ true
  pub all_taken : post.decided ≡ true → (port : ℕ) → is_linked net r port ≡ true
      → has_beat post.taken port ≡ true
  pub below_limit : post.decided ≡ true → post.steps < limit

-- a wire that arrives at this router and port holds the beats of the cycles from `a` to before `b`
pub record HoldsCycles (net : Setup) (r port a b : ℕ) (wire : List Beat) : Type 0 where
  pub order : a ≤ b
  pub beats : wire ≡ beats_of_cycles net r port a b

-- all routers and wires, where a router does at most `limit` cycles: a wire holds the beats
-- that were put and not taken
pub record IsInStep (limit : ℕ) (k : CoreState) : Type 0 where
  pub grid : IsGrid k.net.relation.grid
  pub count : length k.posts ≡ nodes k.net.relation.grid
  pub posts : (r : ℕ) (post : Post) → post_at k r ≡ Some post → IsPostInStep limit k.net r post
  pub wires : (r port s q : ℕ) (post sender : Post) → post_at k r ≡ Some post
      → post_at k s ≡ Some sender → neighbour k.net.relation.grid r port ≡ Some (s, q)
      → HoldsCycles k.net r port (cycle_taken port post) (cycle_put q sender) (wire_of post port)

-- the wire that arrives at a router and port from a sender: it holds the opening beat and those
-- that were put and not taken, at most two
pub record KeepsWire (net : Setup) (events : List Event) (r port : ℕ) (post : Post) (s q : ℕ)
    (sender : Post) : Type 0 where
  pub beats : length (wire_of post port) + takes r port events ≡ 1 + puts s q events
  pub few : length (wire_of post port) ≤ 2
  -- between the cycles of both ends it holds the beats of the lockstep run from the receiver's
  -- cycle to the sender's, and the ends are at most one cycle apart
  pub between : is_between post ≡ true → is_between sender ≡ true →
      (length (wire_of post port) + post.steps ≡ sender.steps + 1)
      × (wire_of post port ≡ beats_of_cycles net r port post.steps (sender.steps + 1))
      × (post.steps ≤ sender.steps + 1)
      × (sender.steps ≤ post.steps + 1)

-- what holds of a core that was opened where the lockstep run is at a count, after
-- the events that happened
pub record KeepsStep (net : Setup) (count : ℕ) (events : List Event) (k : CoreState) : Type 0 where
  pub routers : length k.posts ≡ nodes net.relation.grid
  -- each router has the view of the lockstep run, with its findings, at the
  -- count of its last Decide
  pub views : (r : ℕ) (post : Post) → post_at k r ≡ Some post
      → post.view ≡ slice_index_or (lockstep_at net (count + decides r events)).views r post.view
  -- the count of its last Decide is its own number of steps where it is between its cycles
  pub steps : (r : ℕ) (post : Post) → post_at k r ≡ Some post → is_between post ≡ true
      → post.steps ≡ count + decides r events
  pub wires : (r port s q : ℕ) (post sender : Post) → post_at k r ≡ Some post
      → post_at k s ≡ Some sender → neighbour net.relation.grid r port ≡ Some (s, q)
      → KeepsWire net events r port post s q sender
  -- where all routers are between their cycles at one count, the core is the one of the lockstep
  -- run after so many cycles
  pub whole : (n : ℕ) → are_between k n ≡ true → k ≡ lockstep_core (record { net = net; count = n })

-- no router is past the limit
abbrev pub AreWithin : ℕ → CoreState → Type 0
AreWithin limit k = (r : ℕ) (post : Post) → post_at k r ≡ Some post → cycle_of post ≤ limit

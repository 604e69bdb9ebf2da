-- Routers that go on by single events, each at a cycle of its own
-- (docs/MODEL.md, "The event core").
use Rattle.std.specs.Prelude.{ℕ, zero, suc, ◌+◌, Bool, true, false, ◌&&◌, ◌||◌, not, List, [], ◌∷◌, ◌++◌, map, drop, length, Option, Some, None, option_map, option_and_then, is_some, is_none, unwrap_or, slice_get, slice_index_or, slice_set, nat_eq, nat_lt, if◌then◌else◌, replicate}
use Rattle.std.specs.List.{list_all}
use Rattle.noc_topo.specs.Lists.{below, tabulate, map_indexed}
use Rattle.noc_topo.specs.Shape.{local_port, neighbour, nodes}
use Rattle.noc_packet.specs.declared.packet.Beat.{Beat}
use Rattle.noc_view.specs.View.{View, local_step, idle_beat}
use Rattle.noc_theory.specs.declared.event.Event.{Event}
use Rattle.noc_theory.specs.declared.event.Event.TheVariants.{Take, Decide, Put}
use Rattle.noc_theory.specs.Halves.{beat_at}
use Rattle.noc_theory.specs.Lockstep.{beats_in, view_at}
use Rattle.noc_theory.specs.Network.{Setup, Run, state_at}

-- one router in the core: its view, its cycle, the wires that arrive, and what
-- it has done of its cycle
pub record Post : Type 0 where
  pub view : View
  pub steps : ℕ  -- the cycle that it is in, or that it makes next
  pub wires : List (List Beat)  -- by link port, the beats on the wire that arrives, oldest first
  pub taken : List (Option Beat)  -- by link port, the beat that was taken in this cycle
  pub decided : Bool
  pub unput : List (Option Beat)  -- by link port, the beat that is still to be put in this cycle

-- all routers, with the wires between them
pub record CoreState : Type 0 where
  pub net : Setup
  pub posts : List Post

-- how many link ports a router has, with or without a link
abbrev pub link_ports : Setup → ℕ
link_ports net = local_port net.relation.grid

-- no beat for any link port
abbrev pub no_beats : Setup → List (Option Beat)
no_beats net = replicate (link_ports net) None

-- whether a router has a link at a port
abbrev pub is_linked : Setup → ℕ → ℕ → Bool
is_linked net r port = is_some (neighbour net.relation.grid r port)

-- a router that is between its cycles
abbrev pub resting_post : Setup → View → ℕ → List (List Beat) → Post
resting_post net view n wires = record {
  view = view;
  steps = n;
  wires = wires;
  taken = no_beats net;
  decided = false;
  unput = no_beats net;
}

-- the wires that arrive at router r at count n, each with the beat in flight
abbrev pub wires_in_flight : Setup → ℕ → ℕ → List (List Beat)
wires_in_flight net n r =
    tabulate (link_ports net) (λ port. if is_linked net r port
    then beat_at (beats_in net (state_at net n)) r port ∷ [] else [])

-- the core that begins where a network is after its cycles: each router has its
-- view of the network's state
unfoldable pub opening_core : Run → CoreState
opening_core u = record {
  net = u.net;
  posts = tabulate (nodes u.net.relation.grid)
      (λ r. resting_post u.net (view_at u.net u.count r) u.count (wires_in_flight u.net u.count r));
}

-- the router with this number, if it exists
abbrev pub post_at : CoreState → ℕ → Option Post
post_at k r = slice_get k.posts r

-- the wire that arrives at a port
abbrev pub wire_of : Post → ℕ → List Beat
wire_of post port = slice_index_or post.wires port []

-- the wire that arrives at a port of this router, if it exists
abbrev pub wire_at : CoreState → ℕ → ℕ → List Beat
wire_at k r port = unwrap_or (option_map (λ post. wire_of post port) (post_at k r)) []

-- the list with the element at this index, if there is one, changed by f
abbrev pub changed_at : {X : Type 0} → ℕ → (X → X) → List X → List X
changed_at i f [] = []
changed_at zero f (x ∷ xs) = f x ∷ xs
changed_at (suc i) f (x ∷ xs) = x ∷ changed_at i f xs

-- the core with router r, if it exists, changed by f
abbrev pub with_post : ℕ → (Post → Post) → CoreState → CoreState
with_post r f k = record k { posts = changed_at r f k.posts }

-- whether there is a beat for this port
abbrev pub has_beat : List (Option Beat) → ℕ → Bool
has_beat beats port = is_some (slice_index_or beats port None)

-- there is no beat for any port
abbrev pub none_has : List (Option Beat) → Bool
none_has beats = list_all (λ beat. is_none beat) beats

-- there is a beat for each link of router r
abbrev pub all_have : Setup → ℕ → List (Option Beat) → Bool
all_have net r beats =
    list_all (λ port. not (is_linked net r port) || has_beat beats port) (below (link_ports net))

-- ---- when an event may happen, where a router does at most `limit` cycles

-- a beat is on the wire, and this cycle has taken none there
abbrev pub may_take : ℕ → ℕ → Post → Bool
may_take limit port post =
    nat_lt 0 (length (wire_of post port)) && not (has_beat post.taken port)
    && nat_lt post.steps limit

-- all beats of this cycle are taken, and it is not decided
abbrev pub may_decide : ℕ → Setup → ℕ → Post → Bool
may_decide limit net r post =
    not post.decided && all_have net r post.taken && nat_lt post.steps limit

-- the beat for this port is there since the cycle was decided, and is not put yet
abbrev pub may_put : ℕ → Post → Bool
may_put port post = has_beat post.unput port

-- whether the router exists and this holds of it
abbrev pub holds_at : (Post → Bool) → Option Post → Bool
holds_at may post = unwrap_or (option_map may post) false

-- whether an event may happen
unfoldable pub is_ready : ℕ → CoreState → Event → Bool
is_ready limit k (Take r port) =
    is_linked k.net r port && holds_at (may_take limit port) (post_at k r)
is_ready limit k (Decide r) = holds_at (may_decide limit k.net r) (post_at k r)
is_ready limit k (Put r port) = is_linked k.net r port && holds_at (may_put port) (post_at k r)

-- ---- what happens

-- the oldest beat of a wire is taken
abbrev pub taking : ℕ → Post → Post
taking port post = record post {
  wires = slice_set post.wires port (drop 1 (wire_of post port));
  taken = slice_set post.taken port (slice_get (wire_of post port) 0);
}

-- after its last put a router is between its cycles
abbrev pub post_after_last_put : Setup → Post → Post
post_after_last_put net post =
    if none_has post.unput then resting_post net post.view (post.steps + 1) post.wires else post

-- one whole cycle of the view over the beats that were taken
abbrev pub deciding : Setup → ℕ → Post → Post
deciding net r post =
    let after = local_step net.relation post.view
    (map (λ beat. unwrap_or beat idle_beat) post.taken) post.steps in
    post_after_last_put net (record post {
      view = after.0;
      decided = true;
      unput = map_indexed (λ port beat. if is_linked net r port then Some beat else None) after.1;
    })

-- the beat for a port is put
abbrev pub putting : Setup → ℕ → Post → Post
putting net port post =
    post_after_last_put net (record post { unput = slice_set post.unput port None })

-- the beat that a router has for a port
abbrev pub beat_to_send : ℕ → Option Post → Beat
beat_to_send port post =
    unwrap_or
    (option_and_then (λ (post : Post). slice_index_or post.unput port None) post) idle_beat

-- a beat comes to the end of a wire
abbrev pub receiving : ℕ → Beat → Post → Post
receiving port beat post = record post {
  wires = slice_set post.wires port (wire_of post port ++ beat ∷ []);
}

-- a beat comes to the end of the wire that arrives at this router and port, if there is one
abbrev pub onto_wire : Option (ℕ × ℕ) → Beat → CoreState → CoreState
onto_wire None beat k = k
onto_wire (Some to) beat k = with_post to.0 (receiving to.1 beat) k

-- the core after an event that is ready
unfoldable pub happens : CoreState → Event → CoreState
happens k (Take r port) = with_post r (taking port) k
happens k (Decide r) = with_post r (deciding k.net r) k
happens k (Put r port) =
    onto_wire (neighbour k.net.relation.grid r port) (beat_to_send port (post_at k r))
    (with_post r (putting k.net port) k)

-- the core after an event, which changes nothing where it is not ready
abbrev pub after_event : ℕ → CoreState → Event → CoreState
after_event limit k e = if is_ready limit k e then happens k e else k

-- the core after a list of events, of which those change nothing that are not ready
unfoldable pub after_events : ℕ → List Event → CoreState → CoreState
after_events limit [] k = k
after_events limit (e ∷ es) k = after_events limit es (after_event limit k e)

-- ---- where a router stands

-- whether a router is between its cycles: no event of it since its steps last rose
abbrev pub is_between : Post → Bool
is_between post = not post.decided && none_has post.taken

-- the steps of router r
abbrev pub steps_at : CoreState → ℕ → ℕ
steps_at k r = unwrap_or (option_map (λ (post : Post). post.steps) (post_at k r)) 0

-- whether all routers are between their cycles at count n
abbrev pub are_between : CoreState → ℕ → Bool
are_between k n = list_all (λ (post : Post). is_between post && nat_eq post.steps n) k.posts

-- the view of router r, if it exists
abbrev pub view_of_post : CoreState → ℕ → Option View
view_of_post k r = option_map (λ (post : Post). post.view) (post_at k r)

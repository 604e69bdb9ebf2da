-- What is kept of a wire and of a router in a core.
use Rattle.std.specs.Prelude.{ℕ, List, [], ◌∷◌, map, take, unwrap_or, slice_get, slice_index_or, Option, Some, None, is_some, if◌then◌else◌, replicate, Bool, false, not, ◌&&◌, nat_eq}
use Rattle.noc_topo.specs.Shape.{Grid, local_port, neighbour}
use Rattle.noc_topo.specs.Lists.{map_indexed, tabulate}
use Rattle.noc_packet.specs.declared.packet.Beat.{Beat}
use Rattle.noc_view.specs.View.{View, idle_beat}
use Rattle.noc_wires.specs.declared.room.Room.{Room}
use Rattle.noc_wires.specs.declared.wire.Wire.{Wire}
use Rattle.noc_wires.specs.declared.wire.Wire.TheVariants.{Empty, One, Two}
use Rattle.noc_theory.specs.Core.{Post, is_linked, none_has}
use Rattle.noc_theory.specs.Network.{Setup}

-- the beats on a wire, the oldest first
abbrev pub wire_beats : Wire → List Beat
wire_beats Empty = []
wire_beats (One first) = first ∷ []
wire_beats (Two first second) = first ∷ second ∷ []

-- the oldest beat, or an idle one
abbrev pub front_of : List Beat → Beat
front_of beats = unwrap_or (slice_get beats 0) idle_beat

-- the wires that arrive
abbrev pub wires_in : Room → List (List Beat)
wires_in room = map wire_beats room.wires

-- the wires that arrive, each with the beat that is in flight on it
abbrev pub opening_wires : Grid → ℕ → List Beat → List (List Beat)
opening_wires grid r beats =
    tabulate (local_port grid) (λ port. if is_some (neighbour grid r port)
    then slice_index_or beats port idle_beat ∷ [] else [])

-- the beats that router r has to put where it has links
abbrev pub unput_for : Setup → ℕ → List Beat → List (Option Beat)
unput_for net r beats =
    map_indexed (λ port beat. if is_linked net r port then Some beat else None) beats

-- a router with so many link ports, and what is kept of it
abbrev pub post_of : ℕ → View → Room → Post
post_of links view room = record {
  view = view;
  steps = room.steps;
  wires = take links (wires_in room);
  taken = take links room.taken;
  decided = room.decided;
  unput = take links room.unput;
}

-- all routers with so many link ports, and what is kept of each
abbrev pub posts_of : ℕ → List View → List Room → List Post
posts_of links [] rooms = []
posts_of links (view ∷ views) [] = []
posts_of links (view ∷ views) (room ∷ rooms) = post_of links view room ∷ posts_of links views rooms

-- a router between its cycles at a count, with the beats in flight on its wires
abbrev pub opened_post : ℕ → View → ℕ → List Beat → Post
opened_post links view n beats = record {
  view = view;
  steps = n;
  wires = opening_wires view.site.grid view.site.node beats;
  taken = replicate links None;
  decided = false;
  unput = replicate links None;
}

-- whether a router is between its cycles at a count
abbrev pub rests_at : ℕ → ℕ → Room → Bool
rests_at links count room =
    not room.decided && none_has (take links room.taken) && nat_eq room.steps count

use Rattle.std.proofs.Common.{◌≡◌, ℕ, ◌<◌, [], Some, get_or, slice_get}
use Rattle.noc_view.specs.View.{View}
use Rattle.noc_wires.specs.declared.room.Room.{Room}
use Rattle.noc_wires.specs.Room.{opened_post, post_of}
use Rattle.noc_net.proofs.event_core.open_all.Given as goal

-- the routers before this node are opened
abbrev pub invariant-loop-node : goal.invariant-loop-node
invariant-loop-node l = (r : ℕ) (view : View) (one : Room) → r < l.node → slice_get l.routers r ≡ Some view → slice_get l.room r ≡ Some one
    → post_of l.links view one ≡ opened_post l.links view l.count (get_or l.beats r [])

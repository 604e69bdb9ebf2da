-- What the source of a router does next.
use Rattle.std.specs.Prelude.{ℕ, Bool, Option, Some, None, find, length, nat_lt, slice_get, if◌then◌else◌}
use Rattle.noc_topo.specs.Lists.{below}
use Rattle.noc_router.specs.Queue.{is_due_by}
use Rattle.noc_view.specs.View.{View, view_buffer, local_channel, is_vacant}

-- the index of the next flit
abbrev pub index_in : Option (ℕ × ℕ) → ℕ
index_in None = 0
index_in (Some (vc, index)) = index

-- the lowest vacant local virtual channel
abbrev pub vacant_vc : View → Option ℕ
vacant_vc v = find (is_vacant v) (below v.site.vcs)

-- the local virtual channel to which it can go: that of its packet where there is room, or for a
-- head that is due the lowest vacant one
abbrev pub vc_from : View → Bool → Option (ℕ × ℕ) → Option ℕ
vc_from v due (Some (vc, index)) =
    if nat_lt (length (view_buffer v (local_channel v.site vc))) v.site.depth then Some vc else None
vc_from v due None = if due then vacant_vc v else None

-- the local virtual channel to which the next flit can go in the cycle that goes on
abbrev pub next_vc : View → Option ℕ
next_vc v = vc_from v (is_due_by (slice_get v.queue 0) v.given) v.sending

-- The packet that holds an input channel: from the grant at the sender on, while its head is still
-- on its way, until its last credit is back.
use Rattle.std.specs.Prelude.{◌≡◌, ℕ, ◌+◌, ◌*◌, ◌/◌, ◌%◌, ◌<◌, Option, Some, None, IfSome, option_and_then, option_map, unwrap_or, slice_index_or}
use Rattle.noc_topo.specs.Shape.{Grid, neighbour}
use Rattle.noc_view.specs.View.{View, view_after_inject, view_after_takes, view_round}
use Rattle.noc_theory.specs.Lockstep.{beats_at, beats_in, view_at}
use Rattle.noc_theory.specs.Network.{Setup, State, arriving, frozen_at, owner_of, size, state_at}

-- the packet that owns the channel which arrives at input channel i of router r
abbrev pub holder_at : Setup → State → ℕ → ℕ → Option ℕ
holder_at net S r i = option_and_then (owner_of net S) (arriving net r i)

-- these are, by input channel of router r, the numbers of the packets that hold them
abbrev pub ShowsHolders : Setup → State → ℕ → (ℕ → ℕ) → Type 0
ShowsHolders net S r packet =
    (i : ℕ) → i < size net → IfSome (holder_at net S r i) (λ p. packet i ≡ p)

-- ---- what the grants of a cycle tell the channels at the other end of links
-- what a channel hears over its link, if it has one, where each router tells these numbers of
-- packets by output channel
abbrev pub heard_over : ℕ → (ℕ → ℕ → Option ℕ) → ℕ → Option (ℕ × ℕ) → Option ℕ
heard_over vcs tells vc None = None
heard_over vcs tells vc (Some (to, port)) = tells to (port * vcs + vc)

-- .. input channel i of router r
abbrev pub heard : Grid → ℕ → (ℕ → ℕ → Option ℕ) → ℕ → ℕ → Option ℕ
heard grid vcs tells r i = heard_over vcs tells (i % vcs) (neighbour grid r (i / vcs))

-- the number of the packet of the input channel that has a grant, by the sender's numbers, and else
-- the old one
abbrev pub told_by : (ℕ → ℕ) → ℕ → Option ℕ → ℕ
told_by packets old grant = unwrap_or (option_map packets grant) old

-- what a channel is told over its link, if it has one, where each router has these grants, by
-- output channel, and these numbers
abbrev pub told_over : ℕ → (ℕ → ℕ → Option ℕ) → (ℕ → ℕ → ℕ) → ℕ → ℕ → Option (ℕ × ℕ) → ℕ
told_over vcs grants packets old vc link =
    unwrap_or (heard_over vcs (λ s o. option_map (packets s) (grants s o)) vc link) old

-- the number of the packet of input channel i of router r after the grants of a cycle
abbrev pub told : Grid → ℕ → (ℕ → ℕ → Option ℕ) → (ℕ → ℕ → ℕ) → ℕ → ℕ → ℕ
told grid vcs grants packets r i =
    told_over vcs grants packets (packets r i) (i % vcs) (neighbour grid r (i / vcs))

-- ---- the routers of a network in a cycle
-- the view of router r from which the verdicts of cycle n are taken
abbrev pub frozen_of : Setup → ℕ → ℕ → View
frozen_of net n r =
    view_after_inject n
    (view_after_takes net.relation (beats_at (beats_in net (state_at net n)) r) (view_at net n r))

-- its grants, by output channel
abbrev pub grants_of : Setup → ℕ → ℕ → ℕ → Option ℕ
grants_of net n r o = slice_index_or (view_round (frozen_of net n r)).grants o None

-- the packet that holds the input channel to which an output channel is granted, if it is
abbrev pub granted_to : Setup → ℕ → ℕ → ℕ → Option ℕ
granted_to net n r o = option_and_then (holder_at net (frozen_at net n) r) (grants_of net n r o)

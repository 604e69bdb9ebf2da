-- Lists of events: those that happen, and how many of them there are of each kind
-- (docs/MODEL.md, "The event core").
use Rattle.std.specs.Prelude.{ℕ, Bool, false, ◌&&◌, List, [], ◌∷◌, count_by, nat_eq, if◌then◌else◌}
use Rattle.noc_theory.specs.declared.event.Event.{Event}
use Rattle.noc_theory.specs.declared.event.Event.TheVariants.{Take, Decide, Put}
use Rattle.noc_theory.specs.Core.{CoreState, is_ready, happens}

-- the events of a list that happen, one after the other: those that are ready
unfoldable pub happening : ℕ → List Event → CoreState → List Event
happening limit [] k = []
happening limit (e ∷ es) k =
    if is_ready limit k e then e ∷ happening limit es (happens k e) else happening limit es k

-- whether it is a Take of this router and port
abbrev pub is_take : ℕ → ℕ → Event → Bool
is_take r port (Take s q) = nat_eq r s && nat_eq port q
is_take r port (Decide s) = false
is_take r port (Put s q) = false

-- whether it is a Decide of this router
abbrev pub is_decide : ℕ → Event → Bool
is_decide r (Take s q) = false
is_decide r (Decide s) = nat_eq r s
is_decide r (Put s q) = false

-- whether it is a Put of this router and port
abbrev pub is_put : ℕ → ℕ → Event → Bool
is_put r port (Take s q) = false
is_put r port (Decide s) = false
is_put r port (Put s q) = nat_eq r s && nat_eq port q

-- how many beats a router takes at a port, decides, and puts at a port
abbrev pub takes : ℕ → ℕ → List Event → ℕ
takes r port events = count_by (is_take r port) events

abbrev pub decides : ℕ → List Event → ℕ
decides r events = count_by (is_decide r) events

abbrev pub puts : ℕ → ℕ → List Event → ℕ
puts r port events = count_by (is_put r port) events

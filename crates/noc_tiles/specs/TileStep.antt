-- A tile as a function of the beats that it receives.
use Rattle.std.specs.Prelude.{ℕ, suc, ◌+◌, ◌-◌, List, [], ◌∷◌, map, length, Option, Some, None, Bool, true, false, nat_eq, nat_le, nat_lt, ◌&&◌, if◌then◌else◌}
use Rattle.noc_topo.specs.Lists.{tabulate, map_indexed}
use Rattle.noc_topo.specs.Shape.{local_port, neighbour}
use Rattle.noc_packet.specs.declared.packet.Beat.{Beat}
use Rattle.noc_route.specs.Routes.{Routes}
use Rattle.noc_view.specs.View.{View, local_step, idle_beat}
use Rattle.noc_theory.specs.Halves.{beat_at}
use Rattle.noc_tiles.specs.Ends.{WireEnd, Ring, end_after_beat}

module _ {A : Type 0} where
  -- one beat more through each of the first ends
  abbrev pub ends_after_beats : List (WireEnd A) → List Beat → List (WireEnd A)
  ends_after_beats [] row = []
  ends_after_beats (w ∷ ws) [] = w ∷ ws
  ends_after_beats (w ∷ ws) (x ∷ row) = end_after_beat w x ∷ ends_after_beats ws row

  -- a row for each cycle
  abbrev pub ends_after_rows : List (WireEnd A) → List (List Beat) → List (WireEnd A)
  ends_after_rows ws [] = ws
  ends_after_rows ws (row ∷ rows) = ends_after_rows (ends_after_beats ws row) rows

  -- the ports and the rings of ends
  abbrev pub names : List (WireEnd A) → List ((ℕ × ℕ) × Ring A)
  names ws = map (λ (w : WireEnd A). (w.at, w.ring)) ws

  -- where the wires arrive, by router and link port
  abbrev pub arrival_ports : List (WireEnd A) → List (ℕ × ℕ)
  arrival_ports ws = map (λ (w : WireEnd A). w.at) ws

-- for each router and link port the beat on the wire that arrives there
abbrev pub Beats : Type 0
Beats = ℕ → ℕ → Beat

-- with this beat at a port
abbrev pub with_beat : Beats → ℕ × ℕ → Beat → Beats
with_beat wires p x r q = if nat_eq r p.0 && nat_eq q p.1 then x else wires r q

-- with the beats of a row at these ports
abbrev pub with_row : Beats → List (ℕ × ℕ) → List Beat → Beats
with_row wires [] row = wires
with_row wires (p ∷ ps) [] = wires
with_row wires (p ∷ ps) (x ∷ row) = with_row (with_beat wires p x) ps row

-- whether router r is one of `count` from `first` on
abbrev pub is_own : ℕ → ℕ → ℕ → Bool
is_own first count r = nat_le first r && nat_lt r (first + count)

-- whether the sender of a wire is one of them
abbrev pub is_from : ℕ → ℕ → Option (ℕ × ℕ) → Bool
is_from first count None = false
is_from first count (Some from) = is_own first count from.0

-- whether no other router is the sender
abbrev pub is_inside : ℕ → ℕ → Option (ℕ × ℕ) → Bool
is_inside first count None = true
is_inside first count (Some from) = is_own first count from.0

-- what they have sent on a wire whose sender is given, idle where that is another one
abbrev pub beat_among : ℕ → ℕ → List (List Beat) → Option (ℕ × ℕ) → Beat
beat_among first count sent None = idle_beat
beat_among first count sent (Some from) =
    if is_own first count from.0 then beat_at sent (from.0 - first) from.1 else idle_beat

-- what is sent on a wire whose sender is given, where these routers have sent all that is sent
abbrev pub beat_of : ℕ → List (List Beat) → Option (ℕ × ℕ) → Beat
beat_of first sent from = beat_among first (length sent) sent from

-- the tile's place in the network: its first router, and where the wires
-- arrive that come and that go
pub record Layout : Type 0 where
  pub first : ℕ
  pub ins : List (ℕ × ℕ)
  pub outs : List (ℕ × ℕ)

-- what the tile's routers can see, and the beats on its inner wires
pub record TileState : Type 0 where
  pub views : List View
  pub wires : Beats

module _ (relation : Routes) (P : Layout) where
  -- the beats that arrive at router i of the tile
  abbrev pub beats_arriving : TileState → List Beat → ℕ → List Beat
  beats_arriving T row i =
      tabulate (local_port relation.grid) (with_row T.wires P.ins row (P.first + i))

  -- what each router makes of cycle n, with the beats of a row
  unfoldable pub steps : ℕ → TileState → List Beat → List (View × List Beat)
  steps n T row = map_indexed (λ i v. local_step relation v (beats_arriving T row i) n) T.views

  -- the beats that the routers have put
  abbrev pub sent_of : List (View × List Beat) → List (List Beat)
  sent_of S = map (λ (step : View × List Beat). step.1) S

  -- the beat that the routers have put on the wire that arrives at this port
  abbrev pub out_at : List (View × List Beat) → ℕ → ℕ → Beat
  out_at S r q = beat_of P.first (sent_of S) (neighbour relation.grid r q)

  -- the tile after its routers have made a cycle
  unfoldable pub after_steps : List (View × List Beat) → TileState
  after_steps S = record {
    views = map (λ (step : View × List Beat). step.0) S;
    wires = λ r q. if is_own P.first (length S) r then out_at S r q else idle_beat;
  }

  -- what the tile puts on the wires that go
  unfoldable pub put_by : List (View × List Beat) → List Beat
  put_by S = map (λ (p : ℕ × ℕ). out_at S p.0 p.1) P.outs

  abbrev pub tile_after_cycle : ℕ → TileState → List Beat → TileState
  tile_after_cycle n T row = after_steps (steps n T row)

  abbrev pub put_in : ℕ → TileState → List Beat → List Beat
  put_in n T row = put_by (steps n T row)

  -- after the rows, from cycle n on
  abbrev pub after : ℕ → TileState → List (List Beat) → TileState
  after n T [] = T
  after n T (row ∷ rows) = after (suc n) (tile_after_cycle n T row) rows

  -- what it puts in each cycle
  abbrev pub beats_put : ℕ → TileState → List (List Beat) → List (List Beat)
  beats_put n T [] = []
  beats_put n T (row ∷ rows) = put_in n T row ∷ beats_put (suc n) (tile_after_cycle n T row) rows

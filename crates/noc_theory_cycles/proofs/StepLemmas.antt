-- A turn of a router is shown by what it holds, and what leaves routers by links is brought.
use Rattle.std.proofs.Common.{◌≡◌, ℕ, ◌*◌, ◌/◌, ◌%◌, ◌<◌, arith, refl}
use Rattle.std.proofs.lemmas.Nat.{div-add-mod', mod_below, mul-add-lt}
use Rattle.noc_topo.specs.Shape.{Grid, IsGrid, local_port, nodes}
use Rattle.noc_sets.specs.Cycle.{Links as Left, Turn}
use Rattle.noc_sets.proofs.GatherLemmas.{gathered-same}
use Rattle.noc_theory_bits.specs.Network.{HasTurned}
use Rattle.noc_columns.specs.declared.channels.Links.{Links}
use Rattle.noc_cycles.specs.Gathered.{ShowsLeft, brought}
use Rattle.noc_cycles.specs.Held.{Held, ShowsHeld}
use Rattle.noc_cycles.specs.Turning.{ShowsTurn}
use Rattle.noc_cycles.specs.declared.pattern.Pattern.{Pattern}
use Rattle.noc_theory_cycles.specs.Steps.{left_as, router_after}

-- after a turn
pub turn-shown : (pattern : Pattern) (k : Held) (t : Turn) (packet : ℕ → ℕ) (links : Links ℕ) → ShowsTurn pattern k t → ShowsHeld pattern (record k { packet = packet }) links (router_after t packet links)
turn-shown pattern k t packet links shows = record {
  column = shows.column;
  marks = record {
    set = shows.marks.set;
    turn = shows.marks.turn;
    packet = refl;
    owned = record {
      sends = record { port = shows.marks.owned.sends.port; vc = shows.marks.owned.sends.vc; taken = shows.marks.owned.sends.taken; to_port = shows.marks.owned.sends.to_port };
      only = shows.marks.owned.only;
      owner = shows.marks.owned.owner;
    };
    outputs = shows.marks.outputs;
  };
  waiting = shows.waiting;
  ended = shows.ended;
  links_are = refl;
  source = shows.source;
}

pub turn-after : (t : Turn) (packet : ℕ → ℕ) (links : Links ℕ) → HasTurned t (router_after t packet links)
turn-after t packet links = record { column = refl; marks = refl; ended = refl; source = refl; counts = refl }

-- ---- what comes over links
-- only what leaves by links is brought
pub brought-same : (g : Grid) (vcs r : ℕ) (words : ℕ → Links ℕ) (left : ℕ → Left) → IsGrid g → 0 < vcs → r < nodes g → ((s : ℕ) → s < nodes g → ShowsLeft (local_port g * vcs) (words s) (left s))
    → brought g vcs (left_as words) r ≡ brought g vcs left r
brought-same g vcs r words left sound some l shows =
    same (gathered-same g sound vcs some (λ s. (words s).flits) (λ s. (left s).flits) (λ s k m low. (shows s m).flits k (within k low)) r l)
    (gathered-same g sound vcs some (λ s. (words s).tails) (λ s. (left s).tails) (λ s k m low. (shows s m).tails k (within k low)) r l)
    (gathered-same g sound vcs some (λ s. (words s).credits) (λ s. (left s).credits) (λ s k m low. (shows s m).credits k (within k low)) r l)
  where
    within : (k : ℕ) → k / vcs < local_port g → k < local_port g * vcs
    within k low =
        let whole = div-add-mod' k vcs in
        let inside = mul-add-lt (k / vcs) vcs (k % vcs) (local_port g) low (mod_below k vcs some) in
        omega (arith, whole, inside)

    same : {a b x y p q : ℕ} → a ≡ b → x ≡ y → p ≡ q → ◌≡◌ {A = Links ℕ} (record { flits = a; tails = x; credits = p }) (record { flits = b; tails = y; credits = q })
    same e f h = rw (e, f, h) refl

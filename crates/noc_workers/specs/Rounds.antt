-- A run of a network by tiles, and what the rings between them carry.
use Rattle.std.specs.Prelude.{◌≡◌, ℕ, ◌+◌, List, [], ◌∷◌, length}
use Rattle.noc_packet.specs.declared.packet.Packet.{Packet}
use Rattle.noc_route.specs.Routes.{Routes}
use Rattle.noc_theory.specs.Network.{Setup}
use Rattle.noc_workers.specs.Mails.{IsMail, blocks_in}
use Rattle.noc_workers.specs.declared.mail.Mail.{Mail}
use Rattle.noc_workers.specs.declared.origin.Run.{Run}
use Rattle.noc_engine.specs.declared.plan.Plan.{Plan}

-- the network that is made from this
abbrev pub setup_of : Routes → ℕ → List Packet → Setup
setup_of relation depth packets =
    record { relation = relation; depth = depth; packets = packets }

-- a run: of this network, by this plan, from this count on
pub record Start : Type 0 where
  pub net : Setup
  pub plan : Plan
  pub cycle : ℕ

abbrev pub start_of : Routes → ℕ → List Packet → Plan → ℕ → Start
start_of relation depth packets plan cycle =
    record { net = setup_of relation depth packets; plan = plan; cycle = cycle }

-- that which code runs
abbrev pub start_by : Run → Start
start_by run =
    start_of run.relation.now run.depth run.packets.now.items run.plan.now run.cycle

-- that of which a mail is
abbrev pub start_in : Mail → Start
start_in mail =
    start_of mail.start.relation.value mail.start.depth.value mail.start.packets.value.items
    mail.start.plan.value mail.start.cycle.value

-- what a ring carries: a first mail that says of which run it is, and of which blocks; then, of
-- cycle after cycle, what these tell
abbrev pub Follows : List Mail → Mail → Type 0
Follows [] mail = Unit {0}
Follows (first ∷ rest) mail =
    (blocks_in mail ≡ blocks_in first)
    × (start_in mail ≡ start_in first)
    × IsMail (start_in first).net (start_in first).plan ((start_in first).cycle + length rest) mail

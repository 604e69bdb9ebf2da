-- What holds of all packets that start at a node.
use Rattle.std.proofs.Common.{ℕ, ◌<◌, false, List, [], ◌∷◌, length, refl, sym, subst, inl, inr}
use Rattle.std.proofs.lemmas.List.Elements.{All-cons, All-nil}
use Rattle.noc_packet.specs.ByNode.{starts_of}
use Rattle.noc_theory.proofs.Common.{All, Has, Packet, Setup, opening_state}
use Rattle.noc_theory.proofs.injection.QueueLemmas.{in-starts}

-- ---- what holds of all of them
pub all-from : {X : Type 0} (P : X → Type 0) (xs : List X) → ((x : X) → Has x xs → P x) → All P xs
all-from P [] h = All-nil P
all-from P (x ∷ xs) h = All-cons P x xs (h x (inl refl)) (all-from P xs (λ y m. h y (inr m)))

-- each is one of the packets, with its number
pub start-has : (P : Packet → Type 0) (packets : List Packet) (r : ℕ) → All P packets → (one : ℕ × Packet) → Has one (starts_of packets r) → (one.0 < length packets) × P one.1
start-has P packets r all one h =
    let net : Setup = record { relation = record { grid = record { wraps = false; radix = [] }; vcs = 0; classes = 0; sets = [] }; depth = 0; packets = packets } in
    let is = in-starts net (opening_state net) r one h in
    (is.0, subst P (sym is.1) (all one.0 (record { source = 0; destination = 0; class = 0; length = 0; due = 0 }) is.0))

pub all-starts-hold : (P : Packet → Type 0) (packets : List Packet) (r : ℕ) → All P packets → All (λ (one : ℕ × Packet). P one.1) (starts_of packets r)
all-starts-hold P packets r all = all-from (λ (one : ℕ × Packet). P one.1) (starts_of packets r) (λ one h. (start-has P packets r all one h).1)

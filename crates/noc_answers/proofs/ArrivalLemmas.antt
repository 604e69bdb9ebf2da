-- The line of a packet that is out.
use Rattle.std.proofs.Common.{◌≡◌, ℕ, ◌-◌, ◌<◌, ◌++◌, Bool, true, [], ◌∷◌, length, Option, Some, None, is_some, refl, ap, sym, ◌∙◌, arith}
use Rattle.std.specs.Prelude.{decimal}
use Rattle.std.proofs.lemmas.Bool.{false≢true}
use Rattle.std.proofs.lemmas.List.Folds.{list_all_at}
use Rattle.noc_topo.specs.Lists.{below}
use Rattle.noc_topo.proofs.ListLemmas.{get_or-below, length-below}
use Rattle.noc_net.specs.Limit.{are_all_out}
use Rattle.noc_theory.specs.Network.{Run, arrival_in, packet_at, state_at}
use Rattle.noc_files.specs.Latency.{latency_line, packet_line, packet_start}
use Rattle.noc_files.specs.Writing.{comma, text_of_pieces, line_end}

-- the line of packet p has numbers at its end, where it was out in a cycle
abbrev EndsInNumbers : Run → ℕ → Type 0
EndsInNumbers run p =
    (cycle : ℕ) × (arrival_in run.net (state_at run.net run.count) p ≡ Some cycle)
    × (latency_line run p ≡ packet_start p (packet_at run.net p) ++ text_of_pieces (decimal cycle ∷ comma ∷ decimal (cycle - (packet_at run.net p).due) ∷ line_end ∷ []))

pub out-numbers : (run : Run) (p : ℕ) → are_all_out run.net (state_at run.net run.count) ≡ true → p < length run.net.packets → EndsInNumbers run p
unfolding latency_line
out-numbers run p out l = at (arrival_in run.net (state_at run.net run.count) p) refl
  where
    at : (o : Option ℕ) → arrival_in run.net (state_at run.net run.count) p ≡ o → EndsInNumbers run p
    at None e =
        let is_out : ℕ → Bool = λ k. is_some (arrival_in run.net (state_at run.net run.count) k) in
        let n = length run.net.packets in
        absurd (false≢true (sym (list_all_at is_out (below n) p 0 (let c = length-below n in omega arith) (ap is_out (get_or-below n p 0 l) ∙ ap is_some e)) ∙ out))
    at (Some cycle) e = (cycle, e, ap (packet_line p (packet_at run.net p)) e)

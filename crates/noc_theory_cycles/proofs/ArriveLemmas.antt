-- The cycles in which packets arrive are read from words.
use Rattle.std.proofs.Common.{◌≡◌, ◌≢◌, ℕ, ◌<◌, Option, Some, ap, subst, sym, ◌∙◌}
use Rattle.noc_packet.specs.Set.{has_bit}
use Rattle.noc_alloc.specs.Members.{MembersAreBelow}
use Rattle.noc_sets.specs.Cycle.{Turn}
use Rattle.noc_theory_bits.specs.Network.{AreArrivals}
use Rattle.noc_cycles.specs.Concluding.{HaveArrived}

pub arrived-network : (size n many : ℕ) (t : ℕ → Turn) (channels : ℕ → ℕ) (packet numbers : ℕ → ℕ → ℕ) (old new : ℕ → ℕ) (read : ℕ → Option ℕ) → HaveArrived n many channels packet old new → read n ≡ Some n
    → ((s : ℕ) → s < many → (t s).arrived ≡ channels s) → ((s : ℕ) → s < many → MembersAreBelow size (channels s)) → ((s : ℕ) → s < many → numbers s ≡ packet s)
    → AreArrivals (λ s. s < many) size n t numbers (λ p. read (old p)) (λ p. read (new p))
arrived-network size n many t channels packet numbers old new read have reads arrived below same = record {
  some = λ s i l u e.
      ap (λ (f : ℕ → ℕ). read (new (f i))) (same s l) ∙ ap read (have.some s i l (ap (λ w. has_bit w i) (sym (arrived s l)) ∙ e)) ∙ reads;
  others = λ p other. ap read (have.others p (λ s i l e. subst (λ (f : ℕ → ℕ). f i ≢ p) (same s l) (other s i l (below s l i e) (ap (λ w. has_bit w i) (arrived s l) ∙ e))));
}

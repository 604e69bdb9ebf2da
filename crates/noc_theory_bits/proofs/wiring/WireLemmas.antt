-- The beats that routers exchange: what comes to a channel by a link is what the router at the
-- other end has put.
use Rattle.std.proofs.Common.{◌≡◌, ℕ, suc, ◌+◌, ◌-◌, ◌/◌, ◌%◌, ◌≤◌, List, [], ◌∷◌, refl, ap, ◌∙◌, arith, inl, inr}
use Rattle.std.specs.Prelude.{slice_index_or, if◌then◌else◌}
use Rattle.noc_theory_bits.proofs.Common.{cases_eq, eq-eqb, ne_eqb, is_some_of, Beat, idle_beat, flit_from, flit_on_vc, credit_from}

-- by beats of this port and those behind it, the beat of the channel's port
pub flit-at : (vcs port : ℕ) (beats : List Beat) (i : ℕ) → port ≤ i / vcs → flit_from vcs port beats i ≡ flit_on_vc (i % vcs) (slice_index_or beats (i / vcs - port) idle_beat).flit
flit-at vcs port [] i l = refl
flit-at vcs port (beat ∷ beats) i l = elim (cases_eq (i / vcs) port) [
  | inl same ↦
      ap (λ b. if b then flit_on_vc (i % vcs) beat.flit else flit_from vcs (port + 1) beats i) (eq-eqb (i / vcs) port same)
      ∙ ap (λ n. flit_on_vc (i % vcs) (slice_index_or (beat ∷ beats) n idle_beat).flit) (let z : 0 ≡ i / vcs - port = omega arith in z)
  | inr other ↦
      ap (λ b. if b then flit_on_vc (i % vcs) beat.flit else flit_from vcs (port + 1) beats i) (ne_eqb (i / vcs) port other)
      ∙ flit-at vcs (port + 1) beats i (omega arith)
      ∙ ap (λ n. flit_on_vc (i % vcs) (slice_index_or (beat ∷ beats) n idle_beat).flit) (let z : suc (i / vcs - (port + 1)) ≡ i / vcs - port = omega arith in z)
]

pub credit-at : (vcs port : ℕ) (beats : List Beat) (o : ℕ) → port ≤ o / vcs → credit_from vcs port beats o ≡ is_some_of (slice_index_or beats (o / vcs - port) idle_beat).credit (o % vcs)
credit-at vcs port [] o l = refl
credit-at vcs port (beat ∷ beats) o l = elim (cases_eq (o / vcs) port) [
  | inl same ↦
      ap (λ b. if b then is_some_of beat.credit (o % vcs) else credit_from vcs (port + 1) beats o) (eq-eqb (o / vcs) port same)
      ∙ ap (λ n. is_some_of (slice_index_or (beat ∷ beats) n idle_beat).credit (o % vcs)) (let z : 0 ≡ o / vcs - port = omega arith in z)
  | inr other ↦
      ap (λ b. if b then is_some_of beat.credit (o % vcs) else credit_from vcs (port + 1) beats o) (ne_eqb (o / vcs) port other)
      ∙ credit-at vcs (port + 1) beats o (omega arith)
      ∙ ap (λ n. is_some_of (slice_index_or (beat ∷ beats) n idle_beat).credit (o % vcs)) (let z : suc (o / vcs - (port + 1)) ≡ o / vcs - port = omega arith in z)
]

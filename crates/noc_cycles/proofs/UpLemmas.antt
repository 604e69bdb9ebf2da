-- Who comes to be supplied in a cycle: those that own an output channel to which a credit comes.
use Rattle.std.proofs.Common.{◌≡◌, ◌⊎◌, ℕ, ◌+◌, ◌*◌, ◌^◌, ◌<◌, ◌≤◌, Bool, true, false, List, arith, ap, ap₂, sym, ◌∙◌, refl, inl, inr, bit_or}
use Rattle.std.specs.Prelude.{◌&&◌, ◌||◌, not, nat_lt, if◌then◌else◌}
use Rattle.noc_sets.specs.Passes.{AreOwners}
use Rattle.noc_sets.proofs.PlaneLemmas.{any-members, filled-members}
use Rattle.noc_columns.specs.Supply.{is_fed}
use Rattle.noc_cycles.proofs.Common.{and_parts, cases_lt, le-ltb, lt-ltb, true≢false, pow_mono, has_bit, either_members, RouterMarks, any_from, less, less_members, ShowsOwned, list_of, set_below, below-fits, below-members, Held, Pattern}
use Rattle.noc_cycles.specs.May.{owned_by, with_credit}

-- the channels with a credit, or to which one comes
pub any-or : (set : ℕ) (planes : List ℕ) (k : ℕ) → has_bit (any_from set planes) k ≡ (has_bit set k || has_bit (any_from 0 planes) k)
any-or set planes k = any-members set planes k ∙ ap (λ b. has_bit set k || b) (sym (filled-members planes k))

module _ (pattern : Pattern) (h : Held) (m : RouterMarks) (came have : ℕ)
    (owned : ShowsOwned (pattern.table.ports.links.width + 1) pattern.table.ports.links.vcs h.inputs.active h.out_port h.out_vc m)
    (below : (i : ℕ) → has_bit h.inputs.active i ≡ true → i < (pattern.table.ports.links.width + 1) * pattern.table.ports.links.vcs)
    (busy : (i : ℕ) → has_bit h.inputs.active i ≡ true
    → (has_bit h.idle (owned_by pattern.table.ports.links.vcs h i) ≡ false) × (has_bit h.outputs.draining (owned_by pattern.table.ports.links.vcs h i) ≡ false)) where
  abbrev wide : ℕ
  wide = pattern.table.ports.links.width

  abbrev vcs : ℕ
  vcs = pattern.table.ports.links.vcs

  abbrev credit : List ℕ
  credit = list_of pattern.frame.deep h.outputs.credit

  abbrev raised : ℕ
  raised = less came (bit_or (bit_or (any_from 0 (list_of pattern.frame.deep h.outputs.credit)) h.idle) h.outputs.draining)

  abbrev pub up_of : ℕ
  up_of = set_below ((pattern.table.ports.links.width + 1) * pattern.table.ports.links.vcs) (λ i. has_bit h.inputs.active i && has_bit raised (owned_by pattern.table.ports.links.vcs h i))

  raised-members : (o : ℕ) → has_bit raised o ≡ (has_bit came o && not ((has_bit (any_from 0 credit) o || has_bit h.idle o) || has_bit h.outputs.draining o))
  raised-members o =
      less_members came (bit_or (bit_or (any_from 0 credit) h.idle) h.outputs.draining) o
      ∙ ap (λ b. has_bit came o && not b)
      (either_members (bit_or (any_from 0 credit) h.idle) h.outputs.draining o ∙ ap (λ b. b || has_bit h.outputs.draining o) (either_members (any_from 0 credit) h.idle o))

  up-members : (i : ℕ) → has_bit h.inputs.active i ≡ true → has_bit up_of i ≡ has_bit raised (owned_by vcs h i)
  up-members i e = below-members ((wide + 1) * vcs) (λ j. has_bit h.inputs.active j && has_bit raised (owned_by vcs h j)) i
      ∙ ap₂ (λ a b. a && (b && has_bit raised (owned_by vcs h i))) (lt-ltb i ((wide + 1) * vcs) (below i e)) e

  up-active : (i : ℕ) → has_bit up_of i ≡ true → (has_bit h.inputs.active i ≡ true) × (has_bit raised (owned_by vcs h i) ≡ true)
  up-active i e =
      let inside = and_parts (nat_lt i ((wide + 1) * vcs)) (has_bit h.inputs.active i && has_bit raised (owned_by vcs h i)) (sym (below-members ((wide + 1) * vcs) (λ j. has_bit h.inputs.active j && has_bit raised (owned_by vcs h j)) i) ∙ e) in
      let parts = and_parts (has_bit h.inputs.active i) (has_bit raised (owned_by vcs h i)) inside.1 in
      (parts.0, parts.1)

  pub up-fits : up_of < 2 ^ 64
  up-fits =
      let low = below-fits ((wide + 1) * vcs) (λ i. has_bit h.inputs.active i && has_bit raised (owned_by vcs h i)) in
      let mono : 2 ^ ((wide + 1) * vcs) ≤ 2 ^ 64 = pow_mono pattern.table.few in
      omega (arith, low, mono)

  pub up-owners : ((o : ℕ) → has_bit came o ≡ true → o < wide * vcs)
      → ((o : ℕ) → o < wide * vcs → has_bit came o ≡ true → has_bit h.idle o ≡ false → has_bit h.outputs.draining o ≡ false → (i : ℕ) × (has_bit h.inputs.active i ≡ true) × (owned_by vcs h i ≡ o))
      → AreOwners raised m.owner up_of
  up-owners links owner = record {
    each = λ o e.
        let parts = and_parts (has_bit came o) (not ((has_bit (any_from 0 credit) o || has_bit h.idle o) || has_bit h.outputs.draining o)) (sym (raised-members o) ∙ e) in
        let free = none-of (has_bit (any_from 0 credit) o) (has_bit h.idle o) (has_bit h.outputs.draining o) parts.1 in
        let one = owner o (links o parts.0) parts.0 free.0 free.1 in
        let who : m.owner o ≡ one.0 = ap m.owner (sym one.2) ∙ owned.owner one.0 one.1 in
        ap (has_bit up_of) who ∙ up-members one.0 one.1 ∙ ap (has_bit raised) one.2 ∙ e;
    some = λ i e. let parts = up-active i e in (owned_by vcs h i, parts.1, owned.owner i parts.0);
  }
    where
      none-of : (a b d : Bool) → not ((a || b) || d) ≡ true → (b ≡ false) × (d ≡ false)
      none-of true b d e = absurd (true≢false (sym e))
      none-of false true d e = absurd (true≢false (sym e))
      none-of false false true e = absurd (true≢false (sym e))
      none-of false false false e = (refl, refl)

  -- an active channel is supplied then, or it comes to be
  pub supplied-now : (supplied : ℕ)
      → ((i : ℕ) → i < (wide + 1) * vcs → has_bit have i ≡ (has_bit h.inputs.active i && is_fed wide (with_credit vcs credit) (h.out_port i) (h.out_vc i)))
      → ((i : ℕ) → i < (wide + 1) * vcs → h.out_port i ≤ wide → h.out_vc i < vcs
      → has_bit h.outputs.draining (owned_by vcs h i) ≡ false
      → has_bit supplied i ≡ is_fed wide (λ q. set_below vcs (λ v. has_bit (any_from came credit) (q * vcs + v))) (h.out_port i) (h.out_vc i))
      → (i : ℕ) → has_bit h.inputs.active i ≡ true → has_bit supplied i ≡ has_bit (bit_or have up_of) i
  supplied-now supplied had fed i e =
      let in_port = owned.sends.port i e in
      fed i (below i e) (omega (arith, in_port)) (owned.sends.vc i e) (busy i e).1
      ∙ at (cases_lt (h.out_port i) wide)
      ∙ sym (either_members have up_of i ∙ ap₂ (λ a b. a || b) (had i (below i e) ∙ ap (λ a. a && is_fed wide (with_credit vcs credit) (h.out_port i) (h.out_vc i)) e) (up-members i e))
    where
      o : ℕ
      o = owned_by vcs h i

      here : (words : ℕ) → has_bit (set_below vcs (λ v. has_bit words (h.out_port i * vcs + v))) (h.out_vc i) ≡ has_bit words (h.out_port i * vcs + h.out_vc i)
      here words =
          below-members vcs (λ v. has_bit words (h.out_port i * vcs + v)) (h.out_vc i)
          ∙ ap (λ b. b && has_bit words (h.out_port i * vcs + h.out_vc i)) (lt-ltb (h.out_vc i) vcs (owned.sends.vc i e))

      split : (a b : Bool) → (a || b) ≡ (b || (a && not ((b || false) || false)))
      split true true = refl
      split true false = refl
      split false true = refl
      split false false = refl

      at : (h.out_port i < wide) ⊎ (wide ≤ h.out_port i)
          → is_fed wide (λ q. set_below vcs (λ v. has_bit (any_from came credit) (q * vcs + v))) (h.out_port i) (h.out_vc i)
          ≡ (is_fed wide (with_credit vcs credit) (h.out_port i) (h.out_vc i) || has_bit raised (owned_by vcs h i))
      at (inl l) =
          ap (λ b. if b then has_bit (set_below vcs (λ v. has_bit (any_from came credit) (h.out_port i * vcs + v))) (h.out_vc i) else true) (lt-ltb (h.out_port i) wide l)
          ∙ here (any_from came credit)
          ∙ any-or came credit (owned_by vcs h i)
          ∙ split (has_bit came (owned_by vcs h i)) (has_bit (any_from 0 credit) (owned_by vcs h i))
          ∙ ap₂ (λ a b. has_bit (any_from 0 credit) (owned_by vcs h i) || (has_bit came (owned_by vcs h i) && not ((has_bit (any_from 0 credit) (owned_by vcs h i) || a) || b))) (sym (busy i e).0) (sym (busy i e).1)
          ∙ ap (λ b. has_bit (any_from 0 credit) (owned_by vcs h i) || b) (sym (raised-members (owned_by vcs h i)))
          ∙ ap (λ b. b || has_bit raised (owned_by vcs h i))
          (sym (ap (λ b. if b then has_bit (with_credit vcs credit (h.out_port i)) (h.out_vc i) else true) (lt-ltb (h.out_port i) wide l) ∙ here (any_from 0 credit)))
      at (inr u) =
          ap (λ b. if b then has_bit (set_below vcs (λ v. has_bit (any_from came credit) (h.out_port i * vcs + v))) (h.out_vc i) else true) (le-ltb (h.out_port i) wide u)
          ∙ ap (λ b. b || has_bit raised (owned_by vcs h i)) (sym (ap (λ b. if b then has_bit (with_credit vcs credit (h.out_port i)) (h.out_vc i) else true) (le-ltb (h.out_port i) wide u)))

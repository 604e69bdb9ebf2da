-- What the local channels of a router of a block are among all of its channels.
use Rattle.std.proofs.Common.{◌≡◌, ◌⊎◌, ℕ, ◌+◌, ◌-◌, ◌*◌, ◌^◌, ◌<◌, ◌≤◌, Bool, true, false, List, arith, ap, ap₂, sym, ◌∙◌, subst, inl, inr, bit_or}
use Rattle.std.specs.Prelude.{◌&&◌, ◌||◌, not, nat_eq, nat_le, if◌then◌else◌}
use Rattle.noc_sets.specs.Passes.{lane_begins, lane_injected}
use Rattle.noc_sets.proofs.MemberLemmas.{below_fits, less_fits}
use Rattle.noc_columns.specs.Channels.{inputs_by}
use Rattle.noc_columns.specs.Steps.{with_source}
use Rattle.noc_cycles.proofs.Common.{cases_lt, le-ltb, true≢false, pow_mono, has_bit, both_members, either_members, has_bit-zero, Layout, any_from, wrong_from, less, up_by, less_members, up_members, up_none, channels_of, port_at, list_of, planes_by, Numbering, all_of, set_alike, set_of, blank, below-fits, below-members, held_at, FitsLayout, Block, Pattern}
use Rattle.noc_cycles.specs.Taking.{column_in}
use Rattle.noc_cycles.proofs.CreditLemmas.{alike-is}
use Rattle.noc_cycles.proofs.PartLemmas.{at-local, none-above, size-is}
use Rattle.noc_cycles.proofs.PlaneLemmas.{any-at, planes-at, wrong-at}
use Rattle.noc_cycles.proofs.ShiftLemmas.{up-at, up-is, up-some, up-zero}

module _ (pattern : Pattern) (layout : Layout) (fits : FitsLayout pattern layout) (block : Block) (r : ℕ) (few : r < 64) where
  abbrev local : Numbering
  local = port_at pattern.table.ports.local 0

  abbrev all : Numbering
  all = channels_of pattern.table.ports

  abbrev deep : Bool
  deep = pattern.frame.deep

  abbrev links : ℕ
  links = pattern.table.ports.links.width * pattern.table.ports.links.vcs

  abbrev injecting : ℕ
  injecting = set_of (port_at pattern.table.ports.local 0) r block.injection.injecting

  abbrev local_len : List ℕ
  local_len = list_of pattern.frame.deep (planes_by (set_of (port_at pattern.table.ports.local 0) r) block.inputs.len)

  abbrev all_len : List ℕ
  all_len = list_of pattern.frame.deep (planes_by (set_of (channels_of pattern.table.ports) r) block.inputs.len)

  abbrev local_places : List ℕ
  local_places = list_of pattern.frame.deep (planes_by (set_alike (port_at pattern.table.ports.local 0) r) pattern.frame.places)

  abbrev injected : ℕ
  injected = lane_injected local_places (with_source pattern.frame.deep (inputs_by (set_of (port_at pattern.table.ports.local 0) r) block.inputs) injecting blank)

  abbrev begins : ℕ → ℕ → ℕ
  begins cycle due = lane_begins (all_of (port_at pattern.table.ports.local 0)) cycle due (with_source pattern.frame.deep (inputs_by (set_of (port_at pattern.table.ports.local 0) r) block.inputs) injecting blank)

  in-local : (v : ℕ) → v < pattern.table.ports.links.vcs → v < pattern.table.ports.local.vcs
  in-local v l = subst (λ n. v < n) (sym pattern.table.ports.alike) l

  off : (a b : Bool) → a ≡ false → (a && b) ≡ false
  off a b e = ap (λ x. x && b) e

  -- a flit goes into the channel of the packet that is being injected
  pub injected-up : lane_injected layout.places (column_in pattern (held_at pattern.table.ports block r)) ≡ up_by injected links
  injected-up = up-is _ injected links (λ v. both_members (up_by injecting links) (wrong_from 0 all_len layout.places) (links + v) ∙ ap (λ b. b && has_bit (wrong_from 0 all_len layout.places) (links + v)) (up-at injecting links v)
      ∙ at v (cases_lt v pattern.table.ports.links.vcs) ∙ sym (both_members injecting (wrong_from 0 local_len local_places) v))
      (λ k l. both_members (up_by injecting links) (wrong_from 0 all_len layout.places) k ∙ off _ (has_bit (wrong_from 0 all_len layout.places) k) (up_none injecting links k l))
    where
      at : (v : ℕ) → (v < pattern.table.ports.links.vcs) ⊎ (pattern.table.ports.links.vcs ≤ v)
          → (has_bit injecting v && has_bit (wrong_from 0 all_len layout.places) (links + v)) ≡ (has_bit injecting v && has_bit (wrong_from 0 local_len local_places) v)
      at v (inl l) =
          let s = size-is pattern.table.ports in
          ap (λ b. has_bit injecting v && b)
          (ap (λ o. has_bit (wrong_from 0 all_len o) (links + v)) (fits.places r few)
          ∙ wrong-at (links + v) v all_len local_len (list_of deep (planes_by (set_alike all r) pattern.frame.places)) local_places 0 0
          (planes-at deep block.inputs.len (set_of all r) (set_of local r) (links + v) v (λ w. at-local pattern.table.ports r w v l))
          (planes-at deep pattern.frame.places (set_alike all r) (set_alike local r) (links + v) v (λ w. alike-is all r w (links + v) (omega (arith, s, l)) ∙ sym (alike-is local r w v (in-local v l))))
          (has_bit-zero (links + v) ∙ sym (has_bit-zero v)))
      at v (inr m) =
          let none : has_bit injecting v ≡ false = none-above local r block.injection.injecting v (subst (λ n. n ≤ v) (sym pattern.table.ports.alike) m) in
          off (has_bit injecting v) (has_bit (wrong_from 0 all_len layout.places) (links + v)) none ∙ sym (off (has_bit injecting v) (has_bit (wrong_from 0 local_len local_places) v) none)

  -- the local channels in which a packet may begin
  busy_local : ℕ
  busy_local = bit_or (bit_or (set_of local r block.inputs.waiting) (set_of local r block.inputs.active)) (any_from 0 local_len)

  busy_all : ℕ
  busy_all = bit_or (bit_or (set_of all r block.inputs.waiting) (set_of all r block.inputs.active)) (any_from 0 all_len)

  busy-same : (v : ℕ) → v < pattern.table.ports.links.vcs → has_bit busy_all (links + v) ≡ has_bit busy_local v
  unfolding busy_local busy_all
  busy-same v l =
      either_members (bit_or (set_of all r block.inputs.waiting) (set_of all r block.inputs.active)) (any_from 0 all_len) (links + v)
      ∙ ap₂ (λ a b. a || b)
      (either_members (set_of all r block.inputs.waiting) (set_of all r block.inputs.active) (links + v)
      ∙ ap₂ (λ a b. a || b) (at-local pattern.table.ports r block.inputs.waiting v l) (at-local pattern.table.ports r block.inputs.active v l)
      ∙ sym (either_members (set_of local r block.inputs.waiting) (set_of local r block.inputs.active) v))
      (any-at (links + v) v all_len local_len 0 0 (planes-at deep block.inputs.len (set_of all r) (set_of local r) (links + v) v (λ w. at-local pattern.table.ports r w v l)) (has_bit-zero (links + v) ∙ sym (has_bit-zero v)))
      ∙ sym (either_members (bit_or (set_of local r block.inputs.waiting) (set_of local r block.inputs.active)) (any_from 0 local_len) v)

  all-above : (v : ℕ) → pattern.table.ports.links.vcs ≤ v → has_bit (all_of local) v ≡ false
  all-above v m = below-members local.size (λ c. true) v ∙ off _ true (le-ltb v local.size (subst (λ n. n ≤ v) (sym pattern.table.ports.alike) m))

  free-up : less layout.local busy_all ≡ up_by (less (all_of local) busy_local) links
  free-up = ap (λ x. less x busy_all) fits.local
      ∙ up-is (less (up_by (all_of local) links) busy_all) (less (all_of local) busy_local) links
      (λ v. less_members (up_by (all_of local) links) busy_all (links + v) ∙ ap (λ b. b && not (has_bit busy_all (links + v))) (up-at (all_of local) links v)
      ∙ at v (cases_lt v pattern.table.ports.links.vcs) ∙ sym (less_members (all_of local) busy_local v))
      (λ k l. less_members (up_by (all_of local) links) busy_all k ∙ off _ (not (has_bit busy_all k)) (up_none (all_of local) links k l))
    where
      at : (v : ℕ) → (v < pattern.table.ports.links.vcs) ⊎ (pattern.table.ports.links.vcs ≤ v)
          → (has_bit (all_of local) v && not (has_bit busy_all (links + v))) ≡ (has_bit (all_of local) v && not (has_bit busy_local v))
      at v (inl l) = ap (λ b. has_bit (all_of local) v && not b) (busy-same v l)
      at v (inr m) = off (has_bit (all_of local) v) (not (has_bit busy_all (links + v))) (all-above v m) ∙ sym (off (has_bit (all_of local) v) (not (has_bit busy_local v)) (all-above v m))

  pub begins-up : (cycle due : ℕ) → lane_begins layout.local cycle due (column_in pattern (held_at pattern.table.ports block r)) ≡ up_by (begins cycle due) links
  unfolding busy_local busy_all
  begins-up cycle due =
      ap (λ b. if nat_le due cycle && b then less layout.local busy_all else 0) (up-some injecting links)
      ∙ at (nat_le due cycle && nat_eq injecting 0)
    where
      at : (b : Bool) → (if b then less layout.local busy_all else 0) ≡ up_by (if b then less (all_of local) busy_local else 0) links
      at true = free-up
      at false = sym (up-zero links)

  pub begins-fit : (cycle due : ℕ) → begins cycle due < 2 ^ 64
  unfolding busy_local
  begins-fit cycle due = at (nat_le due cycle && nat_eq injecting 0)
    where
      fit : all_of local < 2 ^ 64
      fit =
          let low = below-fits local.size (λ c. true) in
          let eight = pattern.table.ports.few in
          let alike = pattern.table.ports.alike in
          let small : local.size ≤ 64 = omega (arith, eight, alike) in
          let mono : 2 ^ local.size ≤ 2 ^ 64 = pow_mono small in
          omega (arith, low, mono)

      at : (b : Bool) → (if b then less (all_of local) busy_local else 0) < 2 ^ 64
      at true = less_fits (all_of local) busy_local fit
      at false = omega arith

  local-fits : up_by (all_of local) links < 2 ^ 64
  local-fits = below_fits 64 (up_by (all_of local) links) (λ k e. at k e (cases_lt k links))
    where
      at : (k : ℕ) → has_bit (up_by (all_of local) links) k ≡ true → (k < links) ⊎ (links ≤ k) → k < 64
      at k e (inl l) = absurd (true≢false (sym e ∙ up_none (all_of local) links k l))
      at k e (inr m) = inside (cases_lt (k - links) pattern.table.ports.links.vcs)
        where
          inside : (k - links < pattern.table.ports.links.vcs) ⊎ (pattern.table.ports.links.vcs ≤ k - links) → k < 64
          inside (inl l) = let s = size-is pattern.table.ports in let room = pattern.table.few in omega (arith, s, l, m, room)
          inside (inr above) = absurd (true≢false (sym e ∙ up_members (all_of local) links k m ∙ all-above (k - links) above))

  pub all-fit : (cycle due : ℕ) → lane_begins layout.local cycle due (column_in pattern (held_at pattern.table.ports block r)) < 2 ^ 64
  unfolding busy_all
  all-fit cycle due = at (nat_le due cycle && nat_eq (up_by injecting links) 0)
    where
      at : (b : Bool) → (if b then less layout.local busy_all else 0) < 2 ^ 64
      at true = less_fits layout.local busy_all (subst (λ w. w < 2 ^ 64) (sym fits.local) local-fits)
      at false = omega arith

-- What takes effect in a block takes effect in each of its routers.
use Rattle.std.proofs.Common.{Bool, true, false, zero, suc, ◌^◌, ap₂, bit_or, refl, ◌≡◌, ℕ, ◌+◌, ◌*◌, ◌/◌, ◌%◌, ◌<◌, ◌≤◌, List, [], arith, ap, sym, ◌∙◌, inl, inr}
use Rattle.std.specs.Prelude.{◌⊎◌, slice_index_or, if◌then◌else◌}
use Rattle.noc_columns.specs.Arrivals.{given_back}
use Rattle.noc_columns.specs.Marks.{ChangesIdle}
use Rattle.noc_columns.specs.Words.{IsWithin}
use Rattle.noc_columns.specs.declared.marks.Marks.{Marks}
use Rattle.noc_columns.proofs.PortLemmas.{local-place}
use Rattle.noc_cycles.proofs.Common.{cases_lt, true≢false, has_bit, has_bit-zero, zero_from_none, some_below, or-zero, channels_of, links_of, Numbering, set_of, word, Inputs, Outputs, RouterPorts, part, port-below, apart, none-each, link-index, member-below, member-is, held_at, Block, Pattern}

-- ---- where the words of the channels stand
module _ (pattern : Pattern) where
  abbrev all_ports : RouterPorts
  all_ports = pattern.table.ports

  abbrev width : ℕ
  width = pattern.table.ports.links.width

  abbrev vcs : ℕ
  vcs = pattern.table.ports.links.vcs

  pub links-within : IsWithin (4 * pattern.frame.link_groups) (links_of pattern.table.ports.links)
  links-within c l =
      let far = apart (c % vcs) vcs width (c / vcs) (part width vcs pattern.some c) (port-below width vcs pattern.some c l) in
      let first = pattern.table.ports.first in
      let few = pattern.links in
      omega (arith, far, first, few)

  pub all-within : IsWithin (4 * pattern.frame.groups) (channels_of pattern.table.ports)
  all-within c l = at (cases_lt (c / vcs) width)
    where
      few : c % vcs < vcs
      few = part (width + 1) vcs pattern.some c

      at : (c / vcs < width) ⊎ (width ≤ c / vcs) → (channels_of pattern.table.ports).index c < 4 * pattern.frame.groups
      at (inl m) =
          let far = apart (c % vcs) vcs width (c / vcs) few m in
          let first = pattern.table.ports.first in
          let is = link-index all_ports (c / vcs) (c % vcs) m in
          let all = pattern.all in
          omega (arith, far, first, is, all)
      at (inr m) =
          let is = local-place all_ports (c / vcs) (c % vcs) m all_ports.one in
          let behind = pattern.table.ports.behind in
          let all = pattern.all in
          omega (arith, is, behind, all, few)

  -- a set of link channels is that of all channels there
  links-same : (r : ℕ) (words : List ℕ) (c : ℕ) → c < width * vcs → has_bit (set_of (links_of all_ports.links) r words) c ≡ has_bit (set_of (channels_of all_ports) r words) c
  links-same r words c l =
      let p = port-below width vcs pattern.some c l in
      let v = part width vcs pattern.some c in
      let all : c < (width + 1) * vcs = omega (arith, l) in
      member-is (links_of all_ports.links) r c words l
      ∙ ap (λ i. has_bit (word i words) r) (sym (link-index all_ports (c / vcs) (c % vcs) p))
      ∙ sym (member-is (channels_of all_ports) r c words all)

  -- .. and so it is where the words of the links were copied
  pub links-copied : (r : ℕ) (words copied : List ℕ) → ((k : ℕ) → k < 4 * pattern.frame.link_groups → word k copied ≡ word k words)
      → (c : ℕ) → c < width * vcs → has_bit (set_of (links_of all_ports.links) r copied) c ≡ has_bit (set_of (channels_of all_ports) r words) c
  links-copied r words copied same c l =
      let n = links_of all_ports.links in
      member-is n r c copied l ∙ ap (λ w. has_bit w r) (same (n.index c) (links-within c l)) ∙ sym (member-is n r c words l) ∙ links-same r words c l

-- ---- what a router holds, where of its marks only the idle channels change
pub held-changed : (ports : RouterPorts) (b : Block) (r : ℕ) (inputs : Inputs (List ℕ)) (outputs : Outputs (List ℕ)) (marks : Marks) → ChangesIdle b.marks marks
    → held_at ports (record b { inputs = inputs; outputs = outputs; marks = marks }) r
    ≡ record (held_at ports b r) {
      inputs = (held_at ports (record b { inputs = inputs; outputs = outputs; marks = marks }) r).inputs;
      outputs = (held_at ports (record b { inputs = inputs; outputs = outputs; marks = marks }) r).outputs;
      idle = word r marks.idle;
    }
held-changed ports b r inputs outputs marks kept x = record (held_at ports b r) {
  inputs = (held_at ports (record b { inputs = inputs; outputs = outputs; marks = marks }) r).inputs;
  outputs = (held_at ports (record b { inputs = inputs; outputs = outputs; marks = marks }) r).outputs;
  waiting = word r (kept.waiting x);
  wanted = word r (kept.wanted x);
  idle = word r marks.idle;
  set = λ k. word k (slice_index_or (kept.sets x) r []);
  turn = λ o. word o (slice_index_or (kept.turns x) r []);
}

-- ---- where no router has a channel nothing is given back
pub none-there : (n : Numbering) (r count routers : ℕ) (words : List ℕ) → IsWithin count n → has_bit routers r ≡ some_below count (λ i. has_bit (word i words) r) → routers ≡ 0 → set_of n r words ≡ 0
none-there n r count routers words within tells none = zero_from_none (set_of n r words) (λ k. at k (has_bit (set_of n r words) k) refl)
  where
    nobody : some_below count (λ i. has_bit (word i words) r) ≡ false
    nobody = sym tells ∙ ap (λ x. has_bit x r) none ∙ has_bit-zero r

    at : (k : ℕ) (b : Bool) → has_bit (set_of n r words) k ≡ b → has_bit (set_of n r words) k ≡ false
    at k false e = e
    at k true e = (let l = member-below n r words k e in absurd (true≢false (sym e ∙ member-is n r k words l ∙ none-each count (λ i. has_bit (word i words) r) nobody (n.index k) (within k l))))

-- no channel is in words that are all 0
pub none-within : (n : Numbering) (r count : ℕ) (words : List ℕ) → IsWithin count n → ((k : ℕ) → k < count → word k words ≡ 0) → set_of n r words ≡ 0
none-within n r count words within none = zero_from_none (set_of n r words) (λ k. at k (has_bit (set_of n r words) k) refl)
  where
    at : (k : ℕ) (b : Bool) → has_bit (set_of n r words) k ≡ b → has_bit (set_of n r words) k ≡ false
    at k false e = e
    at k true e =
        let l = member-below n r words k e in
        absurd (true≢false (sym e ∙ member-is n r k words l ∙ ap (λ w. has_bit w r) (none (n.index k) (within k l)) ∙ has_bit-zero r))

pub none-back : (idle size links set : ℕ) (vc : ℕ → ℕ) → set ≡ 0 → idle ≡ given_back idle size links set vc
none-back idle size links set vc none = sym (ap (λ s. given_back idle size links s vc) none ∙ nothing size)
  where
    nothing : (n : ℕ) → given_back idle n links 0 vc ≡ idle
    nothing zero = refl
    nothing (suc n) = ap₂ bit_or (nothing n) (ap (λ b. if b then 2 ^ (links + vc n) else 0) (has_bit-zero n)) ∙ or-zero idle

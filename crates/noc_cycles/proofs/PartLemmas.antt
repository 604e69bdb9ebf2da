-- The channels of a router are those of its links, and behind them those of its local port.
use Rattle.std.proofs.Common.{◌≡◌, ◌⊎◌, ℕ, ◌+◌, ◌-◌, ◌*◌, ◌/◌, ◌%◌, ◌<◌, ◌≤◌, false, List, arith, ap, sym, ◌∙◌, subst, inl, inr, bit_or}
use Rattle.std.specs.Prelude.{◌&&◌, ◌||◌}
use Rattle.noc_sets.proofs.MemberLemmas.{or-false}
use Rattle.noc_columns.proofs.ByRouterLemmas.{local-word}
use Rattle.noc_columns.proofs.ChannelLemmas.{positive}
use Rattle.noc_columns.proofs.SetLemmas.{below-members, below-same}
use Rattle.noc_cycles.proofs.Common.{cases_lt, le-ltb, has_bit, either_members, up_by, same-word, up_members, up_none, channels_of, links_of, port_at, Numbering, set_of, word, RouterPorts, part, port-below, apart, link-index, member-is, Pattern}

pub none-above : (n : Numbering) (r : ℕ) (words : List ℕ) (k : ℕ) → n.size ≤ k → has_bit (set_of n r words) k ≡ false
none-above n r words k m = below-members n.size (λ j. has_bit (word (n.index j) words) r) k ∙ ap (λ b. b && has_bit (word (n.index k) words) r) (le-ltb k n.size m)

module _ (ports : RouterPorts) where
  abbrev links : ℕ
  links = ports.links.width * ports.links.vcs

  pub size-is : (ports.links.width + 1) * ports.links.vcs ≡ ports.links.width * ports.links.vcs + ports.links.vcs
  size-is = omega arith

  pub at-link : (r : ℕ) (words : List ℕ) (k : ℕ) → k < ports.links.width * ports.links.vcs → has_bit (set_of (channels_of ports) r words) k ≡ has_bit (set_of (links_of ports.links) r words) k
  at-link r words k l =
      let s = size-is in
      member-is (channels_of ports) r k words (omega (arith, l, s))
      ∙ ap (λ i. has_bit (word i words) r)
      (link-index ports (k / ports.links.vcs) (k % ports.links.vcs) (port-below ports.links.width ports.links.vcs (positive ports.links.vcs ports.links.width k l) k l))
      ∙ sym (member-is (links_of ports.links) r k words l)

  pub at-local : (r : ℕ) (words : List ℕ) (v : ℕ) → v < ports.links.vcs
      → has_bit (set_of (channels_of ports) r words) (ports.links.width * ports.links.vcs + v) ≡ has_bit (set_of (port_at ports.local 0) r words) v
  at-local r words v l =
      let s = size-is in
      member-is (channels_of ports) r (links + v) words (omega (arith, l, s))
      ∙ ap (λ i. has_bit (word i words) r) (local-word ports v l)
      ∙ sym (member-is (port_at ports.local 0) r v words (subst (λ n. v < n) (sym ports.alike) l))

  -- a set of all channels in two parts
  pub in-parts : (r : ℕ) (words : List ℕ) → set_of (channels_of ports) r words ≡ bit_or (set_of (links_of ports.links) r words) (up_by (set_of (port_at ports.local 0) r words) (ports.links.width * ports.links.vcs))
  in-parts r words = same-word _ _ (λ k. at k (cases_lt k links) ∙ sym (either_members (set_of (links_of ports.links) r words) (up_by (set_of (port_at ports.local 0) r words) links) k))
    where
      behind : (k : ℕ) → links ≤ k → (k - links < ports.links.vcs) ⊎ (ports.links.vcs ≤ k - links) → has_bit (set_of (channels_of ports) r words) k ≡ has_bit (set_of (port_at ports.local 0) r words) (k - links)
      behind k m (inl l) = (let e : k ≡ links + (k - links) = omega (arith, m) in ap (has_bit (set_of (channels_of ports) r words)) e) ∙ at-local r words (k - links) l
      behind k m (inr n) =
          let s = size-is in
          none-above (channels_of ports) r words k (omega (arith, s, m, n))
          ∙ sym (none-above (port_at ports.local 0) r words (k - links) (subst (λ n. n ≤ k - links) (sym ports.alike) n))

      at : (k : ℕ) → (k < links) ⊎ (links ≤ k)
          → has_bit (set_of (channels_of ports) r words) k ≡ (has_bit (set_of (links_of ports.links) r words) k || has_bit (up_by (set_of (port_at ports.local 0) r words) links) k)
      at k (inl l) =
          at-link r words k l
          ∙ sym (or-false (has_bit (set_of (links_of ports.links) r words) k))
          ∙ ap (λ b. has_bit (set_of (links_of ports.links) r words) k || b) (sym (up_none (set_of (port_at ports.local 0) r words) links k l))
      at k (inr m) =
          behind k m (cases_lt (k - links) ports.links.vcs)
          ∙ sym (up_members (set_of (port_at ports.local 0) r words) links k m)
          ∙ ap (λ b. b || has_bit (up_by (set_of (port_at ports.local 0) r words) links) k) (sym (none-above (links_of ports.links) r words k m))

-- ---- where the words stand
module _ (pattern : Pattern) where
  abbrev wide : ℕ
  wide = pattern.table.ports.links.width

  abbrev vcs : ℕ
  vcs = pattern.table.ports.links.vcs

  pub link-index-below : (c : ℕ) → c < wide * vcs → (links_of pattern.table.ports.links).index c < vcs * wide
  link-index-below c l =
      let far = apart (c % vcs) vcs wide (c / vcs) (part wide vcs pattern.some c) (port-below wide vcs pattern.some c l) in
      let first = pattern.table.ports.first in
      omega (arith, far, first)

  -- words of link channels that are as they were
  pub links-kept : (r : ℕ) (old new : List ℕ) → ((k : ℕ) → k < pattern.table.ports.local.first → word k new ≡ word k old)
      → set_of (links_of pattern.table.ports.links) r new ≡ set_of (links_of pattern.table.ports.links) r old
  links-kept r old new same = below-same (wide * vcs) _ _ (λ c l.
      let below = link-index-below c l in
      let behind = pattern.table.ports.behind in
      ap (λ w. has_bit w r) (same ((links_of pattern.table.ports.links).index c) (omega (arith, below, behind))))

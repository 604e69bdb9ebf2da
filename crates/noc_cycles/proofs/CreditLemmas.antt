-- Credits come to a router of a block.
use Rattle.std.proofs.Common.{◌≡◌, ◌⊎◌, ℕ, ◌+◌, ◌*◌, ◌<◌, ◌≤◌, Bool, true, false, List, arith, ap, ap₂, sym, ◌∙◌, refl, inl, inr, bit_or, bit_xor}
use Rattle.std.specs.Prelude.{◌&&◌, not, nat_lt, if◌then◌else◌}
use Rattle.noc_sets.specs.Column.{Column}
use Rattle.noc_sets.specs.Planes.{raised_by}
use Rattle.noc_columns.specs.Steps.{TakesCredits}
use Rattle.noc_columns.specs.Supply.{DoesNotDrain, is_fed}
use Rattle.noc_columns.specs.declared.channels.Returned.{Returned}
use Rattle.noc_cycles.proofs.Common.{cases_lt, le-ltb, lt-ltb, div-mul-add, mod-mul-add, has_bit, has_bit-zero, zero_from_none, Layout, wrong_from, less, some_below, less_members, same-word, channels_of, links_of, port_at, list_of, planes_by, Numbering, set_alike, set_below, set_of, word, blank, apart, none-each, below-members, member-is, Held, FitsLayout, Pattern}
use Rattle.noc_cycles.specs.May.{owned_by}
use Rattle.noc_cycles.specs.Taking.{HasCredits}
use Rattle.noc_cycles.proofs.ConcludingLemmas.{links-within}
use Rattle.noc_cycles.proofs.PartLemmas.{none-above, size-is}
use Rattle.noc_cycles.proofs.PlaneLemmas.{planes-at, same-at, wrong-at}

-- where all channels have one word
pub alike-is : (n : Numbering) (r w k : ℕ) → k < n.size → has_bit (set_alike n r w) k ≡ has_bit w r
alike-is n r w k l = below-members n.size (λ c. has_bit w r) k ∙ ap (λ b. b && has_bit w r) (lt-ltb k n.size l)

module _ (pattern : Pattern) (r : ℕ) where
  abbrev n : Numbering
  n = channels_of pattern.table.ports

  abbrev ks : Numbering
  ks = links_of pattern.table.ports.links

  abbrev deep : Bool
  deep = pattern.frame.deep

  abbrev all_places : List ℕ
  all_places = list_of pattern.frame.deep (planes_by (set_alike (channels_of pattern.table.ports) r) pattern.frame.places)

  abbrev link_places : List ℕ
  link_places = list_of pattern.frame.deep (planes_by (set_alike (links_of pattern.table.ports.links) r) pattern.frame.places)

  -- link channels that do not have so many
  wrong-links : (planes : List ℕ) (a : ℕ) → ((k : ℕ) → pattern.table.ports.links.width * pattern.table.ports.links.vcs ≤ k → has_bit a k ≡ false)
      → less a (wrong_from 0 planes link_places) ≡ less a (wrong_from 0 planes all_places)
  wrong-links planes a none = same-word _ _ (λ k. less_members a (wrong_from 0 planes link_places) k ∙ at k (cases_lt k ks.size) ∙ sym (less_members a (wrong_from 0 planes all_places) k))
    where
      at : (k : ℕ) → (k < ks.size) ⊎ (ks.size ≤ k) → (has_bit a k && not (has_bit (wrong_from 0 planes link_places) k)) ≡ (has_bit a k && not (has_bit (wrong_from 0 planes all_places) k))
      at k (inl l) =
          let s = size-is pattern.table.ports in
          ap (λ b. has_bit a k && not b)
          (wrong-at k k planes planes link_places all_places 0 0 (same-at k planes)
          (planes-at deep pattern.frame.places (set_alike ks r) (set_alike n r) k k (λ w. alike-is ks r w k l ∙ sym (alike-is n r w k (omega (arith, s, l)))))
          refl)
      at k (inr m) = ap (λ b. b && not (has_bit (wrong_from 0 planes link_places) k)) (none k m) ∙ sym (ap (λ b. b && not (has_bit (wrong_from 0 planes all_places) k)) (none k m))

  -- a link channel of a port
  in-port : (words : List ℕ) (q v : ℕ) → v < pattern.table.ports.links.vcs → q < pattern.table.ports.links.width → has_bit (set_of (port_at pattern.table.ports.links q) r words) v ≡ has_bit (set_of ks r words) (q * pattern.table.ports.links.vcs + v)
  in-port words q v l few =
      member-is (port_at pattern.table.ports.links q) r v words l
      ∙ ap₂ (λ p w. has_bit (word ((port_at pattern.table.ports.links p).index w) words) r) (sym (div-mul-add q pattern.table.ports.links.vcs v l)) (sym (mod-mul-add q pattern.table.ports.links.vcs v l))
      ∙ sym (member-is ks r (q * pattern.table.ports.links.vcs + v) words (apart q pattern.table.ports.links.width pattern.table.ports.links.vcs v few l))

  -- it has a credit
  pub fed-links : (words : List ℕ) (q v : ℕ) → v < pattern.table.ports.links.vcs
      → is_fed pattern.table.ports.links.width (λ p. set_of (port_at pattern.table.ports.links p) r words) q v
      ≡ is_fed pattern.table.ports.links.width (λ p. set_below pattern.table.ports.links.vcs (λ w. has_bit (set_of ks r words) (p * pattern.table.ports.links.vcs + w))) q v
  fed-links words q v l = at (cases_lt q pattern.table.ports.links.width)
    where
      vcs : ℕ
      vcs = pattern.table.ports.links.vcs

      here : q < pattern.table.ports.links.width → has_bit (set_of (port_at pattern.table.ports.links q) r words) v
          ≡ has_bit (set_below pattern.table.ports.links.vcs (λ w. has_bit (set_of ks r words) (q * pattern.table.ports.links.vcs + w))) v
      here few =
          in-port words q v l few
          ∙ sym (below-members pattern.table.ports.links.vcs (λ w. has_bit (set_of ks r words) (q * pattern.table.ports.links.vcs + w)) v
          ∙ ap (λ b. b && has_bit (set_of ks r words) (q * pattern.table.ports.links.vcs + v)) (lt-ltb v pattern.table.ports.links.vcs l))

      at : (q < pattern.table.ports.links.width) ⊎ (pattern.table.ports.links.width ≤ q)
          → is_fed pattern.table.ports.links.width (λ p. set_of (port_at pattern.table.ports.links p) r words) q v
          ≡ is_fed pattern.table.ports.links.width (λ p. set_below pattern.table.ports.links.vcs (λ w. has_bit (set_of ks r words) (p * pattern.table.ports.links.vcs + w))) q v
      at (inl few) = ap (λ x. if nat_lt q pattern.table.ports.links.width then x else true) (here few)
      at (inr many) =
          ap (λ c. if c then has_bit (set_of (port_at pattern.table.ports.links q) r words) v else true) (le-ltb q pattern.table.ports.links.width many)
          ∙ sym (ap (λ c. if c then has_bit (set_below pattern.table.ports.links.vcs (λ w. has_bit (set_of ks r words) (q * pattern.table.ports.links.vcs + w))) v else true) (le-ltb q pattern.table.ports.links.width many))

  -- no router has a channel with all its credits
  pub none-home : (routers : ℕ) (home : List ℕ) → routers ≡ 0 → has_bit routers r ≡ some_below (4 * pattern.frame.link_groups) (λ i. has_bit (word i home) r) → set_of ks r home ≡ 0
  none-home routers home none is = zero_from_none (set_of ks r home) (λ k. at k (cases_lt k ks.size))
    where
      at : (k : ℕ) → (k < ks.size) ⊎ (ks.size ≤ k) → has_bit (set_of ks r home) k ≡ false
      at k (inl l) =
          member-is ks r k home l
          ∙ none-each (4 * pattern.frame.link_groups) (λ i. has_bit (word i home) r) (sym is ∙ ap (λ w. has_bit w r) none ∙ has_bit-zero r) (ks.index k) (links-within pattern k l)
      at k (inr m) = none-above ks r home k m

  -- ---- all that credits do
  pub has-credits : (layout : Layout) (credits : ℕ) (h k : Held) (what : Returned ℕ) (some draining : List ℕ) (supplied : ℕ) → FitsLayout pattern layout → r < 64
      → TakesCredits deep link_places credits h.outputs k.outputs what → what.some ≡ set_of ks r some → k.outputs.draining ≡ set_of ks r draining
      → ((c : ℕ) → pattern.table.ports.links.width * pattern.table.ports.links.vcs ≤ c → has_bit h.outputs.draining c ≡ false)
      → k.idle ≡ bit_or h.idle what.home → k ≡ record h { outputs = k.outputs; idle = k.idle }
      → ((i : ℕ) → i < (pattern.table.ports.links.width + 1) * pattern.table.ports.links.vcs → h.out_port i ≤ pattern.table.ports.links.width → h.out_vc i < pattern.table.ports.links.vcs
      → DoesNotDrain pattern.table.ports.links.width (λ q. set_of (port_at pattern.table.ports.links q) r draining) (h.out_port i) (h.out_vc i)
      → has_bit supplied i ≡ is_fed pattern.table.ports.links.width (λ q. set_of (port_at pattern.table.ports.links q) r some) (h.out_port i) (h.out_vc i))
      → HasCredits pattern layout credits h k supplied
  has-credits layout credits h k what some draining supplied fits few takes some_is drains none idle rest fed =
      let credit = list_of deep h.outputs.credit in
      let places : (planes : List ℕ) → less h.outputs.draining (wrong_from 0 planes link_places) ≡ less h.outputs.draining (wrong_from 0 planes layout.places) =
      λ planes. wrong-links planes h.outputs.draining none ∙ ap (λ o. less h.outputs.draining (wrong_from 0 planes o)) (sym (fits.places r few)) in
      record {
        credit = ap (λ (c : Column). c.credit) (takes.column blank);
        draining = ap (λ (c : Column). c.draining) (takes.column blank) ∙ ap (bit_xor h.outputs.draining) (places (raised_by credit credits));
        idle = idle ∙ ap (bit_or h.idle) (takes.home blank ∙ places (raised_by credit credits));
        rest = rest;
        fed = λ i l below in_vc kept.
            fed i l below in_vc (λ link. in-port draining (h.out_port i) (h.out_vc i) in_vc link ∙ ap (λ w. has_bit w (owned_by pattern.table.ports.links.vcs h i)) (sym drains) ∙ kept)
            ∙ fed-links some (h.out_port i) (h.out_vc i) in_vc
            ∙ ap (λ w. is_fed pattern.table.ports.links.width (λ p. set_below pattern.table.ports.links.vcs (λ v. has_bit w (p * pattern.table.ports.links.vcs + v))) (h.out_port i) (h.out_vc i)) (sym some_is ∙ takes.some);
      }

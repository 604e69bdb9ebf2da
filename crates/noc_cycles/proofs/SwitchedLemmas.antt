-- Flits go through the switch of one router of a block.
use Rattle.std.proofs.Common.{◌≡◌, ◌⊎◌, ℕ, ◌+◌, ◌*◌, ◌/◌, ◌%◌, ◌<◌, ◌≤◌, Bool, true, false, List, arith, ap, ap₂, sym, ◌∙◌, subst, refl, inl, inr, bit_and, bit_or}
use Rattle.std.specs.Prelude.{◌&&◌, not, nat_eq, nat_lt, if◌then◌else◌, slice_index}
use Rattle.noc_sets.specs.Ended.{lane_released, leads_tail}
use Rattle.noc_sets.specs.Moves.{HasSwitched, chosen_by, dry_by}
use Rattle.noc_sets.specs.Passes.{Effects}
use Rattle.noc_sets.specs.Planes.{more_than_one}
use Rattle.noc_sets.specs.Turns.{ArePast, ArePicked}
use Rattle.noc_sets.specs.Unions.{rest_from}
use Rattle.noc_sets.proofs.TurnLemmas.{first-among}
use Rattle.noc_columns.specs.Picks.{HasPick, IsPicked, output_of, port_of}
use Rattle.noc_columns.specs.Supply.{digits_by, number_in}
use Rattle.noc_columns.specs.Switch.{HasTraversed, ShowsOutputs, ShowsPicks, ShowsSends, asks_for, leaves_by, picks_in, switched_effects, switched_marks, taken_by}
use Rattle.noc_columns.specs.declared.picks.Picks.{Picks}
use Rattle.noc_columns.specs.declared.supply.Sends.{Sends}
use Rattle.noc_columns.proofs.ChannelLemmas.{whole}
use Rattle.noc_columns.proofs.PastLemmas.{are-past}
use Rattle.noc_columns.proofs.PickLemmas.{Found}
use Rattle.noc_columns.proofs.RouterLemmas.{are-picked, part-is}
use Rattle.noc_columns.proofs.ShownLemmas.{shown-picks}
use Rattle.noc_columns.proofs.SwitchLemmas.{has-switched}
use Rattle.noc_cycles.proofs.Common.{and_parts, cases_lt, le-ltb, lt-ltb, true≢false, has_bit, both_members, RouterMarks, less, some_below, less_members, same-word, channels_of, links_of, set_of, word, RouterPorts, part, port-below, find-first, link-index, member-below, below-members, member-is}

-- the words of the ports, of which `ahead` is before the switch and `after` behind it
module _ (ports : RouterPorts) (r : ℕ) (some : 0 < ports.links.vcs) (few : (ports.links.width + 1) * ports.links.vcs ≤ 64) (ready inputs picked past last : List ℕ) (sends : Sends (List ℕ)) (picks : Picks)
    (first : (p : ℕ) → p < ports.links.width + 1 → IsPicked (port_of ports p) r ready inputs picked past)
    (each : (p c : ℕ) → p < ports.links.width + 1 → c < ports.links.vcs → has_bit (set_of (port_of ports p) r picked) c ≡ true → HasPick (port_of ports p) r p c last sends picks)
    (any : (p : ℕ) → p < ports.links.width + 1 → has_bit (slice_index picks.any p) r ≡ not (nat_eq (set_of (port_of ports p) r ready) 0))
    (ahead after sending flits tails : List ℕ)
    (traversed : HasTraversed (ports.links.width + 1) ports.links.vcs (picks_in picks r) (λ q. set_of (output_of ports q) r ahead) (λ q. set_of (output_of ports q) r after)
    (λ p. has_bit (set_of (port_of ports p) r sending)) (λ q. has_bit (set_of (port_of ports q) r flits)) (λ q. has_bit (set_of (port_of ports q) r tails)))
  where
    abbrev count : ℕ
    count = ports.links.width + 1

    abbrev vcs : ℕ
    vcs = ports.links.vcs

    abbrev size : ℕ
    size = count * vcs

    abbrev set : List ℕ → ℕ
    set words = set_of (channels_of ports) r words

    abbrev at : ℕ → List ℕ → ℕ
    at p words = set_of (port_of ports p) r words

    abbrev turn : ℕ → ℕ
    turn q = set_of (output_of ports q) r ahead

    pub picked-then : ArePicked vcs count (set ready) (set inputs) (set picked)
    picked-then =
        let eight : ports.links.vcs ≤ 8 = ports.few in
        are-picked ports r ready inputs picked some (omega (arith, eight)) (λ p l. (first p l).first)

    -- ---- the pointers of the input ports
    abbrev goes : ℕ → Bool
    goes p = some_below count (λ q. has_bit (taken_by count (picks_in picks r) turn q) p)

    -- who goes asks, and so has picked a channel
    goes-some : (p : ℕ) → p < count → goes p ≡ true → nat_eq (at p ready) 0 ≡ false
    goes-some p l is = by (find-first count (λ q. has_bit (taken_by count (picks_in picks r) turn q) p))
      where
        not-true : (b : Bool) → not b ≡ true → b ≡ false
        not-true true e = sym e
        not-true false e = refl

        by : Found count (λ q. has_bit (taken_by count (picks_in picks r) turn q) p) → nat_eq (at p ready) 0 ≡ false
        by (inl none) = absurd (true≢false (sym is ∙ none))
        by (inr found) =
            let q = found.0 in
            let asks = first-among (asks_for count (picks_in picks r) q) (turn q) p found.2 in
            let parts = and_parts (nat_lt p count) ((picks_in picks r).any p && nat_eq ((picks_in picks r).port p) q) (sym (below-members count (λ k. (picks_in picks r).any k && nat_eq ((picks_in picks r).port k) q) p) ∙ asks) in
            let both = and_parts ((picks_in picks r).any p) (nat_eq ((picks_in picks r).port p) q) parts.1 in
            not-true (nat_eq (at p ready) 0) (sym (any p l) ∙ both.0)

    pub past-then : ArePast vcs count (set inputs) (bit_and (set picked) (set sending)) (bit_or (less (set inputs) (set sending)) (bit_and (set past) (set sending)))
    past-then = are-past ports r ready inputs picked past sending goes some few (λ p l. record { picks = first p l; told = λ c b. traversed.sending p c l b; some = goes-some p l })

    -- ---- what leaves over the links
    pub link-leaves : (words : List ℕ) (test : ℕ → Bool) (o : ℕ) → o < ports.links.width * vcs
        → has_bit (set_of (links_of ports.links) r words) o
        ≡ (nat_lt o size && leaves_by count (picks_in picks r) turn test (λ q. has_bit (at q words)) (o / vcs) (o % vcs))
    link-leaves words test o l =
        let q = o / vcs in
        let v = o % vcs in
        let below : q < ports.links.width = port-below ports.links.width vcs some o l in
        let within : v < vcs = part ports.links.width vcs some o in
        let wider : size ≡ ports.links.width * vcs + vcs = omega arith in
        let inside : o < size = omega (arith, l, wider) in
        let not_last : q + 1 < count = omega (arith, below) in
        member-is (links_of ports.links) r o words l
        ∙ ap (λ i. has_bit (word i words) r) (sym (link-index ports q v below))
        ∙ sym (member-is (port_of ports q) r v words within)
        ∙ sym (ap₂ (λ x y. x && (if y then has_bit (at q words) v else some_below count (λ p. has_bit (taken_by count (picks_in picks r) turn q) p && (nat_eq ((picks_in picks r).vc p) v && test p)))) (lt-ltb o size inside) (lt-ltb (q + 1) count not_last))

    -- ---- what the marks of the router are then
    module _ (m : RouterMarks) (tail : ℕ → Bool) (tail-is : has_bit (set last) ≡ tail) (turns : ShowsOutputs count vcs turn m)
        (shows : ShowsSends count vcs (set picked) (number_in (digits_by set sends.port)) (number_in (digits_by set sends.vc)) m) (single old : ℕ) (e : Effects) where
      abbrev pub marks : RouterMarks
      marks = switched_marks count vcs (set picked) tail (λ q. set_of (output_of ports q) r after) m

      abbrev pub effects : Effects
      effects = switched_effects count vcs (set picked) tail (λ p. has_bit (at p sending))
          (leaves_by count (picks_in picks r) turn (λ p. true) (λ q. has_bit (at q flits)))
          (leaves_by count (picks_in picks r) turn (picks_in picks r).tail (λ q. has_bit (at q tails))) e

      abbrev pub supplied : ℕ
      supplied = rest_from old count (λ q. dry_by single m.taken (chosen_by (set picked) m q))

      pub switched : HasSwitched vcs count (set picked) single tail m marks effects old supplied
      switched =
          let shown = subst (λ t. ShowsPicks count vcs (set picked) t m (picks_in picks r)) tail-is (shown-picks ports r ready inputs picked past last sends picks m first each any shows) in
          has-switched count vcs some few (set picked) tail m (picks_in picks r) shown turn turns (λ q. set_of (output_of ports q) r after) (λ p. has_bit (at p sending)) (λ q. has_bit (at q flits)) (λ q. has_bit (at q tails)) traversed single old e

      -- ---- the effects, by words
      sent-is : (i : ℕ) → i < size → has_bit (at (i / vcs) sending) (i % vcs) ≡ has_bit (set sending) i
      sent-is i l = sym (part-is ports r sending (i / vcs) (i % vcs) (port-below count vcs some i l) (part count vcs some i)) ∙ ap (has_bit (set sending)) (whole count vcs some i)

      pub moved-then : effects.moved ≡ bit_and (set picked) (set sending)
      moved-then = same-word _ _ (λ i. below-members size (λ k. has_bit (set picked) k && has_bit (at (k / vcs) sending) (k % vcs)) i ∙ by i (cases_lt i size) (has_bit (set picked) i) refl ∙ sym (both_members (set picked) (set sending) i))
        where
          by : (i : ℕ) → (i < size) ⊎ (size ≤ i) → (b : Bool) → has_bit (set picked) i ≡ b → (nat_lt i size && (has_bit (set picked) i && has_bit (at (i / vcs) sending) (i % vcs))) ≡ (has_bit (set picked) i && has_bit (set sending) i)
          by i (inl l) b is = ap₂ (λ x y. x && (has_bit (set picked) i && y)) (lt-ltb i size l) (sent-is i l)
          by i (inr l) true is = let below = member-below (channels_of ports) r picked i is in absurd (omega (arith, l, below))
          by i (inr l) false is =
              ap₂ (λ x y. x && (y && has_bit (at (i / vcs) sending) (i % vcs))) (le-ltb i size l) is
              ∙ sym (ap (λ y. y && has_bit (set sending) i) is)

      pub released-then : (ended : ℕ) (len : List ℕ) → tail ≡ leads_tail ended len → effects.released ≡ lane_released effects.moved ended len
      released-then ended len is =
          same-word _ _ (λ i.
          below-members size (λ k. (has_bit (set picked) k && has_bit (at (k / vcs) sending) (k % vcs)) && tail k) i
          ∙ ap (λ (t : ℕ → Bool). nat_lt i size && ((has_bit (set picked) i && has_bit (at (i / vcs) sending) (i % vcs)) && t i)) is
          ∙ assoc (nat_lt i size) (has_bit (set picked) i && has_bit (at (i / vcs) sending) (i % vcs)) (has_bit ended i) (not (has_bit (more_than_one len) i))
          ∙ sym (less_members (bit_and effects.moved ended) (more_than_one len) i
          ∙ ap (λ b. b && not (has_bit (more_than_one len) i)) (both_members effects.moved ended i ∙ ap (λ b. b && has_bit ended i) (below-members size (λ k. has_bit (set picked) k && has_bit (at (k / vcs) sending) (k % vcs)) i))))
        where
          assoc : (a b c d : Bool) → (a && (b && (c && d))) ≡ (((a && b) && c) && d)
          assoc true true c d = refl
          assoc true false c d = refl
          assoc false b c d = refl

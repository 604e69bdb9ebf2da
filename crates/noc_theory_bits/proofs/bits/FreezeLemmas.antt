-- From the bits that show a router at a count to those that show its frozen state: beats are taken,
-- and a flit is injected.
use Rattle.std.proofs.Common.{◌≡◌, ◌≢◌, ℕ, ◌+◌, ◌*◌, ◌^◌, ◌<◌, ◌≤◌, Bool, true, false, List, [], length, Option, Some, None, IfSome, refl, ap, sym, ◌∙◌, subst, arith, inl, inr, bit_or}
use Rattle.std.specs.Prelude.{◌⊎◌, ◌&&◌, ◌||◌, is_some, nat_eq, nat_le, nat_lt, if◌then◌else◌}
use Rattle.std.proofs.Math.Pow.{pow_pos}
use Rattle.noc_sets.specs.Passes.{frozen_column, lane_filled, lane_free}
use Rattle.noc_sets.specs.Source.{first_source, next_source, packet_begun, sent_source, start_in}
use Rattle.noc_sets.proofs.MemberLemmas.{zero_members, or-true}
use Rattle.noc_sets.proofs.FlitLemmas.{begins_fits}
use Rattle.noc_sets.specs.Ended.{ended_frozen, ended_taken}
use Rattle.noc_sets.proofs.SourceLemmas.{HasInjectedFrom, first-injected, next-injected, nothing-injected}
use Rattle.noc_theory_bits.proofs.Common.{cases_eq, eq-eqb, eqb-true, false≢true, ne_eqb, true≢false, mul-add-lt, same_Some, nodes, local_port, neighbour, ports, tabulate, get_or-tabulate, length-tabulate, has_bit, Beat, Flit, Packet, both_members, either_members, has_bit-zero, zero_from_none, Site, View, size_of, local_channel, is_tail, view_after_takes, CYCLE_LIMIT, IsGoodSetup, beats_at, beats_in, beat_by, site_at, view_at, Setup, frozen_at, state_at, view_at-seen, lowest, least, Column, IsColumn, RouterMarks, ShowsSending, AreOwners, lane_begins, lane_injected, lane_raised, wrong_from, AreAll, due_of, ShowsNext, ShowsQueue, ShowsSource, Source, Start, begun_source, least_is, lowest_members, AreFilled, HasInjected, injected_to, injection_in, Router, ShowsEnded, IsLayoutOf, Layout, ShowsHolders, holder_at, ShowsRouter}
use Rattle.noc_theory_bits.proofs.network.NetworkLemmas.{beats-taken, taken_view, taken-seen, frozen_view, frozen-seen, frozen-tidy, start-size, start-tidy}
use Rattle.noc_theory_bits.proofs.routers.CameLemmas.{SendsLow, injection-low}
use Rattle.noc_theory_bits.proofs.routers.FreezeLemmas.{sent, column-frozen, filled-frozen}
use Rattle.noc_theory_bits.proofs.routers.InjectLemmas.{HasSent}
use Rattle.noc_theory_bits.proofs.routers.CommittedLemmas.{size-taken}
use Rattle.noc_theory_bits.proofs.routers.InjectedLemmas.{has-injected}
use Rattle.noc_theory_bits.proofs.bits.BegunLemmas.{Begins, begun-holds, holder-frozen}
use Rattle.noc_theory_bits.proofs.bits.EndedLemmas.{ended-injected, ended-taken}
use Rattle.noc_theory_bits.proofs.bits.PacketLemmas.{with-packets}

power-some : (k : ℕ) → nat_eq (2 ^ k) 0 ≡ false
power-some k = let p = pow_pos k in ne_eqb (2 ^ k) 0 (λ e. absurd (omega (arith, e, p)))

-- these words show a router in its frozen state
pub record ShowsStill (count : ℕ) (net : Setup) (n r : ℕ) (starts : List Start) (x : View) (c : Column) (m : RouterMarks) (ended filled : ℕ) (s : Source) : Type 0 where
  pub column : IsColumn count c m x
  pub tails : ShowsEnded ended x
  pub fill : AreFilled x filled
  pub holders : ShowsHolders net (frozen_at net n) r m.packet
  pub source : ShowsSource starts s x

-- the words of router r at count n; the local channels, and the input channels that come to be
-- supplied
module _ {count : ℕ} (net : Setup) (setup : IsGoodSetup net) (n r : ℕ) (l : r < nodes net.relation.grid) (starts : List Start) (b : Router) (shows : ShowsRouter count net n r starts b) (few : n < CYCLE_LIMIT) (layout : Layout) (up : ℕ)
    (is_layout : IsLayoutOf count net.relation net.depth layout)
    (ups : AreOwners (lane_raised b.links.credits b.column) b.marks.owner up) (up_fits : up < 2 ^ 64) where
  abbrev v : View
  v = view_at net n r

  abbrev w : View
  w = taken_view net setup n r l

  abbrev x : View
  x = frozen_view net setup n r l

  abbrev row : List Beat
  row = beats_at (beats_in net (state_at net n)) r

  abbrev went : ℕ
  went = bit_or (lane_injected layout.places b.column) (lowest (lane_begins layout.local n b.source.due b.column))

  abbrev ready : Source
  ready = begun_source starts (lane_begins layout.local n b.source.due b.column) b.source

  site : (view_at net n r).site ≡ site_at net r
  site = (view_at-seen net n r).site

  w-site : w.site ≡ site_at net r
  w-site = (taken-seen net setup n r l).seen.site

  short : length row ≤ local_port (view_at net n r).site.grid
  unfolding beats_in
  short =
      let here = get_or-tabulate (nodes net.relation.grid) r (λ s. tabulate (local_port net.relation.grid) (λ q. beat_by net (state_at net n) s q (neighbour net.relation.grid s q))) [] l in
      let many : length row ≡ local_port net.relation.grid = ap length here ∙ length-tabulate (local_port net.relation.grid) _ in
      let grid : local_port (view_at net n r).site.grid ≡ local_port net.relation.grid = ap (λ (s : Site). local_port s.grid) site in
      omega (arith, many, grid)

  local-is : (i : ℕ) → has_bit layout.local i ≡ (nat_le (local_channel (site_at net r) 0) i && nat_lt i (size_of (site_at net r)))
  local-is i = is_layout.sides.local_is i ∙ ap (λ k. nat_le k i && nat_lt i (ports net.relation.grid * net.relation.vcs)) (let z : local_port net.relation.grid * net.relation.vcs ≡ local_port net.relation.grid * net.relation.vcs + 0 = omega arith in z)

  all-places : AreAll count (size_of (view_at net n r).site) (view_at net n r).site.depth layout.places
  all-places = subst (λ (s : Site). AreAll count (size_of s) s.depth layout.places) (sym site) is_layout.all

  few-channels : size_of (view_at net n r).site ≤ 63
  few-channels = subst (λ (s : Site). size_of s ≤ 63) (sym site) is_layout.few

  some-place : 0 < (view_at net n r).site.depth
  some-place = subst (λ (s : Site). 0 < s.depth) (sym site) setup.some_depth

  local-there : (i : ℕ) → has_bit layout.local i ≡ (nat_le (local_channel (view_at net n r).site 0) i && nat_lt i (size_of (view_at net n r).site))
  local-there = subst (λ (s : Site). (i : ℕ) → has_bit layout.local i ≡ (nat_le (local_channel s 0) i && nat_lt i (size_of s))) (sym site) local-is

  -- what the source has injected, and the words then
  pub worded-sent : HasSent b.column starts b.source (record (view_after_takes net.relation row (view_at net n r)) { given = n }) x
      (lane_injected layout.places b.column) (lane_begins layout.local n b.source.due b.column) went (injection_in n w)
  worded-sent =
      sent net.relation count b.column b.marks v row n layout.local starts b.source b.links.flits b.links.tails b.links.credits up layout.places
      shows.column shows.wires shows.source (start-tidy net setup n r l) (start-size net setup n r l) (beats-taken net setup n r l few)
      few-channels all-places some-place short (omega (arith, few)) local-there ups up_fits

  column-then : IsColumn count
      (frozen_column layout.places b.links.credits up b.links.flits (lane_begins layout.local n b.source.due b.column) went ready.left b.column) b.marks x
  column-then =
      column-frozen net.relation count b.column b.marks v row n layout.local starts b.source b.links.flits b.links.tails b.links.credits up layout.places
      shows.column shows.wires shows.source (start-tidy net setup n r l) (start-size net setup n r l) (beats-taken net setup n r l few)
      few-channels all-places some-place short (omega (arith, few)) local-there ups up_fits (frozen-tidy net setup n r l)

  filled-then : AreFilled x (bit_or (lane_filled layout.places b.links.flits b.column) (lowest (lane_begins layout.local n b.source.due b.column)))
  filled-then =
      filled-frozen net.relation count b.column b.marks v row n layout.local starts b.source b.links.flits b.links.tails b.links.credits up layout.places
      shows.column shows.wires shows.source (start-tidy net setup n r l) (start-size net setup n r l) (beats-taken net setup n r l few)
      few-channels all-places some-place short (omega (arith, few)) local-there ups up_fits

  -- ---- what is injected
  injects : HasInjected w x (injection_in n w)
  injects = has-injected n w (size-taken net.relation row v (start-size net setup n r l))

  sends : ShowsSending b.column v w.sending
  sends = subst (ShowsSending b.column v) (sym (ap (λ (y : View). y.sending) (beats-taken net setup n r l few).rest)) shows.column.sending

  idle-word : w.sending ≡ None → b.column.injecting ≡ 0
  idle-word e = subst (ShowsSending b.column v) e sends

  -- while a packet is being injected, none begins
  none-begins : (j index : ℕ) → w.sending ≡ Some (j, index) → lane_begins layout.local n b.source.due b.column ≡ 0
  none-begins j index e =
      let is = subst (ShowsSending b.column v) e sends in
      ap (λ y. if nat_le b.source.due n && y then lane_free layout.local b.column else 0) (ap (λ k. nat_eq k 0) is.1 ∙ power-some (local_channel v.site j))
      ∙ off (nat_le b.source.due n)
    where
      off : (y : Bool) → (if y && false then lane_free layout.local b.column else 0) ≡ 0
      off true = refl
      off false = refl

  low-sends : (o : Option (ℕ × ℕ)) → ShowsSending b.column v o → SendsLow w.site.vcs o
  low-sends None t = tt
  low-sends (Some (j, index)) t = subst (λ (s : Site). j < s.vcs) (site ∙ sym w-site) t.0

  -- the channel to which a flit goes
  module _ (vc : ℕ) (f : Flit) (e : injection_in n w ≡ Some (vc, f)) where
    pub low : vc < w.site.vcs
    low = injection-low n w.queue w.sending w vc f (low-sends w.sending sends) e

    within : local_channel w.site vc < size_of w.site
    within =
        let m : local_port w.site.grid * w.site.vcs + vc < w.site.vcs * ports w.site.grid = mul-add-lt (local_port w.site.grid) w.site.vcs vc (ports w.site.grid) (omega arith) low in
        omega (arith, m)

    goes-there : has_bit went (local_channel w.site vc) ≡ true
    goes-there = worded-sent.goes (local_channel w.site vc) within ∙ ap (λ o. is_some (injected_to w o (local_channel w.site vc))) e ∙ ap (λ y. is_some (if y then Some f else None)) (eq-eqb (local_channel w.site vc) (local_channel w.site vc) refl)

    -- one begins there, where none was being injected
    begins-there : w.sending ≡ None → has_bit (lowest (lane_begins layout.local n b.source.due b.column)) (local_channel w.site vc) ≡ true
    begins-there idle =
        sym (ap (λ y. y || has_bit (lowest (lane_begins layout.local n b.source.due b.column)) (local_channel w.site vc)) none
        ∙ refl) ∙ sym (either_members (lane_injected layout.places b.column) (lowest (lane_begins layout.local n b.source.due b.column)) (local_channel w.site vc)) ∙ goes-there
      where
        none : has_bit (lane_injected layout.places b.column) (local_channel w.site vc) ≡ false
        none =
            both_members b.column.injecting (wrong_from 0 b.column.len layout.places) (local_channel w.site vc)
            ∙ ap (λ y. y && has_bit (wrong_from 0 b.column.len layout.places) (local_channel w.site vc)) (ap (λ k. has_bit k (local_channel w.site vc)) (idle-word idle) ∙ has_bit-zero (local_channel w.site vc))

    some-went : nat_eq went 0 ≡ false
    some-went = ne_eqb went 0 (λ z. true≢false (sym goes-there ∙ ap (λ k. has_bit k (local_channel w.site vc)) z ∙ has_bit-zero (local_channel w.site vc)))

    some-begins : w.sending ≡ None → nat_eq (lane_begins layout.local n b.source.due b.column) 0 ≡ false
    some-begins idle =
        ne_eqb (lane_begins layout.local n b.source.due b.column) 0
        (λ z. true≢false (sym (begins-there idle) ∙ ap (λ k. has_bit (lowest k) (local_channel w.site vc)) z ∙ zero_members (local_channel w.site vc)))

  -- ---- the source
  taken-source : ShowsSource starts b.source w
  taken-source =
      let rest = (beats-taken net setup n r l few).rest in
      let queue : w.queue ≡ v.queue = ap (λ (y : View). y.queue) rest in
      let sending : w.sending ≡ v.sending = ap (λ (y : View). y.sending) rest in
      record {
        few = shows.source.few;
        due = shows.source.due ∙ ap due_of (sym queue);
        queue = subst (ShowsQueue starts b.source.queue) (sym queue) shows.source.queue;
        next = subst (λ (q : List (ℕ × Packet)). ShowsNext b.source q w.sending) (sym queue) (subst (ShowsNext b.source v.queue) (sym sending) shows.source.next);
      }

  -- a flit comes from the source that is ready
  from-ready : (vc : ℕ) (f : Flit) → injection_in n w ≡ Some (vc, f) → HasInjectedFrom starts b.source ready f x
  from-ready vc f e = by w.sending refl
    where
      by : (o : Option (ℕ × ℕ)) → w.sending ≡ o → HasInjectedFrom starts b.source ready f x
      by None idle =
          subst (λ (t : Source). HasInjectedFrom starts b.source t f x) (sym (ap (λ y. if y then b.source else first_source (start_in starts b.source.queue) b.source) (some-begins vc f e idle)))
          (first-injected starts b.source n w taken-source vc f idle e).injected
      by (Some (j, index)) going =
          subst (λ (t : Source). HasInjectedFrom starts b.source t f x) (sym (ap (λ y. if y then b.source else first_source (start_in starts b.source.queue) b.source) (eq-eqb (lane_begins layout.local n b.source.due b.column) 0 (none-begins j index going))))
          (next-injected starts b.source n w taken-source j index vc f going e)

  -- where nothing is injected, nothing begins
  none-went : injection_in n w ≡ None → went ≡ 0
  none-went e = zero_from_none went (λ k. at k (has_bit went k) refl)
    where
      at : (k : ℕ) (y : Bool) → has_bit went k ≡ y → has_bit went k ≡ false
      at k false h = h
      at k true h = absurd (false≢true (sym (worded-sent.goes k (worded-sent.local k h).1 ∙ ap (λ o. is_some (injected_to w o k)) e) ∙ h))

  in-went : (k : ℕ) → has_bit (lowest (lane_begins layout.local n b.source.due b.column)) k ≡ true → has_bit went k ≡ true
  in-went k e =
      either_members (lane_injected layout.places b.column) (lowest (lane_begins layout.local n b.source.due b.column)) k
      ∙ ap (λ y. has_bit (lane_injected layout.places b.column) k || y) e ∙ or-true (has_bit (lane_injected layout.places b.column) k)

  nothing-begins : injection_in n w ≡ None → nat_eq (lane_begins layout.local n b.source.due b.column) 0 ≡ true
  nothing-begins e = at (cases_eq (lane_begins layout.local n b.source.due b.column) 0)
    where
      at : (lane_begins layout.local n b.source.due b.column ≡ 0) ⊎ (lane_begins layout.local n b.source.due b.column ≢ 0) → nat_eq (lane_begins layout.local n b.source.due b.column) 0 ≡ true
      at (inl z) = eq-eqb (lane_begins layout.local n b.source.due b.column) 0 z
      at (inr some) =
          let fits = begins_fits layout.local n b.source.due b.column is_layout.sides.local_fits in
          let is_least = least_is (lane_begins layout.local n b.source.due b.column) (omega (arith, some)) fits in
          let bit : has_bit (lowest (lane_begins layout.local n b.source.due b.column)) (least (lane_begins layout.local n b.source.due b.column)) ≡ true
          = lowest_members (lane_begins layout.local n b.source.due b.column) (least (lane_begins layout.local n b.source.due b.column)) (least (lane_begins layout.local n b.source.due b.column)) is_least ∙ eq-eqb _ _ refl in
          absurd (false≢true (sym (ap (λ k. has_bit k (least (lane_begins layout.local n b.source.due b.column))) (none-went e) ∙ has_bit-zero _) ∙ in-went _ bit))

  source-still : ShowsSource starts (sent_source starts went ready) x
  source-still = by (injection_in n w) refl
    where
      by : (o : Option (ℕ × Flit)) → injection_in n w ≡ o → ShowsSource starts (sent_source starts went ready) x
      by None e =
          subst (λ y. ShowsSource starts (if y then ready else next_source starts ready) x) (sym (eq-eqb went 0 (none-went e)))
          (subst (λ y. ShowsSource starts (if y then b.source else first_source (start_in starts b.source.queue) b.source) x) (sym (nothing-begins e)) (nothing-injected starts b.source n w taken-source e))
      by (Some (vc, f)) e = subst (λ y. ShowsSource starts (if y then ready else next_source starts ready) x) (sym (some-went vc f e)) (from-ready vc f e).source

  -- ---- the tails
  ended-still : ShowsEnded (ended_frozen b.ended b.links.tails went ready.left) x
  ended-still =
      ended-injected w x (injection_in n w) (ended_taken b.ended b.links.tails) (if nat_eq ready.left 1 then went else 0)
      (ended-taken net.relation v w row b.ended b.links.flits b.links.tails b.links.credits shows.ended shows.wires (beats-taken net setup n r l few)) injects
      (λ i u. by i u (injection_in n w) refl)
      (λ k e. below k (nat_eq ready.left 1) e)
    where
      by : (i : ℕ) → i < size_of w.site → (o : Option (ℕ × Flit)) → injection_in n w ≡ o → has_bit (if nat_eq ready.left 1 then went else 0) i ≡ is_tail (injected_to w (injection_in n w) i)
      by i u None e =
          ap (λ k. has_bit (if nat_eq ready.left 1 then k else 0) i) (none-went e) ∙ either (nat_eq ready.left 1) ∙ sym (ap (λ o. is_tail (injected_to w o i)) e)
        where
          either : (y : Bool) → has_bit (if y then 0 else 0) i ≡ false
          either true = has_bit-zero i
          either false = has_bit-zero i
      by i u (Some (vc, f)) e = at (nat_eq ready.left 1) (from-ready vc f e).tail ∙ sym (ap (λ o. is_tail (injected_to w o i)) e)
        where
          goes : has_bit went i ≡ is_some (injected_to w (Some (vc, f)) i)
          goes = worded-sent.goes i u ∙ ap (λ o. is_some (injected_to w o i)) e

          at : (y : Bool) → f.last ≡ y → has_bit (if y then went else 0) i ≡ is_tail (injected_to w (Some (vc, f)) i)
          at true h = goes ∙ there (nat_eq i (local_channel w.site vc))
            where
              there : (z : Bool) → is_some (if z then Some f else None) ≡ is_tail (if z then Some f else None)
              there true = sym h
              there false = refl
          at false h = has_bit-zero i ∙ there (nat_eq i (local_channel w.site vc))
            where
              there : (z : Bool) → false ≡ is_tail (if z then Some f else None)
              there true = sym h
              there false = refl

      below : (k : ℕ) (y : Bool) → has_bit (if y then went else 0) k ≡ true → k < size_of w.site
      below k true e = (worded-sent.local k e).1
      below k false e = absurd (false≢true (sym (has_bit-zero k) ∙ e))

  -- ---- the packets
  holders-still : ShowsHolders net (frozen_at net n) r (packet_begun starts (lane_begins layout.local n b.source.due b.column) b.source b.marks.packet)
  holders-still i u = at (holder_at net (frozen_at net n) r i) refl
    where
      at : (o : Option ℕ) → holder_at net (frozen_at net n) r i ≡ o → IfSome (holder_at net (frozen_at net n) r i) (λ p. packet_begun starts (lane_begins layout.local n b.source.due b.column) b.source b.marks.packet i ≡ p)
      at None e = subst (λ (o : Option ℕ). IfSome o (λ p. packet_begun starts (lane_begins layout.local n b.source.due b.column) b.source b.marks.packet i ≡ p)) (sym e) tt
      at (Some p) e =
          subst (λ (o : Option ℕ). IfSome o (λ q. packet_begun starts (lane_begins layout.local n b.source.due b.column) b.source b.marks.packet i ≡ q)) (sym e)
          (by (has_bit (lowest (lane_begins layout.local n b.source.due b.column)) i) refl)
        where
          -- a packet begins there
          new : has_bit (lowest (lane_begins layout.local n b.source.due b.column)) i ≡ true → (o : Option (ℕ × Flit)) → injection_in n w ≡ o → (start_in starts b.source.queue).number ≡ p
          new bit None z = absurd (true≢false (sym (in-went i bit) ∙ ap (λ k. has_bit k i) (none-went z) ∙ has_bit-zero i))
          new bit (Some (vc, f)) z = there w.sending refl
            where
              inside : i < size_of w.site
              inside = (worded-sent.local i (in-went i bit)).1

              place : i ≡ local_channel w.site vc
              place = to (nat_eq i (local_channel w.site vc)) refl (sym (worded-sent.goes i inside ∙ ap (λ o. is_some (injected_to w o i)) z) ∙ in-went i bit)
                where
                  to : (y : Bool) → nat_eq i (local_channel w.site vc) ≡ y → is_some (if y then Some f else None) ≡ true → i ≡ local_channel w.site vc
                  to true t k = eqb-true i (local_channel w.site vc) t
                  to false t k = absurd (false≢true k)

              there : (o : Option (ℕ × ℕ)) → w.sending ≡ o → (start_in starts b.source.queue).number ≡ p
              there (Some (j, index)) going = absurd (false≢true (sym (ap (λ k. has_bit (lowest k) i) (none-begins j index going) ∙ zero_members i) ∙ bit))
              there None idle =
                  sym (first-injected starts b.source n w taken-source vc f idle z).number
                  ∙ same_Some _ _ (sym (begun-holds net setup n r l vc f (subst (λ (s : Site). vc < s.vcs) w-site (low vc f z)) z) ∙ ap (holder_at net (frozen_at net n) r) (sym place) ∙ e)

          by : (y : Bool) → has_bit (lowest (lane_begins layout.local n b.source.due b.column)) i ≡ y → (if y then (start_in starts b.source.queue).number else b.marks.packet i) ≡ p
          by true bit = new bit (injection_in n w) refl
          by false bit = old (holder-frozen net setup n r l i p u e)
            where
              old : (holder_at net (state_at net n) r i ≡ Some p) ⊎ Begins net setup n r l i p → b.marks.packet i ≡ p
              old (inl h) = subst (λ (o : Option ℕ). IfSome o (λ q. b.marks.packet i ≡ q)) h (shows.holders i u)
              old (inr g) = absurd (false≢true (sym bit ∙ ap (has_bit (lowest (lane_begins layout.local n b.source.due b.column))) g.channel ∙ begins-there g.vc g.flit g.injection g.sending))

  -- ---- all of it
  pub shows-still : ShowsStill count net n r starts x
      (frozen_column layout.places b.links.credits up b.links.flits (lane_begins layout.local n b.source.due b.column) went ready.left b.column)
      (record b.marks { packet = packet_begun starts (lane_begins layout.local n b.source.due b.column) b.source b.marks.packet })
      (ended_frozen b.ended b.links.tails went ready.left)
      (bit_or (lane_filled layout.places b.links.flits b.column) (lowest (lane_begins layout.local n b.source.due b.column)))
      (sent_source starts went ready)
  shows-still = record {
    column = with-packets net (frozen_at net n) r x (frozen-seen net setup n r l) count _ b.marks (packet_begun starts (lane_begins layout.local n b.source.due b.column) b.source b.marks.packet) column-then holders-still;
    tails = ended-still;
    fill = filled-then;
    holders = holders-still;
    source = source-still;
  }

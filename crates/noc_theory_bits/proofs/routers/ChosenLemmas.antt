-- What grants and routes leave in the words of a router.
use Rattle.std.proofs.Common.{◌≡◌, ◌≢◌, ℕ, ◌/◌, ◌^◌, ◌<◌, ◌≤◌, Bool, true, false, List, [], ◌∷◌, Some, None, IfSome, refl, ap, sym, ◌∙◌, subst, arith, inl, inr, bit_or}
use Rattle.std.specs.Prelude.{◌⊎◌, ◌&&◌, not, is_some, slice_index_or}
use Rattle.noc_route.specs.Routes.{IsRelation, width}
use Rattle.noc_sets.specs.Routed.{HasChosen}
use Rattle.noc_sets.specs.Grants.{HasAllocated, ShowsGrants, winner}
use Rattle.noc_sets.specs.Passes.{lane_asks}
use Rattle.noc_sets.proofs.MemberLemmas.{above_64}
use Rattle.noc_sets.proofs.TurnLemmas.{first-among}
use Rattle.noc_theory_bits.proofs.Common.{cases_eq, cases_lt, true≢false, false≢true, and_parts, pow_below, is_some_of, ports, has_bit, Flit, has_bit-zero, Routes, arbiter_at, MembersAreBelow, is_given, is_free, InputState, Idle, Waiting, Active, is_empty, is_idle_phase, ask_of, arbiters_after, Site, View, size_of, view_buffer, view_claim, view_input, view_output, view_round, route_of, less, Column, RouterMarks, IsColumn, IsTidy, ShowsPhase, sends_by, AreTails, ShowsPointer, Allocation, asked_of, phase_granted, AreSides, lane_heads, HasSize, below_fits, less_fits, AreFilled, standing, Surroundings, Layout}
use Rattle.noc_theory_bits.proofs.routers.AllocateLemmas.{allocated, not-allocated}
use Rattle.noc_theory_bits.proofs.network.PointerLemmas.{AreArbiters}
use Rattle.noc_theory_bits.proofs.routers.RouteLemmas.{route-fits}

-- a frozen view of a router of a layout, and what is worked out of it
pub record IsStill (relation : Routes) (layout : Layout) (x : Surroundings) (v : View) : Type 0 where
  pub is_relation : IsRelation relation
  pub narrow : width relation.grid relation.vcs ≤ 63
  pub tidy : IsTidy v
  pub size : HasSize v
  pub full : (o : ℕ) → o < size_of v.site → is_free (view_output v o).holder ≡ true → IfSome (view_output v o).credit (λ k. k ≡ v.site.depth)
  pub arbiters : AreArbiters (ports v.site.grid) v.site.vcs v.arbiters
  pub some_place : 0 < v.site.depth
  pub few : size_of v.site ≤ 63
  pub sides : AreSides v.site.grid v.site.vcs layout.links layout.local
  pub filled : AreFilled v x.filled
  pub tails : AreTails x.tail v

-- the set that the relation permits to the head of each input channel that has one, by the number
-- of its packet
pub record ArePermitted (relation : Routes) (v : View) (sets : ℕ → ℕ → ℕ) (packet : ℕ → ℕ) : Type 0 where
  pub set : (k : ℕ) (f : Flit) (rest : List Flit) → k < size_of v.site → is_idle_phase (view_input v k).phase ≡ true → view_buffer v k ≡ f ∷ rest → sets k (packet k) ≡ route_of relation v k
  pub number : (k : ℕ) (f : Flit) (rest : List Flit) → k < size_of v.site → view_buffer v k ≡ f ∷ rest → packet k ≡ f.packet

-- the same phase is shown where what it rests on is the same
pub phase-as : (c d : Column) (m w : RouterMarks) (site : Site) (i : ℕ) (phase : InputState) → w.set i ≡ m.set i → w.taken i ≡ m.taken i
    → ((o : ℕ) → has_bit c.wanted o ≡ true → has_bit d.wanted o ≡ true) → ShowsPhase c m site i phase → ShowsPhase d w site i phase
phase-as c d m w site i Idle set taken wanted is = tt
phase-as c d m w site i (Waiting s) set taken wanted is = (set ∙ is.0, is.1, λ o e. wanted o (is.2 o e))
phase-as c d m w site i (Active o) set taken wanted is = taken ∙ is

member-below : (set o : ℕ) → set < 2 ^ 64 → has_bit set o ≡ true → o < 64
member-below set o fits e = at (cases_lt o 64)
  where
    at : (o < 64) ⊎ (64 ≤ o) → o < 64
    at (inl l) = l
    at (inr u) = absurd (true≢false (sym e ∙ above_64 set o fits u))

-- the grants of a router, and the output channels that are granted
pub record HasGrants (a b : Allocation) (v : View) : Type 0 where
  pub outs : ℕ
  pub outs_fit : outs < 2 ^ 64
  pub granted_fit : b.granted < 2 ^ 64
  pub granted_below : MembersAreBelow (size_of v.site) b.granted
  pub lost_fit : b.lost < 2 ^ 64
  pub shows : ShowsGrants a b outs v

-- only the sets of these heads have changed, and more may be wanted
pub record KeepsMarks (heads : ℕ) (m w : RouterMarks) (wanted all : ℕ) : Type 0 where
  pub rest : w ≡ record m { set = w.set }
  pub others : (k : ℕ) → has_bit heads k ≡ false → w.set k ≡ m.set k
  pub wants : (o : ℕ) → has_bit wanted o ≡ true → has_bit all o ≡ true

-- from a to b: the grants are those of the round, and the marks show the phases after grants and
-- routes, and the packets of the heads; `outs` are those granted
pub record ShowsChosen (relation : Routes) (filled : ℕ) (a b : Allocation) (outs : ℕ) (v : View) : Type 0 where
  pub outs_fit : outs < 2 ^ 64
  pub granted_fit : b.granted < 2 ^ 64
  pub granted_below : MembersAreBelow (size_of v.site) b.granted
  pub lost_fit : b.lost < 2 ^ 64
  pub wanted_fit : b.column.wanted < 2 ^ 64
  pub granted : (k : ℕ) → k < size_of v.site → has_bit b.granted k ≡ is_given (view_round v).grants (ask_of (view_claim v k)) k
  pub lost : (k : ℕ) → k < size_of v.site → has_bit b.lost k ≡ (not (has_bit b.granted k) && is_some (ask_of (view_claim v k)))
  pub taken : (o : ℕ) → o < size_of v.site → has_bit outs o ≡ is_some (slice_index_or (view_round v).grants o None)
  pub column : b.column ≡ record a.column { wanted = b.column.wanted; idle = less a.column.idle outs; supplied = bit_or a.column.supplied b.granted }
  pub turns : (o : ℕ) → o < size_of v.site → ShowsPointer (size_of v.site) (b.marks.turn o) 0 (arbiter_at (arbiters_after (view_round v) v.arbiters).channels o).pointer
  pub routed : (k : ℕ) → k < size_of v.site → has_bit (lane_heads filled a.column) k ≡ true → ShowsPhase b.column b.marks v.site k (Waiting (route_of relation v k))
  pub phases : (k : ℕ) → k < size_of v.site → has_bit (lane_heads filled a.column) k ≡ false → ShowsPhase b.column b.marks v.site k (phase_granted v k)
  pub owners : (o k : ℕ) → o < size_of v.site → slice_index_or (view_round v).grants o None ≡ Some k → b.marks.owner o ≡ k
  pub others : (o : ℕ) → o < size_of v.site → slice_index_or (view_round v).grants o None ≡ None → b.marks.owner o ≡ a.marks.owner o
  pub to_port : (q k : ℕ) → q < ports v.site.grid → k < size_of v.site → has_bit (b.marks.to_port q) k ≡ sends_by v.site.vcs q (phase_granted v k)
  pub port_turn : b.marks.port_turn ≡ a.marks.port_turn
  pub numbers : (k : ℕ) → k < size_of v.site → has_bit (lane_heads filled a.column) k ≡ true → (view_input v k).packet ≡ Some (b.marks.packet k)
  pub packets : b.marks.packet ≡ a.marks.packet

module _ {count : ℕ} (relation : Routes) (layout : Layout) (x : Surroundings) (v : View) (still : IsStill relation layout x v) (sets : ℕ → ℕ → ℕ) (a b : Allocation)
    (permits : ArePermitted relation v sets a.marks.packet)
    (shows : IsColumn count a.column a.marks v) (no_grant : a.granted ≡ 0) (no_loss : a.lost ≡ 0)
    (chosen : HasChosen (size_of v.site) (λ o. o / v.site.vcs) (lane_heads x.filled a.column) sets a b) where
  small : (set : ℕ) → MembersAreBelow (size_of v.site) set → set < 2 ^ 64
  small set below = let few = still.few in omega (arith, below_fits (size_of v.site) set below, pow_below (size_of v.site) 64 (omega (arith, few)))

  pub given : HasGrants a chosen.granted v
  given = at (cases_eq (lane_asks a.column) 0)
    where
      inputs-fit : (has : HasAllocated (size_of v.site) (λ o. o / v.site.vcs) a chosen.granted) → has.inputs < 2 ^ 64
      inputs-fit has = small has.inputs (λ k e. shows.channels.waiting_below k (and_parts (has_bit a.column.waiting k) (is_some (asked_of a.column.idle (a.marks.set k))) (sym (has.asks.asking k) ∙ e)).0)

      -- who is granted a channel waits
      granted-below : (has : HasAllocated (size_of v.site) (λ o. o / v.site.vcs) a chosen.granted) → MembersAreBelow (size_of v.site) chosen.granted.granted
      granted-below has k e = within (cases_lt k (size_of v.site))
        where
          wins : (o : ℕ) → has_bit has.outs o ≡ true → size_of v.site ≤ k → (won : Bool) → has_bit (winner has.requests a.marks o) k ≡ won → won ≡ false
          wins o out above false h = refl
          wins o out above true h =
              let lo : o < 64 = member-below has.outs o has.outs_fit out in
              let asked = and_parts (has_bit a.column.waiting k) (is_some_of (asked_of a.column.idle (a.marks.set k)) o) (sym (has.asks.asked o k lo) ∙ first-among (has.requests o) (a.marks.turn o) k h) in
              let below : k < size_of v.site = shows.channels.waiting_below k asked.0 in
              absurd (omega (arith, below, above))

          within : (k < size_of v.site) ⊎ (size_of v.site ≤ k) → k < size_of v.site
          within (inl l) = l
          within (inr above) = absurd (false≢true (sym (has.marks.none k (λ o out. wins o out above (has_bit (winner has.requests a.marks o) k) refl)) ∙ e))

      at : (lane_asks a.column ≡ 0) ⊎ (lane_asks a.column ≢ 0) → HasGrants a chosen.granted v
      at (inl none) =
          subst (λ (g : Allocation). HasGrants a g v) (sym (chosen.unasked none))
          (record {
            outs = 0;
            outs_fit = omega arith;
            granted_fit = omega (arith, no_grant);
            granted_below = λ k e. absurd (false≢true (sym (ap (λ n. has_bit n k) no_grant ∙ has_bit-zero k) ∙ e));
            lost_fit = omega (arith, no_loss);
            shows = not-allocated v a shows still.few still.arbiters.channels none no_grant no_loss;
          })
      at (inr some) =
          let has : HasAllocated (size_of v.site) (λ o. o / v.site.vcs) a chosen.granted = chosen.asked some in
          record {
            outs = has.outs;
            outs_fit = has.outs_fit;
            granted_fit = has.granted_fit;
            granted_below = granted-below has;
            lost_fit = subst (λ n. n < 2 ^ 64) (sym has.lost) (less_fits has.inputs chosen.granted.granted (inputs-fit has));
            shows = allocated v a chosen.granted (λ o. o / v.site.vcs) shows still.few still.arbiters.channels (λ o l. refl) has;
          }

  keeps : KeepsMarks (lane_heads x.filled a.column) chosen.granted.marks b.marks chosen.granted.column.wanted b.column.wanted
  keeps = record { rest = chosen.routed.rest; others = chosen.routed.kept; wants = chosen.routed.still }

  -- no grant changes the number of a packet
  same-packet : b.marks.packet ≡ a.marks.packet
  same-packet = ap (λ (m : RouterMarks). m.packet) chosen.routed.rest ∙ given.shows.packet

  heads-is : (k : ℕ) → k < size_of v.site → has_bit (lane_heads x.filled a.column) k ≡ (is_idle_phase (view_input v k).phase && not (is_empty (view_buffer v k)))
  heads-is = (standing count a.column v x.filled shows.words shows.channels still.filled).heads

  -- a head, and what is known of it
  record Head (k : ℕ) : Type 0 where
    flit : Flit
    rest : List Flit
    idle : is_idle_phase (view_input v k).phase ≡ true
    buffer : view_buffer v k ≡ flit ∷ rest

  head-at : (k : ℕ) → k < size_of v.site → has_bit (lane_heads x.filled a.column) k ≡ true → Head k
  head-at k l e = by (view_buffer v k) refl
    where
      both : (is_idle_phase (view_input v k).phase ≡ true) × (not (is_empty (view_buffer v k)) ≡ true)
      both = and_parts (is_idle_phase (view_input v k).phase) (not (is_empty (view_buffer v k))) (sym (heads-is k l) ∙ e)

      by : (fs : List Flit) → view_buffer v k ≡ fs → Head k
      by [] z = absurd (false≢true (sym (ap (λ (fs : List Flit). not (is_empty fs)) z) ∙ both.1))
      by (f ∷ rest) z = record { flit = f; rest = rest; idle = both.0; buffer = z }

  head-waits : (k : ℕ) → k < size_of v.site → has_bit (lane_heads x.filled a.column) k ≡ true → ShowsPhase b.column b.marks v.site k (Waiting (route_of relation v k))
  head-waits k l e =
      let one = head-at k l e in
      let set : b.marks.set k ≡ route_of relation v k =
      chosen.routed.each k e ∙ ap (λ (p : ℕ → ℕ). sets k (p k)) given.shows.packet ∙ permits.set k one.flit one.rest l one.idle one.buffer in
      (set, route-fits relation v still.is_relation still.narrow k, λ o h. chosen.routed.wants k o e (ap (λ n. has_bit n o) set ∙ h))

  head-packet : (k : ℕ) → k < size_of v.site → has_bit (lane_heads x.filled a.column) k ≡ true → (view_input v k).packet ≡ Some (b.marks.packet k)
  head-packet k l e =
      let one = head-at k l e in
      still.tidy.firsts k one.flit one.rest l one.buffer ∙ ap Some (sym (ap (λ (p : ℕ → ℕ). p k) same-packet ∙ permits.number k one.flit one.rest l one.buffer))

  same-granted : b.granted ≡ chosen.granted.granted
  same-granted = ap (λ (z : Allocation). z.granted) chosen.rest

  same-lost : b.lost ≡ chosen.granted.lost
  same-lost = ap (λ (z : Allocation). z.lost) chosen.rest

  -- what is chosen is what the round has
  pub choice : ShowsChosen relation x.filled a b given.outs v
  choice = record {
    outs_fit = given.outs_fit;
    granted_fit = subst (λ n. n < 2 ^ 64) (sym same-granted) given.granted_fit;
    granted_below = subst (λ n. MembersAreBelow (size_of v.site) n) (sym same-granted) given.granted_below;
    lost_fit = subst (λ n. n < 2 ^ 64) (sym same-lost) given.lost_fit;
    wanted_fit = chosen.wanted_fits;
    granted = λ k l. ap (λ n. has_bit n k) same-granted ∙ given.shows.granted k l;
    lost = λ k l. ap (λ n. has_bit n k) same-lost ∙ given.shows.lost k l ∙ ap (λ n. not (has_bit n k) && is_some (ask_of (view_claim v k))) (sym same-granted);
    taken = given.shows.taken;
    column = ap (λ (z : Allocation). z.column) chosen.rest
        ∙ ap (λ (z : Column). record z { wanted = b.column.wanted }) given.shows.column
        ∙ ap (λ (g : ℕ). record a.column { wanted = b.column.wanted; idle = less a.column.idle given.outs; supplied = bit_or a.column.supplied g }) (sym same-granted);
    turns = λ o l. subst (λ (m : RouterMarks). ShowsPointer (size_of v.site) (m.turn o) 0 (arbiter_at (arbiters_after (view_round v) v.arbiters).channels o).pointer) (sym keeps.rest) (given.shows.turns o l);
    routed = head-waits;
    phases = λ k l h. phase-as chosen.granted.column b.column chosen.granted.marks b.marks v.site k (phase_granted v k) (keeps.others k h)
        (ap (λ (m : RouterMarks). m.taken k) keeps.rest) keeps.wants (given.shows.phases k l);
    owners = λ o k l is. ap (λ (m : RouterMarks). m.owner o) keeps.rest ∙ given.shows.owners o k l is;
    others = λ o l is. ap (λ (m : RouterMarks). m.owner o) keeps.rest ∙ given.shows.others o l is;
    to_port = λ q k lq l. ap (λ (m : RouterMarks). has_bit (m.to_port q) k) keeps.rest ∙ given.shows.to_port q k lq l;
    port_turn = ap (λ (m : RouterMarks). m.port_turn) keeps.rest ∙ given.shows.port_turn;
    numbers = head-packet;
    packets = same-packet;
  }

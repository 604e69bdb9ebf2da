-- A router of a block that shows a router of a network has what each part of a cycle asks for.
use Rattle.std.proofs.Common.{◌≡◌, ℕ, ◌+◌, ◌-◌, ◌*◌, ◌^◌, ◌<◌, ◌≤◌, Bool, true, false, List, length, ap, ap₂, arith, subst, sym, ◌∙◌, bit_and, bit_or}
use Rattle.std.specs.Prelude.{◌&&◌, nat_eq, not}
use Rattle.std.proofs.lemmas.Bool.{and_parts}
use Rattle.noc_topo.specs.Shape.{nodes, ports}
use Rattle.noc_packet.specs.Set.{has_bit}
use Rattle.noc_packet.proofs.SetLemmas.{both_members}
use Rattle.noc_view.specs.View.{Site, View, size_of}
use Rattle.noc_sets.specs.Column.{Column, IsColumn}
use Rattle.noc_sets.specs.Cycle.{Router, Still, still_of}
use Rattle.noc_sets.specs.Layout.{Layout}
use Rattle.noc_sets.specs.Sets.{less}
use Rattle.noc_sets.specs.Source.{Source, Start}
use Rattle.noc_sets.proofs.MemberLemmas.{less_members}
use Rattle.noc_theory.specs.Good.{IsGoodSetup}
use Rattle.noc_theory.specs.Lockstep.{site_at, view_at}
use Rattle.noc_theory.specs.Network.{Setup}
use Rattle.noc_theory.specs.declared.limits.TheConstants.{CYCLE_LIMIT}
use Rattle.noc_theory.proofs.join.ViewLemmas.{view_at-seen}
use Rattle.noc_theory_bits.specs.Network.{ShowsRouter}
use Rattle.noc_theory_bits.proofs.bits.FreezeLemmas.{shows-still}
use Rattle.noc_theory_bits.proofs.bits.KnownLemmas.{filled-known}
use Rattle.noc_theory_bits.proofs.network.NetworkLemmas.{frozen-seen, frozen-tidy, frozen_view, start-tidy}
use Rattle.noc_columns.specs.Allotted.{ShowsOwned}
use Rattle.noc_columns.specs.Supply.{is_fed}
use Rattle.noc_columns.specs.declared.channels.Decided.{Decided}
use Rattle.noc_columns.specs.declared.channels.Links.{Links}
use Rattle.noc_columns.specs.declared.channels.Standing.{Standing}
use Rattle.noc_columns.specs.declared.channels.Verdicts.{Verdicts}
use Rattle.noc_cycles.specs.Concluding.{HasConcludedHeld}
use Rattle.noc_cycles.specs.Deciding.{HasDecidedHeld}
use Rattle.noc_cycles.specs.Held.{Held, ShowsHeld}
use Rattle.noc_cycles.specs.Taking.{HasTaken}
use Rattle.noc_cycles.specs.May.{MayConclude, MayDecide, MayInject, MayTake, owned_by, with_credit}
use Rattle.noc_cycles.specs.declared.pattern.Pattern.{Pattern}
use Rattle.noc_theory_cycles.specs.Fits.{FitsNetwork}
use Rattle.noc_theory_cycles.proofs.ShownLemmas.{active-apart, busy-owned, owner-busy, supplied-fed}
use Rattle.noc_theory_cycles.proofs.SourceLemmas.{goes-on, is-due, is-left, one-injected, some-injected}

-- ---- the ports of a network
module _ (count : ℕ) (net : Setup) (layout : Layout) (pattern : Pattern) (fits : FitsNetwork count net layout pattern) (r : ℕ) (v : View) (site : v.site ≡ site_at net r) where
  pub wide : ports v.site.grid ≡ pattern.table.ports.links.width + 1
  wide = ap (λ (s : Site). ports s.grid) site ∙ fits.ports.count

  pub many : v.site.vcs ≡ pattern.table.ports.links.vcs
  many = ap (λ (s : Site). s.vcs) site ∙ fits.ports.vcs

  pub all : size_of v.site ≡ (pattern.table.ports.links.width + 1) * pattern.table.ports.links.vcs
  all = ap₂ (λ p w. p * w) wide many

  pub link-small : (o : ℕ) → o < pattern.table.ports.links.width * pattern.table.ports.links.vcs → o < size_of v.site
  link-small o l =
      let more : (pattern.table.ports.links.width + 1) * pattern.table.ports.links.vcs ≡ pattern.table.ports.links.width * pattern.table.ports.links.vcs + pattern.table.ports.links.vcs = omega arith in
      omega (arith, all, more, l)

-- ---- before the cycle
module _ (count : ℕ) (net : Setup) (layout : Layout) (pattern : Pattern) (starts : List Start) (n r : ℕ) (links : Links ℕ) (h : Held) (b : Router)
    (setup : IsGoodSetup net) (fits : FitsNetwork count net layout pattern) (l : r < nodes net.relation.grid) (shows : ShowsRouter count net n r starts b) (held : ShowsHeld pattern h links b) where
  abbrev v : View
  v = view_at net n r

  abbrev width : ℕ
  width = pattern.table.ports.links.width

  abbrev vcs : ℕ
  vcs = pattern.table.ports.links.vcs

  site : (view_at net n r).site ≡ site_at net r
  site = (view_at-seen net n r).site

  owned : ShowsOwned (pattern.table.ports.links.width + 1) pattern.table.ports.links.vcs b.column.active h.out_port h.out_vc b.marks
  owned = subst (λ a. ShowsOwned (width + 1) vcs a h.out_port h.out_vc b.marks) (sym (ap (λ (c : Column). c.active) held.column)) held.marks.owned

  busy : (i : ℕ) → has_bit h.inputs.active i ≡ true → (has_bit b.column.idle (owned_by vcs h i) ≡ false) × (has_bit b.column.draining (owned_by vcs h i) ≡ false)
  busy i e = owner-busy count b.column b.marks v shows.column (start-tidy net setup n r l) width vcs h.out_port h.out_vc (wide count net layout pattern fits r v site) (many count net layout pattern fits r v site) owned i
      (ap (λ (c : Column). has_bit c.active i) held.column ∙ e)

  pub may-take : MayTake pattern starts h b
  may-take = record {
    supplied = λ i u.
        supplied-fed count b.column b.marks v shows.column (start-tidy net setup n r l) width vcs h.out_port h.out_vc (wide count net layout pattern fits r v site) (many count net layout pattern fits r v site) owned i
        (subst (λ m. i < m) (sym (all count net layout pattern fits r v site)) u)
        ∙ ap (λ (c : Column). has_bit c.active i && is_fed width (with_credit vcs c.credit) (h.out_port i) (h.out_vc i)) held.column;
    busy = λ i e. (sym (ap (λ (c : Column). has_bit c.idle (owned_by vcs h i)) held.column) ∙ (busy i e).0, sym (ap (λ (c : Column). has_bit c.draining (owned_by vcs h i)) held.column) ∙ (busy i e).1);
    owned = λ o u came idle draining.
        let one = busy-owned count b.column b.marks v shows.column (start-tidy net setup n r l) width vcs h.out_port h.out_vc (wide count net layout pattern fits r v site) (many count net layout pattern fits r v site) owned o
        (link-small count net layout pattern fits r v site o u)
        (ap (λ (c : Column). has_bit c.idle o) held.column ∙ idle) (ap (λ (c : Column). has_bit c.draining o) held.column ∙ draining) in
        (one.0, sym (ap (λ (c : Column). has_bit c.active one.0) held.column) ∙ one.1, one.2);
    one = one-injected b.column h.injecting (width * vcs) (sym (ap (λ (c : Column). c.injecting) held.column)) v shows.column.sending;
    left = λ some. subst (λ (s : Source). 0 < s.left) held.source (is-left starts b.column b.source v shows.column.sending shows.source (some-injected b.column h.injecting (width * vcs) (sym (ap (λ (c : Column). c.injecting) held.column)) some));
    queue = λ cycle due small. subst (λ (s : Source). s.queue + 1 < length starts) held.source (goes-on starts b.source v cycle shows.source (subst (λ (s : Source). s.due ≤ cycle) (sym held.source) due) small);
    due = λ some.
        let before = subst (λ (s : Source). s.due < 2 ^ 32 - 1) held.source (is-due net n r starts b.column b.source setup shows.column.sending shows.source (some-injected b.column h.injecting (width * vcs) (sym (ap (λ (c : Column). c.injecting) held.column)) some)) in
        (h.source.due, omega arith, before);
  }

  pub may-inject : n < CYCLE_LIMIT → MayInject starts n h
  may-inject few = record {
    one = may-take.one;
    left = may-take.left;
    queue = λ due. may-take.queue n due (omega (arith, few));
  }

-- ---- once it has taken what comes
module _ (count : ℕ) (net : Setup) (layout : Layout) (pattern : Pattern) (starts : List Start) (n r : ℕ) (b : Router) (h : Held) (standing : Standing ℕ) (no_credit : ℕ) (comes : Bool)
    (setup : IsGoodSetup net) (few : n < CYCLE_LIMIT) (fits : FitsNetwork count net layout pattern) (l : r < nodes net.relation.grid) (shows : ShowsRouter count net n r starts b)
    (taken : HasTaken pattern layout starts n b h standing no_credit comes) where
  abbrev s : Still
  s = still_of layout starts n taken.up b

  abbrev x : View
  x = frozen_view net setup n r l

  abbrev wd : ℕ
  wd = pattern.table.ports.links.width

  abbrev vs : ℕ
  vs = pattern.table.ports.links.vcs

  x-site : (frozen_view net setup n r l).site ≡ site_at net r
  x-site = (frozen-seen net setup n r l).site

  column : IsColumn count (still_of layout starts n taken.up b).column (still_of layout starts n taken.up b).marks (frozen_view net setup n r l)
  column = (shows-still net setup n r l starts b shows few layout taken.up fits.layout_is taken.ups taken.up_fits).column

  now-owned : ShowsOwned (pattern.table.ports.links.width + 1) pattern.table.ports.links.vcs (still_of layout starts n taken.up b).column.active h.out_port h.out_vc (still_of layout starts n taken.up b).marks
  now-owned = subst (λ a. ShowsOwned (wd + 1) vs a h.out_port h.out_vc s.marks) (sym (ap (λ (c : Column). c.active) taken.shows.column)) taken.shows.marks.owned

  active-there : (i : ℕ) → has_bit h.inputs.active i ≡ true → has_bit (still_of layout starts n taken.up b).column.active i ≡ true
  active-there i e = ap (λ (c : Column). has_bit c.active i) taken.shows.column ∙ e

  waiting-same : h.waiting ≡ (still_of layout starts n taken.up b).column.waiting
  waiting-same = taken.shows.waiting ∙ sym (ap (λ (c : Column). c.waiting) taken.shows.column)

  -- a channel with a flit is held by a packet
  pub flit-known : (k : ℕ) → has_bit (still_of layout starts n taken.up b).filled k ≡ true → h.packet k < length net.packets
  flit-known k e =
      subst (λ (f : ℕ → ℕ). f k < length net.packets) taken.shows.marks.packet
      (filled-known count net layout starts n r k taken.up b setup few fits.layout_is l shows taken.ups taken.up_fits e).1

  pub may-decide : MayDecide pattern (length net.packets) (nodes net.relation.grid) r h standing
  may-decide = record {
    waiting = λ k e. subst (λ m. k < m) (all count net layout pattern fits r x x-site) (column.channels.waiting_below k (ap (λ w. has_bit w k) (sym waiting-same) ∙ e));
    idle = λ k e. subst (λ m. k < m) (all count net layout pattern fits r x x-site) (column.channels.idle_below k (ap (λ (c : Column). has_bit c.idle k) taken.shows.column ∙ e));
    apart = λ i e.
        ap (λ w. has_bit w i) waiting-same
        ∙ active-apart count s.column s.marks x column (frozen-tidy net setup n r l) wd vs h.out_port h.out_vc (wide count net layout pattern fits r x x-site) (many count net layout pattern fits r x x-site) now-owned i (active-there i e);
    busy = λ i e.
        sym (ap (λ (c : Column). has_bit c.idle (owned_by vs h i)) taken.shows.column)
        ∙ (owner-busy count s.column s.marks x column (frozen-tidy net setup n r l) wd vs h.out_port h.out_vc (wide count net layout pattern fits r x x-site) (many count net layout pattern fits r x x-site) now-owned i (active-there i e)).0;
    sends = λ i e.
        let ready : has_bit (bit_and (bit_and s.column.active s.filled) s.column.supplied) i ≡ true = ap (λ w. has_bit w i) (sym taken.shows.ready) ∙ e in
        let filled = (and_parts (has_bit (bit_and s.column.active s.filled) i) (has_bit s.column.supplied i) (sym (both_members (bit_and s.column.active s.filled) s.column.supplied i) ∙ ready)).0 in
        now-owned.sends.vc i (and_parts (has_bit s.column.active i) (has_bit s.filled i) (sym (both_members s.column.active s.filled i) ∙ filled)).0;
    node_is = λ some. l;
    heads = λ k e.
        let head : has_bit (less s.filled (bit_or s.column.waiting s.column.active)) k ≡ true = ap (λ w. has_bit w k) (sym taken.shows.heads) ∙ e in
        flit-known k (and_parts (has_bit s.filled k) (not (has_bit (bit_or s.column.waiting s.column.active) k)) (sym (less_members s.filled (bit_or s.column.waiting s.column.active) k) ∙ head)).0;
  }

  -- ---- once it has decided
  -- what leaves it is picked
  pub may-conclude : (sets : ℕ → ℕ → ℕ) (d : Held) (decided : Decided ℕ) (granted lost released : ℕ) (left : Links ℕ)
      → HasDecidedHeld pattern layout sets (still_of layout starts n taken.up b) h d standing decided granted lost left
      → ((i : ℕ) → has_bit released i ≡ true → has_bit decided.picked i ≡ true) → MayConclude (length net.packets) d released
  may-conclude sets d decided granted lost released left has among = record {
    packet = λ i e.
        let ready : has_bit (bit_and (bit_and s.column.active s.filled) s.column.supplied) i ≡ true = has.picks.among i (among i e) in
        let filled = (and_parts (has_bit (bit_and s.column.active s.filled) i) (has_bit s.column.supplied i) (sym (both_members (bit_and s.column.active s.filled) s.column.supplied i) ∙ ready)).0 in
        subst (λ (f : ℕ → ℕ). f i < length net.packets) (sym has.packet)
        (flit-known i (and_parts (has_bit s.column.active i) (has_bit s.filled i) (sym (both_members s.column.active s.filled i) ∙ filled)).1);
  }

-- a packet arrives from a channel that is picked
pub arrived-picked : (pattern : Pattern) (standing : Standing ℕ) (decided : Decided ℕ) (granted : ℕ) (left : Links ℕ) (arrived : ℕ) (h k : Held) (v w : Verdicts ℕ) → HasConcludedHeld pattern standing decided granted left arrived h k v w
    → (i : ℕ) → has_bit arrived i ≡ true → has_bit decided.picked i ≡ true
arrived-picked pattern standing decided granted left arrived h k v w has i e =
    let leaves = sym (has.leaves i (has.arrived_below i e)) ∙ e in
    let tail = (and_parts (has_bit w.moved i && has_bit standing.last i) (nat_eq (h.out_port i) pattern.table.ports.links.width) leaves).0 in
    let moved = (and_parts (has_bit w.moved i) (has_bit standing.last i) tail).0 in
    (and_parts (has_bit decided.picked i) (has_bit decided.sends i) (sym (both_members decided.picked decided.sends i) ∙ sym (ap (λ (x : Verdicts ℕ). has_bit x.moved i) has.settles.verdicts) ∙ moved)).0

-- its number stays
pub concluded-may : (packets : ℕ) (pattern : Pattern) (standing : Standing ℕ) (decided : Decided ℕ) (granted : ℕ) (left : Links ℕ) (arrived : ℕ) (h k : Held) (v w : Verdicts ℕ) → HasConcludedHeld pattern standing decided granted left arrived h k v w
    → MayConclude packets h arrived → MayConclude packets k arrived
concluded-may packets pattern standing decided granted left arrived h k v w has may = record {
  packet = λ i e. subst (λ (x : Held). x.packet i < packets) (sym has.rest) (may.packet i e);
}

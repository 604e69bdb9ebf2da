-- What was decided in a cycle takes effect: the words of a router show its view after its verdicts.
use Rattle.std.proofs.Common.{◌≡◌, ℕ, ◌*◌, ◌/◌, ◌<◌, ◌≤◌, false, ap, sym, ◌∙◌, subst, arith, inl, inr, mul-le-mul_right}
use Rattle.std.specs.Prelude.{◌⊎◌, nat_le, nat_lt}
use Rattle.noc_theory_bits.proofs.Common.{and_parts, ltb-true, div_below, local_port, ports, has_bit, Routes, arbiter_at, MembersAreBelow, arbiters_after, View, size_of, view_round, decisions_of, view_after_commit, Column, IsColumn, RouterMarks, ShowsMarks, HasSwitched, single_in, Allocation, ShowsPointer, ArePicked, ArePast, Effects, lane_heads, settled_lane, lane_ready, ShowsPorts, Surroundings, Layout}
use Rattle.noc_theory_bits.proofs.routers.ChosenLemmas.{IsStill, ShowsChosen}
use Rattle.noc_theory_bits.proofs.routers.FateLemmas.{dry, says-supplied}
use Rattle.noc_theory_bits.proofs.routers.MarkedLemmas.{marks-after}
use Rattle.noc_theory_bits.proofs.routers.MoveLemmas.{turns-after}
use Rattle.noc_theory_bits.proofs.routers.SettleLemmas.{AreSettling, decided_lane, settled-column}
use Rattle.noc_theory_bits.proofs.routers.SettlingLemmas.{decided, effects, moves-below, says-out, supplied-fits}
use Rattle.noc_theory_bits.proofs.routers.SwitchedLemmas.{moving}

module _ {count : ℕ} (relation : Routes) (layout : Layout) (x : Surroundings) (v : View) (still : IsStill relation layout x v) (a b : Allocation) (outs : ℕ)
    (shows : IsColumn count a.column a.marks v)
    (picks : ArePicked v.site.vcs (ports v.site.grid) (lane_ready x.filled a.column) a.column.ahead x.picked) (put : ShowsChosen relation x.filled a b outs v) (w : RouterMarks) (e : Effects) (supplied : ℕ)
    (switched : HasSwitched v.site.vcs (ports v.site.grid) x.picked (single_in layout.links a.column) x.tail b.marks w e b.column.supplied supplied)
    (heads_are : e.heads ≡ lane_heads x.filled a.column) (granted_are : e.granted ≡ b.granted)
    (past : ArePast v.site.vcs (ports v.site.grid) a.column.ahead e.moved x.ahead) where
  abbrev sw : HasSwitched v.site.vcs (ports v.site.grid) x.picked (single_in layout.links a.column) x.tail b.marks w e b.column.supplied supplied
  sw = switched

  links-below : MembersAreBelow (size_of v.site) layout.links
  links-below k h =
      let m : local_port v.site.grid * v.site.vcs ≤ ports v.site.grid * v.site.vcs = mul-le-mul_right v.site.vcs (omega arith) in
      let l : k < local_port v.site.grid * v.site.vcs = ltb-true k (local_port v.site.grid * v.site.vcs) (sym (still.sides.link_is k) ∙ h) in
      omega (arith, m, l)

  local-below : MembersAreBelow (size_of v.site) layout.local
  local-below k h =
      ltb-true k (ports v.site.grid * v.site.vcs)
      (and_parts (nat_le (local_port v.site.grid * v.site.vcs) k) (nat_lt k (ports v.site.grid * v.site.vcs)) (sym (still.sides.local_is k) ∙ h)).1

  ports-turn : (q : ℕ) → q < ports v.site.grid → ShowsPorts v.site.vcs (ports v.site.grid) (w.port_turn q) (arbiter_at (arbiters_after (view_round v) v.arbiters).outputs q).pointer
  ports-turn q lq =
      turns-after v x.picked b.marks.to_port b.marks.port_turn (moving relation layout x v still a b outs shows picks put) w.port_turn sw.turns
      q lq still.arbiters.outputs.count (still.arbiters.outputs.sizes q lq)

  settling : AreSettling v (view_after_commit (decisions_of relation v) v) a.column w layout.links layout.local outs b.column.wanted supplied (dry relation layout x v still a b outs shows picks put w e supplied switched heads_are granted_are) e
  settling = record {
    links_fit = still.sides.link_fits;
    outs_fit = put.outs_fit;
    wanted_fits = put.wanted_fit;
    supplied_fits = supplied-fits relation layout x v still a b outs shows picks put w e supplied switched heads_are granted_are;
    granted_below = subst (λ n. MembersAreBelow (size_of v.site) n) (sym granted_are) put.granted_below;
    moved_below = moves-below relation layout x v still a b outs shows picks put w e supplied switched heads_are granted_are;
    local_below = local-below;
    links_below = links-below;
    sizes = still.arbiters.inputs.sizes;
    outputs = says-out relation layout x v still a b outs shows picks put w e supplied switched heads_are granted_are;
    supplies = says-supplied relation layout x v still a b outs shows picks put w e supplied switched heads_are granted_are;
    channel_turns = λ o l. subst (λ (m : RouterMarks). ShowsPointer (size_of v.site) (m.turn o) 0 (arbiter_at (arbiters_after (view_round v) v.arbiters).channels o).pointer) (sym sw.rest) (put.turns o l);
    port_turns = λ q i lq l. at q i l (ports-turn q lq);
  }
    where
      at : (q i : ℕ) → i < size_of v.site → ShowsPorts v.site.vcs (ports v.site.grid) (w.port_turn q) (arbiter_at (arbiters_after (view_round v) v.arbiters).outputs q).pointer
          → (has_bit (w.port_turn q) i ≡ nat_le (arbiter_at (arbiters_after (view_round v) v.arbiters).outputs q).pointer (i / v.site.vcs))
          ⊎ (((arbiter_at (arbiters_after (view_round v) v.arbiters).outputs q).pointer ≡ 0) × ((k : ℕ) → k < size_of v.site → has_bit (w.port_turn q) k ≡ false))
      at q i l (inl is) = inl (is i (div_below i v.site.vcs (ports v.site.grid) still.size.some l))
      at q i l (inr none) = inr (none.0, λ k lk. none.1 k (div_below k v.site.vcs (ports v.site.grid) still.size.some lk))

  lane-is : record b.column { supplied = supplied } ≡ decided_lane outs b.column.wanted supplied a.column
  lane-is = ap (λ (c : Column). record c { supplied = supplied }) put.column

  pub column-settled : IsColumn count (settled_lane x.ahead layout.links layout.local e (record b.column { supplied = supplied })) w (view_after_commit (decisions_of relation v) v)
  column-settled =
      subst (λ (c : Column). IsColumn count (settled_lane x.ahead layout.links layout.local e c) w (view_after_commit (decisions_of relation v) v)) (sym lane-is)
      (settled-column relation count x.picked x.ahead a.column v x.filled layout.links layout.local b.lost e shows.words
      (effects relation layout x v still a b outs shows picks put w e supplied switched heads_are granted_are) still.size picks shows.channels still.filled
      (record { ahead = shows.turns.inputs; pointers = still.arbiters.inputs.pointers; arbiters = still.arbiters.inputs.count })
      (decided relation layout x v still a b outs shows picks put w e supplied switched heads_are granted_are) outs b.column.wanted supplied w
      (dry relation layout x v still a b outs shows picks put w e supplied switched heads_are granted_are) settling past
      (subst (λ (c : Column). ShowsMarks (settled_lane x.ahead layout.links layout.local e c) w (view_after_commit (decisions_of relation v) v)) lane-is
      (marks-after relation layout x v still a b outs shows picks put w e supplied switched heads_are granted_are))
      shows.sending)

-- Where no verdict of a router takes effect, no channel has lost to another: each is empty, or
-- waits for a flit, an idle channel or a credit.
use Rattle.std.proofs.Common.{◌≡◌, ℕ, ◌+◌, ◌*◌, ◌/◌, ◌%◌, ◌<◌, ◌≤◌, Bool, true, false, length, get_or, Some, None, refl, ap, sym, ◌∙◌, subst, arith, inl, inr, Option}
use Rattle.std.specs.Prelude.{◌⊎◌, not}
use Rattle.std.proofs.Math.Nat.{div-lt_iff_lt-mul, mod-lt}
use Rattle.noc_alloc.specs.Allocation.{grant_of, pick_of, winner_of}
use Rattle.noc_alloc.proofs.WordLemmas.{is_some_of-some}
use Rattle.noc_view.specs.Verdict.{Stand, asks_of, ready_of, verdict_of, Unrouted, Holds, Waits}
use Rattle.noc_view.specs.View.{view_stand}
use Rattle.noc_view.proofs.PlanLemmas.{Lists, asks-at, claim-holds, claim-waits, decided-is, granted-asks, is-granted, ready_port-some, verdict_in}
use Rattle.noc_view.proofs.StillLemmas.{still-verdict}
use Rattle.noc_theory.proofs.budget.AllocationLemmas.{first_in_turn-some, moves-at, switch-moves}
use Rattle.noc_theory_bits.proofs.Common.{cases_lt, false≢true, get_or-map, get_or_past, length-map, div-add-mod', mul-add-lt, none-some, ports, is_some_of, tabulate, get_or-tabulate, length-tabulate, Routes, pointers_of, is_empty, Active, takes_effect, Claim, ask_of, is_event, ready_port, View, decided_verdict, decisions_of, size_of, view_buffer, view_claim, view_input, view_stands, Verdict, Granted, LostChannel, LostInput, LostSwitch, Moved, lists_of_round}

-- whether a channel has lost to another
abbrev pub is_loss : Verdict → Bool
is_loss LostChannel = true
is_loss LostInput = true
is_loss LostSwitch = true
is_loss _ = false

abbrev holds_flit : View → ℕ → Bool
holds_flit v i = not (is_empty (view_buffer v i))

module _ (relation : Routes) (v : View) (off : takes_effect relation v ≡ false) (some : 0 < v.site.vcs)
    (owned : (i o : ℕ) → i < size_of v.site → (view_input v i).phase ≡ Active o → o < size_of v.site) where
  lists : Lists (decisions_of relation v) v
  lists = lists_of_round relation v

  -- a channel whose verdict would take effect
  no-event : (i : ℕ) (x : Verdict) → i < size_of v.site → verdict_in (decisions_of relation v) v i ≡ x → is_event x ≡ false
  no-event i x l e = sym (ap is_event (decided-is (decisions_of relation v) v i lists l ∙ e)) ∙ still-verdict relation v off i

  -- nobody asks for an output channel that is idle
  nobody-asks : (i o : ℕ) → i < size_of v.site → view_claim v i ≡ Waits (Some o) → ⊥
  nobody-asks i o l claim =
      let n = size_of v.site in
      let asks = asks_of (view_stands v) in
      let ps = pointers_of v.arbiters.channels in
      let within : o < size_of v.site = (claim-waits v (view_input v i).phase o claim).2 in
      let asked : get_or asks i None ≡ Some o = asks-at v i l ∙ ap ask_of claim in
      let one = first_in_turn-some n (get_or ps o 0) i (λ k. is_some_of (get_or asks k None) o) l (is_some_of-some (get_or asks i None) o asked) in
      let given : get_or (decisions_of relation v).round.grants o None ≡ Some one.0
      = ap (λ xs. get_or xs o None) lists.grants ∙ get_or-tabulate n o (grant_of asks n ps) None within ∙ one.1 in
      let asker = granted-asks (decisions_of relation v) v o one.0 lists within given in
      false≢true (sym (no-event one.0 Granted asker.0 (is-granted (decisions_of relation v) v o one.0 asker.1 given)))

  ready-at : (i : ℕ) → i < size_of v.site → get_or (ready_of v.site.vcs (view_stands v)) i None ≡ ready_port v.site.vcs (view_claim v i) (holds_flit v i)
  ready-at i l =
      get_or-map (λ (stand : Stand). ready_port v.site.vcs stand.claim stand.has_flit) (view_stands v) i (view_stand v i) None (omega (arith, length-tabulate (size_of v.site) (view_stand v)))
      ∙ ap (λ (stand : Stand). ready_port v.site.vcs stand.claim stand.has_flit) (get_or-tabulate (size_of v.site) i (view_stand v) (view_stand v i) l)

  -- no channel is ready to send
  nobody-ready : (i o : ℕ) → i < size_of v.site → view_claim v i ≡ Holds o true → holds_flit v i ≡ true → ⊥
  nobody-ready i o l claim flit =
      let n = ports v.site.grid in
      let vcs = v.site.vcs in
      let ready = ready_of v.site.vcs (view_stands v) in
      let round = (decisions_of relation v).round in
      let whole : i / v.site.vcs * v.site.vcs + i % v.site.vcs ≡ i = div-add-mod' i v.site.vcs in
      let port : i / v.site.vcs < ports v.site.grid = (div-lt_iff_lt-mul {k = v.site.vcs} {x = i} {y = ports v.site.grid} some).1 l in
      let vc : i % v.site.vcs < v.site.vcs = mod-lt i some in
      let here : get_or ready (i / v.site.vcs * v.site.vcs + i % v.site.vcs) None ≡ Some (o / v.site.vcs)
      = ap (λ k. get_or ready k None) whole ∙ ready-at i l ∙ ap (λ c. ready_port v.site.vcs c (holds_flit v i)) claim ∙ ap (ready_port v.site.vcs (Holds o true)) flit in
      let m = switch-moves n vcs ready (pointers_of v.arbiters.inputs) (pointers_of v.arbiters.outputs) (i / v.site.vcs) (i % v.site.vcs) (o / v.site.vcs) port vc here goes in
      let within : m.0 * v.site.vcs + m.1 < size_of v.site = (let a = m.3 in let b = m.4 in let u = mul-add-lt m.0 v.site.vcs m.1 (ports v.site.grid) a b in omega (arith, u)) in
      let r : ready_port v.site.vcs (view_claim v (m.0 * v.site.vcs + m.1)) (holds_flit v (m.0 * v.site.vcs + m.1)) ≡ Some m.2 = sym (ready-at (m.0 * v.site.vcs + m.1) within) ∙ m.5 in
      let pick : get_or round.picks m.0 None ≡ Some m.1 = ap (λ xs. get_or xs m.0 None) lists.picks ∙ m.6 in
      let wins : round.wins ≡ tabulate (ports v.site.grid) (winner_of ready v.site.vcs (ports v.site.grid) (tabulate (ports v.site.grid) (pick_of ready v.site.vcs (pointers_of v.arbiters.inputs))) (pointers_of v.arbiters.outputs))
      = lists.wins ∙ ap (λ picks. tabulate (ports v.site.grid) (winner_of ready v.site.vcs (ports v.site.grid) picks (pointers_of v.arbiters.outputs))) lists.picks in
      let win : get_or round.wins m.2 None ≡ Some m.0 = ap (λ xs. get_or xs m.2 None) wins ∙ m.7 in
      false≢true (sym (no-event (m.0 * v.site.vcs + m.1) Moved within
      (moves-at v.site.vcs m.0 m.1 m.2 round (view_claim v (m.0 * v.site.vcs + m.1)) (holds_flit v (m.0 * v.site.vcs + m.1)) m.4 r pick win)))
    where
      -- a channel that is ready sends to a port
      goes : (k p : ℕ) → get_or (ready_of v.site.vcs (view_stands v)) k None ≡ Some p → p < ports v.site.grid
      goes k p e = at (cases_lt k (size_of v.site))
        where
          at : (k < size_of v.site) ⊎ (size_of v.site ≤ k) → p < ports v.site.grid
          at (inl u) =
              let r = ready_port-some v.site.vcs (view_claim v k) (holds_flit v k) p (sym (ready-at k u) ∙ e) in
              let low = owned k r.0 u (claim-holds v (view_input v k).phase r.0 true r.1).0 in
              subst (λ q. q < ports v.site.grid) r.3 ((div-lt_iff_lt-mul {k = v.site.vcs} {x = r.0} {y = ports v.site.grid} some).1 low)
          at (inr past) =
              let many : length (ready_of v.site.vcs (view_stands v)) ≡ size_of v.site
              = length-map (view_stands v) (λ (stand : Stand). ready_port v.site.vcs stand.claim stand.has_flit) ∙ length-tabulate (size_of v.site) (view_stand v) in
              absurd (none-some p (sym (get_or_past (ready_of v.site.vcs (view_stands v)) k None (omega (arith, many, past))) ∙ e))

  abbrev IsNoLoss : ℕ → Claim → Bool → Type 0
  IsNoLoss i c flit = is_loss (verdict_of v.site.vcs (decisions_of relation v).round i c flit) ≡ false

  no-loss-at : (i : ℕ) → i < size_of v.site → (c : Claim) (flit : Bool) → view_claim v i ≡ c → holds_flit v i ≡ flit → IsNoLoss i c flit
  no-loss-at i l Unrouted false e f = refl
  no-loss-at i l Unrouted true e f = refl
  no-loss-at i l (Waits None) flit e f = refl
  no-loss-at i l (Waits (Some o)) flit e f = absurd (nobody-asks i o l e)
  no-loss-at i l (Holds o credit) false e f = refl
  no-loss-at i l (Holds o false) true e f = refl
  no-loss-at i l (Holds o true) true e f = absurd (nobody-ready i o l e f)

  pub no-loss : (i : ℕ) → i < size_of v.site → is_loss (decided_verdict (decisions_of relation v) i) ≡ false
  no-loss i l = ap is_loss (decided-is (decisions_of relation v) v i lists l) ∙ no-loss-at i l (view_claim v i) (holds_flit v i) refl refl

  -- no output channel is granted
  pub no-grant : (o : ℕ) → o < size_of v.site → get_or (decisions_of relation v).round.grants o None ≡ None
  no-grant o within = at (get_or (decisions_of relation v).round.grants o None) refl
    where
      at : (g : Option ℕ) → get_or (decisions_of relation v).round.grants o None ≡ g → get_or (decisions_of relation v).round.grants o None ≡ None
      at None e = e
      at (Some k) e =
          let asker = granted-asks (decisions_of relation v) v o k lists within e in
          absurd (false≢true (sym (no-event k Granted asker.0 (is-granted (decisions_of relation v) v o k asker.1 e))))

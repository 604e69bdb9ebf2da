-- The switch: the pointers of the input ports, and the winners of the output ports, by words of
-- channels.
use Rattle.std.proofs.Common.{◌≡◌, ℕ, ◌+◌, ◌*◌, ◌/◌, ◌%◌, ◌<◌, Bool, true, false, List, length, Option, Some, None, refl, ap, sym, ◌∙◌, subst, ap₂, arith, inl, inr, get_or}
use Rattle.std.specs.Prelude.{nat_eq, ◌⊎◌, ◌&&◌, not, is_some, slice_index, slice_index_or, option_and_then, if◌then◌else◌}
use Rattle.std.proofs.lemmas.Bool.{eq-eqb, ne_eqb, cases_eq, false≢true}
use Rattle.std.proofs.lemmas.Nat.{div-mul-add, mod-mul-add, mul-add-lt}
use Rattle.noc_topo.specs.Lists.{is_some_of}
use Rattle.noc_topo.specs.Shape.{ports}
use Rattle.noc_topo.proofs.ListLemmas.{get_or-tabulate, get_or-map_indexed}
use Rattle.noc_packet.specs.Set.{has_bit}
use Rattle.noc_alloc.specs.Arbiter.{RoundRobin, arbiter_at, arbiter_after, pointer_after, pointers_of}
use Rattle.noc_alloc.specs.Allocation.{pick_of, has_won, winning_pick, is_won_by}
use Rattle.noc_alloc.proofs.ArbiterLemmas.{first_in_turn-picks}
use Rattle.noc_alloc.proofs.SwitchLemmas.{won-is_pick_won}
use Rattle.noc_vc.specs.Input.{is_empty}
use Rattle.noc_vc.specs.Output.{has_credit}
use Rattle.noc_vc.specs.declared.input.InputState.{InputState}
use Rattle.noc_vc.specs.declared.input.InputState.TheVariants.{Idle, Waiting, Active}
use Rattle.noc_view.specs.States.{is_won_from, way_in}
use Rattle.noc_view.specs.Verdict.{ready_of, ready_port, arbiters_after, Holds}
use Rattle.noc_view.specs.View.{View, size_of, view_buffer, view_input, view_output, view_claim, claim_in, view_round, view_stands}
use Rattle.noc_view.proofs.StandLemmas.{ready_of-stands}
use Rattle.noc_sets.specs.Turns.{ArePast, ShowsPointer}

-- ---- the pointers of the input ports
-- the channels that move, by the round
pub record AreMoved (v : View) (moved : ℕ) : Type 0 where
  pub each : (k : ℕ) → k < size_of v.site → has_bit moved k ≡ (is_some_of (slice_index_or (view_round v).picks (k / v.site.vcs) None) (k % v.site.vcs) && is_won_from v (view_round v) k (view_input v k).phase)

module _ (v : View) (moved : ℕ) (some_vc : 0 < v.site.vcs) (are : AreMoved v moved) where
  at_place : (p d : ℕ) → p < ports v.site.grid → d < v.site.vcs → (p * v.site.vcs + d < size_of v.site) × ((p * v.site.vcs + d) / v.site.vcs ≡ p) × ((p * v.site.vcs + d) % v.site.vcs ≡ d)
  at_place p d lp ld =
      let m : p * v.site.vcs + d < v.site.vcs * ports v.site.grid = mul-add-lt p v.site.vcs d (ports v.site.grid) lp ld in
      (omega arith, div-mul-add p v.site.vcs d ld, mod-mul-add p v.site.vcs d ld)

  -- a channel that is ready goes to the port of its output channel
  ready-way : (port : ℕ) (wins : List (Option ℕ)) (phase : InputState) (e : Bool) → is_some (ready_port v.site.vcs (claim_in v phase) (not e)) ≡ true
      → is_won_by wins port (ready_port v.site.vcs (claim_in v phase) (not e)) ≡ is_won_by wins port (way_in v.site.vcs phase)
  ready-way port wins Idle e some = absurd (false≢true some)
  ready-way port wins (Waiting set) e some = absurd (false≢true some)
  ready-way port wins (Active o) true some = at (has_credit (view_output v o)) some
    where
      at : (b : Bool) → is_some (ready_port v.site.vcs (Holds o b) false) ≡ true → is_won_by wins port (ready_port v.site.vcs (Holds o b) false) ≡ is_won_by wins port (Some (o / v.site.vcs))
      at true z = absurd (false≢true z)
      at false z = absurd (false≢true z)
  ready-way port wins (Active o) false some = at (has_credit (view_output v o)) some
    where
      at : (b : Bool) → is_some (ready_port v.site.vcs (Holds o b) true) ≡ true → is_won_by wins port (ready_port v.site.vcs (Holds o b) true) ≡ is_won_by wins port (Some (o / v.site.vcs))
      at true z = refl
      at false z = absurd (false≢true z)

  -- the pick of a port has moved where the port has won
  won-bit : (p d : ℕ) → p < ports v.site.grid → slice_index_or (view_round v).picks p None ≡ Some d → (d < v.site.vcs) × (has_bit moved (p * v.site.vcs + d) ≡ has_won (view_round v).wins p)
  unfolding view_round
  won-bit p d lp is =
      let picked : pick_of (ready_of v.site.vcs (view_stands v)) v.site.vcs (pointers_of v.arbiters.inputs) p ≡ Some d = sym (get_or-tabulate (ports v.site.grid) p (pick_of (ready_of v.site.vcs (view_stands v)) v.site.vcs (pointers_of v.arbiters.inputs)) None lp) ∙ is in
      let asks = first_in_turn-picks v.site.vcs (slice_index (pointers_of v.arbiters.inputs) p) d (λ c. is_some (slice_index_or (ready_of v.site.vcs (view_stands v)) (p * v.site.vcs + c) None)) picked in
      let at = at_place p d lp asks.1 in
      let port_of : slice_index_or (ready_of v.site.vcs (view_stands v)) (p * v.site.vcs + d) None ≡ ready_port v.site.vcs (view_claim v (p * v.site.vcs + d)) (not (is_empty (view_buffer v (p * v.site.vcs + d)))) =
      ap (λ xs. get_or xs (p * v.site.vcs + d) None) (ready_of-stands v) ∙ get_or-tabulate (size_of v.site) (p * v.site.vcs + d) (λ k. ready_port v.site.vcs (view_claim v k) (not (is_empty (view_buffer v k)))) None at.0 in (
        asks.1,
        are.each (p * v.site.vcs + d) at.0
            ∙ ap (λ b. b && is_won_from v (view_round v) (p * v.site.vcs + d) (view_input v (p * v.site.vcs + d)).phase) (ap₂ (λ q c. is_some_of (slice_index_or (view_round v).picks q None) c) at.1 at.2 ∙ ap (λ o. is_some_of o d) is ∙ eq-eqb d d refl)
            ∙ ap (λ q. is_won_by (view_round v).wins q (way_in v.site.vcs (view_input v (p * v.site.vcs + d)).phase)) at.1
            ∙ sym (ready-way p (view_round v).wins (view_input v (p * v.site.vcs + d)).phase (is_empty (view_buffer v (p * v.site.vcs + d))) (ap is_some (sym port_of) ∙ asks.0))
            ∙ ap (is_won_by (view_round v).wins p) (sym port_of)
            ∙ ap (λ (o : Option ℕ). is_won_by (view_round v).wins p (option_and_then (λ c. slice_index_or (ready_of v.site.vcs (view_stands v)) (p * v.site.vcs + c) None) o)) (sym is)
            ∙ sym (won-is_pick_won (ready_of v.site.vcs (view_stands v)) v.site.vcs (ports v.site.grid) (ports v.site.grid) (view_round v).picks (pointers_of v.arbiters.outputs) p),
      )

  -- the pointers of the input ports go on
  module _ (ahead after : ℕ) (past : ArePast v.site.vcs (ports v.site.grid) ahead moved after)
      (arbiters : length v.arbiters.inputs ≡ ports v.site.grid) (sizes : (p : ℕ) → p < ports v.site.grid → (arbiter_at v.arbiters.inputs p).size ≡ v.site.vcs)
      (shows : (p : ℕ) → p < ports v.site.grid → ShowsPointer v.site.vcs ahead p (arbiter_at v.arbiters.inputs p).pointer) where
    pub ahead-after : (p : ℕ) → p < ports v.site.grid → ShowsPointer v.site.vcs after p (arbiter_at (arbiters_after (view_round v) v.arbiters).inputs p).pointer
    ahead-after p lp = subst (λ n. ShowsPointer v.site.vcs after p n) (sym pointer) (at (slice_index_or (view_round v).picks p None) refl)
      where
        pointer : (arbiter_at (arbiters_after (view_round v) v.arbiters).inputs p).pointer
            ≡ pointer_after (arbiter_at v.arbiters.inputs p).size (arbiter_at v.arbiters.inputs p).pointer (winning_pick (view_round v).picks (view_round v).wins p)
        pointer =
            ap (λ (t : RoundRobin). t.pointer)
            (get_or-map_indexed (λ i (t : RoundRobin). arbiter_after t (winning_pick (view_round v).picks (view_round v).wins i)) v.arbiters.inputs p (record { size = 0; pointer = 0 }) (record { size = 0; pointer = 0 }) (omega (arith, arbiters)))

        stays : ((c : ℕ) → c < v.site.vcs → has_bit moved (p * v.site.vcs + c) ≡ false) → ShowsPointer v.site.vcs after p (arbiter_at v.arbiters.inputs p).pointer
        stays none =
            past.stays p (arbiter_at v.arbiters.inputs p).pointer lp none (shows p lp)

        at : (o : Option ℕ) → slice_index_or (view_round v).picks p None ≡ o
            → ShowsPointer v.site.vcs after p (pointer_after (arbiter_at v.arbiters.inputs p).size (arbiter_at v.arbiters.inputs p).pointer (winning_pick (view_round v).picks (view_round v).wins p))
        at None e =
            subst (λ (o : Option ℕ). ShowsPointer v.site.vcs after p (pointer_after (arbiter_at v.arbiters.inputs p).size (arbiter_at v.arbiters.inputs p).pointer o)) (sym (none-wins (has_won (view_round v).wins p)))
            (stays (λ c lc. let q = at_place p c lp lc in are.each (p * v.site.vcs + c) q.0 ∙ rw (q.1, e) refl))
          where
            none-wins : (b : Bool) → (if b then slice_index_or (view_round v).picks p None else None) ≡ None
            none-wins true = e
            none-wins false = refl
        at (Some d) e = won (has_won (view_round v).wins p) refl
          where
            bit : (c : ℕ) → c < v.site.vcs → has_bit moved (p * v.site.vcs + c) ≡ (nat_eq d c && has_won (view_round v).wins p)
            bit c lc = by (cases_eq d c)
              where
                by : (d ≡ c) ⊎ (d ≡ c → ⊥) → has_bit moved (p * v.site.vcs + c) ≡ (nat_eq d c && has_won (view_round v).wins p)
                by (inl same) = ap (λ n. has_bit moved (p * v.site.vcs + n)) (sym same) ∙ (won-bit p d lp e).1 ∙ sym (ap (λ b. b && has_won (view_round v).wins p) (eq-eqb d c same))
                by (inr other) =
                    let q = at_place p c lp lc in
                    are.each (p * v.site.vcs + c) q.0
                    ∙ ap (λ b. b && is_won_from v (view_round v) (p * v.site.vcs + c) (view_input v (p * v.site.vcs + c)).phase)
                    (ap₂ (λ a b. is_some_of (slice_index_or (view_round v).picks a None) b) q.1 q.2 ∙ ap (λ o. is_some_of o c) e ∙ ne_eqb d c other)
                    ∙ sym (ap (λ b. b && has_won (view_round v).wins p) (ne_eqb d c other))

            won : (b : Bool) → has_won (view_round v).wins p ≡ b
                → ShowsPointer v.site.vcs after p (pointer_after (arbiter_at v.arbiters.inputs p).size (arbiter_at v.arbiters.inputs p).pointer (if has_won (view_round v).wins p then slice_index_or (view_round v).picks p None else None))
            won true eb =
                subst (λ (o : Option ℕ). ShowsPointer v.site.vcs after p (pointer_after (arbiter_at v.arbiters.inputs p).size (arbiter_at v.arbiters.inputs p).pointer o))
                (sym (ap (λ b. if b then slice_index_or (view_round v).picks p None else None) eb ∙ e))
                (subst (λ n. ShowsPointer v.site.vcs after p ((d + 1) % n)) (sym (sizes p lp))
                (past.moves p d lp (won-bit p d lp e).0
                (λ c lc. bit c lc ∙ ap (λ b. nat_eq d c && b) eb ∙ alone (nat_eq d c))))
              where
                alone : (b : Bool) → (b && true) ≡ b
                alone true = refl
                alone false = refl
            won false eb =
                subst (λ (o : Option ℕ). ShowsPointer v.site.vcs after p (pointer_after (arbiter_at v.arbiters.inputs p).size (arbiter_at v.arbiters.inputs p).pointer o))
                (sym (ap (λ b. if b then slice_index_or (view_round v).picks p None else None) eb))
                (stays (λ c lc. bit c lc ∙ ap (λ b. nat_eq d c && b) eb ∙ off (nat_eq d c)))
              where
                off : (b : Bool) → (b && false) ≡ false
                off true = refl
                off false = refl

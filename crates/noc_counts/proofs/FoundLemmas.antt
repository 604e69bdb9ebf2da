-- What follows from the verdict of a channel is what is found of it by the words of its router before the cycle takes effect.
use Rattle.std.proofs.Common.{◌≡◌, ℕ, ◌+◌, ◌*◌, ◌/◌, ◌%◌, ◌^◌, ◌<◌, Bool, true, false, Option, Some, None, refl, ap, ap₂, subst, sym, ◌∙◌, bit_or}
use Rattle.std.specs.Prelude.{◌&&◌, ◌||◌, not, option_map, if◌then◌else◌}
use Rattle.std.proofs.lemmas.Nat.{div-mul-add, mod-mul-add, pow_pos}
use Rattle.std.proofs.Math.Pow.{pow-lt}
use Rattle.noc_packet.specs.Set.{has_bit}
use Rattle.noc_packet.proofs.SetLemmas.{either_members}
use Rattle.noc_view.specs.VerdictSets.{verdict_by}
use Rattle.noc_view.specs.declared.verdict.Verdict.{Verdict}
use Rattle.noc_view.specs.declared.verdict.Verdict.TheVariants.{Empty, Routed, Granted, Moved, NoFlit, NoIdleChannel, LostChannel, NoCredit, LostInput, LostSwitch}
use Rattle.noc_sets.specs.Column.{Column, RouterMarks}
use Rattle.noc_sets.specs.Counts.{ByVerdict, verdict_sets}
use Rattle.noc_sets.specs.Found.{found_in}
use Rattle.noc_sets.specs.Grants.{asked_of}
use Rattle.noc_sets.specs.Passes.{lane_ready}
use Rattle.noc_sets.specs.Sets.{least}
use Rattle.noc_sets.proofs.MemberLemmas.{least_is}
use Rattle.noc_columns.specs.declared.channels.Decided.{Decided}
use Rattle.noc_columns.specs.declared.channels.Standing.{Standing}
use Rattle.noc_columns.specs.declared.channels.Verdicts.{Verdicts}
use Rattle.noc_columns.proofs.GrantLemmas.{least-one-is}
use Rattle.noc_cycles.specs.Held.{Held}
use Rattle.noc_cycles.specs.Turning.{verdict_sets_by}
use Rattle.noc_counts.specs.Findings.{finding_of, out_by, packet_by}
use Rattle.noc_counts.proofs.VerdictLemmas.{IsTold, credit-is, flit-is, head-is, idle-is, input-is, no, ready-sends, switch-is}

-- the first of the verdicts that a channel has
abbrev first_of : Bool → Bool → Bool → Bool → Bool → Bool → Bool → Bool → Bool → Verdict
first_of m g h nf ni l nc li ls =
    if m then Moved else if g then Granted else if h then Routed else if nf then NoFlit else if ni then NoIdleChannel else if l then LostChannel
    else if nc then NoCredit else if li then LostInput else if ls then LostSwitch else Empty

-- that of a channel that waits (w), is active (a), is filled (f), is granted an output channel (g) or has lost one (l), is ready (r), is picked (p) and moves (m)
abbrev verdict_of : Bool → Bool → Bool → Bool → Bool → Bool → Bool → Bool → Verdict
verdict_of w a f g l r p m =
    first_of m g (f && not (w || a)) (a && not f) (w && not (g || l)) l ((a && f) && not r) (r && not p) (p && not m)

-- its packet and its output channel
abbrev IsFound : Verdict → Bool → Bool → Bool → Type 0
IsFound v w a f =
    ((x : ℕ) → packet_by v x ≡ (if (w || a) || f then Some x else None))
    × ((x : Option (ℕ × ℕ)) (y : ℕ × ℕ) → out_by v x y ≡ (if w then x else if a then Some y else None))

found-bits : (w a f g l r p m : Bool) → (w && a) ≡ false → (g ≡ true → w ≡ true) → (l ≡ true → w ≡ true) → (r ≡ true → (a && f) ≡ true) → (p ≡ true → r ≡ true) → (m ≡ true → p ≡ true)
    → IsFound (verdict_of w a f g l r p m) w a f
found-bits true true f g l r p m wa gw lw ra pr mp = no (sym wa)
found-bits true false f g l true p m wa gw lw ra pr mp = no (ra refl)
found-bits true false f g l false true m wa gw lw ra pr mp = no (pr refl)
found-bits true false f g l false false true wa gw lw ra pr mp = no (mp refl)
found-bits true false f true l false false false wa gw lw ra pr mp = (λ x. refl, λ x y. refl)
found-bits true false true false true false false false wa gw lw ra pr mp = (λ x. refl, λ x y. refl)
found-bits true false false false true false false false wa gw lw ra pr mp = (λ x. refl, λ x y. refl)
found-bits true false true false false false false false wa gw lw ra pr mp = (λ x. refl, λ x y. refl)
found-bits true false false false false false false false wa gw lw ra pr mp = (λ x. refl, λ x y. refl)
found-bits false a f true l r p m wa gw lw ra pr mp = no (gw refl)
found-bits false a f false true r p m wa gw lw ra pr mp = no (lw refl)
found-bits false true true false false true true true wa gw lw ra pr mp = (λ x. refl, λ x y. refl)
found-bits false true true false false true true false wa gw lw ra pr mp = (λ x. refl, λ x y. refl)
found-bits false true true false false true false true wa gw lw ra pr mp = no (mp refl)
found-bits false true true false false true false false wa gw lw ra pr mp = (λ x. refl, λ x y. refl)
found-bits false true true false false false true m wa gw lw ra pr mp = no (pr refl)
found-bits false true true false false false false true wa gw lw ra pr mp = no (mp refl)
found-bits false true true false false false false false wa gw lw ra pr mp = (λ x. refl, λ x y. refl)
found-bits false true false false false true p m wa gw lw ra pr mp = no (ra refl)
found-bits false true false false false false true m wa gw lw ra pr mp = no (pr refl)
found-bits false true false false false false false true wa gw lw ra pr mp = no (mp refl)
found-bits false true false false false false false false wa gw lw ra pr mp = (λ x. refl, λ x y. refl)
found-bits false false f false false true p m wa gw lw ra pr mp = no (ra refl)
found-bits false false f false false false true m wa gw lw ra pr mp = no (pr refl)
found-bits false false f false false false false true wa gw lw ra pr mp = no (mp refl)
found-bits false false true false false false false false wa gw lw ra pr mp = (λ x. refl, λ x y. refl)
found-bits false false false false false false false false wa gw lw ra pr mp = (λ x. refl, λ x y. refl)

-- a router that holds this after the cycle had these marks before it took effect, as far as what is found of its channels depends on them
pub record ShowsFound (vcs : ℕ) (c : Column) (m : RouterMarks) (idle : ℕ) (h : Held) : Type 0 where
  pub apart : (i : ℕ) → (has_bit c.waiting i && has_bit c.active i) ≡ false
  pub asked : (i : ℕ) → has_bit c.waiting i ≡ true → asked_of idle (h.set i) ≡ asked_of c.idle (m.set i)
  pub packet : (i : ℕ) → h.packet i ≡ m.packet i
  pub taken : (i : ℕ) → has_bit c.active i ≡ true → m.taken i ≡ 2 ^ (h.out_port i * vcs + h.out_vc i)
  pub number : (i : ℕ) → has_bit c.active i ≡ true → (h.out_vc i < vcs) × (h.out_port i * vcs + h.out_vc i < 64)

pub least-power : (n : ℕ) → n < 64 → least (2 ^ n) ≡ n
least-power n few = least-one-is (2 ^ n) n (least (2 ^ n)) refl (least_is (2 ^ n) (pow_pos n) (pow-lt few))

module _ (vcs filled idle : ℕ) (c : Column) (m : RouterMarks) (standing : Standing ℕ) (decided : Decided ℕ) (v : Verdicts ℕ) (waiting granted lost : ℕ) (h : Held)
    (told : IsTold filled decided.picked c standing v waiting granted lost) (shows : ShowsFound vcs c m idle h) (i : ℕ) where
  abbrev sets : ByVerdict
  sets = verdict_sets_by standing decided v waiting granted lost

  abbrev place : ℕ → ℕ × ℕ
  place o = (o / vcs, o % vcs)

  verdict-is : verdict_by (verdict_sets sets) i
      ≡ verdict_of (has_bit c.waiting i) (has_bit c.active i) (has_bit filled i) (has_bit granted i) (has_bit lost i) (has_bit (lane_ready filled c) i) (has_bit decided.picked i) (has_bit v.moved i)
  verdict-is =
      rw (head-is filled c standing decided v waiting granted lost told i, flit-is filled c standing decided v waiting granted lost told i, idle-is filled c standing decided v waiting granted lost told i, credit-is filled c standing decided v waiting granted lost told i, input-is filled c standing decided v waiting granted lost told i, switch-is filled c standing decided v waiting granted lost told i) refl

  follows : IsFound (verdict_by (verdict_sets sets) i) (has_bit c.waiting i) (has_bit c.active i) (has_bit filled i)
  follows =
      subst (λ (x : Verdict). IsFound x (has_bit c.waiting i) (has_bit c.active i) (has_bit filled i)) (sym verdict-is)
      (found-bits (has_bit c.waiting i) (has_bit c.active i) (has_bit filled i) (has_bit granted i) (has_bit lost i) (has_bit (lane_ready filled c) i) (has_bit decided.picked i) (has_bit v.moved i)
      (shows.apart i) (told.granted_are i) (told.lost_are i) (ready-sends filled c standing decided v waiting granted lost told i) (told.picked_are i) (told.moved_are i))

  number-is : has_bit c.active i ≡ true → least (m.taken i) ≡ h.out_port i * vcs + h.out_vc i
  number-is e = ap least (shows.taken i e) ∙ least-power (h.out_port i * vcs + h.out_vc i) ((shows.number i e).1)

  out-at : (w a : Bool) → has_bit c.waiting i ≡ w → has_bit c.active i ≡ a
      → (if w then option_map place (asked_of idle (h.set i)) else if a then Some (h.out_port i, h.out_vc i) else None)
      ≡ option_map place (if w then asked_of c.idle (m.set i) else if a then Some (least (m.taken i)) else None)
  out-at true a ew ea = ap (option_map place) (shows.asked i ew)
  out-at false true ew ea =
      let n = number-is ea in
      let below = (shows.number i ea).0 in
      ap₂ (λ p q. Some (p, q))
      (sym (ap (λ o. o / vcs) n ∙ div-mul-add (h.out_port i) vcs (h.out_vc i) below))
      (sym (ap (λ o. o % vcs) n ∙ mod-mul-add (h.out_port i) vcs (h.out_vc i) below))
  out-at false false ew ea = refl

  pub found-is : finding_of vcs sets idle h i ≡ found_in vcs sets filled c m i
  found-is =
      let holds : ((has_bit c.waiting i || has_bit c.active i) || has_bit filled i) ≡ has_bit (bit_or (bit_or c.waiting c.active) filled) i
      = sym (either_members (bit_or c.waiting c.active) filled i ∙ ap (λ b. b || has_bit filled i) (either_members c.waiting c.active i)) in
      let packet = follows.0 (h.packet i) ∙ ap₂ (λ b p. if b then Some p else None) holds (shows.packet i) in
      let out = follows.1 (option_map place (asked_of idle (h.set i))) (h.out_port i, h.out_vc i) ∙ out-at (has_bit c.waiting i) (has_bit c.active i) refl refl in
      λ x. record { verdict = verdict_by (verdict_sets sets) i; packet = packet x; out = out x }

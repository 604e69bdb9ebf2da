-- What the decisions of a view say of its channels.
use Rattle.std.proofs.Common.{◌≡◌, ℕ, ◌+◌, ◌*◌, ◌/◌, ◌%◌, ◌<◌, Bool, true, false, length, get_or, Option, Some, None, refl, ap, sym, ◌∙◌, arith}
use Rattle.std.specs.Prelude.{◌&&◌, not, is_some, option_and_then, option_map, if◌then◌else◌, slice_index}
use Rattle.std.proofs.lemmas.Bool.{and_parts}
use Rattle.std.proofs.lemmas.Nat.{mul-add-lt, div-mul-add, mod-mul-add, div-add-mod'}
use Rattle.std.proofs.lemmas.List.{get_or-map}
use Rattle.noc_topo.specs.Lists.{tabulate, is_some_of}
use Rattle.noc_topo.specs.Shape.{ports}
use Rattle.noc_topo.proofs.ListLemmas.{length-tabulate, get_or-tabulate}
use Rattle.noc_packet.specs.Set.{has_bit}
use Rattle.noc_vc.specs.Input.{is_waiting, is_empty}
use Rattle.noc_vc.specs.Output.{is_free, has_credit}
use Rattle.noc_vc.specs.declared.input.InputState.{InputState}
use Rattle.noc_vc.specs.declared.input.InputState.TheVariants.{Idle, Waiting, Active}
use Rattle.noc_alloc.specs.Allocation.{grant_of, pick_of, picked_port, winner_of}
use Rattle.noc_alloc.proofs.ArbiterLemmas.{first_in_turn-picks}
use Rattle.noc_alloc.proofs.WordLemmas.{is_some_of-true, is_some_of-some}
use Rattle.noc_view.specs.Found.{empty_finding, finding_at}
use Rattle.noc_view.specs.Verdict.{Claim, Unrouted, Waits, Holds, Stand, Round, ask_of, asks_of, ready_of, ready_port, verdict_of}
use Rattle.noc_alloc.specs.Arbiter.{pointers_of}
use Rattle.noc_view.specs.View.{View, Decisions, decisions_of, view_round, view_stands, view_stand, view_claim, claim_in, asked_for, finding_of, size_of, view_buffer, view_input, view_output, mover, decided_verdict}
use Rattle.noc_view.specs.declared.verdict.Verdict.{Verdict}
use Rattle.noc_view.specs.declared.verdict.Verdict.TheVariants.{Routed, Granted, Moved, LostChannel, LostInput, LostSwitch, Empty}
use Rattle.noc_view.specs.declared.finding.Finding.{Finding}
use Rattle.noc_view.proofs.FindLemmas.{find-some}

-- whether the buffer of channel i holds a flit
abbrev pub holds_flit : View → ℕ → Bool
holds_flit v i = not (is_empty (view_buffer v i))

-- the verdict on channel i, by where it stands
abbrev pub verdict_in : Decisions → View → ℕ → Verdict
verdict_in d v i = verdict_of v.site.vcs d.round i (view_claim v i) (holds_flit v i)

-- ---- claims and states
pub claim-waits : (v : View) (p : InputState) (o : ℕ) → claim_in v p ≡ Waits (Some o) → (is_waiting p ≡ true) × (is_free (view_output v o).holder ≡ true) × (o < size_of v.site)
claim-waits v Idle o e = absurd (cc e)
claim-waits v (Waiting set) o e =
    let asked : asked_for v set ≡ Some o = cc e in
    let r = find-some (λ k. has_bit set k && is_free (view_output v k).holder) (size_of v.site) o asked in
    (refl, (and_parts (has_bit set o) (is_free (view_output v o).holder) r.0).1, r.1)
claim-waits v (Active k) o e = absurd (cc e)

pub claim-holds : (v : View) (p : InputState) (o : ℕ) (b : Bool) → claim_in v p ≡ Holds o b → (p ≡ Active o) × (has_credit (view_output v o) ≡ b)
claim-holds v Idle o b e = absurd (cc e)
claim-holds v (Waiting set) o b e = absurd (cc e)
claim-holds v (Active k) o b e =
    let same : k ≡ o = cc e in
    let credit : has_credit (view_output v k) ≡ b = cc e in
    (ap Active same, ap (λ j. has_credit (view_output v j)) (sym same) ∙ credit)

pub claim-unrouted : (v : View) (p : InputState) → claim_in v p ≡ Unrouted → p ≡ Idle
claim-unrouted v Idle e = refl
claim-unrouted v (Waiting set) e = absurd (cc e)
claim-unrouted v (Active k) e = absurd (cc e)

pub ask_of-some : (c : Claim) (o : ℕ) → ask_of c ≡ Some o → c ≡ Waits (Some o)
ask_of-some Unrouted o e = absurd (cc e)
ask_of-some (Waits ask) o e = ap Waits e
ask_of-some (Holds n b) o e = absurd (cc e)

pub ready_port-some : (vcs : ℕ) (c : Claim) (b : Bool) (p : ℕ) → ready_port vcs c b ≡ Some p → (o : ℕ) × (c ≡ Holds o true) × (b ≡ true) × (o / vcs ≡ p)
ready_port-some vcs Unrouted b p e = absurd (cc e)
ready_port-some vcs (Waits ask) b p e = absurd (cc e)
ready_port-some vcs (Holds o false) b p e = absurd (cc e)
ready_port-some vcs (Holds o true) false p e = absurd (cc e)
ready_port-some vcs (Holds o true) true p e = let s : o / vcs ≡ p = cc e in (o, refl, refl, s)

-- ---- what a verdict says
pub verdict-moved : (vcs : ℕ) (r : Round) (i : ℕ) (c : Claim) (b : Bool) → verdict_of vcs r i c b ≡ Moved
    → (o : ℕ) × (c ≡ Holds o true) × (b ≡ true) × (get_or r.picks (i / vcs) None ≡ Some (i % vcs)) × (get_or r.wins (o / vcs) None ≡ Some (i / vcs))
verdict-moved vcs r i Unrouted false e = absurd (cc e)
verdict-moved vcs r i Unrouted true e = absurd (cc e)
verdict-moved vcs r i (Waits None) b e = absurd (cc e)
verdict-moved vcs r i (Waits (Some o)) b e = at (is_some_of (get_or r.grants o None) i) e
  where
    at : (t : Bool) → (if t then Granted else LostChannel) ≡ Moved
        → (n : ℕ) × (Waits (Some o) ≡ Holds n true) × (b ≡ true) × (get_or r.picks (i / vcs) None ≡ Some (i % vcs)) × (get_or r.wins (n / vcs) None ≡ Some (i / vcs))
    at true h = absurd (cc h)
    at false h = absurd (cc h)
verdict-moved vcs r i (Holds o credit) false e = absurd (cc e)
verdict-moved vcs r i (Holds o false) true e = absurd (cc e)
verdict-moved vcs r i (Holds o true) true e = at (is_some_of (get_or r.picks (i / vcs) None) (i % vcs)) refl (is_some_of (get_or r.wins (o / vcs) None) (i / vcs)) refl e
  where
    at : (s : Bool) → is_some_of (get_or r.picks (i / vcs) None) (i % vcs) ≡ s → (t : Bool) → is_some_of (get_or r.wins (o / vcs) None) (i / vcs) ≡ t
        → (if s then (if t then Moved else LostSwitch) else LostInput) ≡ Moved
        → (n : ℕ) × (Holds o true ≡ Holds n true) × (true ≡ true) × (get_or r.picks (i / vcs) None ≡ Some (i % vcs)) × (get_or r.wins (n / vcs) None ≡ Some (i / vcs))
    at true p true w h = (o, refl, refl, is_some_of-true (get_or r.picks (i / vcs) None) (i % vcs) p, is_some_of-true (get_or r.wins (o / vcs) None) (i / vcs) w)
    at true p false w h = absurd (cc h)
    at false p t w h = absurd (cc h)

pub verdict-granted : (vcs : ℕ) (r : Round) (i : ℕ) (c : Claim) (b : Bool) → verdict_of vcs r i c b ≡ Granted → (o : ℕ) × (c ≡ Waits (Some o)) × (get_or r.grants o None ≡ Some i)
verdict-granted vcs r i Unrouted false e = absurd (cc e)
verdict-granted vcs r i Unrouted true e = absurd (cc e)
verdict-granted vcs r i (Waits None) b e = absurd (cc e)
verdict-granted vcs r i (Waits (Some o)) b e = at (is_some_of (get_or r.grants o None) i) refl e
  where
    at : (t : Bool) → is_some_of (get_or r.grants o None) i ≡ t → (if t then Granted else LostChannel) ≡ Granted → (n : ℕ) × (Waits (Some o) ≡ Waits (Some n)) × (get_or r.grants n None ≡ Some i)
    at true t h = (o, refl, is_some_of-true (get_or r.grants o None) i t)
    at false t h = absurd (cc h)
verdict-granted vcs r i (Holds o credit) false e = absurd (cc e)
verdict-granted vcs r i (Holds o false) true e = absurd (cc e)
verdict-granted vcs r i (Holds o true) true e = at (is_some_of (get_or r.picks (i / vcs) None) (i % vcs)) (is_some_of (get_or r.wins (o / vcs) None) (i / vcs)) e
  where
    at : (s t : Bool) → (if s then (if t then Moved else LostSwitch) else LostInput) ≡ Granted → (n : ℕ) × (Holds o true ≡ Waits (Some n)) × (get_or r.grants n None ≡ Some i)
    at true true h = absurd (cc h)
    at true false h = absurd (cc h)
    at false t h = absurd (cc h)

pub verdict-routed : (vcs : ℕ) (r : Round) (i : ℕ) (c : Claim) (b : Bool) → verdict_of vcs r i c b ≡ Routed → (c ≡ Unrouted) × (b ≡ true)
verdict-routed vcs r i Unrouted false e = absurd (cc e)
verdict-routed vcs r i Unrouted true e = (refl, refl)
verdict-routed vcs r i (Waits None) b e = absurd (cc e)
verdict-routed vcs r i (Waits (Some o)) b e = at (is_some_of (get_or r.grants o None) i) e
  where
    at : (t : Bool) → (if t then Granted else LostChannel) ≡ Routed → (Waits (Some o) ≡ Unrouted) × (b ≡ true)
    at true h = absurd (cc h)
    at false h = absurd (cc h)
verdict-routed vcs r i (Holds o credit) false e = absurd (cc e)
verdict-routed vcs r i (Holds o false) true e = absurd (cc e)
verdict-routed vcs r i (Holds o true) true e = at (is_some_of (get_or r.picks (i / vcs) None) (i % vcs)) (is_some_of (get_or r.wins (o / vcs) None) (i / vcs)) e
  where
    at : (s t : Bool) → (if s then (if t then Moved else LostSwitch) else LostInput) ≡ Routed → (Holds o true ≡ Unrouted) × (true ≡ true)
    at true true h = absurd (cc h)
    at true false h = absurd (cc h)
    at false t h = absurd (cc h)

-- ---- what a plan says
-- the lists of a plan
pub record Lists (d : Decisions) (v : View) : Type 0 where
  pub grants : d.round.grants ≡ tabulate (size_of v.site) (grant_of (asks_of (view_stands v)) (size_of v.site) (pointers_of v.arbiters.channels))
  pub picks : d.round.picks ≡ tabulate (ports v.site.grid) (pick_of (ready_of v.site.vcs (view_stands v)) v.site.vcs (pointers_of v.arbiters.inputs))
  pub wins : d.round.wins ≡ tabulate (ports v.site.grid) (winner_of (ready_of v.site.vcs (view_stands v)) v.site.vcs (ports v.site.grid) d.round.picks (pointers_of v.arbiters.outputs))
  pub findings : d.findings ≡ tabulate (size_of v.site) (finding_of d.round v)

pub lists_of_round : (relation : _) (v : View) → Lists (decisions_of relation v) v
unfolding decisions_of view_round
lists_of_round relation v = record { grants = refl; picks = refl; wins = refl; findings = refl }

-- a channel below the size asks for and is ready for what its claim says
pub asks-at : (v : View) (i : ℕ) → i < size_of v.site → get_or (asks_of (view_stands v)) i None ≡ ask_of (view_claim v i)
asks-at v i l =
    get_or-map (λ (stand : Stand). ask_of stand.claim) (view_stands v) i (view_stand v i) None (omega (arith, length-tabulate (size_of v.site) (view_stand v)))
    ∙ ap (λ (stand : Stand). ask_of stand.claim) (get_or-tabulate (size_of v.site) i (view_stand v) (view_stand v i) l)

ready-at : (v : View) (i : ℕ) → i < size_of v.site → get_or (ready_of v.site.vcs (view_stands v)) i None ≡ ready_port v.site.vcs (view_claim v i) (holds_flit v i)
ready-at v i l =
    get_or-map (λ (stand : Stand). ready_port v.site.vcs stand.claim stand.has_flit) (view_stands v) i (view_stand v i) None (omega (arith, length-tabulate (size_of v.site) (view_stand v)))
    ∙ ap (λ (stand : Stand). ready_port v.site.vcs stand.claim stand.has_flit) (get_or-tabulate (size_of v.site) i (view_stand v) (view_stand v i) l)

pub finding-is : (d : Decisions) (v : View) (i : ℕ) → Lists d v → i < size_of v.site → finding_at d.findings i ≡ finding_of d.round v i
finding-is d v i lists l = ap (λ xs. finding_at xs i) lists.findings ∙ get_or-tabulate (size_of v.site) i (finding_of d.round v) empty_finding l

pub verdict-is : (d : Decisions) (v : View) (i : ℕ) → Lists d v → i < size_of v.site → (finding_at d.findings i).verdict ≡ verdict_in d v i
verdict-is d v i lists l = ap (λ (f : Finding). f.verdict) (finding-is d v i lists l)

-- the verdict of a decision is that of its finding
pub verdict-at : (d : Decisions) (i : ℕ) → i < length d.findings → decided_verdict d i ≡ (finding_at d.findings i).verdict
verdict-at d i l = get_or-map (λ (finding : Finding). finding.verdict) d.findings i empty_finding Empty l

pub decided-is : (d : Decisions) (v : View) (i : ℕ) → Lists d v → i < size_of v.site → decided_verdict d i ≡ verdict_in d v i
decided-is d v i lists l =
    verdict-at d i (let n : length d.findings ≡ size_of v.site = ap length lists.findings ∙ length-tabulate (size_of v.site) (finding_of d.round v) in omega arith)
    ∙ verdict-is d v i lists l

-- who is granted an output channel asks for it
pub granted-asks : (d : Decisions) (v : View) (o i : ℕ) → Lists d v → o < size_of v.site → get_or d.round.grants o None ≡ Some i → (i < size_of v.site) × (view_claim v i ≡ Waits (Some o))
granted-asks d v o i lists l e =
    let n = size_of v.site in
    let asks = asks_of (view_stands v) in
    let ps = pointers_of v.arbiters.channels in
    let g : grant_of asks n ps o ≡ Some i = sym (ap (λ xs. get_or xs o None) lists.grants ∙ get_or-tabulate n o (grant_of asks n ps) None l) ∙ e in
    let r = first_in_turn-picks n (slice_index ps o) i (λ k. is_some_of (get_or asks k None) o) g in
    let a : get_or asks i None ≡ Some o = is_some_of-true (get_or asks i None) o r.0 in
    (r.1, ask_of-some (view_claim v i) o (sym (asks-at v i r.1) ∙ a))

pub is-granted : (d : Decisions) (v : View) (o i : ℕ) → view_claim v i ≡ Waits (Some o) → get_or d.round.grants o None ≡ Some i → verdict_in d v i ≡ Granted
is-granted d v o i c g =
    ap (λ claim. verdict_of v.site.vcs d.round i claim (holds_flit v i)) c
    ∙ ap (λ b. if b then Granted else LostChannel) (is_some_of-some (get_or d.round.grants o None) i g)

-- ---- who moves through an output port
-- a channel that moves through an output port
pub record Mover (d : Decisions) (v : View) (port i : ℕ) : Type 0 where
  pub out : ℕ
  pub within : i < size_of v.site
  pub claim : view_claim v i ≡ Holds out true
  pub flit : holds_flit v i ≡ true
  pub to : out / v.site.vcs ≡ port
  pub verdict : verdict_in d v i ≡ Moved

mover-from : (d : Decisions) (v : View) (port q vc i : ℕ) → Lists d v → port < ports v.site.grid → get_or d.round.wins port None ≡ Some q → get_or d.round.picks q None ≡ Some vc → q * v.site.vcs + vc ≡ i → Mover d v port i
mover-from d v port q vc i lists l won picked is =
    let p = ports v.site.grid in
    let vcs = v.site.vcs in
    let ready = ready_of vcs (view_stands v) in
    let pw = pointers_of v.arbiters.outputs in
    let pp = pointers_of v.arbiters.inputs in
    let w : winner_of ready vcs p d.round.picks pw port ≡ Some q = sym (ap (λ xs. get_or xs port None) lists.wins ∙ get_or-tabulate p port (winner_of ready vcs p d.round.picks pw) None l) ∙ won in
    let rw_ = first_in_turn-picks p (slice_index pw port) q (λ k. is_some_of (picked_port ready vcs d.round.picks k) port) w in
    let goes : picked_port ready vcs d.round.picks q ≡ Some port = is_some_of-true (picked_port ready vcs d.round.picks q) port rw_.0 in
    let here : get_or ready (q * vcs + vc) None ≡ Some port = sym (ap (λ (o : Option ℕ). option_and_then (λ k. get_or ready (q * vcs + k) None) o) picked) ∙ goes in
    let pk : pick_of ready vcs pp q ≡ Some vc = sym (ap (λ xs. get_or xs q None) lists.picks ∙ get_or-tabulate p q (pick_of ready vcs pp) None rw_.1) ∙ picked in
    let rp = first_in_turn-picks vcs (slice_index pp q) vc (λ k. is_some (get_or ready (q * vcs + k) None)) pk in
    let m : q * vcs + vc < vcs * p = mul-add-lt q vcs vc p rw_.1 rp.1 in
    let inside : i < size_of v.site = omega arith in
    let r : ready_port vcs (view_claim v i) (holds_flit v i) ≡ Some port = sym (ready-at v i inside) ∙ ap (λ k. get_or ready k None) (sym is) ∙ here in
    let c = ready_port-some vcs (view_claim v i) (holds_flit v i) port r in
    let row : i / vcs ≡ q = ap (λ k. k / vcs) (sym is) ∙ div-mul-add q vcs vc rp.1 in
    let col : i % vcs ≡ vc = ap (λ k. k % vcs) (sym is) ∙ mod-mul-add q vcs vc rp.1 in
    record {
      out = c.0;
      within = inside;
      claim = c.1;
      flit = c.2;
      to = c.3;
      verdict =
          ap (λ claim. verdict_of vcs d.round i claim (holds_flit v i)) c.1
          ∙ ap (λ b. verdict_of vcs d.round i (Holds c.0 true) b) c.2
          ∙ moved (get_or d.round.picks (i / vcs) None) (get_or d.round.wins (c.0 / vcs) None) (i / vcs) (i % vcs)
          (ap (λ k. get_or d.round.picks k None) row ∙ picked ∙ ap Some (sym col)) (ap (λ k. get_or d.round.wins k None) c.3 ∙ won ∙ ap Some (sym row));
    }
  where
    moved : (pick win : Option ℕ) (q vc : ℕ) → pick ≡ Some vc → win ≡ Some q → (if is_some_of pick vc then (if is_some_of win q then Moved else LostSwitch) else LostInput) ≡ Moved
    moved pick win q vc a b =
        ap (λ t. if t then (if is_some_of win q then Moved else LostSwitch) else LostInput) (is_some_of-some pick vc a)
        ∙ ap (λ t. if t then Moved else LostSwitch) (is_some_of-some win q b)

pub mover-is : (d : Decisions) (v : View) (port i : ℕ) → Lists d v → port < ports v.site.grid → mover v.site d.round port ≡ Some i → Mover d v port i
mover-is d v port i lists l e = won (get_or d.round.wins port None) refl e
  where
    picked : (q : ℕ) → get_or d.round.wins port None ≡ Some q → (o : Option ℕ) → get_or d.round.picks q None ≡ o → option_map (λ vc. q * v.site.vcs + vc) o ≡ Some i → Mover d v port i
    picked q w None p h = absurd (cc h)
    picked q w (Some vc) p h = mover-from d v port q vc i lists l w p (let s : q * v.site.vcs + vc ≡ i = cc h in s)

    won : (o : Option ℕ) → get_or d.round.wins port None ≡ o → option_and_then (λ q. option_map (λ vc. q * v.site.vcs + vc) (get_or d.round.picks q None)) o ≡ Some i → Mover d v port i
    won None w h = absurd (cc h)
    won (Some q) w h = picked q w (get_or d.round.picks q None) refl h

-- a channel with the verdict Moved
pub record Moves (d : Decisions) (v : View) (i : ℕ) : Type 0 where
  pub out : ℕ
  pub phase : (view_input v i).phase ≡ Active out
  pub credit : has_credit (view_output v out) ≡ true
  pub claim : view_claim v i ≡ Holds out true
  pub flit : holds_flit v i ≡ true
  pub pick : get_or d.round.picks (i / v.site.vcs) None ≡ Some (i % v.site.vcs)
  pub mover : mover v.site d.round (out / v.site.vcs) ≡ Some i

pub moves-is : (d : Decisions) (v : View) (i : ℕ) → 0 < v.site.vcs → verdict_in d v i ≡ Moved → Moves d v i
moves-is d v i some e =
    let m = verdict-moved v.site.vcs d.round i (view_claim v i) (holds_flit v i) e in
    let p = claim-holds v (view_input v i).phase m.0 true m.1 in
    record {
      out = m.0;
      phase = p.0;
      credit = p.1;
      claim = m.1;
      flit = m.2;
      pick = m.3;
      mover =
          ap (λ (o : Option ℕ). option_and_then (λ q. option_map (λ vc. q * v.site.vcs + vc) (get_or d.round.picks q None)) o) m.4
          ∙ ap (λ (o : Option ℕ). option_map (λ vc. i / v.site.vcs * v.site.vcs + vc) o) m.3
          ∙ ap Some (div-add-mod' i v.site.vcs);
    }

-- two channels of one input port do not both move
pub one_pick : (d : Decisions) (v : View) (i j : ℕ) → 0 < v.site.vcs → verdict_in d v i ≡ Moved → verdict_in d v j ≡ Moved → i / v.site.vcs ≡ j / v.site.vcs → i % v.site.vcs ≡ j % v.site.vcs
one_pick d v i j some a b same =
    let m = moves-is d v i some a in
    let n = moves-is d v j some b in
    let s : Some (i % v.site.vcs) ≡ Some (j % v.site.vcs) = sym m.pick ∙ ap (λ q. get_or d.round.picks q None) same ∙ n.pick in
    cc

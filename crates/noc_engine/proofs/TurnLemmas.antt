-- Each router of a block has its turn.
use Rattle.std.proofs.Common.{◌≡◌, ◌≢◌, ℕ, ◌+◌, ◌-◌, ◌*◌, ◌^◌, ◌<◌, ◌≤◌, Bool, true, false, List, length, map, arith, ap, ap₂, refl, subst, sym, ◌∙◌, inl, inr, bit_or}
use Rattle.std.specs.Prelude.{◌⊎◌, ◌&&◌, ◌||◌, not, nat_eq}
use Rattle.std.proofs.lemmas.Bool.{cases_eq, cases_lt, eq-eqb, false≢true, ne_eqb}
use Rattle.std.proofs.lemmas.List.{length-map}
use Rattle.noc_packet.specs.Set.{has_bit}
use Rattle.noc_packet.proofs.SetLemmas.{either_members, has_bit-zero}
use Rattle.noc_sets.specs.Grants.{asked_of}
use Rattle.noc_sets.specs.Counts.{with_verdicts}
use Rattle.noc_topo.specs.Lists.{one_if}
use Rattle.noc_topo.specs.Shape.{nodes}
use Rattle.noc_alloc.specs.Members.{MembersAreBelow}
use Rattle.noc_route.specs.Routes.{Routes}
use Rattle.noc_sets.specs.Cycle.{Router, Still, Turn, still_of}
use Rattle.noc_sets.specs.Layout.{Layout}
use Rattle.noc_sets.specs.Sets.{least}
use Rattle.noc_sets.specs.Unions.{some_below}
use Rattle.noc_sets.proofs.MemberLemmas.{either-zero, least_below, least_is}
use Rattle.noc_sets.proofs.UnionLemmas.{some-none, some-same}
use Rattle.noc_theory.specs.Good.{IsGoodSetup}
use Rattle.noc_theory.specs.Lockstep.{view_at}
use Rattle.noc_theory.specs.Network.{Setup}
use Rattle.noc_theory.specs.declared.limits.TheConstants.{CYCLE_LIMIT}
use Rattle.noc_theory_bits.specs.Network.{all_starts, numbers_in, tells_in}
use Rattle.noc_columns.specs.Heads.{packet_in}
use Rattle.noc_columns.specs.Picks.{channels_of}
use Rattle.noc_columns.specs.Routing.{AreRoutable, IsOfPorts, header_of, sets_by}
use Rattle.noc_columns.specs.Sources.{start_by, starts_by}
use Rattle.noc_columns.specs.Supply.{digits_by, number_in}
use Rattle.noc_columns.specs.Words.{set_of}
use Rattle.noc_columns.specs.declared.channels.Links.{Links}
use Rattle.noc_columns.specs.declared.header.Header.{Header}
use Rattle.noc_columns.specs.declared.starts.Start.{Start}
use Rattle.noc_columns.specs.declared.ports.RouterPorts.{RouterPorts}
use Rattle.noc_columns.proofs.PickLemmas.{some-each}
use Rattle.noc_sets.specs.Found.{found_in}
use Rattle.noc_columns.specs.declared.channels.Decided.{Decided}
use Rattle.noc_columns.specs.declared.channels.Standing.{Standing}
use Rattle.noc_columns.specs.declared.channels.Verdicts.{Verdicts}
use Rattle.noc_counts.specs.Findings.{finding_of, outs_of}
use Rattle.noc_counts.specs.Counts.{WaitsOn}
use Rattle.noc_counts.specs.Told.{told_at}
use Rattle.noc_counts.proofs.DecidedLemmas.{asks-for-granted, is-told, shows-found}
use Rattle.noc_counts.proofs.FoundLemmas.{found-is}
use Rattle.noc_counts.proofs.VerdictLemmas.{waits-on}
use Rattle.noc_counts.proofs.WantedLemmas.{all-wanted, was-waiting}
use Rattle.noc_cycles.specs.Concluding.{HasConcludedHeld, decided_at, standing_at, verdicts_at}
use Rattle.noc_cycles.specs.Deciding.{HasDecidedHeld}
use Rattle.noc_cycles.specs.Gathered.{ShowsLeft}
use Rattle.noc_cycles.specs.Held.{Held, ShowsHeld, ShowsStill, held_at, links_at}
use Rattle.noc_cycles.specs.May.{MayDecide, MayInject, MayTake}
use Rattle.noc_cycles.specs.Taking.{FitsLayout, HasTaken, IsPunctual, MaySend, links_count}
use Rattle.noc_cycles.specs.Through.{HasGoneThrough, worked_at}
use Rattle.noc_cycles.specs.Told.{Tells, port_in, vc_in}
use Rattle.noc_cycles.specs.Turning.{HasWorkedHeld, ShowsTurn, verdict_sets_by}
use Rattle.noc_cycles.specs.declared.block.Block.{Block}
use Rattle.noc_cycles.specs.declared.block.Work.{Work}
use Rattle.noc_cycles.specs.declared.pattern.Pattern.{Pattern}
use Rattle.noc_cycles.proofs.TurningLemmas.{worked-through}
use Rattle.noc_theory_cycles.specs.Blank.{channels_count}
use Rattle.noc_theory_cycles.specs.Fits.{FitsNetwork, bits_of, layout_of}
use Rattle.noc_theory_cycles.specs.Nodes.{IsNodeTurn, ShowsNode}
use Rattle.noc_theory_cycles.proofs.HeadLemmas.{routable}
use Rattle.noc_theory_cycles.proofs.LayoutLemmas.{fits-layout}
use Rattle.noc_theory_cycles.proofs.NodeLemmas.{node-may-conclude, node-may-decide, node-may-inject, node-may-take}
use Rattle.noc_theory_cycles.proofs.TellLemmas.{node-tells}
use Rattle.noc_engine.specs.Finds.{found_at}
use Rattle.noc_engine.specs.Turns.{HasTurnedBlock, MayTurn}
use Rattle.noc_engine.specs.declared.plan.Plan.{Plan}
use Rattle.noc_engine.proofs.WholeLemmas.{plan-fits}

-- ---- in which routers something is
some-bits : (x : ℕ) → x < 2 ^ 64 → not (nat_eq x 0) ≡ some_below 64 (has_bit x)
some-bits x fits = elim (cases_eq x 0) [
  | inl none ↦ ap not (eq-eqb x 0 none) ∙ sym (some-none 64 (has_bit x) (λ q l. ap (λ w. has_bit w q) none ∙ has_bit-zero q))
  | inr some ↦
      let more : 0 < x = omega arith in
      ap not (ne_eqb x 0 some) ∙ sym (some-each 64 (has_bit x) (least x) (least_below x more fits) (least_is x more fits).0)
]

pub happens-bits : (heads granted moved : ℕ) (f g h : ℕ → ℕ) → ((r : ℕ) → has_bit heads r ≡ not (nat_eq (f r) 0)) → ((r : ℕ) → has_bit granted r ≡ not (nat_eq (g r) 0)) → ((r : ℕ) → has_bit moved r ≡ not (nat_eq (h r) 0))
    → (r : ℕ) → has_bit (bit_or (bit_or heads granted) moved) r ≡ not (nat_eq (bit_or (bit_or (f r) (g r)) (h r)) 0)
happens-bits heads granted moved f g h a b d r =
    either_members (bit_or heads granted) moved r
    ∙ ap₂ (λ x y. x || y) (either_members heads granted r ∙ ap₂ (λ x y. x || y) (a r) (b r)) (d r)
    ∙ by (nat_eq (f r) 0) (nat_eq (g r) 0) (nat_eq (h r) 0)
    ∙ sym (ap not (either-zero (bit_or (f r) (g r)) (h r) ∙ ap (λ y. y && nat_eq (h r) 0) (either-zero (f r) (g r))))
  where
    by : (p q t : Bool) → ((not p || not q) || not t) ≡ not ((p && q) && t)
    by true true t = refl
    by true false t = refl
    by false q t = refl

-- .. or comes
pub some-comes-or-happens : (flits credits happens : ℕ) (f g : ℕ → ℕ) (test : ℕ → Bool) → bit_or (bit_or flits credits) happens < 2 ^ 64 → ((r : ℕ) → has_bit flits r ≡ not (nat_eq (f r) 0)) → ((r : ℕ) → has_bit credits r ≡ not (nat_eq (g r) 0))
    → ((r : ℕ) → has_bit happens r ≡ test r) → not (nat_eq (bit_or (bit_or flits credits) happens) 0) ≡ some_below 64 (λ r. not (nat_eq (bit_or (f r) (g r)) 0) || test r)
some-comes-or-happens flits credits happens f g test fits a b d = some-bits all fits ∙ ap (some_below 64) (λ i r. each r i)
  where
    all : ℕ
    all = bit_or (bit_or flits credits) happens

    by : (p q : Bool) → (not p || not q) ≡ not (p && q)
    by true q = refl
    by false q = refl

    each : (r : ℕ) → has_bit all r ≡ (not (nat_eq (bit_or (f r) (g r)) 0) || test r)
    each r =
        either_members (bit_or flits credits) happens r
        ∙ ap₂ (λ x y. x || y)
        (either_members flits credits r ∙ ap₂ (λ x y. x || y) (a r) (b r) ∙ by (nat_eq (f r) 0) (nat_eq (g r) 0) ∙ sym (ap not (either-zero (f r) (g r)))) (d r)

-- .. where a source injects
pub injected-happens : (injected : ℕ) (comes test : ℕ → Bool) → injected < 2 ^ 64 → injected ≢ 0 → ((r : ℕ) → has_bit injected r ≡ true → comes r ≡ true) → true ≡ some_below 64 (λ r. comes r || test r)
injected-happens injected comes test fits some are =
    let more : 0 < injected = omega (arith, some) in
    sym (some-each 64 (λ r. comes r || test r) (least injected) (least_below injected more fits) (ap (λ b. b || test (least injected)) (are (least injected) (least_is injected more fits).0)))

-- ---- one router
-- what is found of it follows from its verdicts and the output channels that are granted
findings-follow : (pattern : Pattern) (layout : Layout) (sets : ℕ → ℕ → ℕ) (s : Still) (a h n : Held) (standing : Standing ℕ) (decided : Decided ℕ) (granted lost arrived : ℕ) (left gone : Links ℕ) (v w : Verdicts ℕ)
    → ShowsStill pattern a standing v.no_credit s → HasDecidedHeld pattern layout sets s a h standing decided granted lost left → HasConcludedHeld pattern standing decided granted gone arrived h n v w
    → ((i : ℕ) → has_bit a.inputs.active i ≡ true → has_bit a.waiting i ≡ false) → MembersAreBelow (channels_count pattern) a.waiting → MembersAreBelow (channels_count pattern) a.idle
    → ((i o : ℕ) → has_bit a.waiting i ≡ true → has_bit (a.set i) o ≡ true → has_bit a.wanted o ≡ true)
    → (i : ℕ)
    → finding_of pattern.table.ports.links.vcs (verdict_sets_by standing decided w n.inputs.waiting granted lost) (outs_of (channels_count pattern) pattern.table.ports.links.vcs granted n) n i
    ≡ found_in pattern.table.ports.links.vcs (verdict_sets_by standing decided w n.inputs.waiting granted lost) s.filled s.column s.marks i
findings-follow pattern layout sets s a h n standing decided granted lost arrived left gone v w shows did done apart below idles wanted i =
    let vcs = pattern.table.ports.links.vcs in
    let size = channels_count pattern in
    found-is vcs s.filled (outs_of size vcs granted n) s.column s.marks standing decided w n.inputs.waiting granted lost n
    (is-told pattern layout sets s a h standing decided granted lost v.no_credit left shows did v w n arrived gone refl done)
    (shows-found pattern layout sets s a h standing decided granted lost v.no_credit left shows did v w n arrived gone refl done apart (outs_of size vcs granted n)
    (λ k waits. asks-for-granted pattern layout sets s a h standing decided granted lost v.no_credit left shows did v w n arrived gone refl done below idles wanted k waits
    ∙ (λ x. asked_of (outs_of size vcs granted (sym done.rest x)) (s.marks.set k)))) i

-- this is its turn, of which these words of its block tell
pub record IsTurned (net : Setup) (pattern : Pattern) (layout : Layout) (n node r : ℕ) (b : Router) (block : Block) (work : Work) (left : Links (List ℕ)) (happens : Bool) (t : Turn) : Type 0 where
  pub turn : IsNodeTurn net pattern layout n node b t
  pub shows : ShowsTurn pattern (held_at pattern.table.ports block r) t
  pub leaves : ShowsLeft (links_count pattern) (links_at pattern.table.ports left r) t.left
  pub arrived : set_of (channels_of pattern.table.ports) r work.arrived ≡ t.arrived
  pub told : Tells net.relation.grid net.relation.vcs node (set_of (channels_of pattern.table.ports) r block.grants.granted) (port_in pattern.table.ports block r) (vc_in pattern.table.ports block r) (packet_in block.packets r) (tells_in net layout n b t)
  pub counted : (i : ℕ) → t.counts i ≡ with_verdicts (told_at (channels_of pattern.table.ports) block work r) i (b.counts i)
  pub waits : (i : ℕ) → WaitsOn (told_at (channels_of pattern.table.ports) block work r) i (one_if (has_bit b.column.waiting i)) (one_if (has_bit t.column.waiting i))
  pub found : (i : ℕ) → t.found i ≡ found_at pattern block work r i
  pub happened : t.happened ≡ happens

module _ (count : ℕ) (net : Setup) (layout : Layout) (pattern : Pattern) (n node r : ℕ) (links : Links ℕ) (h : Held) (b : Router) (b1 b2 b3 : Block) (w1 w2 w3 : Work) (sent gone : Links (List ℕ)) (comes : Bool)
    (setup : IsGoodSetup net) (few : n < CYCLE_LIMIT) (fits : FitsNetwork count net layout pattern) (fits_layout : FitsLayout pattern layout) (is : ShowsNode count net pattern n node links h b)
    (takes : HasTaken pattern layout (all_starts net) n b (held_at pattern.table.ports b1 r) (standing_at pattern.table.ports w1.standing r) (set_of (channels_of pattern.table.ports) r w1.verdicts.no_credit) comes)
    (decides : HasDecidedHeld pattern layout (sets_by net.relation (map header_of net.packets) node) (still_of layout (all_starts net) n takes.up b) (held_at pattern.table.ports b1 r) (held_at pattern.table.ports b2 r)
    (standing_at pattern.table.ports w1.standing r) (decided_at pattern.table.ports w2.decided r) (set_of (channels_of pattern.table.ports) r b2.grants.granted) (set_of (channels_of pattern.table.ports) r w2.lost) (links_at pattern.table.ports sent r))
    (concludes : HasConcludedHeld pattern (standing_at pattern.table.ports w2.standing r) (decided_at pattern.table.ports w2.decided r) (set_of (channels_of pattern.table.ports) r b2.grants.granted) (links_at pattern.table.ports gone r)
    (set_of (channels_of pattern.table.ports) r w3.arrived) (held_at pattern.table.ports b2 r) (held_at pattern.table.ports b3 r) (verdicts_at pattern.table.ports w2.verdicts r) (verdicts_at pattern.table.ports w3.verdicts r))
    (deciding_block : b2 ≡ record b1 { grants = b2.grants; marks = b2.marks; switch = b2.switch }) (deciding_work : w2 ≡ record w1 { decided = w2.decided; lost = w2.lost; picks = w2.picks })
    (concluding_block : b3 ≡ record b2 { inputs = b3.inputs; outputs = b3.outputs; marks = b3.marks })
    (concluding_work : w3 ≡ record w2 { verdicts = w3.verdicts; arrived = w3.arrived; leaving = w3.leaving }) (concluding_left : gone ≡ record sent { credits = gone.credits }) where
  abbrev ports : RouterPorts
  ports = pattern.table.ports

  abbrev all : List ℕ → ℕ
  all = set_of (channels_of pattern.table.ports) r

  abbrev sets : ℕ → ℕ → ℕ
  sets = sets_by net.relation (map header_of net.packets) node

  -- what is not written stays
  standing-later : w2.standing ≡ w3.standing
  standing-later = sym (ap (λ (w : Work). w.standing) concluding_work)

  standing-on : w1.standing ≡ w3.standing
  standing-on = sym (ap (λ (w : Work). w.standing) deciding_work) ∙ standing-later

  decided-on : w2.decided ≡ w3.decided
  decided-on = sym (ap (λ (w : Work). w.decided) concluding_work)

  lost-on : w2.lost ≡ w3.lost
  lost-on = sym (ap (λ (w : Work). w.lost) concluding_work)

  verdicts-on : w1.verdicts ≡ w2.verdicts
  verdicts-on = sym (ap (λ (w : Work). w.verdicts) deciding_work)

  grants-on : b2.grants ≡ b3.grants
  grants-on = sym (ap (λ (x : Block). x.grants) concluding_block)

  packets-on : b2.packets ≡ b3.packets
  packets-on = sym (ap (λ (x : Block). x.packets) concluding_block)

  packets-all : b3.packets ≡ b1.packets
  packets-all = sym packets-on ∙ ap (λ (x : Block). x.packets) deciding_block

  -- the three parts, by the words after them
  abbrev taken : HasTaken pattern layout (all_starts net) n b (held_at ports b1 r) (standing_at ports w3.standing r) (all w2.verdicts.no_credit) comes
  taken = record {
    up = takes.up;
    ups = takes.ups;
    up_fits = takes.up_fits;
    shows = coe 0 1 (x. ShowsStill pattern (held_at ports b1 r) (standing_at ports (standing-on x) r) (all (verdicts-on x).no_credit) (still_of layout (all_starts net) n takes.up b)) takes.shows;
    happened = takes.happened;
  }

  decided : HasDecidedHeld pattern layout sets (still_of layout (all_starts net) n takes.up b) (held_at ports b1 r) (held_at ports b2 r) (standing_at ports w3.standing r) (decided_at ports w3.decided r) (all b3.grants.granted) (all w3.lost) (links_at ports sent r)
  decided = coe 0 1
      (x. HasDecidedHeld pattern layout sets (still_of layout (all_starts net) n takes.up b) (held_at ports b1 r) (held_at ports b2 r) (standing_at ports (standing-on x) r) (decided_at ports (decided-on x) r) (all (grants-on x).granted) (all (lost-on x)) (links_at ports sent r))
      decides

  concluded : HasConcludedHeld pattern (standing_at ports w3.standing r) (decided_at ports w3.decided r) (all b3.grants.granted) (links_at ports gone r) (all w3.arrived) (held_at ports b2 r) (held_at ports b3 r) (verdicts_at ports w2.verdicts r) (verdicts_at ports w3.verdicts r)
  concluded = coe 0 1
      (x. HasConcludedHeld pattern (standing_at ports (standing-later x) r) (decided_at ports (decided-on x) r) (all (grants-on x).granted) (links_at ports gone r) (all w3.arrived) (held_at ports b2 r) (held_at ports b3 r) (verdicts_at ports w2.verdicts r) (verdicts_at ports w3.verdicts r))
      concludes

  abbrev happens : Bool
  happens = comes || not (nat_eq (bit_or (bit_or (all w3.standing.heads) (all b3.grants.granted)) (all w3.verdicts.moved)) 0)

  abbrev goes : HasGoneThrough pattern layout (all_starts net) sets n b (held_at ports b3 r) (worked_at ports b3 w3 gone r) happens
  goes = record {
    still = held_at ports b1 r;
    chosen = held_at ports b2 r;
    sent = links_at ports sent r;
    before = verdicts_at ports w2.verdicts r;
    comes = comes;
    takes = taken;
    decides = decided;
    concludes = concluded;
    sent_is = ap (λ (x : Links (List ℕ)). links_at ports x r) concluding_left;
    happened = refl;
  }

  worked : HasWorkedHeld pattern layout (all_starts net) sets n b (still_of layout (all_starts net) n takes.up b) goes.decides.chosen (held_at ports b3 r)
      (verdict_sets_by (standing_at ports w3.standing r) (decided_at ports w3.decided r) (verdicts_at ports w3.verdicts r) (all b3.inputs.waiting) (all b3.grants.granted) (all w3.lost)) (links_at ports gone r) (all w3.arrived) happens
  worked = worked-through pattern layout (all_starts net) sets n b (held_at ports b3 r) (worked_at ports b3 w3 gone r) happens goes fits_layout

  tells : Tells net.relation.grid pattern.table.ports.links.vcs node (all b3.grants.granted) (held_at ports b2 r).out_port (held_at ports b2 r).out_vc (held_at ports b2 r).packet (tells_in net layout n b worked.turn)
  tells = node-tells count net layout pattern n node links h b setup few fits is (held_at ports b1 r) (standing_at ports w3.standing r) (all w2.verdicts.no_credit) comes taken sets (held_at ports b2 r) (decided_at ports w3.decided r)
      (all b3.grants.granted) (all w3.lost) (links_at ports sent r) decided worked.turn worked.grants

  -- what is asked of it before it is decided what it does
  may-decide : MayDecide pattern (length net.packets) (nodes net.relation.grid) node (held_at ports b1 r) (standing_at ports w3.standing r)
  may-decide = node-may-decide count net layout pattern n node links h b setup few fits is (held_at ports b1 r) (standing_at ports w3.standing r) (all w2.verdicts.no_credit) comes taken

  wanted : (i o : ℕ) → has_bit (held_at ports b1 r).waiting i ≡ true → has_bit ((held_at ports b1 r).set i) o ≡ true → has_bit (held_at ports b1 r).wanted o ≡ true
  wanted i o waits may = elim (cases_lt node (nodes net.relation.grid)) [
    | inl l ↦
        all-wanted pattern layout (all_starts net) n takes.up b (held_at ports b1 r) (standing_at ports w3.standing r) (all w2.verdicts.no_credit) taken.shows count (view_at net n node) (is.shows l).column i o waits may
    | inr u ↦
        let before = was-waiting pattern layout (all_starts net) n takes.up b (held_at ports b1 r) (standing_at ports w3.standing r) (all w2.verdicts.no_credit) taken.shows i waits in
        absurd (false≢true (sym (ap (λ w. has_bit w i) (is.blank u).waiting ∙ has_bit-zero i) ∙ before))
  ]

  found : (i : ℕ) → worked.turn.found i ≡ found_at pattern b3 w3 r i
  found i =
      worked.found i
      ∙ sym (findings-follow pattern layout sets (still_of layout (all_starts net) n takes.up b) (held_at ports b1 r) (held_at ports b2 r) (held_at ports b3 r) (standing_at ports w3.standing r) (decided_at ports w3.decided r)
      (all b3.grants.granted) (all w3.lost) (all w3.arrived) (links_at ports sent r) (links_at ports gone r) (verdicts_at ports w2.verdicts r) (verdicts_at ports w3.verdicts r) taken.shows decided concluded may-decide.apart
      may-decide.waiting may-decide.idle wanted i)

  -- who waited or is a head is granted an output channel or waits then
  waits : (i : ℕ) → WaitsOn (told_at (channels_of pattern.table.ports) b3 w3 r) i (one_if (has_bit b.column.waiting i)) (one_if (has_bit worked.turn.column.waiting i))
  waits i =
      let still = still_of layout (all_starts net) n takes.up b in
      waits-on still.filled still.column (standing_at ports w3.standing r) (decided_at ports w3.decided r) (verdicts_at ports w3.verdicts r) (all b3.inputs.waiting) (all b3.grants.granted) (all w3.lost)
      (is-told pattern layout sets still (held_at ports b1 r) (held_at ports b2 r) (standing_at ports w3.standing r) (decided_at ports w3.decided r) (all b3.grants.granted) (all w3.lost) (all w2.verdicts.no_credit) (links_at ports sent r)
      taken.shows decided (verdicts_at ports w2.verdicts r) (verdicts_at ports w3.verdicts r) (held_at ports b3 r) (all w3.arrived) (links_at ports gone r) refl concluded) i
      ∙ (λ x. one_if (has_bit (all b3.grants.granted) i) + one_if (has_bit (sym worked.shows.column x).waiting i))

  pub router-turned : (t : Turn) × IsTurned net pattern layout n node r b b3 w3 gone happens t
  router-turned = (
    worked.turn,
    record {
      turn = worked.works;
      shows = worked.shows;
      leaves = worked.leaves;
      arrived = worked.arrived_is;
      told = coe 0 1
          (x. Tells net.relation.grid (sym fits.ports.vcs x) node (all b3.grants.granted) (λ k. number_in (digits_by all (grants-on x).sends.port) k) (λ k. number_in (digits_by all (grants-on x).sends.vc) k) (packet_in (packets-on x) r)
          (tells_in net layout n b worked.turn))
          tells;
      counted = worked.counted;
      waits = waits;
      found = found;
      happened = worked.happened;
    },
  )

  -- the numbers of its packets, and those that arrive
  pub router-packets : packet_in b3.packets r ≡ numbers_in net layout n b
  router-packets = ap (λ p. packet_in p r) packets-all ∙ sym takes.shows.marks.packet

  pub router-arrives : (k : ℕ) → has_bit (all w3.arrived) k ≡ true → packet_in b3.packets r k < length net.packets
  router-arrives =
      (node-may-conclude count net layout pattern n node links h b setup few fits is (held_at ports b1 r) (standing_at ports w3.standing r) (all w2.verdicts.no_credit) comes taken sets (held_at ports b2 r) (held_at ports b3 r) (decided_at ports w3.decided r)
      (all b3.grants.granted) (all w3.lost) (all w3.arrived) (links_at ports sent r) (links_at ports gone r) (verdicts_at ports w2.verdicts r) (verdicts_at ports w3.verdicts r) decided concluded).packet

-- ---- all routers of a block
-- its sources are as they were
pub still-punctual : (n : ℕ) (ports : RouterPorts) (b1 b2 b3 : Block) → b2 ≡ record b1 { grants = b2.grants; marks = b2.marks; switch = b2.switch } → b3 ≡ record b2 { inputs = b3.inputs; outputs = b3.outputs; marks = b3.marks }
    → IsPunctual n ports b1 → IsPunctual n ports b3
still-punctual n ports b1 b2 b3 first second is = subst (IsPunctual n ports) (sym second) (record { due = then.due; injected = then.injected })
  where
    then : IsPunctual n ports b2
    then = subst (IsPunctual n ports) (sym first) (record { due = is.due; injected = is.injected })

-- each has a turn
pub turns-of : (b : ℕ) (Q : ℕ → Turn → Type 0) → ((r : ℕ) → r < 64 → (t : Turn) × Q r t) → (turns : ℕ → Turn) × ((r : ℕ) → r < 64 → Q r (turns (64 * b + r)))
turns-of b Q each = (λ s. of (s - 64 * b), λ r l. let e : r ≡ (64 * b + r) - 64 * b = omega arith in subst (λ k. Q r (of k)) e (has r l))
  where
    pick : (r : ℕ) → (r < 64) ⊎ (64 ≤ r) → Turn
    pick r (inl l) = (each r l).0
    pick r (inr u) = (each 0 (omega arith)).0

    of : ℕ → Turn
    of r = pick r (cases_lt r 64)

    has : (r : ℕ) → r < 64 → Q r (of r)
    has r l = at (cases_lt r 64)
      where
        at : (v : (r < 64) ⊎ (64 ≤ r)) → Q r (pick r v)
        at (inl m) = (each r m).1
        at (inr u) = absurd (omega (arith, l, u))

-- ---- a block, which goes through the three parts
module _ (net : Setup) (relation : Routes) (plan : Plan) (n b : ℕ) (words : ℕ → Router) (b0 : Block) (w0 : Work) (starts : List Start) (headers : List Header) (may : MayTurn net relation plan n b words b0 w0) (starts_are : starts ≡ plan.starts.items)
    (headers_are : headers ≡ plan.headers.items) where
  abbrev pattern_is : Pattern
  pattern_is = plan.pattern

  abbrev all_ports : RouterPorts
  all_ports = plan.pattern.table.ports

  abbrev layout_is : Layout
  layout_is = layout_of plan.pattern

  starts-are : starts_by starts ≡ all_starts net
  starts-are = ap starts_by starts_are ∙ may.plan_is.starts

  headers-are : headers ≡ map header_of net.packets
  headers-are = headers_are ∙ may.plan_is.headers

  layout-fits : FitsLayout pattern_is layout_is
  layout-fits = fits-layout net.relation.grid net.relation.vcs net.depth pattern_is may.plan_is.pattern_is

  node : (r : ℕ) → r < 64 → ShowsNode (bits_of pattern_is) net pattern_is n (64 * b + r) (links_at all_ports w0.came r) (held_at all_ports b0 r) (words (64 * b + r))
  node = may.routers

  pub block-may-send : MaySend all_ports (starts_by starts) n b0
  block-may-send = record {
    few = coe 0 1 (x. length (starts_by (sym starts_are x)) < 2 ^ 32) (omega (arith, length-map plan.starts.items start_by, may.plan_is.few_starts));
    before = may.before;
    earlier = may.known;
    punctual = may.punctual;
    each = λ r l. subst (λ s. MayInject s n (held_at all_ports b0 r)) (sym starts-are) (node-may-inject (bits_of pattern_is) net layout_is pattern_is n (64 * b + r) (links_at all_ports w0.came r) (held_at all_ports b0 r) (words (64 * b + r)) may.good may.few (plan-fits net plan may.good may.plan_is) (node r l));
  }

  pub block-first : 64 * b < 256
  block-first =
      let some = may.plan_is.some b may.number in
      let few = may.good.relation.table.grid.few_nodes in
      omega (arith, some, few)

  pub block-ports : IsOfPorts all_ports relation
  block-ports = subst (IsOfPorts all_ports) may.is (plan-fits net plan may.good may.plan_is).ports

  pub block-headers : AreRoutable relation headers
  block-headers = coe 0 1 (x. AreRoutable (may.is x) (sym headers-are x)) (routable net may.good)

  -- what it takes
  module _ (b1 : Block) (w1 : Work) (comes : ℕ → Bool)
      (takes : (layout : Layout) (r : ℕ) (w : Router) → FitsLayout pattern_is layout → r < 64 → ShowsHeld pattern_is (held_at all_ports b0 r) (links_at all_ports w0.came r) w → MayTake pattern_is (starts_by starts) (held_at all_ports b0 r) w
      → HasTaken pattern_is layout (starts_by starts) n w (held_at all_ports b1 r) (standing_at all_ports w1.standing r) (set_of (channels_of all_ports) r w1.verdicts.no_credit) (comes r)) where
    block-taken : (r : ℕ) → r < 64
        → HasTaken pattern_is layout_is (all_starts net) n (words (64 * b + r)) (held_at all_ports b1 r) (standing_at all_ports w1.standing r) (set_of (channels_of all_ports) r w1.verdicts.no_credit) (comes r)
    block-taken r l =
        let one = words (64 * b + r) in
        let may-take = node-may-take (bits_of pattern_is) net layout_is pattern_is n (64 * b + r) (links_at all_ports w0.came r) (held_at all_ports b0 r) one may.good may.few (plan-fits net plan may.good may.plan_is) (node r l) in
        subst (λ s. HasTaken pattern_is layout_is s n one (held_at all_ports b1 r) (standing_at all_ports w1.standing r) (set_of (channels_of all_ports) r w1.verdicts.no_credit) (comes r)) starts-are
        (takes layout_is r one layout-fits l (node r l).held (subst (λ s. MayTake pattern_is s (held_at all_ports b0 r) one) (sym starts-are) may-take))

    pub block-may-decide : (r : ℕ) → r < 64 → MayDecide pattern_is (length headers) (nodes relation.grid) (64 * b + r) (held_at all_ports b1 r) (standing_at all_ports w1.standing r)
    block-may-decide r l =
        let many : length (map header_of net.packets) ≡ length net.packets = length-map net.packets header_of in
        coe 0 1 (x. MayDecide pattern_is ((sym many ∙ ap length (sym headers-are)) x) (nodes (may.is x).grid) (64 * b + r) (held_at all_ports b1 r) (standing_at all_ports w1.standing r))
        (node-may-decide (bits_of pattern_is) net layout_is pattern_is n (64 * b + r) (links_at all_ports w0.came r) (held_at all_ports b0 r) (words (64 * b + r)) may.good may.few (plan-fits net plan may.good may.plan_is) (node r l) (held_at all_ports b1 r)
        (standing_at all_ports w1.standing r) (set_of (channels_of all_ports) r w1.verdicts.no_credit) (comes r) (block-taken r l))

    -- .. and what is decided, and takes effect
    module _ (b2 b3 : Block) (w2 w3 : Work) (sent gone : Links (List ℕ)) (happened : Bool)
        (decides : (layout : Layout) (r no_credit : ℕ) (s : Still) → r < 64 → ShowsStill pattern_is (held_at all_ports b1 r) (standing_at all_ports w1.standing r) no_credit s
        → HasDecidedHeld pattern_is layout (sets_by relation headers (64 * b + r)) s (held_at all_ports b1 r) (held_at all_ports b2 r) (standing_at all_ports w1.standing r) (decided_at all_ports w2.decided r) (set_of (channels_of all_ports) r b2.grants.granted)
        (set_of (channels_of all_ports) r w2.lost) (links_at all_ports sent r))
        (concludes : (r : ℕ) → r < 64
        → HasConcludedHeld pattern_is (standing_at all_ports w2.standing r) (decided_at all_ports w2.decided r) (set_of (channels_of all_ports) r b2.grants.granted) (links_at all_ports gone r) (set_of (channels_of all_ports) r w3.arrived)
        (held_at all_ports b2 r) (held_at all_ports b3 r) (verdicts_at all_ports w2.verdicts r) (verdicts_at all_ports w3.verdicts r))
        (deciding_block : b2 ≡ record b1 { grants = b2.grants; marks = b2.marks; switch = b2.switch }) (deciding_work : w2 ≡ record w1 { decided = w2.decided; lost = w2.lost; picks = w2.picks })
        (concluding_block : b3 ≡ record b2 { inputs = b3.inputs; outputs = b3.outputs; marks = b3.marks })
        (concluding_work : w3 ≡ record w2 { verdicts = w3.verdicts; arrived = w3.arrived; leaving = w3.leaving }) (concluding_left : gone ≡ record sent { credits = gone.credits }) (punctual : IsPunctual n all_ports b1)
        (leaving : w3.leaving ≡ 0 → (r : ℕ) → set_of (channels_of all_ports) r w3.arrived ≡ 0)
        (something : happened
        ≡ some_below 64
        (λ r. comes r || not (nat_eq
        (bit_or (bit_or (set_of (channels_of all_ports) r w3.standing.heads) (set_of (channels_of all_ports) r b3.grants.granted)) (set_of (channels_of all_ports) r w3.verdicts.moved)) 0))) where
      decided-by-all : (r : ℕ) (l : r < 64)
          → HasDecidedHeld pattern_is layout_is (sets_by net.relation (map header_of net.packets) (64 * b + r)) (still_of layout_is (all_starts net) n (block-taken r l).up (words (64 * b + r))) (held_at all_ports b1 r) (held_at all_ports b2 r)
          (standing_at all_ports w1.standing r) (decided_at all_ports w2.decided r) (set_of (channels_of all_ports) r b2.grants.granted) (set_of (channels_of all_ports) r w2.lost) (links_at all_ports sent r)
      decided-by-all r l = coe 0 1
          (x. HasDecidedHeld pattern_is layout_is (sets_by (sym may.is x) (headers-are x) (64 * b + r)) (still_of layout_is (all_starts net) n (block-taken r l).up (words (64 * b + r))) (held_at all_ports b1 r) (held_at all_ports b2 r)
          (standing_at all_ports w1.standing r) (decided_at all_ports w2.decided r) (set_of (channels_of all_ports) r b2.grants.granted) (set_of (channels_of all_ports) r w2.lost) (links_at all_ports sent r))
          (decides layout_is r (set_of (channels_of all_ports) r w1.verdicts.no_credit) (still_of layout_is (all_starts net) n (block-taken r l).up (words (64 * b + r))) l (block-taken r l).shows)

      abbrev happening : ℕ → Bool
      happening r = comes r
          || not (nat_eq (bit_or (bit_or (set_of (channels_of all_ports) r w3.standing.heads) (set_of (channels_of all_ports) r b3.grants.granted)) (set_of (channels_of all_ports) r w3.verdicts.moved)) 0)

      abbrev Turned : ℕ → Turn → Type 0
      Turned r t = IsTurned net pattern_is layout_is n (64 * b + r) r (words (64 * b + r)) b3 w3 gone (happening r) t

      turned : (r : ℕ) (l : r < 64) → (t : Turn) × Turned r t
      turned r l = router-turned (bits_of pattern_is) net layout_is pattern_is n (64 * b + r) r (links_at all_ports w0.came r) (held_at all_ports b0 r) (words (64 * b + r)) b1 b2 b3 w1 w2 w3 sent gone (comes r) may.good may.few (plan-fits net plan may.good may.plan_is) layout-fits (node r l)
          (block-taken r l) (decided-by-all r l) (concludes r l) deciding_block deciding_work concluding_block concluding_work concluding_left

      chosen : (turns : ℕ → Turn) × ((r : ℕ) → r < 64 → Turned r (turns (64 * b + r)))
      chosen = turns-of b Turned turned

      pub turned-block : (turns : ℕ → Turn) × HasTurnedBlock net plan n b words turns b3 w3 gone happened
      turned-block = (
        chosen.0,
        record {
          turn = λ r l. (chosen.1 r l).turn;
          shows = λ r l. (chosen.1 r l).shows;
          packets = λ r l.
              router-packets (bits_of pattern_is) net layout_is pattern_is n (64 * b + r) r (links_at all_ports w0.came r) (held_at all_ports b0 r) (words (64 * b + r)) b1 b2 b3 w1 w2 w3 sent gone (comes r) may.good may.few (plan-fits net plan may.good may.plan_is) layout-fits (node r l)
              (block-taken r l) (decided-by-all r l) (concludes r l) deciding_block deciding_work concluding_block concluding_work concluding_left;
          leaves = λ r l. (chosen.1 r l).leaves;
          arrived = λ r l. (chosen.1 r l).arrived;
          leaving = leaving;
          arrive = λ r k l e.
              router-arrives (bits_of pattern_is) net layout_is pattern_is n (64 * b + r) r (links_at all_ports w0.came r) (held_at all_ports b0 r) (words (64 * b + r)) b1 b2 b3 w1 w2 w3 sent gone (comes r) may.good may.few (plan-fits net plan may.good may.plan_is) layout-fits (node r l)
              (block-taken r l) (decided-by-all r l) (concludes r l) deciding_block deciding_work concluding_block concluding_work concluding_left k e;
          told = λ r l. (chosen.1 r l).told;
          counted = λ r i l m. (chosen.1 r l).counted i;
          waits = λ r i l. (chosen.1 r l).waits i;
          found = λ r i l. (chosen.1 r l).found i;
          happened_is = something ∙ some-same 64 happening (λ r. (chosen.0 (64 * b + r)).happened) (λ r l. sym (chosen.1 r l).happened);
          punctual = still-punctual n all_ports b1 b2 b3 deciding_block concluding_block punctual;
        },
      )
